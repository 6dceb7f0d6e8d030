-- The first name, and behind it the others with a slash before each.
use Rattle.std.proofs.Common.{◌∙◌}
use Rattle.kb_store.proofs.TargetsLaws.{joined_ok}
use Rattle.kb_store.proofs.targets.push_joined.Goals as goal

pub returns-in_ok-push_str-in-len1-up : goal.returns-in_ok-push_str-in-len1-up
returns-in_ok-push_str-in-len1-up c =
    joined_ok c.push_slashed.result c.args.text.now c.push_str.new.self c.push_slashed.new.text c.args.names.now c.as_str.result.now _ c.in-len1-up.len_at_least (c.as_str.ensures ∙ c.first-item.is)
    c.in_ok-push_str-in-len1-up.ensures.ok c.push_slashed.ensures
