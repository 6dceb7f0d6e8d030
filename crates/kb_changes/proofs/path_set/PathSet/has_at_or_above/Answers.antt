-- At or under is the same or below.
use Rattle.std.proofs.Common.{◌||◌, sym, ap, ◌∙◌}
use Rattle.std.specs.List.{list_any}
use Rattle.kb_world.specs.Roots.{is_below}
use Rattle.kb_world.proofs.PartLaws.{ok_is}
use Rattle.kb_changes.proofs.SetLaws.{any_under}
use Rattle.kb_changes.proofs.path_set.PathSet.has_at_or_above.Goals as goal

pub returns-then-has : goal.returns-then-has
returns-then-has c =
    let below = list_any (is_below c.args.path.now) c.args.self.now in
    sym (any_under c.args.path.now c.args.self.now ∙ ap (λ b. b || below) (sym c.has.ensures ∙ c.if-has.true))

pub returns : goal.returns
returns c =
    let below = list_any (is_below c.args.path.now) c.args.self.now in
    ok_is _ _ _ c.has_above.ensures (sym (any_under c.args.path.now c.args.self.now ∙ ap (λ b. b || below) (sym c.has.ensures ∙ c.if-has.false)))
