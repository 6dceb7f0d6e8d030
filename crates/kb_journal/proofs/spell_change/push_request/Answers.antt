-- Each part is of texts.
use Rattle.std.proofs.Common.{◌<◌, ◌^◌, All, length, subst}
use Rattle.std.specs.Str.{IsUtf8}
use Rattle.kb_changes.specs.Text as rule
use Rattle.kb_journal.proofs.spell_change.push_request.Goals as goal

pub returns-clause-request : goal.returns-clause-request
returns-clause-request c =
    let args = c.in_ok-push_counted_texts.ensures in
    let env = c.in_ok-push_counted_pairs.ensures in
    let seen = c.in_ok-push_counted_paths.ensures in
    record {
      head = c.in_ok-push_head.ensures.head;
      args = subst (All IsUtf8) c.as_slice.ensures args.texts;
      args_counted = subst (λ texts. length texts < 2 ^ 64) c.as_slice.ensures args.counted;
      env = subst rule.AreTextPairs c.as_slice-2.ensures env.pairs;
      env_counted = subst (λ pairs. length pairs < 2 ^ 64) c.as_slice-2.ensures env.counted;
      seen = subst (All rule.IsTextPath) c.as_slice-3.ensures seen.paths;
      seen_counted = subst (λ paths. length paths < 2 ^ 64) c.as_slice-3.ensures seen.counted;
    }
