-- The intent is valid, and written again it is this text.
use Rattle.std.proofs.Common.{sym, ap, ◌∙◌}
use Rattle.std.specs.Cmp.Lexicographic.{bytes_decides}
use Rattle.kb_changes.specs.Valid.{is_valid}
use Rattle.kb_journal.proofs.read.read_intent.Goals as goal

pub returns-then-eq-clause-intent : goal.returns-then-eq-clause-intent
returns-then-eq-clause-intent c = record {
  texts = c.in_ok-spelled.ensures.texts;
  valid = sym (ap (is_valid c.args.roots.now) c.as_slice.ensures) ∙ sym c.in_ok-valid.ensures ∙ c.if-valid.true;
  spelled = sym c.in_ok-spelled.ensures.text ∙ sym c.as_slice-then-valid.ensures
      ∙ (bytes_decides c.as_slice-then-valid.result.now c.args.text.now).0 (sym c.eq.ensures ∙ c.if-eq.true);
}
