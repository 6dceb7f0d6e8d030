-- A value that isn't empty and has no line end is its own trimmed text where it has no blank at an end.
use Rattle.std.proofs.Common.{◌∙◌, ap, sym, length, not}
use Rattle.kb_bls.proofs.EndLaws.{not_both}
use Rattle.kb_bls.proofs.PrintLaws.{value_test, some_bytes, no_line_end}
use Rattle.kb_bls.proofs.print.is_value.Goals as goal
use Rattle.kb_bls.proofs.print.is_value.Goals.{then-not-is_empty, else-not-is_empty}

pub returns-then-has_no_line_end : goal.returns-then-has_no_line_end
returns-then-has_no_line_end c =
    elim c.if-not-is_empty.branch [
      | then-not-is_empty w ↦
          c.eq.ensures
          ∙ value_test c.args.text.now c.trimmed.result.now (some_bytes (length c.args.text.now) c.is_empty.result c.is_empty.ensures w.if-not-is_empty.true)
          (ap no_line_end (sym w.as_bytes.ensures.value) ∙ sym w.has_no_line_end.ensures ∙ sym w.value-is ∙ c.if-has_no_line_end.true) c.trimmed.ensures
      | else-not-is_empty w ↦ absurd (not_both c.if-not-is_empty.value c.if-has_no_line_end.true (w.value-is ∙ ap not w.if-not-is_empty.false))
    ]
