-- A text's field gives the text.
use Rattle.std.proofs.Common.{Some, true, false, sym, ◌∙◌, ap, subst}
use Rattle.std.specs.Str.{IsUtf8}
use Rattle.hex.proofs.HexLemmas.{decode_of-same}
use Rattle.kb_journal.proofs.FieldLaws.{dash_is_none, decoded, refused, tested}
use Rattle.kb_journal.proofs.fields.text_of.Goals as goal

pub returns-then-eq-clause-text : goal.returns-then-eq-clause-text
returns-then-eq-clause-text c text utf8 is =
    ap Some (c.in_ok-of.ensures ∙ dash_is_none text c.args.field.now is (tested c.args.field.now c.as_bytes.result.now c.eq.result true c.as_bytes.ensures.value c.eq.ensures c.if-eq.true))

pub returns-in-Ok-from_utf8-clause-text : goal.returns-in-Ok-from_utf8-clause-text
returns-in-Ok-from_utf8-clause-text c text utf8 is =
    let other = tested c.args.field.now c.as_bytes.result.now c.eq.result false c.as_bytes.ensures.value c.eq.ensures c.if-eq.false in
    let same = decode_of-same c.args.field.now c.in-Ok.bytes.items text c.in-Ok.ensures.ok (decoded text c.args.field.now utf8 is other) in
    ap Some (c.in_ok-of-in-Ok-from_utf8.ensures ∙ c.in-Ok-from_utf8.ensures.cases.0 ∙ c.deref.ensures.value ∙ same)

pub returns-in-Ok-clause-text : goal.returns-in-Ok-clause-text
returns-in-Ok-clause-text c text utf8 is =
    let other = tested c.args.field.now c.as_bytes.result.now c.eq.result false c.as_bytes.ensures.value c.eq.ensures c.if-eq.false in
    let same = decode_of-same c.args.field.now c.in-Ok.bytes.items text c.in-Ok.ensures.ok (decoded text c.args.field.now utf8 is other) in
    absurd (c.in-Err-from_utf8.ensures.cases.0 (subst IsUtf8 (sym (c.deref.ensures.value ∙ same)) utf8))

pub returns-clause-text : goal.returns-clause-text
returns-clause-text c text utf8 is =
    let other = tested c.args.field.now c.as_bytes.result.now c.eq.result false c.as_bytes.ensures.value c.eq.ensures c.if-eq.false in
    absurd (refused text c.args.field.now c.in-Err.error utf8 is other c.in-Err.ensures.err c.in_default.not-OutOfMemory)
