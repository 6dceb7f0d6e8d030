-- The lines of all keys, which the relation reads back.
use Rattle.std.proofs.Common.{◌∙◌, arith}
use Rattle.kb_bls.proofs.PrintLaws.{written, printed_text, printed_back}
use Rattle.kb_bls.proofs.print.print_entry.Goals as goal

pub returns-clause-text : goal.returns-clause-text
returns-clause-text c =
    printed_text c.args.entry.now c.of-2.result c.as_bytes.result.now c.of-2.ensures
    (c.as_bytes.ensures.value ∙ c.as_str.ensures ∙ written c.args.entry.now c.values_by_key-fields.result c.loop-key.key-index c.loop-key.text c.values_by_key-fields.ensures (omega arith) c.loop-key.invariant)

pub returns-clause-read_back : goal.returns-clause-read_back
returns-clause-read_back c =
    printed_back c.args.entry.now c.of-2.result c.as_bytes.result.now c.of-2.ensures
    (c.as_bytes.ensures.value ∙ c.as_str.ensures ∙ written c.args.entry.now c.values_by_key-fields.result c.loop-key.key-index c.loop-key.text c.values_by_key-fields.ensures (omega arith) c.loop-key.invariant)
    c.requires c.as_bytes.ensures.utf8
