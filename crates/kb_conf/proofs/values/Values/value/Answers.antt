use Rattle.std.proofs.Common.{sym}
use Rattle.kb_conf.proofs.ValuesLaws.{last_is_text}
use Rattle.kb_conf.proofs.values.Values.value.Goals as goal

pub text_of-requires : goal.text_of-requires
text_of-requires c = last_is_text c.self.inside.table c.self.invariant c.as_bytes.result.now c.args.number c.in-Some.bytes.now (sym c.in-Some.ensures)
