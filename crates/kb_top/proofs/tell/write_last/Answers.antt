-- Whatever the sink answers, a front of the line was written.
use Rattle.kb_top.proofs.TellLaws.{says_front_of}
use Rattle.kb_top.proofs.tell.write_last.Goals as goal

pub returns : goal.returns
returns g c = says_front_of c.args.line.now c.as_bytes.result.now _ _ c.write.result c.as_bytes.ensures.value c.write.ensures
