use Rattle.kb_real.proofs.UntoldLaws.{untold_write_fails}
use Rattle.kb_real.proofs.sink.StdSinkSink.write.Goals as goal

pub returns-in-Err : goal.returns-in-Err
returns-in-Err g c = untold_write_fails _ _ _ c.rise.ensures.later c.rise.ensures.one_more
