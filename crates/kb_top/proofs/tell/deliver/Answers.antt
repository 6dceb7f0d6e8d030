-- The second text goes behind the first.
use Rattle.kb_top.proofs.TellLaws.{delivers}
use Rattle.kb_top.proofs.tell.deliver.Goals as goal

pub returns : goal.returns
returns g c = delivers c.args.report.now c.as_slice.result.now c.as_slice-2.result.now _ _ _ _ c.write_some-2.result c.as_slice.ensures c.as_slice-2.ensures c.in_ok-write_some.ensures c.write_some-2.ensures
