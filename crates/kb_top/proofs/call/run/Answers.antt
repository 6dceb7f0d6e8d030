-- The command is served, and then told.
use Rattle.kb_top.proofs.RunLaws.{runs_from_empty}
use Rattle.kb_top.proofs.call.run.Goals as goal

pub returns : goal.returns
returns g c =
    runs_from_empty c.args.host.now c.args.words.now _ _ _ _ c.new.result c.new-2.result c.serve-answer.new.report c.serve-answer.result c.tell.result
    c.new.ensures c.new-2.ensures c.serve-answer.ensures c.tell.ensures
