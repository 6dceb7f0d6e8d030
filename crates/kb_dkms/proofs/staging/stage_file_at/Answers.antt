-- What was read is staged.
use Rattle.std.proofs.Common.{ap}
use Rattle.kb_world.specs.Tree.{node_at}
use Rattle.kb_world.specs.declared.tree.Node.TheVariants as node
use Rattle.kb_walk.proofs.CopyCalls.{file_read}
use Rattle.kb_dkms.proofs.StageLaws.{copied, uncopied, sources_unread}
use Rattle.kb_dkms.proofs.staging.stage_file_at.Goals as goal

pub returns-in-Err : goal.returns-in-Err
returns-in-Err g c = sources_unread _ _ c.args.txn.now _ _ c.in-Err.error c.into.result c.into.ensures c.in-Err.ensures.same

pub returns-in-Ok-stage_file : goal.returns-in-Ok-stage_file
returns-in-Ok-stage_file g c =
    copied c.args.path.now (node.File c.in-Ok.bytes c.args.exec) c.args.txn.now c.stage_file.new.self _ (g.W.World.state c.read.new.self) _ c.in-Ok.bytes c.in-Ok.ensures.same
    c.in-Ok-stage_file.field-0 (node.File c.as_slice.result.now c.args.exec)
    (λ tree told. file_read (node_at tree c.args.path.now) c.args.exec c.in-Ok.bytes (c.requires.file tree told) (c.in-Ok.ensures.bytes tree told))
    (ap (λ bytes. node.File bytes c.args.exec) c.as_slice.ensures) c.in-Ok-stage_file.ensures

pub returns : goal.returns
returns g c =
    uncopied c.args.path.now (node.File c.as_slice.result.now c.args.exec) c.args.txn.now c.stage_file.new.self _ (g.W.World.state c.read.new.self) _ c.in-Ok.bytes c.in-Ok.ensures.same
    c.in-Err-stage_file.stop c.in-Err-stage_file.ensures
