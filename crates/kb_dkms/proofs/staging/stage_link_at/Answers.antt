-- What the link says is staged.
use Rattle.std.proofs.Common.{ap}
use Rattle.kb_world.specs.Tree.{node_at}
use Rattle.kb_world.specs.declared.tree.Node.TheVariants as node
use Rattle.kb_walk.proofs.CopyCalls.{link_read}
use Rattle.kb_dkms.proofs.StageLaws.{copied, uncopied, sources_unread}
use Rattle.kb_dkms.proofs.staging.stage_link_at.Goals as goal

pub returns-in-Err : goal.returns-in-Err
returns-in-Err g c = sources_unread _ _ c.args.txn.now _ _ c.in-Err.error c.into.result c.into.ensures c.in-Err.ensures.same

pub returns-in-Ok-stage_link : goal.returns-in-Ok-stage_link
returns-in-Ok-stage_link g c =
    copied c.args.path.now (node.Link c.in-Ok.text) c.args.txn.now c.stage_link.new.self _ (g.W.World.state c.read_link.new.self) _ c.in-Ok.text c.in-Ok.ensures.same
    c.in-Ok-stage_link.field-0 (node.Link c.as_str.result.now)
    (λ tree told. link_read (node_at tree c.args.path.now) c.in-Ok.text (c.requires.link tree told) (c.in-Ok.ensures.text tree told))
    (ap node.Link c.as_str.ensures) c.in-Ok-stage_link.ensures

pub returns : goal.returns
returns g c =
    uncopied c.args.path.now (node.Link c.as_str.result.now) c.args.txn.now c.stage_link.new.self _ (g.W.World.state c.read_link.new.self) _ c.in-Ok.text c.in-Ok.ensures.same
    c.in-Err-stage_link.stop c.in-Err-stage_link.ensures
