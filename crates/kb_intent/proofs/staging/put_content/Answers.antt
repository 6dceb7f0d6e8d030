-- A file is put, or a link is made.
use Rattle.std.proofs.Common.{subst, sym}
use Rattle.kb_world.specs.Path.{is_under}
use Rattle.kb_world.specs.Tree.{with_node}
use Rattle.kb_world.specs.declared.tree.Node.TheVariants as nodes
use Rattle.kb_intent.specs.Staging.{ChangesBut, staged_node}
use Rattle.kb_intent.proofs.ButLaws.{but_put, but_node}
use Rattle.kb_intent.proofs.staging.put_content.Goals as goal

pub returns-in-File : goal.returns-in-File
returns-in-File g c =
    subst (λ content. ChangesBut (λ q. is_under q c.args.path.now) (with_node c.args.path.now (staged_node content)) (g.W.World.state c.args.world.now) (g.W.World.state c.put.new.self) c.put.result) (sym c.in-File.is)
    (but_put c.args.path.now c.in-File.bytes.now c.in-File.exec _ _ c.put.result c.put.ensures.made)

pub returns-in-Link : goal.returns-in-Link
returns-in-Link g c =
    subst (λ content. ChangesBut (λ q. is_under q c.args.path.now) (with_node c.args.path.now (staged_node content)) (g.W.World.state c.args.world.now) (g.W.World.state c.put_link.new.self) c.put_link.result) (sym c.in-Link.is)
    (but_node c.args.path.now (nodes.Link c.in-Link.text.now) _ _ c.put_link.result c.put_link.ensures.made)
