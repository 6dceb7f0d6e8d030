-- What the link says is put.
use Rattle.std.proofs.Common.{ap, sym, ◌∙◌, rules}
use Rattle.kb_world.specs.Tree.{node_at}
use Rattle.kb_world.specs.declared.tree.Node.TheVariants as node
use Rattle.kb_walk.proofs.CopyCalls.{link_read, one_unread, one_made}
use Rattle.kb_walk.proofs.copying.copy_link.Goals as goal

pub returns-in-Err : goal.returns-in-Err
returns-in-Err g c = one_unread c.args.path.now c.args.place.now _ _ c.in-Err.error (g.met.W.World.formed c.args.world.now) c.in-Err.ensures.same

pub returns : goal.returns
returns g c =
    one_made c.args.path.now c.args.place.now (node.Link c.in-Ok.text) _ _ _ c.in-Ok.text _ (g.met.W.World.formed c.args.world.now) c.in-Ok.ensures.same
    (λ tree told. link_read (node_at tree c.args.path.now) c.in-Ok.text (c.requires.link tree told) (c.in-Ok.ensures.text tree told))
    (node.Link c.as_str.result.now) (ap node.Link (sym c.as_str.ensures)) (g.met.W.World.formed c.read_link.new.self)
    (λ tree told. c.requires.can_make tree (sym c.in-Ok.ensures.same.unchanged.tree ∙ told)) (search rules)
