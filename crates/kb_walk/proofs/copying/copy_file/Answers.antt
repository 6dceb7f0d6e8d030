-- What was read is put.
use Rattle.std.proofs.Common.{ap, sym, ◌∙◌}
use Rattle.kb_world.specs.Tree.{node_at}
use Rattle.kb_world.specs.declared.tree.Node.TheVariants as node
use Rattle.kb_walk.proofs.CopyCalls.{file_read, one_unread, one_put}
use Rattle.kb_walk.proofs.copying.copy_file.Goals as goal

pub returns-in-Err : goal.returns-in-Err
returns-in-Err g c = one_unread c.args.path.now c.args.place.now _ _ c.in-Err.error (g.met.W.World.formed c.args.world.now) c.in-Err.ensures.same

pub returns : goal.returns
returns g c =
    one_put c.args.path.now c.args.place.now (node.File c.in-Ok.bytes c.args.exec) (g.W.World.state c.args.world.now) (g.W.World.state c.read.new.self) (g.W.World.state c.put.new.self) c.in-Ok.bytes c.put.result
    (g.met.W.World.formed c.args.world.now) c.in-Ok.ensures.same
    (λ tree told. file_read (node_at tree c.args.path.now) c.args.exec c.in-Ok.bytes (c.requires.file tree told) (c.in-Ok.ensures.bytes tree told))
    c.as_slice.result.now c.args.exec (ap (λ bytes. node.File bytes c.args.exec) (sym c.as_slice.ensures)) (g.met.W.World.formed c.read.new.self)
    (λ tree told. c.requires.can_make tree (sym c.in-Ok.ensures.same.unchanged.tree ∙ told)) c.put.ensures.made
