-- By its kind.
use Rattle.std.proofs.Common.{sym, subst, ◌∙◌}
use Rattle.kb_world.specs.Tree.{node_at, with_node}
use Rattle.kb_world.specs.State.{Changes}
use Rattle.kb_world.specs.declared.tree.Node.TheVariants as node
use Rattle.kb_walk.specs.Copy.{place_copied}
use Rattle.kb_walk.proofs.WipeLoop.{absent_stands}
use Rattle.kb_walk.proofs.CopyCalls.{file_met, link_met, dir_met, one_wanting, one_dir, one_absent}
use Rattle.kb_walk.proofs.copying.copy_entry.Goals as goal

pub returns-in-Err : goal.returns-in-Err
returns-in-Err g c = one_wanting c.args.met.now.path (place_copied c.args.to.now c.args.from.now c.args.met.now.path) _ (g.met.W.World.formed c.args.world.now)

pub returns-in-Dir : goal.returns-in-Dir
returns-in-Dir g c =
    one_dir c.args.met.now.path (place_copied c.args.to.now c.args.from.now c.args.met.now.path) _ _ c.make_dir.result (g.met.W.World.formed c.args.world.now)
    (λ tree told. dir_met (node_at tree c.args.met.now.path) (sym (c.requires tree told).kind ∙ c.in-Dir.is)) (λ tree told. (c.requires tree told).can_make)
    (subst (λ p. Changes (with_node p node.Dir) (g.W.World.state c.args.world.now) (g.W.World.state c.make_dir.new.self) c.make_dir.result) c.in-Ok.ensures c.make_dir.ensures.made)

pub copy_file-requires-clause-file : goal.copy_file-requires-clause-file
copy_file-requires-clause-file g c tree told = file_met (node_at tree c.args.met.now.path) c.in-File.len c.in-File.exec (sym (c.requires tree told).kind ∙ c.in-File.is)

pub copy_link-requires-clause-link : goal.copy_link-requires-clause-link
copy_link-requires-clause-link g c tree told = link_met (node_at tree c.args.met.now.path) (sym (c.requires tree told).kind ∙ c.in-Link.is)

pub returns : goal.returns
returns g c =
    one_absent c.args.met.now.path (place_copied c.args.to.now c.args.from.now c.args.met.now.path) _ (g.met.W.World.formed c.args.world.now)
    (λ tree told. (c.requires tree told).stands (absent_stands (node_at tree c.args.met.now.path) c.args.met.now.kind c.in-Absent.is (c.requires tree told).kind))
