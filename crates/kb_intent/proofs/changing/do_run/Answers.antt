-- The child is run where its directory is one, and else passed over.
use Rattle.std.proofs.Common.{false}
use Rattle.kb_changes.specs.declared.change.Change.TheVariants as changes
use Rattle.kb_world.specs.Tree.{node_at, is_dir}
use Rattle.kb_intent.proofs.RunLaws.{does_since, passes_run, stops_look}
use Rattle.kb_intent.proofs.StepsToLaws.{answered}
use Rattle.kb_intent.proofs.changing.do_run.Goals as goal

pub returns-in-Ok-true : goal.returns-in-Ok-true
returns-in-Ok-true g c =
    does_since c.args.roots.now (changes.Run c.args.request.now) (g.W.World.state c.args.world.now) (g.W.World.state c.is_directory.new.world) _ _ c.run_there.result c.in-Ok-true.ensures.same c.run_there.ensures

pub returns-in-Ok-false : goal.returns-in-Ok-false
returns-in-Ok-false g c =
    let old = g.W.World.state c.args.world.now in
    passes_run c.args.roots.now c.args.request.now old (g.W.World.state c.is_directory.new.world) (g.met.W.World.formed c.args.world.now) c.in-Ok-false.field-0 c.in-Ok-false.ensures.same
    (answered c.in-Ok-false.field-0 false old (λ tree. is_dir (node_at tree c.args.request.now.dir)) c.in-Ok-false.ensures.told c.in-Ok-false.field-0-test)

pub returns-in-Err : goal.returns-in-Err
returns-in-Err g c =
    stops_look c.args.roots.now c.args.request.now (g.W.World.state c.args.world.now) (g.W.World.state c.is_directory.new.world) (g.met.W.World.formed c.args.world.now) c.in-Err.error c.in-Err.ensures.same
