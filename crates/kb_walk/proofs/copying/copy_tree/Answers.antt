-- What was met is copied, unless it is too much.
use Rattle.std.proofs.Common.{◌∙◌}
use Rattle.kb_world.specs.declared.sequence.Sequence.{Sequence}
use Rattle.kb_walk.specs.declared.walking.Met.{Met}
use Rattle.kb_walk.proofs.CopyCalls.{copy_refused, all_met_small, copy_done, copy_stopped}
use Rattle.kb_walk.proofs.copying.copy_tree.Goals as goal

pub returns-in-Err : goal.returns-in-Err
returns-in-Err g c = copy_refused c.args.from.now c.args.to.now _ _ (g.met.W.World.formed c.args.world.now) (Sequence Met) c.in-Err.stop c.in-Err.ensures.decides

pub copy_met-requires-clause-met : goal.copy_met-requires-clause-met
copy_met-requires-clause-met g c =
    all_met_small c.args.from.now c.args.to.now _ _ (g.met.W.World.formed c.args.world.now) c.in-Ok.met c.in-Ok.ensures.decides c.as_slice.result.now (λ tree told. c.as_slice.ensures ∙ c.in-Ok.ensures.met tree told)

pub returns-in-Ok-copy_met : goal.returns-in-Ok-copy_met
returns-in-Ok-copy_met g c =
    copy_done c.args.from.now c.args.to.now _ _ (g.met.W.World.formed c.args.world.now) c.in-Ok.met c.in-Ok.ensures.decides c.in-Ok-copy_met.field-0 (g.W.World.state c.copy_met.new.world) c.in-Ok-copy_met.ensures

pub returns : goal.returns
returns g c =
    copy_stopped c.args.from.now c.args.to.now _ _ (g.met.W.World.formed c.args.world.now) c.in-Ok.met c.in-Ok.ensures.decides c.in-Err-copy_met.error c.into.result (g.W.World.state c.copy_met.new.world) c.into.ensures
    c.in-Err-copy_met.ensures
