-- One path more is taken away.
use Rattle.std.proofs.Common.{rules, refl}
use Rattle.std.specs.List.{list_any}
use Rattle.kb_world.specs.Path.{is_under}
use Rattle.kb_intent.proofs.ButLaws.{but_none, wiped_more, wiped_stopped, wiped_all}
use Rattle.kb_intent.proofs.staging.wipe_each.Goals as goal

pub loop-place-init : goal.loop-place-init
loop-place-init g c = but_none (λ q. list_any (is_under q) c.args.places.now) (λ tree. tree) (g.W.World.state c.args.world.now) tt (λ tree. refl)

pub loop-place-preserved : goal.loop-place-preserved
loop-place-preserved g c =
    wiped_more c.args.places.now c.loop-place.place-index c.place-item.result (search rules) (search rules) (g.W.World.state c.args.world.now) (g.W.World.state c.loop-place.world) (g.W.World.state c.wipe.new.world)
    c.loop-place.invariant tt c.in-Ok.ensures

pub returns-in-Err : goal.returns-in-Err
returns-in-Err g c =
    wiped_stopped c.args.places.now c.loop-place.place-index c.place-item.result (search rules) (search rules) (g.W.World.state c.args.world.now) (g.W.World.state c.loop-place.world) (g.W.World.state c.wipe.new.world)
    c.loop-place.invariant c.in-Err.error c.in-Err.ensures

pub returns : goal.returns
returns g c = wiped_all c.args.places.now c.loop-place.place-index (g.W.World.state c.args.world.now) (g.W.World.state c.loop-place.world) (search rules) c.loop-place.invariant
