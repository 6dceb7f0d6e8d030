use Rattle.std.proofs.Common.{take, Ok}
use Rattle.std.specs.List.{list_any}
use Rattle.kb_world.specs.Patch.{all_wiped}
use Rattle.kb_world.specs.Path.{is_under}
use Rattle.kb_intent.specs.Staging.{ChangesBut}
use Rattle.kb_intent.proofs.staging.wipe_each.Given as goal

abbrev pub invariant-loop-place : goal.invariant-loop-place
invariant-loop-place g l =
    ChangesBut (λ q. list_any (is_under q) l.places) (all_wiped (take l.place-index l.places)) {T = Unit {0}} (g.W.World.state l.initial.world) (g.W.World.state l.world) (Ok tt)
