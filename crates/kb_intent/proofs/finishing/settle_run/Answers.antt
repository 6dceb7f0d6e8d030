-- The area of a run is settled, and of another change there is none.
use Rattle.std.proofs.Common.{sym, subst, [], ◌∷◌}
use Rattle.kb_again.specs.Sparing.{areas_of}
use Rattle.kb_intent.specs.Clearing.{SettlesAll}
use Rattle.kb_intent.proofs.ClearingLaws.{settles_one, settles_no_run}
use Rattle.kb_intent.proofs.finishing.settle_run.Goals as goal

pub returns-in-Run : goal.returns-in-Run
returns-in-Run g c =
    subst (λ change. SettlesAll (areas_of (change ∷ [])) (g.W.World.state c.args.world.now) (g.W.World.state c.settle.new.self) c.settle.result) (sym c.in-Run.is)
    (settles_one c.in-Run.request.area (g.W.World.state c.args.world.now) (g.W.World.state c.settle.new.self) c.settle.result c.settle.ensures.settled)

pub returns-in_default : goal.returns-in_default
returns-in_default g c = settles_no_run c.args.change.now (g.W.World.state c.args.world.now) c.in_default.not-Run
