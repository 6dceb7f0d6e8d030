-- A call that stopped for want of memory.
use Rattle.std.proofs.Common.{◌≡◌, ap, sym, subst}
use Rattle.std.specs.Prelude.{Result, Ok, Err}
use Rattle.std.specs.Result.{IsErrAnd}
use Rattle.kb_machine.specs.Outcome.{Action}
use Rattle.kb_world.specs.State.{State}
use Rattle.kb_world.specs.declared.job.Report.{Report}
use Rattle.kb_world.specs.declared.roots.Roots.{Roots}
use Rattle.kb_world.specs.declared.stop.Stop.{Stop}
use Rattle.kb_world.specs.declared.stop.Stop.TheVariants.{NoMemory}
use Rattle.kb_machine.specs.Across.{DoesAcrossCrashes}
use Rattle.kb_machine.proofs.EachLaws.{unprinted}

-- it answers so
abbrev pub IsWanting : Result (Unit {0}) Stop → Type 0
IsWanting result = IsErrAnd result (λ stop. stop ≡ NoMemory)

pub wanting : (result : Result (Unit {0}) Stop) → IsWanting result → result ≡ Err NoMemory
wanting (Ok u) w = absurd w
wanting (Err stop) w = ap Err w

-- what holds of the answer for want of memory
pub answers_wanting : (roots : Roots) (action : Action) (old new : State) (before after : Report) (result : Result (Unit {0}) Stop) → IsWanting result
    → DoesAcrossCrashes roots action {T = Unit {0}} old new before after (Err NoMemory) → DoesAcrossCrashes roots action old new before after result
answers_wanting roots action old new before after result w d = subst (DoesAcrossCrashes roots action old new before after) (sym (wanting result w)) d

-- nothing was done
pub wants_first : (roots : Roots) (action : Action) (state : State) (before after : Report) (result : Result (Unit {0}) Stop) → IsWanting result → DoesAcrossCrashes roots action state state before after result
wants_first roots action state before after result w = answers_wanting roots action state state before after result w (unprinted roots action state before after)
