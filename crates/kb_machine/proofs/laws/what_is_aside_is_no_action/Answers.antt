use Rattle.std.proofs.Common.{subst, sym, ◌∙◌, inl, inr}
use Rattle.kb_world.specs.State.{HasCause}
use Rattle.kb_world.specs.declared.stop.Stop.TheVariants.{Fault, NoMemory}
use Rattle.kb_machine.specs.Across.{DoesAcrossCrashes}
use Rattle.kb_machine.proofs.AsideLaws.{does_aside, aside_stops}
use Rattle.kb_machine.proofs.laws.what_is_aside_is_no_action.Goals as goal

pub returns-clause-goes_on : goal.returns-clause-goes_on
returns-clause-goes_on c roots action old mid new before after result aside is formed w ran lasts cause d =
    does_aside roots action old mid new before after tt result formed w ran lasts (subst (HasCause Fault old mid) is cause) d

pub returns-clause-stopped : goal.returns-clause-stopped
returns-clause-stopped c roots action old new before after result aside due same formed w ran lasts cause = elim due [
  | inl is ↦ subst (DoesAcrossCrashes roots action old new before after) (sym is)
      (aside_stops roots action old new before after Fault tt formed w ran lasts (subst (HasCause Fault old new) (same ∙ is) cause))
  | inr is ↦ subst (DoesAcrossCrashes roots action old new before after) (sym is)
      (aside_stops roots action old new before after NoMemory tt formed w ran lasts (subst (HasCause Fault old new) (same ∙ is) cause))
]
