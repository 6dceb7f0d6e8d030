-- A part where a test holds.
use Rattle.std.proofs.Common.{◌≡◌, Bool, true, false, cond, [], refl, sym, subst}
use Rattle.std.proofs.lemmas.List.{append-nil}
use Rattle.std.specs.Prelude.{Result, Ok, Err}
use Rattle.kb_world.specs.Layout.{united, whole_tree}
use Rattle.kb_world.specs.Read.{Gives}
use Rattle.kb_world.specs.State.{State}
use Rattle.kb_world.specs.Tree.{Tree}
use Rattle.kb_world.specs.declared.job.Report.{Report}
use Rattle.kb_world.specs.declared.refusal.Refusal.{Refusal}
use Rattle.kb_world.specs.declared.roots.Roots.{Roots}
use Rattle.kb_world.specs.declared.stop.Stop.{Stop}
use Rattle.kb_machine.specs.Across.{DoesAcrossCrashes}
use Rattle.kb_machine.specs.Each.{no_action, when}
use Rattle.kb_machine.specs.Outcome.{Action, reads}
use Rattle.kb_machine.proofs.EachLaws.{printed}
use Rattle.kb_machine.proofs.LookLaws.{read_on, unread}

-- what a reader that is never refused reads
abbrev pub read_of : (Tree → Bool) → Tree → Result Bool Refusal
read_of test tree = Ok (test tree)

module _ (roots : Roots) (read test : Tree → Bool) (action : Action) (same : (tree : Tree) → read tree ≡ test (whole_tree roots tree)) where
  abbrev part : Bool → Action
  part holds = cond holds action no_action

  -- the test is read, and says how it goes on
  as_read : reads (read_of test) part ≡ when test action
  as_read = λ i store foreign. by (test (united store foreign)) store foreign i
    where
      by : (holds : Bool) (store foreign : Tree) → part holds store foreign ≡ cond holds (action store foreign) (no_action store foreign)
      by true store foreign = refl
      by false store foreign = refl

  same_read : (tree : Tree) → read_of read tree ≡ read_of test (whole_tree roots tree)
  same_read tree = λ i. Ok (same tree i)

  pub when_holds : (old mid new : State) (before after : Report) (result : Result (Unit {0}) Stop) → Gives {T = Bool} (read_of read) old mid (Ok true)
      → DoesAcrossCrashes roots action mid new before after result → DoesAcrossCrashes roots (when test action) old new before after result
  when_holds old mid new before after result g d =
      subst (λ (whole : Action). DoesAcrossCrashes roots whole old new before after result) as_read
      (read_on {A = Bool} roots (read_of read) (read_of test) part true old mid new before after result same_read g d)

  pub when_fails : (old mid : State) (report : Report) → Gives {T = Bool} (read_of read) old mid (Ok false)
      → DoesAcrossCrashes roots (when test action) {T = Unit {0}} old mid report report (Ok tt)
  when_fails old mid report g =
      subst (λ (whole : Action). DoesAcrossCrashes roots whole {T = Unit {0}} old mid report report (Ok tt)) as_read
      (read_on {A = Bool} roots (read_of read) (read_of test) part false old mid mid report report (Ok tt) same_read g
      (printed roots [] mid report report (sym (append-nil report.out)) refl))

  pub when_stops : (old mid : State) (report : Report) (stop : Stop) → Gives {T = Bool} (read_of read) old mid (Err stop)
      → DoesAcrossCrashes roots (when test action) {T = Unit {0}} old mid report report (Err stop)
  when_stops old mid report stop g =
      subst (λ (whole : Action). DoesAcrossCrashes roots whole {T = Unit {0}} old mid report report (Err stop)) as_read
      (unread {A = Bool} roots (read_of read) (read_of test) part old mid report stop same_read g)
