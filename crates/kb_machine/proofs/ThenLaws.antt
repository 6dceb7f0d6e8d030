-- How actions go on from one another, crashes and all.
use Rattle.std.proofs.Common.{◌≡◌, List, [], ◌∷◌, ◌++◌, sym, ◌∙◌, subst, inl, inr}
use Rattle.std.specs.Prelude.{Result, Ok, Err}
use Rattle.kb_world.specs.Tree.{Tree}
use Rattle.kb_world.specs.Script.{Script}
use Rattle.kb_world.specs.State.{State}
use Rattle.kb_world.specs.Public.{public_tree, foreign_tree}
use Rattle.kb_machine.specs.Outcome.{Outcome, Action, last_of, joined, ◌then◌}
use Rattle.kb_world.specs.declared.roots.Roots.{Roots}
use Rattle.kb_world.specs.declared.job.Report.{Report}
use Rattle.kb_world.specs.declared.stop.Stop.{Stop}
use Rattle.kb_world.specs.declared.stop.Stop.TheVariants.{Refused, Fault, NoMemory}
use Rattle.kb_machine.proofs.OutcomeLaws as low
use Rattle.kb_machine.specs.Stands.{Rests, IsOneOf, OpensOneOf, StandsOneOf}
use Rattle.kb_machine.specs.Across.{Survives, LeavesStanding, DoesAcrossCrashes}
use Rattle.kb_machine.specs.Behind.{LeavesBehindOf}
use Rattle.kb_machine.proofs.BehindLaws.{behind_then}
use Rattle.kb_world.proofs.CrashLaws.{adds_then, adds_wider}

one_of_first : (store other : Tree) (first second : List Tree) → IsOneOf store (other ∷ first) → IsOneOf store (other ∷ first ++ second)
one_of_first store other first second (inl here) = inl here
one_of_first store other [] second (inr later) = absurd later
one_of_first store other (next ∷ first) second (inr later) = inr (one_of_first store next first second later)

one_of_second : (store other : Tree) (first second : List Tree) → IsOneOf store (last_of other first ∷ second) → IsOneOf store (other ∷ first ++ second)
one_of_second store other [] second one = one
one_of_second store other (next ∷ first) second one = inr (one_of_second store next first second one)

opens_wider : (roots : Roots) (script : Script) (some all : List Tree) → ((store : Tree) → IsOneOf store some → IsOneOf store all) → (image : Tree) → OpensOneOf roots script some image → OpensOneOf roots script all image
opens_wider roots script some all wider image o = (o.0, wider o.0 o.1, o.2)

stands_wider : (roots : Roots) (state : State) (some all : List Tree) → ((store : Tree) → IsOneOf store some → IsOneOf store all) → StandsOneOf roots some state → StandsOneOf roots all state
stands_wider roots state some all wider s = (s.0, wider s.0 s.1, s.2)

leaves_then : (roots : Roots) (store : Tree) (first second : List Tree) (new : State) (result : Result (Unit {0}) Stop) → LeavesStanding roots (last_of store first) second result new → LeavesStanding roots store (first ++ second) result new
leaves_then roots store first second new (Ok u) rests = subst (λ s. Rests roots s new) (sym (low.last_of-append store first second)) rests
leaves_then roots store first second new (Err (Refused why)) rests = subst (λ s. Rests roots s new) (sym (low.last_of-append store first second)) rests
leaves_then roots store first second new (Err Fault) one = stands_wider roots new (last_of store first ∷ second) (store ∷ first ++ second) (λ s. one_of_second s store first second) one
leaves_then roots store first second new (Err NoMemory) one = stands_wider roots new (last_of store first ∷ second) (store ∷ first ++ second) (λ s. one_of_second s store first second) one

pub survives_then : (roots : Roots) (store : Tree) (first second : Outcome) (old mid new : State) (result : Result (Unit {0}) Stop) → mid.script ≡ old.script
    → Survives {T = Unit {0}} roots store first old mid (Ok tt) → Survives roots (last_of store first.after) second mid new result → Survives roots store (joined first second) old new result
survives_then roots store first second old mid new result script a b =
    let all : List Tree = store ∷ first.after ++ second.after in
    record {
      each_moment = adds_then (OpensOneOf roots old.script all) old.history mid.history new.history
          (adds_wider (OpensOneOf roots old.script (store ∷ first.after)) (OpensOneOf roots old.script all) old.history mid.history (opens_wider roots old.script (store ∷ first.after) all (λ s. one_of_first s store first.after second.after)) a.each_moment)
          (adds_wider (OpensOneOf roots mid.script (last_of store first.after ∷ second.after)) (OpensOneOf roots old.script all) mid.history new.history
          (λ image o. subst (λ sc. OpensOneOf roots sc all image) script (opens_wider roots mid.script (last_of store first.after ∷ second.after) all (λ s. one_of_second s store first.after second.after) image o)) b.each_moment);
      end = leaves_then roots store first.after second.after new result b.end;
    }

pub does_then : (roots : Roots) (first second : Action) (old mid new : State) (before between after : Report) (result : Result (Unit {0}) Stop)
    → DoesAcrossCrashes roots first {T = Unit {0}} old mid before between (Ok tt) → DoesAcrossCrashes roots second mid new between after result
    → DoesAcrossCrashes roots (first then second) old new before after result
does_then roots first second old mid new before between after result a b = record {
  does = low.does_then roots first second old mid new before between after result a.does b.does;
  survives = λ tree told rooted rests.
      let store = public_tree roots tree in
      let outcome = first store (foreign_tree roots tree) in
      let came = a.does.answers tree told rooted in
      let one : Survives {T = Unit {0}} roots store outcome old mid (Ok tt) = a.survives tree told rooted rests in
      let last = last_of store outcome.after in
      let P : Tree → Tree → Type 0 = λ s f. Rests roots s mid → Survives roots s (second s f) mid new result in
      let goes : P last outcome.foreign =
      subst (λ (f : Tree). P last f) came.tree.2.foreign_part
      (subst (λ (s : Tree). P s (foreign_tree roots came.tree.0)) came.tree.2.public_part (b.survives came.tree.0 came.tree.1 (a.does.lasts.roots ∙ rooted))) in
      let two : Survives roots last (second last outcome.foreign) mid new result = goes one.end in
      let Q : Outcome → Type 0 = λ whole. Survives roots store whole old new result in
      subst Q (sym (low.goes_on store outcome second came.end)) (survives_then roots store outcome (second last outcome.foreign) old mid new result a.does.lasts.script one two);
  behind = λ tree told rooted.
      let store = public_tree roots tree in
      let outcome = first store (foreign_tree roots tree) in
      let came = a.does.answers tree told rooted in
      let last = last_of store outcome.after in
      let P : Tree → Tree → Type 0 = λ s f. LeavesBehindOf roots (second s f) came.tree.0 mid new in
      let goes : P last outcome.foreign =
      subst (λ (f : Tree). P last f) came.tree.2.foreign_part
      (subst (λ (s : Tree). P s (foreign_tree roots came.tree.0)) came.tree.2.public_part (b.behind came.tree.0 came.tree.1 (a.does.lasts.roots ∙ rooted))) in
      let Q : Outcome → Type 0 = λ whole. LeavesBehindOf roots whole tree old new in
      subst Q (sym (low.goes_on store outcome second came.end))
      (behind_then roots outcome (second last outcome.foreign) tree came.tree.0 old mid new came.tree.1 came.ran (a.behind tree told rooted) goes);
}
