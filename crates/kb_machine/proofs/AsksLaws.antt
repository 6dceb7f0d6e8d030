-- A child that may change nothing leaves a world at rest.
use Rattle.std.proofs.Common.{◌≡◌, ◌⊎◌, false, List, [], ◌∷◌, Option, Some, None, refl, sym, ap, ◌∙◌, subst, inl, inr}
use Rattle.std.specs.Option.{ForSome}
use Rattle.std.specs.Prelude.{Result, Ok, Err}
use Rattle.std.proofs.lemmas.Bool.{true≢false}
use Rattle.kb_world.specs.Path.{Path}
use Rattle.kb_world.specs.Tree.{Tree}
use Rattle.kb_world.specs.Public.{public_tree, foreign_tree}
use Rattle.kb_world.specs.View.{is_own}
use Rattle.kb_world.specs.Layout.{united}
use Rattle.kb_world.specs.Script.{answer, answer_in}
use Rattle.kb_world.specs.Crash.{LeftOf, Adds}
use Rattle.kb_world.specs.State.{State}
use Rattle.kb_machine.specs.Outcome.{Outcome, Action, ran_child, joined, asks}
use Rattle.kb_machine.specs.Does.{Asks, IsAsked}
use Rattle.kb_world.specs.declared.child.Area.{Area}
use Rattle.kb_world.specs.declared.child.Area.TheVariants as areas
use Rattle.kb_world.specs.declared.child.Request.{Request}
use Rattle.kb_world.specs.declared.child.Reply.{Reply}
use Rattle.kb_world.specs.declared.roots.Roots.{Roots}
use Rattle.kb_world.specs.declared.job.Report.{Report}
use Rattle.kb_world.specs.declared.stop.Stop.{Stop}
use Rattle.kb_world.specs.declared.stop.Stop.TheVariants.{Refused, Fault, NoMemory}
use Rattle.kb_world.proofs.CallLaws.{cause_other}
use Rattle.kb_machine.proofs.OutcomeLaws as low
use Rattle.kb_world.proofs.LayoutLaws.{view-whole}
use Rattle.kb_world.proofs.CrashLaws.{adds_then, adds_wider}
use Rattle.kb_machine.specs.Opens.{IsReady, Opens, own_areas}
use Rattle.kb_again.specs.Sparing.{IsSparing, AreSparing}
use Rattle.kb_machine.specs.Stands.{Stands, Rests, OpensOneOf}
use Rattle.kb_machine.specs.Across.{Survives, LeavesStanding, LeavesBehindAs, DoesAcrossCrashes}
use Rattle.kb_machine.specs.Behind.{RanFront, LeavesBehindOf}
use Rattle.kb_machine.proofs.BehindLaws.{front_all, behind_same, behind_first, behind_then}

left_less : (soft : List Area) (tree : Option Tree) (image : Tree) → LeftOf (areas.Nothing ∷ soft) tree image → LeftOf soft tree image
left_less soft None image left = left
left_less soft (Some tree) image left = record { each = left.each; formed = left.formed }

nothing_sparing : (roots : Roots) (own : List Area) → IsSparing roots own areas.Nothing
nothing_sparing roots own = record { kept_out = λ path held. absurd (true≢false (sym held)); public = λ path held counted. absurd (true≢false (sym held)) }

module _ (roots : Roots) (store : Tree) (old mid : State) (tree : mid.tree ≡ old.tree) (soft : (mid.history.soft ≡ old.history.soft) ⊎ (mid.history.soft ≡ areas.Nothing ∷ old.history.soft)) (script : mid.script ≡ old.script) where
  same_left : (image : Tree) → LeftOf mid.history.soft mid.tree image → LeftOf old.history.soft old.tree image
  same_left image left = subst (λ t. LeftOf old.history.soft t image) tree (elim soft [
    | inl same ↦ subst (λ s. LeftOf s mid.tree image) same left
    | inr given ↦ left_less old.history.soft mid.tree image (subst (λ s. LeftOf s mid.tree image) given left)
  ])

  pub still_stands : Stands roots store old → Stands roots store mid
  still_stands stands = record {
    opens = λ image left. subst (λ s. Opens roots s image store) (sym script) (stands.opens image (same_left image left));
    spares = λ t told.
        let was = stands.spares t (sym tree ∙ told) in (
          was.0,
          was.1,
          subst (λ s. IsReady roots s t was.0 was.1) (sym script) was.2,
          elim soft [
            | inl same ↦ subst (AreSparing roots (own_areas was.1)) (sym same) was.3
            | inr given ↦ subst (AreSparing roots (own_areas was.1)) (sym given) (nothing_sparing roots (own_areas was.1), was.3)
          ],
        );
  }

  pub still_rests : Rests roots store old → Rests roots store mid
  still_rests rests = record { no_journal = λ image left. rests.no_journal image (same_left image left); stands = still_stands rests.stands }

  pub still_opens : (stores : List Tree) → Stands roots store old → Adds (LeftOf (areas.Nothing ∷ old.history.soft) old.tree) old.history mid.history → Adds (OpensOneOf roots old.script (store ∷ stores)) old.history mid.history
  still_opens stores stands adds = adds_wider (LeftOf (areas.Nothing ∷ old.history.soft) old.tree) (OpensOneOf roots old.script (store ∷ stores)) old.history mid.history
      (λ image left. (store, inl refl, stands.opens image (left_less old.history.soft old.tree image left))) adds

leaves_joined : (roots : Roots) (store : Tree) (request : Request) (foreign : Tree) (second : Outcome) (new : State) (result : Result (Unit {0}) Stop)
    → LeavesStanding roots store second.after result new → LeavesStanding roots store (joined (ran_child request foreign) second).after result new
leaves_joined roots store request foreign second new result leaves = leaves

-- the reply is to what the child sees of the store and the foreign tree
is_heard : (roots : Roots) (request : Request) (old mid : State) (reply : Reply) (tree : Tree) → ((q : Path) → is_own request.area q ≡ false) → old.roots ≡ roots → IsAsked request old mid reply tree
    → reply ≡ (answer_in roots old.script request (united (public_tree roots tree) (foreign_tree roots tree))).reply
is_heard roots request old mid reply tree none rooted is =
    is.said ∙ ap (λ r. (answer_in r old.script request tree).reply) rooted
    ∙ ap (λ view. (answer old.script request view).reply) (sym (view-whole roots request tree none))

pub does_asks : (roots : Roots) (request : Request) (next : Reply → Action) (reply : Reply) (old mid new : State) (before after : Report) (result : Result (Unit {0}) Stop)
    → ((q : Path) → is_own request.area q ≡ false)
    → Asks request old mid (Ok reply) → DoesAcrossCrashes roots (next reply) mid new before after result
    → DoesAcrossCrashes roots (asks roots old.script request next) old new before after result
does_asks roots request next reply old mid new before after result none a b =
    record {
      does = low.does_asks roots request next reply old mid new before after result none a b.does;
      survives = λ tree told rooted rests.
          let store = public_tree roots tree in
          let foreign = foreign_tree roots tree in
          let is : IsAsked request old mid reply tree = a.asked tree told in
          let two : Survives roots store (next reply store foreign) mid new result = b.survives tree is.same (a.lasts.roots ∙ rooted) (still_rests roots store old mid a.tree a.soft a.lasts.script rests) in
          let P : Reply → Type 0 = λ r. Survives roots store (joined (ran_child request foreign) (next r store foreign)) old new result in
          subst P (is_heard roots request old mid reply tree none rooted is) (record {
            each_moment = adds_then (OpensOneOf roots old.script (store ∷ (next reply store foreign).after)) old.history mid.history new.history
                (still_opens roots store old mid a.tree a.soft a.lasts.script (next reply store foreign).after rests.stands a.moments)
                (subst (λ script. Adds (OpensOneOf roots script (store ∷ (next reply store foreign).after)) mid.history new.history) a.lasts.script two.each_moment);
            end = leaves_joined roots store request foreign (next reply store foreign) new result two.end;
          });
      behind = λ tree told rooted.
          let store = public_tree roots tree in
          let foreign = foreign_tree roots tree in
          let is : IsAsked request old mid reply tree = a.asked tree told in
          let first = ran_child request foreign in
          let P : Reply → Type 0 = λ r. LeavesBehindOf roots (joined first (next r store foreign)) tree old new in
          subst P (is_heard roots request old mid reply tree none rooted is)
          (behind_then roots first (next reply store foreign) tree tree old mid new is.same is.ran
          (behind_same roots first tree tree old mid is.same refl (front_all (request ∷ []) old mid is.ran)) (b.behind tree is.same (a.lasts.roots ∙ rooted)));
    }

-- it was run or not
behind_unasked : (roots : Roots) (request : Request) (next : Reply → Action) (old new : State) → new.tree ≡ old.tree → ForSome old.tree (λ tree. RanFront (request ∷ []) old new)
    → LeavesBehindAs roots (asks roots old.script request next) old new
behind_unasked roots request next old new same ran tree told rooted =
    let store = public_tree roots tree in
    let foreign = foreign_tree roots tree in
    let first = ran_child request foreign in
    behind_first roots first (next (answer_in roots old.script request (united store foreign)).reply store foreign) tree old new
    (behind_same roots first tree tree old new (same ∙ told) refl (ran tree told))

abbrev stopped : Stop → Result (Unit {0}) Stop
stopped stop = Err stop

-- it stopped
pub does_unasked : (roots : Roots) (request : Request) (next : Reply → Action) (old new : State) (before after : Report) (stop : Stop) → Asks request old new (Err stop)
    → DoesAcrossCrashes roots (asks roots old.script request next) {T = Unit {0}} old new before after (Err stop)
does_unasked roots request next old new before after (Refused why) a = absurd (a.unrefused why refl)
does_unasked roots request next old new before after Fault a = record {
  does = record {
    answers = λ tree told rooted. tt;
    lasts = a.lasts;
    cause = record { later = a.cause.later; rose = λ failed. a.cause.rose refl; steady = a.cause.steady; never = λ told is failed. a.cause.never told is refl };
  };
  survives = λ tree told rooted rests. let store = public_tree roots tree in record {
    each_moment = still_opens roots store old new a.tree a.soft a.lasts.script (asks roots old.script request next store (foreign_tree roots tree)).after rests.stands a.moments;
    end = (store, inl refl, still_stands roots store old new a.tree a.soft a.lasts.script rests.stands);
  };
  behind = behind_unasked roots request next old new a.tree a.ran;
}
does_unasked roots request next old new before after NoMemory a = record {
  does = record {
    answers = λ tree told rooted. tt;
    lasts = a.lasts;
    cause = cause_other {T = Reply} old new (Err NoMemory) (Err NoMemory) a.cause (λ failed. let impossible : stopped NoMemory ≡ stopped Fault = failed in cc);
  };
  survives = λ tree told rooted rests. let store = public_tree roots tree in record {
    each_moment = still_opens roots store old new a.tree a.soft a.lasts.script (asks roots old.script request next store (foreign_tree roots tree)).after rests.stands a.moments;
    end = (store, inl refl, still_stands roots store old new a.tree a.soft a.lasts.script rests.stands);
  };
  behind = behind_unasked roots request next old new a.tree a.ran;
}
