-- What is done aside leaves the store, the foreign tree, and the rest.
use Rattle.std.proofs.Common.{◌≡◌, ◌⊎◌, Bool, true, false, cond, ◌&&◌, not, List, [], ◌∷◌, ◌++◌, Option, Some, None, refl, sym, ap, ◌∙◌, subst, inl, inr}
use Rattle.std.specs.Prelude.{Result, Ok, Err, IsErrOf}
use Rattle.std.specs.List.{list_any, AllByRecursion}
use Rattle.std.specs.Cmp.{first_so}
use Rattle.std.proofs.lemmas.Bool.{true≢false}
use Rattle.kb_world.specs.Path.{Path, is_under}
use Rattle.kb_world.specs.Tree.{Tree, node_at, IsFormed}
use Rattle.kb_world.specs.TreeLaws.{same_tree}
use Rattle.kb_world.specs.Public.{intent_path, is_private, is_loose, is_public, public_tree, foreign_tree}
use Rattle.kb_world.specs.Crash.{Adds}
use Rattle.kb_world.specs.State.{State, HasCause, Lasts}
use Rattle.kb_machine.specs.Outcome.{Action}
use Rattle.kb_machine.specs.Does.{Answers}
use Rattle.kb_world.specs.declared.child.Area.{Area}
use Rattle.kb_world.specs.declared.tree.Node.{Node}
use Rattle.kb_world.specs.declared.roots.Roots.{Roots}
use Rattle.kb_world.specs.declared.job.Report.{Report}
use Rattle.kb_world.specs.declared.stop.Stop.{Stop}
use Rattle.kb_world.specs.declared.stop.Stop.TheVariants.{Refused, Fault, NoMemory}
use Rattle.kb_world.proofs.CrashLaws.{adds_then, adds_wider}
use Rattle.kb_world.proofs.CallLaws.{cause_then, lasts_then}
use Rattle.kb_machine.proofs.DoesLaws.{answers_since}
use Rattle.kb_world.proofs.PathLaws.{under-self}
use Rattle.kb_world.proofs.PublicLaws.{node_at-public_tree, node_at-foreign_tree}
use Rattle.kb_changes.specs.Valid.{written_roots}
use Rattle.kb_again.specs.Sparing.{IsSparing, AreSparing}
use Rattle.kb_machine.specs.Stands.{Rests, OpensOneOf}
use Rattle.kb_machine.specs.Aside.{is_aside, IsSameBut, IsAsideArea, LeftAside, IsOneArea, WorksAside}
use Rattle.kb_machine.specs.Across.{Survives, LeavesStanding, DoesAcrossCrashes}
use Rattle.kb_machine.specs.Behind.{LeavesBehindOf}
use Rattle.kb_machine.proofs.BehindLaws.{front_none, behind_same, behind_since}
use Rattle.kb_machine.proofs.RestLaws.{opens-none, rests_from, rests_bare, rests_spares, spared_public, spared_journal}

-- below a root that is written
abbrev is_written : Roots → Path → Bool
is_written roots path = list_any (is_under path) (written_roots roots)

-- a path at which nothing public stands and nothing foreign
module _ (roots : Roots) (a b : Tree) (same : IsSameBut (is_aside roots) a b) where
  by_path : (C : Tree → Path → Option Node) → ((q : Path) → is_private roots q ≡ true → C b q ≡ C a q) → ((q : Path) → node_at b q ≡ node_at a q → C b q ≡ C a q) → (q : Path) → C b q ≡ C a q
  by_path C own kept q = by (is_aside roots q) refl
    where
      by : (t : Bool) → is_aside roots q ≡ t → C b q ≡ C a q
      by true e = own q (first_so (is_private roots q) _ e)
      by false e = kept q (same q e)

  pub aside_public : public_tree roots b ≡ public_tree roots a
  aside_public = same_tree _ _ (λ q. node_at-public_tree roots b q
      ∙ by_path (λ t p. cond (is_public roots p (node_at t p)) (node_at t p) None)
      (λ p own. hidden p own b ∙ sym (hidden p own a))
      (λ p kept. ap (λ at. cond (is_public roots p at) at None) kept) q
      ∙ sym (node_at-public_tree roots a q))
    where
      hidden : (p : Path) → is_private roots p ≡ true → (t : Tree) → cond (is_public roots p (node_at t p)) (node_at t p) None ≡ None
      hidden p own t = ap (λ x. cond x (node_at t p) None) (out (is_written roots p) (is_private roots p) (is_loose roots p (node_at t p)) own)
        where
          out : (x y z : Bool) → y ≡ true → (x && not y && not z) ≡ false
          out true y z h = ap (λ v. not v && not z) h
          out false y z h = refl

  pub aside_foreign : foreign_tree roots b ≡ foreign_tree roots a
  aside_foreign = same_tree _ _ (λ q. node_at-foreign_tree roots b q
      ∙ by_path (λ t p. cond (not (is_public roots p (node_at t p)) && not (is_private roots p)) (node_at t p) None)
      (λ p own. hidden p own b ∙ sym (hidden p own a))
      (λ p kept. ap (λ at. cond (not (is_public roots p at) && not (is_private roots p)) at None) kept) q
      ∙ sym (node_at-foreign_tree roots a q))
    where
      hidden : (p : Path) → is_private roots p ≡ true → (t : Tree) → cond (not (is_public roots p (node_at t p)) && not (is_private roots p)) (node_at t p) None ≡ None
      hidden p own t = ap (λ x. cond x (node_at t p) None) (out (not (is_public roots p (node_at t p))) (is_private roots p) own)
        where
          out : (x y : Bool) → y ≡ true → (x && not y) ≡ false
          out true y h = ap not h
          out false y h = refl

  pub aside_journal : node_at b (intent_path roots) ≡ node_at a (intent_path roots)
  aside_journal = same (intent_path roots) (ap (λ t. is_private roots (intent_path roots) && not t) (under-self (intent_path roots)) ∙ never (is_private roots (intent_path roots)))
    where
      never : (x : Bool) → (x && false) ≡ false
      never true = refl
      never false = refl

-- areas aside spare all
sparing_aside : (roots : Roots) (area : Area) → IsAsideArea roots area → IsSparing roots [] area
sparing_aside roots area aside = record {
  kept_out = aside.kept_out;
  public = λ path reached counted. absurd (by (is_written roots path) (is_private roots path) _ (first_so (is_private roots path) _ (aside.own path reached)) counted);
}
  where
    by : (x y z : Bool) → y ≡ true → (x && (not y && z)) ≡ true → ⊥
    by true y z own counted = true≢false (sym counted ∙ ap (λ v. not v && z) own)
    by false y z own counted = true≢false (sym counted)

one_of_all : (P : Area → Type 0) (area : Area) (areas : List Area) → AllByRecursion P areas → IsOneArea area areas → P area
one_of_all P area [] all one = absurd one
one_of_all P area (other ∷ others) all (inl here) = subst P (sym here) all.0
one_of_all P area (other ∷ others) all (inr later) = one_of_all P area others all.1 later

each_sparing : (roots : Roots) (soft areas : List Area) → AreSparing roots [] soft → AllByRecursion (λ area. IsOneArea area soft ⊎ IsAsideArea roots area) areas → AreSparing roots [] areas
each_sparing roots soft [] spares each = tt
each_sparing roots soft (area ∷ areas) spares each = (elim each.0 [ inl one ↦ one_of_all (IsSparing roots []) area soft spares one | inr aside ↦ sparing_aside roots area aside ], each_sparing roots soft areas spares each.1)

given_sparing : (roots : Roots) (given soft : List Area) → AreSparing roots [] soft → AllByRecursion (IsAsideArea roots) given → AreSparing roots [] (given ++ soft)
given_sparing roots [] soft spares each = spares
given_sparing roots (area ∷ given) soft spares each = (sparing_aside roots area each.0, given_sparing roots given soft spares each.1)

module _ (roots : Roots) (old new : State) (tree : Tree) (told : old.tree ≡ Some tree) (formed : IsFormed tree) (rests : Rests roots (public_tree roots tree) old) (w : WorksAside roots old new) where
  bare : node_at tree (intent_path roots) ≡ None
  bare = rests_bare roots (public_tree roots tree) old tree told formed rests

  spared : AreSparing roots [] old.history.soft
  spared = rests_spares roots (public_tree roots tree) old tree told formed rests

  pub aside_rests : Rests roots (public_tree roots tree) new
  aside_rests =
      let now = w.tree tree told in
      subst (λ s. Rests roots s new) (aside_public roots tree now.0 now.2)
      (rests_from roots new now.0 now.1 (aside_journal roots tree now.0 now.2 ∙ bare) (each_sparing roots old.history.soft new.history.soft spared w.soft))

  pub aside_adds : (stores : List Tree) → Adds (OpensOneOf roots old.script (public_tree roots tree ∷ stores)) old.history new.history
  aside_adds stores = adds_wider (LeftAside roots old.history.soft tree) (OpensOneOf roots old.script (public_tree roots tree ∷ stores)) old.history new.history (λ image left.
      let spares = given_sparing roots left.given old.history.soft spared left.aside in (
        public_tree roots tree,
        inl refl,
        opens-none roots old.script image (public_tree roots tree) (spared_journal roots [] (left.given ++ old.history.soft) left.mid image spares left.left ∙ aside_journal roots tree left.mid left.same ∙ bare)
            (spared_public roots (left.given ++ old.history.soft) left.mid image spares left.left ∙ aside_public roots tree left.mid left.same),
      )) (w.moments tree told)

abbrev pub answered : {T : Type 0} → T → Result T Stop
answered value = Ok value

-- an action after something was done aside is that action
pub does_aside : {T : Type 0} (roots : Roots) (action : Action) (old mid new : State) (before after : Report) (value : T) (result : Result (Unit {0}) Stop)
    → ((tree : Tree) → old.tree ≡ Some tree → IsFormed tree) → WorksAside roots old mid → mid.ran ≡ old.ran → Lasts old mid → HasCause Fault old mid (answered value)
    → DoesAcrossCrashes roots action mid new before after result → DoesAcrossCrashes roots action old new before after result
does_aside roots action old mid new before after value result formed w ran lasts cause d = record {
  does = record {
    answers = λ tree told rooted.
        let now = w.tree tree told in
        let P : Tree → Tree → Type 0 = λ s f. Answers roots s (action s f) result mid new before after in
        answers_since roots (public_tree roots tree) (action (public_tree roots tree) (foreign_tree roots tree)) old mid new before after result ran
        (subst (λ f. P (public_tree roots tree) f) (aside_foreign roots tree now.0 now.2)
        (subst (λ s. P s (foreign_tree roots now.0)) (aside_public roots tree now.0 now.2) (d.does.answers now.0 now.1 (lasts.roots ∙ rooted))));
    lasts = lasts_then old mid new lasts d.does.lasts;
    cause = cause_then Fault old mid new (answered value) result lasts.told cause d.does.cause;
  };
  survives = λ tree told rooted rests.
      let now = w.tree tree told in
      let store = public_tree roots tree in
      let P : Tree → Tree → Type 0 = λ s f. Rests roots s mid → Survives roots s (action s f) mid new result in
      let goes : P store (foreign_tree roots tree) =
      subst (λ f. P store f) (aside_foreign roots tree now.0 now.2)
      (subst (λ s. P s (foreign_tree roots now.0)) (aside_public roots tree now.0 now.2) (d.survives now.0 now.1 (lasts.roots ∙ rooted))) in
      let one : Survives roots store (action store (foreign_tree roots tree)) mid new result = goes (aside_rests roots old mid tree told (formed tree told) rests w) in
      let stores = (action store (foreign_tree roots tree)).after in
      record {
        each_moment = adds_then (OpensOneOf roots old.script (store ∷ stores)) old.history mid.history new.history
            (aside_adds roots old mid tree told (formed tree told) rests w stores)
            (subst (λ script. Adds (OpensOneOf roots script (store ∷ stores)) mid.history new.history) lasts.script one.each_moment);
        end = one.end;
      };
  behind = λ tree told rooted.
      let now = w.tree tree told in
      let store = public_tree roots tree in
      let foreign = foreign_tree roots tree in
      let kept = aside_foreign roots tree now.0 now.2 in
      let P : Tree → Tree → Type 0 = λ s f. LeavesBehindOf roots (action s f) now.0 mid new in
      let goes : P store foreign =
      subst (λ f. P store f) kept (subst (λ s. P s (foreign_tree roots now.0)) (aside_public roots tree now.0 now.2) (d.behind now.0 now.1 (lasts.roots ∙ rooted))) in
      behind_since roots (action store foreign) tree now.0 old mid new ran kept goes;
}

-- it isn't a refusal
abbrev pub IsUnrefused : Stop → Type 0
IsUnrefused (Refused why) = ⊥
IsUnrefused Fault = Unit {0}
IsUnrefused NoMemory = Unit {0}

abbrev stopped : {T : Type 0} → Stop → Result T Stop
stopped stop = Err stop

-- what was done aside stopped, and so does the action
pub aside_stops : {T : Type 0} (roots : Roots) (action : Action) (old new : State) (before after : Report) (stop : Stop) → IsUnrefused stop
    → ((tree : Tree) → old.tree ≡ Some tree → IsFormed tree) → WorksAside roots old new → new.ran ≡ old.ran → Lasts old new → HasCause Fault old new (stopped {T = T} stop)
    → DoesAcrossCrashes roots action {T = Unit {0}} old new before after (Err stop)
aside_stops {T} roots action old new before after stop unrefused formed w ran lasts cause = record {
  does = record {
    answers = λ tree told rooted. none stop unrefused tree;
    lasts = lasts;
    cause = record { later = cause.later; rose = λ failed. cause.rose (back failed); steady = cause.steady; never = λ told is failed. cause.never told is (back failed) };
  };
  survives = λ tree told rooted rests. record {
    each_moment = aside_adds roots old new tree told (formed tree told) rests w (action (public_tree roots tree) (foreign_tree roots tree)).after;
    end = left stop unrefused tree (aside_rests roots old new tree told (formed tree told) rests w);
  };
  behind = λ tree told rooted.
      let now = w.tree tree told in
      let outcome = action (public_tree roots tree) (foreign_tree roots tree) in
      behind_same roots outcome tree now.0 old new now.1 (aside_foreign roots tree now.0 now.2) (front_none outcome.requests old new ran);
}
  where
    back : IsErrOf (stopped {T = Unit {0}} stop) Fault → IsErrOf (stopped {T = T} stop) Fault
    back failed = let is : stop ≡ Fault = cc in ap (λ s. stopped {T = T} s) is

    none : (s : Stop) → IsUnrefused s → (tree : Tree) → Answers {T = Unit {0}} roots (public_tree roots tree) (action (public_tree roots tree) (foreign_tree roots tree)) (Err s) old new before after
    none (Refused why) u tree = absurd u
    none Fault u tree = tt
    none NoMemory u tree = tt

    left : (s : Stop) → IsUnrefused s → (tree : Tree) → Rests roots (public_tree roots tree) new
        → LeavesStanding {T = Unit {0}} roots (public_tree roots tree) (action (public_tree roots tree) (foreign_tree roots tree)).after (Err s) new
    left (Refused why) u tree rests = absurd u
    left Fault u tree rests = (public_tree roots tree, inl refl, rests.stands)
    left NoMemory u tree rests = (public_tree roots tree, inl refl, rests.stands)
