-- Changes that lie where a test holds: what calls make of a tree, one after another, and that they lie aside.
use Rattle.std.proofs.Common.{◌≡◌, ℕ, ◌+◌, ◌<◌, ◌≤◌, Bool, true, false, cond, not, ◌&&◌, List, [], length, take, get_or, Option, Some, None, is_some, Result, Ok, Err, refl, sym, ap, ◌∙◌, subst, inl, inr, arith, take_all}
use Rattle.std.specs.Prelude.{option_map, OnOk}
use Rattle.std.specs.List.{list_any, AllByRecursion}
use Rattle.std.proofs.lemmas.Bool.{true≢false}
use Rattle.std.proofs.lemmas.List.Folds.{list_any_at}
use Rattle.std.proofs.lemmas.List.Sums.{fold_more}
use Rattle.kb_world.specs.Area.{IsLeft}
use Rattle.kb_world.specs.Crash.{LeftOf, TornOf}
use Rattle.kb_world.specs.Patch.{wiped, all_wiped}
use Rattle.kb_world.specs.Path.{Path, parent, is_under}
use Rattle.kb_world.specs.State.{State, Changes, Puts, HasCause, RanNone}
use Rattle.kb_world.specs.Stop.{stop_for}
use Rattle.kb_world.specs.Tree.{Tree, node_at, with_node, is_dir}
use Rattle.kb_world.specs.TreeLaws.{with_node-apart}
use Rattle.kb_world.specs.declared.roots.Roots.{Roots}
use Rattle.kb_world.specs.declared.stop.Stop.{Stop}
use Rattle.kb_world.specs.declared.stop.Stop.TheVariants as stops
use Rattle.kb_world.specs.declared.tree.Node.{Node}
use Rattle.kb_world.specs.declared.tree.Node.TheVariants as nodes
use Rattle.kb_world.specs.declared.world.WorldError.{WorldError}
use Rattle.kb_world.specs.declared.world.WorldError.TheVariants.{Failed, NoMemory}
use Rattle.kb_world.proofs.CrashLaws.{adds_then, adds_wider, adds_none}
use Rattle.kb_world.proofs.CallLaws.{cause_then, ran_none_then, unchanged_none}
use Rattle.kb_world.proofs.PathLaws.{by_test, under-self}
use Rattle.kb_again.proofs.KeptLaws.{parent_under}
use Rattle.kb_again.proofs.PathLaws.{over_over}
use Rattle.kb_walk.specs.Wipe.{Wipes, IsWipedInPart}
use Rattle.kb_walk.proofs.WipeCalls.{cause_handed, done_not_failed}
use Rattle.kb_machine.specs.Aside.{is_aside, IsSameBut, IsOldOrAside, LeftAside, WorksAside}
use Rattle.kb_machine.proofs.AsideThenLaws.{aside_none}
use Rattle.kb_intent.specs.Doing.{StepsTo, IsEitherOf, made_dir_at}
use Rattle.kb_intent.specs.Staging.{LeftBut, IsNowBut, ChangesBut}
use Rattle.kb_intent.specs.Txn.{StaysAside}
use Rattle.kb_intent.proofs.StepsToLaws.{steps_by_call}
use Rattle.kb_intent.proofs.StopLaws.{done_unrefused, done_cause, stop_unrefused, stop_cause, wanting_cause}

-- ---- where a test holds of more

narrow : (one other : Path → Bool) → ((q : Path) → one q ≡ true → other q ≡ true) → (q : Path) → other q ≡ false → one q ≡ false
narrow one other wider q none = by_test (one q) (λ is. true≢false (sym (wider q is) ∙ none))

pub same_wider : (one other : Path → Bool) → ((q : Path) → one q ≡ true → other q ≡ true) → (tree now : Tree) → IsSameBut one tree now → IsSameBut other tree now
same_wider one other wider tree now same q none = same q (narrow one other wider q none)

pub but_wider : {T : Type 0} (one other : Path → Bool) (change : Tree → Tree) (old new : State) (result : Result T WorldError) → ((q : Path) → one q ≡ true → other q ≡ true)
    → ChangesBut one change old new result → ChangesBut other change old new result
but_wider one other change old new result wider c = record {
  done = c.done;
  now = λ tree told. let n = c.now tree told in (n.0, n.1, same_wider one other wider tree n.0 n.2);
  soft = c.soft;
  moments = λ tree told. adds_wider _ (LeftBut other old.history.soft tree) old.history new.history
      (λ image left. record { mid = left.mid; same = same_wider one other wider tree left.mid left.same; left = left.left }) (c.moments tree told);
  ran_none = c.ran_none;
  cause = c.cause;
}

-- ---- one call after another

pub but_then : {A T : Type 0} (may : Path → Bool) (first second whole : Tree → Tree) (old mid new : State) (value : A) (result : Result T WorldError) → ((tree : Tree) → second (first tree) ≡ whole tree)
    → ChangesBut may first old mid (Ok value) → ChangesBut may second mid new result → ChangesBut may whole old new result
but_then {T = T} may first second whole old mid new value result is a b = record {
  done = on_ok result b.done;
  now = λ tree told. let n = a.now tree told in let m = b.now n.0 n.1 in (m.0, m.1, λ q none. m.2 q none ∙ n.2 q none);
  soft = b.soft ∙ a.soft;
  moments = λ tree told.
      let n = a.now tree told in
      adds_then (LeftBut may old.history.soft tree) old.history mid.history new.history (a.moments tree told)
      (adds_wider (LeftBut may mid.history.soft n.0) (LeftBut may old.history.soft tree) mid.history new.history
      (λ image left. record { mid = left.mid; same = λ q none. left.same q none ∙ n.2 q none; left = subst (λ soft. IsLeft soft left.mid image) a.soft left.left }) (b.moments n.0 n.1));
  ran_none = ran_none_then old mid new a.ran_none b.ran_none;
  cause = cause_then Failed old mid new (Ok value) result a.ran_none.lasts.told a.cause b.cause;
}
  where
    both : (o : Option Tree) → option_map second (option_map first o) ≡ option_map whole o
    both None = refl
    both (Some tree) = ap Some (is tree)

    on_ok : (r : Result T WorldError) → OnOk r (new.tree ≡ option_map second mid.tree) → OnOk r (new.tree ≡ option_map whole old.tree)
    on_ok (Ok v) done = done ∙ ap (option_map second) a.done ∙ both old.tree
    on_ok (Err error) done = tt

-- a call that stopped did as much of any change
pub but_stopped : {A T : Type 0} (may : Path → Bool) (change other : Tree → Tree) (old new : State) (error : WorldError) → ChangesBut may change {T = A} old new (Err error) → ChangesBut may other {T = T} old new (Err error)
but_stopped may change other old new error c = record { done = tt; now = c.now; soft = c.soft; moments = c.moments; ran_none = c.ran_none; cause = cause_handed old new error c.cause }

-- nothing is done
pub but_none : {T : Type 0} (may : Path → Bool) (change : Tree → Tree) (state : State) (value : T) → ((tree : Tree) → tree ≡ change tree) → ChangesBut may change state state (Ok value)
but_none may change state value same = record {
  done = by state.tree;
  now = λ tree told. (tree, told, λ q none. refl);
  soft = refl;
  moments = λ tree told. adds_none _ state.history state.history refl;
  ran_none = (unchanged_none state).ran_none;
  cause = record { later = omega arith; rose = λ failed. absurd (done_not_failed value failed); steady = λ is. is; never = λ told is failed. done_not_failed value failed };
}
  where
    by : (o : Option Tree) → o ≡ option_map change o
    by None = refl
    by (Some tree) = ap Some (same tree)

-- ---- what calls do

pub but_steps : {T : Type 0} (may : Path → Bool) (change : Tree → Tree) (old new : State) (result : Result T WorldError) → ((tree : Tree) → IsSameBut may tree (change tree)) → StepsTo change old new result
    → ChangesBut may change old new result
but_steps may change old new result same s = record {
  done = s.done;
  now = λ tree told. let n = s.either tree told in (n.0, n.1, at_end tree n.0 n.2);
  soft = s.soft;
  moments = λ tree told. adds_wider _ (LeftBut may old.history.soft tree) old.history new.history (λ image left. record { mid = left.0; same = at_end tree left.0 left.1; left = left.2 }) (s.moments tree told);
  ran_none = s.ran_none;
  cause = s.cause;
}
  where
    at_end : (tree now : Tree) → IsEitherOf change tree now → IsSameBut may tree now
    at_end tree now (inl is) q none = ap (λ t. node_at t q) is
    at_end tree now (inr is) q none = ap (λ t. node_at t q) is ∙ same tree q none

-- a path is taken away
pub but_wipe : {T : Type 0} (path : Path) (old new : State) (result : Result T WorldError) → Wipes path old new result → ChangesBut (λ q. is_under q path) (wiped path) old new result
but_wipe path old new result w = record {
  done = w.done;
  now = λ tree told. let n = w.partly tree told in (n.0, n.1, partly tree n.0 n.2);
  soft = w.soft;
  moments = λ tree told. adds_wider _ (LeftBut (λ q. is_under q path) old.history.soft tree) old.history new.history
      (λ image left. record { mid = left.now; same = partly tree left.now left.partly; left = left.left }) (w.moments tree told);
  ran_none = w.ran_none;
  cause = w.cause;
}
  where
    partly : (tree now : Tree) → IsWipedInPart path tree now → IsSameBut (λ q. is_under q path) tree now
    partly tree now part q none = elim (part.each q) [ inl same ↦ same | inr gone ↦ absurd (true≢false (sym gone.0 ∙ none)) ]

pub same_with : (path : Path) (node : Node) (tree : Tree) → IsSameBut (λ q. is_under q path) tree (with_node path node tree)
same_with path node tree q none = with_node-apart tree path node q (λ is. true≢false (sym (ap (λ p. is_under p path) is ∙ under-self path) ∙ none))

-- a file is put
pub but_put : {T : Type 0} (path : Path) (bytes : List ℕ) (exec : Bool) (old new : State) (result : Result T WorldError) → Puts path bytes exec old new result
    → ChangesBut (λ q. is_under q path) (with_node path (nodes.File bytes exec)) old new result
but_put {T = T} path bytes exec old new result p = record {
  done = p.done;
  now = λ tree told. by tree told result p;
  soft = p.soft;
  moments = λ tree told. adds_wider _ (LeftBut (λ q. is_under q path) old.history.soft tree) old.history new.history (λ image left. elim left [
    | inl before ↦ record { mid = tree; same = λ q none. refl; left = subst (λ o. LeftOf old.history.soft o image) told before }
    | inr torn ↦ torn_left tree image (subst (λ o. TornOf path old.history.soft o image) told torn)
  ]) p.moments;
  ran_none = p.ran_none;
  cause = p.cause;
}
  where
    torn_left : (tree image : Tree) → TornOf path old.history.soft (Some tree) image → LeftBut (λ q. is_under q path) old.history.soft tree image
    torn_left tree image torn = record { mid = with_node path (nodes.File torn.0 torn.1) tree; same = same_with path (nodes.File torn.0 torn.1) tree; left = torn.2 }

    put : (tree : Tree) → old.tree ≡ Some tree → (some : List ℕ) (x : Bool) → new.tree ≡ option_map (with_node path (nodes.File some x)) old.tree → IsNowBut (λ q. is_under q path) new.tree tree
    put tree told some x is = (with_node path (nodes.File some x) tree, is ∙ ap (option_map (with_node path (nodes.File some x))) told, same_with path (nodes.File some x) tree)

    by : (tree : Tree) → old.tree ≡ Some tree → (r : Result T WorldError) → Puts path bytes exec old new r → IsNowBut (λ q. is_under q path) new.tree tree
    by tree told (Ok value) p = put tree told bytes exec p.done
    by tree told (Err Failed) p = elim (p.failed refl) [ inl same ↦ (tree, same ∙ told, λ q none. refl) | inr torn ↦ put tree told torn.bytes torn.exec torn.torn ]
    by tree told (Err NoMemory) p = (tree, p.no_memory refl ∙ told, λ q none. refl)

-- a directory is made, if it is
pub same_made : (path : Path) (tree : Tree) → IsSameBut (λ q. is_under q path) tree (made_dir_at path tree)
same_made path tree q none = by (not (is_some (node_at tree path)) && is_dir (node_at tree (parent path)))
  where
    by : (b : Bool) → node_at (cond b (with_node path nodes.Dir tree) tree) q ≡ node_at tree q
    by true = same_with path nodes.Dir tree q none
    by false = refl

-- what is below a path is below its parent
pub under_parent : (path q : Path) → is_under q path ≡ true → is_under q (parent path) ≡ true
under_parent path q under = over_over (parent path) path q (parent_under path) under

-- a node is made in one step
pub but_node : {T : Type 0} (path : Path) (node : Node) (old new : State) (result : Result T WorldError) → Changes (with_node path node) old new result
    → ChangesBut (λ q. is_under q path) (with_node path node) old new result
but_node path node old new result c =
    but_steps (λ q. is_under q path) (with_node path node) old new result (same_with path node)
    (steps_by_call (with_node path node) (with_node path node) old new result (λ tree told. refl) c)

-- ---- a loop that takes paths away

module _ (places : List Path) (i : ℕ) (place : Path) (within : i < length places) (is : place ≡ get_or places i place) (old now new : State)
    (done : ChangesBut (λ q. list_any (is_under q) places) (all_wiped (take i places)) {T = Unit {0}} old now (Ok tt)) where
  in_places : (q : Path) → is_under q place ≡ true → list_any (is_under q) places ≡ true
  in_places q under = list_any_at (is_under q) places i place within (ap (is_under q) (sym is) ∙ under)

  one_wiped : {T : Type 0} (result : Result T WorldError) → Wipes place now new result → ChangesBut (λ q. list_any (is_under q) places) (wiped place) now new result
  one_wiped result w = but_wider (λ q. is_under q place) (λ q. list_any (is_under q) places) (wiped place) now new result in_places (but_wipe place now new result w)

  pub wiped_more : (u : Unit {0}) → Wipes place now new (Ok u) → ChangesBut (λ q. list_any (is_under q) places) (all_wiped (take (i + 1) places)) {T = Unit {0}} old new (Ok u)
  wiped_more u w =
      but_then (λ q. list_any (is_under q) places) (all_wiped (take i places)) (wiped place) (all_wiped (take (i + 1) places)) old now new tt (Ok u)
      (λ tree. ap (λ p. wiped p (all_wiped (take i places) tree)) is ∙ sym (fold_more (λ t path. wiped path t) tree places i place within)) done (one_wiped (Ok u) w)

  pub wiped_stopped : (error : WorldError) → Wipes place {T = Unit {0}} now new (Err error) → ChangesBut (λ q. list_any (is_under q) places) (all_wiped places) {T = Unit {0}} old new (Err error)
  wiped_stopped error w =
      but_stopped (λ q. list_any (is_under q) places) (λ tree. wiped place (all_wiped (take i places) tree)) (all_wiped places) old new error
      (but_then (λ q. list_any (is_under q) places) (all_wiped (take i places)) (wiped place) (λ tree. wiped place (all_wiped (take i places) tree)) old now new tt (Err error) (λ tree. refl) done
      (one_wiped {T = Unit {0}} (Err error) w))

pub wiped_all : (places : List Path) (i : ℕ) (old now : State) → length places ≤ i → ChangesBut (λ q. list_any (is_under q) places) (all_wiped (take i places)) {T = Unit {0}} old now (Ok tt)
    → ChangesBut (λ q. list_any (is_under q) places) (all_wiped places) {T = Unit {0}} old now (Ok tt)
wiped_all places i old now all done = subst (λ l. ChangesBut (λ q. list_any (is_under q) places) (all_wiped l) {T = Unit {0}} old now (Ok tt)) (take_all i places all) done

-- ---- aside

pub aside_but : {T : Type 0} (roots : Roots) (may : Path → Bool) (change : Tree → Tree) (old new : State) (result : Result T WorldError) → ((q : Path) → may q ≡ true → is_aside roots q ≡ true)
    → ChangesBut may change old new result → WorksAside roots old new
aside_but roots may change old new result aside c = record {
  tree = λ tree told. let n = c.now tree told in (n.0, n.1, same_wider may (is_aside roots) aside tree n.0 n.2);
  soft = subst (AllByRecursion (IsOldOrAside roots old.history.soft)) (sym c.soft) (aside_none roots old).soft;
  moments = λ tree told. adds_wider _ (LeftAside roots old.history.soft tree) old.history new.history
      (λ image left. record { mid = left.mid; given = []; same = same_wider may (is_aside roots) aside tree left.mid left.same; aside = tt; left = left.left }) (c.moments tree told);
}

-- ---- how it stays aside

module _ {T : Type 0} (roots : Roots) where
  pub stays_done : {A : Type 0} (old new : State) (first : A) (value : T) → WorksAside roots old new → RanNone old new → HasCause {T = A} Failed old new (Ok first) → StaysAside roots old new (Ok value)
  stays_done old new first value aside ran_none c = record { aside = aside; ran_none = ran_none; unrefused = done_unrefused value; cause = done_cause old new first value c }

  pub stays_stopped : {A : Type 0} (old new : State) (error : WorldError) (stop : Stop) → stop ≡ stop_for error → WorksAside roots old new → RanNone old new → HasCause {T = A} Failed old new (Err error)
      → StaysAside roots {T = T} old new (Err stop)
  stays_stopped old new error stop is aside ran_none c = subst (λ s. StaysAside roots {T = T} old new (Err s)) (sym is)
      (record { aside = aside; ran_none = ran_none; unrefused = stop_unrefused error; cause = stop_cause old new error c })

  -- nothing was done, for want of memory
  pub stays_wanting : (state : State) → StaysAside roots {T = T} state state (Err stops.NoMemory)
  stays_wanting state = stays_stopped {A = T} state state NoMemory stops.NoMemory refl (aside_none roots state) (unchanged_none state).ran_none (wanting_cause state)
