-- Changes that are one file operation: what a call makes of them, behind looks that found it allowed or not.
use Rattle.std.proofs.Common.{◌≡◌, ◌⊎◌, ℕ, Bool, true, false, cond, ◌&&◌, ◌||◌, not, List, [], ◌∷◌, Option, Some, None, is_some, Result, Ok, Err, refl, sym, ap, ◌∙◌, subst, inl, inr, arith}
use Rattle.std.specs.Prelude.{option_map, filter, flat_map, OnOk, nat_eq, length}
use Rattle.std.specs.List.{list_any}
use Rattle.std.specs.Option.{ForSome}
use Rattle.std.specs.FinMap.{keys, remove}
use Rattle.kb_world.specs.Path.{Path, parent, child}
use Rattle.kb_world.specs.Roots.{is_below}
use Rattle.kb_world.specs.Steps.{tidied}
use Rattle.kb_world.specs.Tree.{Tree, node_at, with_node, without, moved, is_dir, is_leaf, children, IsFormed}
use Rattle.kb_world.specs.Crash.{History, LeftOf, Adds}
use Rattle.kb_world.specs.State.{State, Changes, Looks, HasCause}
use Rattle.kb_world.specs.declared.tree.Node.{Node}
use Rattle.kb_world.specs.declared.tree.Node.TheVariants as nodes
use Rattle.kb_world.specs.declared.world.WorldError.{WorldError}
use Rattle.kb_world.specs.declared.world.WorldError.TheVariants.{Failed, NoMemory}
use Rattle.kb_world.proofs.CrashLaws.{adds_none, adds_wider, turns_adds}
use Rattle.kb_world.proofs.CallLaws.{cause_then, ran_none_then}
use Rattle.kb_walk.specs.Walking.{paths_below}
use Rattle.kb_walk.proofs.WalkLaws.{below_entries}
use Rattle.kb_walk.proofs.WipeCalls.{cause_handed, done_not_failed}
use Rattle.kb_intent.specs.Doing.{StepsTo, IsEitherNow, LeftOfEither, made_dir_at, dropped_leaf_at, put_staged_at}

-- a world's call that makes the change
module _ {T : Type 0} (change by_call : Tree → Tree) (old new : State) (result : Result T WorldError) (is : ForSome old.tree (λ tree. by_call tree ≡ change tree)) (c : Changes by_call old new result) where
  both : (o : Option Tree) → old.tree ≡ o → option_map by_call old.tree ≡ option_map change old.tree
  both None e = ap (option_map by_call) e ∙ sym (ap (option_map change) e)
  both (Some tree) e = ap (option_map by_call) e ∙ ap Some (is tree e) ∙ sym (ap (option_map change) e)

  on_ok : (r : Result T WorldError) → OnOk r (new.tree ≡ option_map by_call old.tree) → OnOk r (new.tree ≡ option_map change old.tree)
  on_ok (Ok value) done = done ∙ both old.tree refl
  on_ok (Err error) done = tt

  either : (tree : Tree) → old.tree ≡ Some tree → (r : Result T WorldError) → Changes by_call old new r → IsEitherNow change new.tree tree
  either tree told (Ok value) c = (change tree, c.done ∙ ap (option_map by_call) told ∙ ap Some (is tree told), inr refl)
  either tree told (Err Failed) c = elim (c.failed refl) [
    | inl same ↦ (tree, same ∙ told, inl refl)
    | inr done ↦ (change tree, done ∙ ap (option_map by_call) told ∙ ap Some (is tree told), inr refl)
  ]
  either tree told (Err NoMemory) c = (tree, c.no_memory refl ∙ told, inl refl)

  pub steps_by_call : StepsTo change old new result
  steps_by_call = record {
    done = on_ok result c.done;
    either = λ tree told. either tree told result c;
    soft = c.soft;
    moments = λ tree told. adds_wider _ (LeftOfEither change old.history.soft tree) old.history new.history (λ image left. elim left [
      | inl before ↦ (tree, inl refl, subst (λ o. LeftOf old.history.soft o image) told before)
      | inr behind ↦ (change tree, inr refl, subst (λ o. LeftOf old.history.soft o image) (ap (option_map by_call) told ∙ ap Some (is tree told)) behind)
    ]) (turns_adds _ _ old.history new.history c.moments);
    ran_none = c.ran_none;
    cause = c.cause;
  }

-- behind a look
pub steps_since : {A T : Type 0} (change : Tree → Tree) (old mid new : State) (looked : Result A WorldError) (result : Result T WorldError) → Looks old mid looked → StepsTo change mid new result → StepsTo change old new result
steps_since change old mid new looked result l s = record {
  done = subst (λ o. OnOk result (new.tree ≡ option_map change o)) l.unchanged.tree s.done;
  either = λ tree told. s.either tree (l.unchanged.tree ∙ told);
  soft = s.soft ∙ ap (λ (h : History). h.soft) l.unchanged.history;
  moments = λ tree told. subst (λ h. Adds (LeftOfEither change h.soft tree) h new.history) l.unchanged.history (s.moments tree (l.unchanged.tree ∙ told));
  ran_none = ran_none_then old mid new l.unchanged.ran_none s.ran_none;
  cause = cause_then Failed old mid new looked result l.unchanged.ran_none.lasts.told l.cause s.cause;
}

-- a look after which nothing is done
module _ {A : Type 0} (change : Tree → Tree) (old new : State) (looked : Result A WorldError) (l : Looks old new looked) where
  as_it_was : (tree : Tree) → old.tree ≡ Some tree → IsEitherNow change new.tree tree
  as_it_was tree told = (tree, l.unchanged.tree ∙ told, inl refl)

  pub steps_nowhere : {T : Type 0} (result : Result T WorldError) → OnOk result (new.tree ≡ option_map change old.tree) → HasCause Failed old new result → StepsTo change old new result
  steps_nowhere result done cause = record {
    done = done;
    either = as_it_was;
    soft = ap (λ (h : History). h.soft) l.unchanged.history;
    moments = λ tree told. adds_none _ old.history new.history (ap (λ (h : History). h.past) l.unchanged.history);
    ran_none = l.unchanged.ran_none;
    cause = cause;
  }

pub steps_stopped : {A T : Type 0} (change : Tree → Tree) (old new : State) (error : WorldError) → Looks {T = A} old new (Err error) → StepsTo change {T = T} old new (Err error)
steps_stopped change old new error l = steps_nowhere change old new (Err error) l (Err error) tt (cause_handed old new error l.cause)

-- it wasn't allowed, and the change does nothing then
pub steps_none : {A : Type 0} (change : Tree → Tree) (old new : State) (told : A) → Looks old new (Ok told) → ForSome old.tree (λ tree. change tree ≡ tree) → StepsTo change {T = Unit {0}} old new (Ok tt)
steps_none change old new told l same = steps_nowhere change old new (Ok told) l {T = Unit {0}} (Ok tt) (by old.tree refl) (record {
  later = l.cause.later;
  rose = λ failed. absurd (done_not_failed tt failed);
  steady = l.cause.steady;
  never = λ is steady failed. done_not_failed tt failed;
})
  where
    by : (o : Option Tree) → old.tree ≡ o → new.tree ≡ option_map change old.tree
    by None e = l.unchanged.tree ∙ e ∙ sym (ap (option_map change) e)
    by (Some tree) e = l.unchanged.tree ∙ e ∙ ap Some (sym (same tree e)) ∙ sym (ap (option_map change) e)

-- ---- what is allowed

is_none : (at : Option Node) → true ≡ not (is_some at) → at ≡ None
is_none None e = refl
is_none (Some node) e = let impossible : true ≡ false = e in absurd (cc)

-- a test with this answer
by_three : (a b c : Bool) (x y : Tree) → a ≡ true → b ≡ true → c ≡ true → cond (a && b && c) x y ≡ x
by_three a b c x y e f g = rw (e, f, g)

pub made : (path : Path) (tree : Tree) → node_at tree path ≡ None → true ≡ is_dir (node_at tree (parent path)) → with_node path nodes.Dir tree ≡ made_dir_at path tree
made path tree free directory = sym (rw (free, sym directory))

pub unmade_taken : (path : Path) (tree : Tree) → false ≡ not (is_some (node_at tree path)) → made_dir_at path tree ≡ tree
unmade_taken path tree taken = rw (sym taken)

pub unmade_homeless : (path : Path) (tree : Tree) → false ≡ is_dir (node_at tree (parent path)) → made_dir_at path tree ≡ tree
unmade_homeless path tree homeless = by (not (is_some (node_at tree path))) (is_dir (node_at tree (parent path))) (sym homeless)
  where
    by : (a b : Bool) → b ≡ false → cond (a && b) (with_node path nodes.Dir tree) tree ≡ tree
    by true b e = rw e
    by false b e = refl

pub dropped : (path : Path) (tree : Tree) → true ≡ is_leaf (node_at tree path) → without path tree ≡ dropped_leaf_at path tree
dropped path tree leaf = sym (rw (sym leaf))

pub undropped : (path : Path) (tree : Tree) → false ≡ is_leaf (node_at tree path) → dropped_leaf_at path tree ≡ tree
undropped path tree none = rw (sym none)

-- ---- directories without entries

abbrev is_nil : {A : Type 0} → List A → Bool
is_nil [] = true
is_nil (x ∷ xs) = false

any_below : (path : Path) (paths : List Path) → list_any (λ other. is_below other path) paths ≡ not (is_nil (filter (λ other. is_below other path) paths))
any_below path [] = refl
any_below path (x ∷ paths) = by (is_below x path) (any_below path paths)
  where
    by : (b : Bool) → list_any (λ other. is_below other path) paths ≡ not (is_nil (filter (λ other. is_below other path) paths))
        → (b || list_any (λ other. is_below other path) paths) ≡ not (is_nil (cond b (x ∷ filter (λ other. is_below other path) paths) (filter (λ other. is_below other path) paths)))
    by true later = refl
    by false later = later

none_below : (tree : Tree) → IsFormed tree → (path : Path) → children tree path ≡ [] → paths_below tree path ≡ []
none_below tree formed path none = below_entries tree formed path ∙ ap (flat_map (λ name. child path name ∷ paths_below tree (child path name))) none

some_below : (tree : Tree) → IsFormed tree → (path : Path) (name : List ℕ) (names : List (List ℕ)) → children tree path ≡ name ∷ names → is_nil (paths_below tree path) ≡ false
some_below tree formed path name names is = ap is_nil (below_entries tree formed path ∙ ap (flat_map (λ n. child path n ∷ paths_below tree (child path n))) is)

pub tidied_empty : (tree : Tree) → IsFormed tree → (path : Path) → is_dir (node_at tree path) ≡ true → children tree path ≡ [] → without path tree ≡ tidied path tree
tidied_empty tree formed path directory none =
    let nothing : list_any (λ other. is_below other path) (keys tree) ≡ false = any_below path (keys tree) ∙ ap (λ l. not (is_nil l)) (none_below tree formed path none) in
    sym (rw (directory, nothing))

pub untidied_full : (tree : Tree) → IsFormed tree → (path : Path) → nat_eq (length (children tree path)) 0 ≡ false → tidied path tree ≡ tree
untidied_full tree formed path some = by (children tree path) refl some
  where
    closed : list_any (λ other. is_below other path) (keys tree) ≡ true → tidied path tree ≡ tree
    closed full = by_dir (is_dir (node_at tree path)) (list_any (λ other. is_below other path) (keys tree)) full
      where
        by_dir : (a b : Bool) → b ≡ true → cond (a && not b) (remove tree path) tree ≡ tree
        by_dir true b e = rw e
        by_dir false b e = refl

    by : (names : List (List ℕ)) → children tree path ≡ names → nat_eq (length names) 0 ≡ false → tidied path tree ≡ tree
    by [] e some = let impossible : true ≡ false = some in absurd (cc)
    by (name ∷ names) e some = closed (any_below path (keys tree) ∙ ap not (some_below tree formed path name names e))

pub untidied_other : (tree : Tree) (path : Path) → false ≡ is_dir (node_at tree path) → tidied path tree ≡ tree
untidied_other tree path other = rw (sym other)

-- ---- what is staged

pub put : (staged target : Path) (tree : Tree) → is_leaf (node_at tree staged) ≡ true → is_dir (node_at tree target) ≡ false → true ≡ is_dir (node_at tree (parent target)) → moved staged target tree ≡ put_staged_at staged target tree
put staged target tree leaf free directory = sym (by_three (is_leaf (node_at tree staged)) (not (is_dir (node_at tree target))) (is_dir (node_at tree (parent target))) (moved staged target tree) tree leaf (ap not free) (sym directory))

unput : (a b c : Bool) (x y : Tree) → (a ≡ false) ⊎ ((b ≡ false) ⊎ (c ≡ false)) → cond (a && b && c) x y ≡ y
unput a b c x y (inl e) = rw e
unput true b c x y (inr (inl e)) = rw e
unput false b c x y (inr (inl e)) = refl
unput true true c x y (inr (inr e)) = rw e
unput true false c x y (inr (inr e)) = refl
unput false b c x y (inr (inr e)) = refl

pub unput_absent : (staged target : Path) (tree : Tree) → false ≡ is_leaf (node_at tree staged) → put_staged_at staged target tree ≡ tree
unput_absent staged target tree e = unput (is_leaf (node_at tree staged)) (not (is_dir (node_at tree target))) (is_dir (node_at tree (parent target))) (moved staged target tree) tree (inl (sym e))

pub unput_taken : (staged target : Path) (tree : Tree) → true ≡ is_dir (node_at tree target) → put_staged_at staged target tree ≡ tree
unput_taken staged target tree e = unput (is_leaf (node_at tree staged)) (not (is_dir (node_at tree target))) (is_dir (node_at tree (parent target))) (moved staged target tree) tree (inr (inl (ap not (sym e))))

pub unput_homeless : (staged target : Path) (tree : Tree) → false ≡ is_dir (node_at tree (parent target)) → put_staged_at staged target tree ≡ tree
unput_homeless staged target tree e = unput (is_leaf (node_at tree staged)) (not (is_dir (node_at tree target))) (is_dir (node_at tree (parent target))) (moved staged target tree) tree (inr (inr (sym e)))

-- ---- a look with this answer, over the tree that is told

-- what a test told of the tree before it holds of the tree after it
module _ {A : Type 0} (old mid : State) (looked : Result A WorldError) (l : Looks old mid looked) where
  pub told_after : (P : Tree → Type 0) → ForSome old.tree P → ForSome mid.tree P
  told_after P holds tree told = holds tree (sym l.unchanged.tree ∙ told)

pub answered : (b c : Bool) (old : State) (test : Tree → Bool) → ForSome old.tree (λ tree. b ≡ test tree) → b ≡ c → ForSome old.tree (λ tree. c ≡ test tree)
answered b c old test told is tree there = sym is ∙ told tree there

pub of_parent : (b : Bool) (old : State) (above path : Path) → above ≡ parent path → ForSome old.tree (λ tree. b ≡ is_dir (node_at tree above)) → ForSome old.tree (λ tree. b ≡ is_dir (node_at tree (parent path)))
of_parent b old above path is told tree there = told tree there ∙ ap (λ p. is_dir (node_at tree p)) is

pub nothing_there : (old : State) (path : Path) → ForSome old.tree (λ tree. true ≡ not (is_some (node_at tree path))) → ForSome old.tree (λ tree. node_at tree path ≡ None)
nothing_there old path told tree there = is_none (node_at tree path) (told tree there)

pub no_names : (names : List (List ℕ)) → nat_eq (length names) 0 ≡ true → names ≡ []
no_names [] e = refl
no_names (name ∷ names) e = absurd (omega (arith, nat_is (length (name ∷ names)) e))
  where
    nat_is : (n : ℕ) → nat_eq n 0 ≡ true → n ≡ 0
    nat_is n e = grind arith
