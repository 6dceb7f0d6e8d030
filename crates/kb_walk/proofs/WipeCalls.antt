-- What the calls that take a path away do, put together.
use Rattle.std.proofs.Common.{◌≡◌, ◌⊎◌, ℕ, true, false, List, Option, Some, None, Result, Ok, Err, map, drop, refl, sym, ap, ◌∙◌, subst, inl, inr}
use Rattle.std.specs.Prelude.{option_map, IsErrOf, IsTrue, OnOk}
use Rattle.std.specs.Option.{ForSome}
use Rattle.kb_world.specs.Path.{Path}
use Rattle.kb_world.specs.Tree.{Tree, node_at, without, kind_of, is_dir, is_leaf, IsFormed, IsEmptyDir}
use Rattle.kb_world.specs.Area.{IsLeft}
use Rattle.kb_world.specs.Crash.{LeftOf, History, Adds}
use Rattle.kb_world.specs.State.{State, Changes, Looks, Unchanged, HasCause}
use Rattle.kb_world.specs.declared.child.Area.{Area}
use Rattle.kb_world.specs.declared.tree.Node.{Node}
use Rattle.kb_world.specs.declared.tree.Node.TheVariants as nodes
use Rattle.kb_world.specs.declared.tree.Kind.{Kind}
use Rattle.kb_world.specs.declared.tree.Kind.TheVariants as kinds
use Rattle.kb_world.specs.declared.world.WorldError.{WorldError}
use Rattle.kb_world.specs.declared.world.WorldError.TheVariants.{Failed, NoMemory}
use Rattle.kb_world.proofs.CrashLaws.{adds_then, adds_wider, adds_none, turns_adds}
use Rattle.kb_world.proofs.CallLaws.{cause_then, ran_none_then}
use Rattle.kb_walk.specs.Walking.{entries, paths_below, met_at}
use Rattle.kb_walk.specs.declared.walking.Met.{Met}
use Rattle.kb_walk.specs.Wipe.{IsWipedInPart, LeftOfWipe, TakesAway, Wipes, without_all, without_tree, emptied}
use Rattle.kb_walk.proofs.MemberLaws.{skips_none}
use Rattle.kb_walk.proofs.WipeLaws.{part_wiped, all_emptied, emptied_then_gone, bare_gone, nothing_gone, unwiped, whole_wiped, emptied_dir}
use Rattle.kb_walk.proofs.WipeLoop.{HasWiped, HasStopped, LeftWiped, path_of, paths_of_met, told_from, absent_stands}

-- the trait's law of a told tree
abbrev pub HasFormedTree : State → Type 0
HasFormedTree state = ForSome state.tree IsFormed

-- ---- the entries below a directory

-- what a crash leaves of a tree whose last entries are gone it leaves of a wipe
left_of_wipe : (soft : List Area) (tree : Tree) (formed : IsFormed tree) (start : Path) (image : Tree) → LeftWiped soft (paths_below tree start) tree image → LeftOfWipe soft start tree image
left_of_wipe soft tree formed start image left = record { now = without_all (drop left.0 (paths_below tree start)) tree; partly = part_wiped tree formed start left.0; left = left.1 }

module _ (old new : State) (start : Path) (mets : List Met) (formed : HasFormedTree old) (all : ForSome old.tree (λ tree. mets ≡ map (met_at tree) (paths_below tree start))) where
  paths_are : (tree : Tree) → old.tree ≡ Some tree → map path_of mets ≡ paths_below tree start
  paths_are tree told = paths_of_met mets start tree (all tree told)

  wipe_moments : ForSome old.tree (λ tree. Adds (LeftWiped old.history.soft (map path_of mets) tree) old.history new.history)
      → ForSome old.tree (λ tree. Adds (LeftOfWipe old.history.soft start tree) old.history new.history)
  wipe_moments moments tree told =
      adds_wider _ (LeftOfWipe old.history.soft start tree) old.history new.history
      (λ image left. left_of_wipe old.history.soft tree (formed tree told) start image (subst (λ l. LeftWiped old.history.soft l tree image) (paths_are tree told) left)) (moments tree told)

  -- all are gone
  pub entries_gone : (u : Unit {0}) (n : ℕ) → n ≡ 0 → HasWiped old new (map path_of mets) n → TakesAway (emptied start) start old new (Ok u)
  entries_gone u n none h = record {
    done = by old.tree refl;
    partly = λ tree told. (without_all (paths_below tree start) tree, there tree told, part_wiped tree (formed tree told) start 0);
    soft = h.soft;
    moments = wipe_moments h.moments;
    ran_none = h.ran_none;
    cause = record {
      later = h.later;
      rose = λ failed. let impossible : Ok u ≡ Err Failed = failed in cc;
      steady = h.steady;
      never = λ told is failed. let impossible : Ok u ≡ Err Failed = failed in cc;
    };
  }
    where
      there : (tree : Tree) → old.tree ≡ Some tree → new.tree ≡ Some (without_all (paths_below tree start) tree)
      there tree told = h.tree ∙ ap (option_map (without_all (drop n (map path_of mets)))) told ∙ ap (λ k. Some (without_all (drop k (map path_of mets)) tree)) none ∙ ap (λ l. Some (without_all l tree)) (paths_are tree told)

      by : (o : Option Tree) → old.tree ≡ o → new.tree ≡ option_map (emptied start) old.tree
      by None e = h.tree ∙ ap (option_map (without_all (drop n (map path_of mets)))) e ∙ sym (ap (option_map (emptied start)) e)
      by (Some tree) e = there tree e ∙ ap Some (all_emptied tree start) ∙ sym (ap (option_map (emptied start)) e)

  -- a call stopped it
  pub entries_stopped : (error : WorldError) → HasStopped old new (map path_of mets) error → TakesAway (emptied start) start {T = Unit {0}} old new (Err error)
  entries_stopped error h = record {
    done = tt;
    partly = λ tree told.
        let left = h.partly tree told in
        (without_all (drop left.0 (paths_below tree start)) tree, left.1 ∙ ap (λ l. Some (without_all (drop left.0 l) tree)) (paths_are tree told), part_wiped tree (formed tree told) start left.0);
    soft = h.soft;
    moments = wipe_moments h.moments;
    ran_none = h.ran_none;
    cause = h.cause;
  }

-- ---- one node

-- the tree before, or the tree without the path and all below it
abbrev IsEither : Path → Tree → Tree → Type 0
IsEither path tree now = (now ≡ tree) ⊎ (now ≡ without_tree path tree)

either_wiped : (path : Path) (tree now : Tree) → IsFormed tree → IsEither path tree now → IsWipedInPart path tree now
either_wiped path tree now formed (inl same) = subst (IsWipedInPart path tree) (sym same) (unwiped path tree formed)
either_wiped path tree now formed (inr gone) = subst (IsWipedInPart path tree) (sym gone) (whole_wiped path tree formed)

-- Where the change takes away the path and all below it, at each told tree, a call that makes it does so.
module _ {T : Type 0} (path : Path) (change : Tree → Tree) (old new : State) (result : Result T WorldError) (formed : HasFormedTree old)
    (is : ForSome old.tree (λ tree. change tree ≡ without_tree path tree)) (c : Changes change old new result) where
  changed_both : (o : Option Tree) → old.tree ≡ o → option_map change old.tree ≡ option_map (without_tree path) old.tree
  changed_both None e = ap (option_map change) e ∙ sym (ap (option_map (without_tree path)) e)
  changed_both (Some tree) e = ap (option_map change) e ∙ ap Some (is tree e) ∙ sym (ap (option_map (without_tree path)) e)

  on_ok : (r : Result T WorldError) → OnOk r (new.tree ≡ option_map change old.tree) → OnOk r (new.tree ≡ option_map (without_tree path) old.tree)
  on_ok (Ok value) done = done ∙ changed_both old.tree refl
  on_ok (Err error) done = tt

  after : (tree : Tree) → old.tree ≡ Some tree → (r : Result T WorldError) → Changes change old new r → (now : Tree) × (new.tree ≡ Some now) × IsEither path tree now
  after tree told (Ok value) c = (without_tree path tree, c.done ∙ ap (option_map change) told ∙ ap Some (is tree told), inr refl)
  after tree told (Err Failed) c = elim (c.failed refl) [
    | inl same ↦ (tree, same ∙ told, inl refl)
    | inr done ↦ (without_tree path tree, done ∙ ap (option_map change) told ∙ ap Some (is tree told), inr refl)
  ]
  after tree told (Err NoMemory) c = (tree, c.no_memory refl ∙ told, inl refl)

  pub takes_one : Wipes path old new result
  takes_one = record {
    done = on_ok result c.done;
    partly = λ tree told. let now = after tree told result c in (now.0, now.1, either_wiped path tree now.0 (formed tree told) now.2);
    soft = c.soft;
    moments = λ tree told. adds_wider _ (LeftOfWipe old.history.soft path tree) old.history new.history (λ image left. elim left [
      | inl before ↦ record { now = tree; partly = unwiped path tree (formed tree told); left = subst (λ o. LeftOf old.history.soft o image) told before }
      | inr behind ↦ record {
        now = without_tree path tree;
        partly = whole_wiped path tree (formed tree told);
        left = subst (λ o. LeftOf old.history.soft o image) (ap (option_map change) told ∙ ap Some (is tree told)) behind;
      }
    ]) (turns_adds _ _ old.history new.history c.moments);
    ran_none = c.ran_none;
    cause = c.cause;
  }

-- ---- one after another

-- a directory is emptied, and then it goes itself
module _ {T : Type 0} (path : Path) (old mid new : State) (result : Result T WorldError) (formed : HasFormedTree old) (formed_mid : HasFormedTree mid)
    (a : TakesAway (emptied path) path {T = Unit {0}} old mid (Ok tt)) (c : Changes (without path) mid new result) where
  mid_told : (tree : Tree) → old.tree ≡ Some tree → mid.tree ≡ Some (emptied path tree)
  mid_told tree told = a.done ∙ ap (option_map (emptied path)) told

  both : (o : Option Tree) → option_map (without path) (option_map (emptied path) o) ≡ option_map (without_tree path) o
  both None = refl
  both (Some tree) = ap Some (emptied_then_gone path tree)

  -- the last step from the emptied tree
  last_either : (tree : Tree) → old.tree ≡ Some tree → (r : Result T WorldError) → Changes (without path) mid new r → (now : Tree) × (new.tree ≡ Some now) × ((now ≡ emptied path tree) ⊎ (now ≡ without_tree path tree))
  last_either tree told (Ok value) c = (without_tree path tree, c.done ∙ ap (option_map (without path)) (mid_told tree told) ∙ ap Some (emptied_then_gone path tree), inr refl)
  last_either tree told (Err Failed) c = elim (c.failed refl) [
    | inl same ↦ (emptied path tree, same ∙ mid_told tree told, inl refl)
    | inr done ↦ (without_tree path tree, done ∙ ap (option_map (without path)) (mid_told tree told) ∙ ap Some (emptied_then_gone path tree), inr refl)
  ]
  last_either tree told (Err NoMemory) c = (emptied path tree, c.no_memory refl ∙ mid_told tree told, inl refl)

  on_both : (r : Result T WorldError) → OnOk r (new.tree ≡ option_map (without path) mid.tree) → OnOk r (new.tree ≡ option_map (without_tree path) old.tree)
  on_both (Ok value) done = done ∙ ap (option_map (without path)) a.done ∙ both old.tree
  on_both (Err error) done = tt

  emptied_part : (tree : Tree) → old.tree ≡ Some tree → IsWipedInPart path tree (emptied path tree)
  emptied_part tree told = subst (IsWipedInPart path tree) (all_emptied tree path) (part_wiped tree (formed tree told) path 0)

  pub emptied_and_gone : Wipes path old new result
  emptied_and_gone = record {
    done = on_both result c.done;
    partly = λ tree told.
        let now = last_either tree told result c in
        (now.0, now.1, elim now.2 [ inl same ↦ subst (IsWipedInPart path tree) (sym same) (emptied_part tree told) | inr gone ↦ subst (IsWipedInPart path tree) (sym gone) (whole_wiped path tree (formed tree told)) ]);
    soft = c.soft ∙ a.soft;
    moments = λ tree told. adds_then _ old.history mid.history new.history (a.moments tree told) (adds_wider _ (LeftOfWipe old.history.soft path tree) mid.history new.history (λ image left. elim left [
      | inl before ↦ record {
        now = emptied path tree;
        partly = emptied_part tree told;
        left = subst (λ s. IsLeft s (emptied path tree) image) a.soft (subst (λ o. LeftOf mid.history.soft o image) (mid_told tree told) before);
      }
      | inr behind ↦ record {
        now = without_tree path tree;
        partly = whole_wiped path tree (formed tree told);
        left = subst (λ s. IsLeft s (without_tree path tree) image) a.soft
            (subst (λ o. LeftOf mid.history.soft o image) (ap (option_map (without path)) (mid_told tree told) ∙ ap Some (emptied_then_gone path tree)) behind);
      }
    ]) (turns_adds _ _ mid.history new.history c.moments));
    ran_none = ran_none_then old mid new a.ran_none c.ran_none;
    cause = cause_then Failed old mid new (Ok tt) result a.ran_none.lasts.told a.cause c.cause;
  }

-- ---- behind a call that only looked

pub takes_since : {A T : Type 0} (change : Tree → Tree) (path : Path) (old mid new : State) (looked : Result A WorldError) (result : Result T WorldError) → Looks old mid looked
    → TakesAway change path mid new result → TakesAway change path old new result
takes_since change path old mid new looked result l t = record {
  done = subst (λ o. OnOk result (new.tree ≡ option_map change o)) l.unchanged.tree t.done;
  partly = λ tree told. t.partly tree (l.unchanged.tree ∙ told);
  soft = t.soft ∙ ap (λ (h : History). h.soft) l.unchanged.history;
  moments = λ tree told. subst (λ h. Adds (LeftOfWipe h.soft path tree) h new.history) l.unchanged.history (t.moments tree (l.unchanged.tree ∙ told));
  ran_none = ran_none_then old mid new l.unchanged.ran_none t.ran_none;
  cause = cause_then Failed old mid new looked result l.unchanged.ran_none.lasts.told l.cause t.cause;
}

-- a call that looked stopped it, or found nothing
pub takes_nothing : {A T : Type 0} (change : Tree → Tree) (path : Path) (old new : State) (looked : Result A WorldError) (result : Result T WorldError) → HasFormedTree old → Looks old new looked
    → OnOk result (ForSome old.tree (λ tree. tree ≡ change tree)) → HasCause Failed old new result → TakesAway change path old new result
takes_nothing {T = T} change path old new looked result formed l same cause = record {
  done = on_ok result same;
  partly = λ tree told. (tree, l.unchanged.tree ∙ told, unwiped path tree (formed tree told));
  soft = ap (λ (h : History). h.soft) l.unchanged.history;
  moments = λ tree told. adds_none _ old.history new.history (ap (λ (h : History). h.past) l.unchanged.history);
  ran_none = l.unchanged.ran_none;
  cause = cause;
}
  where
    by : (o : Option Tree) → old.tree ≡ o → ForSome old.tree (λ tree. tree ≡ change tree) → new.tree ≡ option_map change old.tree
    by None e each = l.unchanged.tree ∙ e ∙ sym (ap (option_map change) e)
    by (Some tree) e each = l.unchanged.tree ∙ e ∙ ap Some (each tree e) ∙ sym (ap (option_map change) e)

    on_ok : (r : Result T WorldError) → OnOk r (ForSome old.tree (λ tree. tree ≡ change tree)) → OnOk r (new.tree ≡ option_map change old.tree)
    on_ok (Ok value) each = by old.tree refl each
    on_ok (Err error) each = tt

-- ---- how the answers of calls go on

-- the cause of an error is that of another call's that hands it on
pub cause_handed : {A T : Type 0} (old new : State) (error : WorldError) → HasCause {T = A} Failed old new (Err error) → HasCause {T = T} Failed old new (Err error)
cause_handed old new Failed c = record { later = c.later; rose = λ failed. c.rose refl; steady = c.steady; never = λ told is failed. c.never told is refl }
cause_handed {T = T} old new NoMemory c = record {
  later = c.later;
  rose = λ failed. let impossible : stopped NoMemory ≡ stopped Failed = failed in cc;
  steady = c.steady;
  never = λ told is failed. let impossible : stopped NoMemory ≡ stopped Failed = failed in cc;
}
  where
    stopped : WorldError → Result T WorldError
    stopped error = Err error

-- a call that looked and stopped takes nothing away
pub takes_none : {A T : Type 0} (change : Tree → Tree) (path : Path) (old new : State) (error : WorldError) → HasFormedTree old → Looks {T = A} old new (Err error) → TakesAway change path {T = T} old new (Err error)
takes_none change path old new error formed l = takes_nothing change path old new (Err error) (Err error) formed l tt (cause_handed old new error l.cause)

-- a call that stopped did as much of any change
pub takes_part : {T : Type 0} (change other : Tree → Tree) (path : Path) (old new : State) (error : WorldError) → TakesAway change path {T = T} old new (Err error) → TakesAway other path {T = T} old new (Err error)
takes_part change other path old new error t = record { done = tt; partly = t.partly; soft = t.soft; moments = t.moments; ran_none = t.ran_none; cause = t.cause }

pub done_not_failed : {T : Type 0} (value : T) → IsErrOf {T = T} {E = WorldError} (Ok value) Failed → ⊥
done_not_failed value failed = let impossible : Ok value ≡ Err Failed = failed in cc

-- nothing stands there
pub absent_wiped : (path : Path) (old new : State) (kind : Kind) → HasFormedTree old → Looks old new (Ok kind) → kind ≡ kinds.Absent → ForSome old.tree (λ tree. kind ≡ kind_of (node_at tree path))
    → Wipes path {T = Unit {0}} old new (Ok tt)
absent_wiped path old new kind formed l absent is =
    takes_nothing (without_tree path) path old new (Ok kind) (Ok tt) formed l (λ tree told. nothing_gone tree (formed tree told) path (absent_stands (node_at tree path) kind absent (is tree told)))
    (record { later = l.cause.later; rose = λ failed. absurd (done_not_failed tt failed); steady = l.cause.steady; never = λ told is failed. done_not_failed tt failed })

not_directory : (at : Option Node) → IsTrue (is_leaf at) → is_dir at ≡ false
not_directory None leaf = refl
not_directory (Some nodes.Dir) leaf = let impossible : false ≡ true = leaf in cc
not_directory (Some (nodes.File bytes exec)) leaf = refl
not_directory (Some (nodes.Link text)) leaf = refl

-- a file or a link goes
pub leaf_wiped : {A T : Type 0} (path : Path) (old mid new : State) (looked : Result A WorldError) (result : Result T WorldError) → HasFormedTree mid → Looks old mid looked
    → ForSome mid.tree (λ tree. IsTrue (is_leaf (node_at tree path))) → Changes (without path) mid new result → Wipes path old new result
leaf_wiped path old mid new looked result formed l leaf c =
    takes_since (without_tree path) path old mid new looked result l
    (takes_one path (without path) mid new result formed (λ tree told. bare_gone tree (formed tree told) path (not_directory (node_at tree path) (leaf tree told))) c)

-- a directory that was emptied can be taken away
pub dir_left : (path : Path) (old mid new : State) (looked : Unchanged old mid) → TakesAway (emptied path) path {T = Unit {0}} mid new (Ok tt)
    → ForSome old.tree (λ tree. is_dir (node_at tree path) ≡ true) → ForSome new.tree (λ tree. IsEmptyDir tree path)
dir_left path old mid new looked t there tree told =
    let was = told_from old.tree (emptied path) tree (sym (t.done ∙ ap (option_map (emptied path)) looked.tree) ∙ told) in
    subst (λ n. IsEmptyDir n path) was.2 (emptied_dir path was.0 (there was.0 was.1))

-- a walk that skips nothing meets all that is below
pub all_met : (old mid : State) (path : Path) (met : List Met) → Unchanged old mid → ForSome old.tree (λ tree. met ≡ map (met_at tree) (entries tree (λ q. false) path))
    → ForSome mid.tree (λ tree. met ≡ map (met_at tree) (paths_below tree path))
all_met old mid path met same is tree told = is tree (sym same.tree ∙ told) ∙ ap (map (met_at tree)) (skips_none tree path)
