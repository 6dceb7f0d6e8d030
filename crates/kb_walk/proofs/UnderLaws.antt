-- Calls that change at or under a path alone, one after another.
use Rattle.std.proofs.Common.{◌≡◌, ℕ, Bool, true, false, cond, ◌||◌, append_assoc, List, [], ◌∷◌, Some, is_some, Result, Ok, Err, refl, sym, ap, ◌∙◌, subst, inl, inr, drop, length, ◌++◌}
use Rattle.std.specs.Prelude.{option_map, IsErrOf}
use Rattle.std.specs.Option.{ForSome}
use Rattle.kb_world.specs.Path.{Path, parent, is_under}
use Rattle.kb_world.specs.Tree.{Tree, node_at, is_dir, with_node, CanMake, IsFormed}
use Rattle.kb_world.specs.TreeLaws.{same_path, same_path-true, node_at-with_node, with_node-apart}
use Rattle.kb_world.specs.Area.{is_soft_at, IsLeft}
use Rattle.kb_world.specs.Crash.{History, LeftOf, TornOf}
use Rattle.kb_world.specs.State.{State, Changes, Looks, Puts, HasCause}
use Rattle.kb_world.specs.Stop.{stop_for}
use Rattle.kb_world.specs.declared.child.Area.{Area}
use Rattle.kb_world.specs.declared.child.Area.TheVariants.{Under}
use Rattle.kb_world.specs.declared.stop.Stop.{Stop}
use Rattle.kb_world.specs.declared.stop.Stop.TheVariants as stops
use Rattle.kb_world.specs.declared.tree.Node.{Node}
use Rattle.kb_world.specs.declared.tree.Node.TheVariants as nodes
use Rattle.kb_world.specs.declared.world.WorldError.{WorldError}
use Rattle.kb_world.specs.declared.world.WorldError.TheVariants.{Failed, NoMemory}
use Rattle.kb_world.proofs.CrashLaws.{adds_then, adds_wider, adds_none, turns_adds}
use Rattle.kb_world.proofs.CallLaws.{cause_then, ran_none_then}
use Rattle.kb_world.proofs.LeftLaws.{left_edit, left_first, left_more, left_same, left_then}
use Rattle.kb_world.proofs.PathLaws.{under-self, under-append, under-split}
use Rattle.kb_walk.specs.Copy.{ChangesUnder, IsChangedUnder}
use Rattle.kb_walk.proofs.OrderLaws.{untrue}
use Rattle.kb_walk.proofs.WipeCalls.{HasFormedTree}

-- ---- something is made

-- what is made where something can be made leaves the tree formed
pub made_formed : (tree : Tree) (path : Path) (at : Node) → IsFormed tree → CanMake tree path → IsFormed (with_node path at tree)
made_formed tree path at formed can q some = still (parent q) (by (same_path q path) refl)
  where
    still : (p : Path) → is_dir (node_at tree p) ≡ true → is_dir (node_at (with_node path at tree) p) ≡ true
    still p d = ap is_dir (with_node-apart tree path at p (λ e. untrue (sym (ap is_dir can.free) ∙ ap (λ x. is_dir (node_at tree x)) (sym e) ∙ d))) ∙ d

    by : (b : Bool) → same_path q path ≡ b → is_dir (node_at tree (parent q)) ≡ true
    by true s = ap (λ p. is_dir (node_at tree (parent p))) (same_path-true q path s) ∙ can.in_directory
    by false s = formed q (sym (ap is_some (node_at-with_node tree path at q ∙ ap (λ b. cond b (Some at) (node_at tree q)) s)) ∙ some)

-- it differs there alone
pub made_under : (tree : Tree) (path : Path) (at : Node) → IsFormed tree → CanMake tree path → IsLeft (Under path ∷ []) tree (with_node path at tree)
made_under tree path at formed can = left_edit (Under path ∷ []) path (Some at) tree (made_formed tree path at formed can) (ap (λ b. b || false) (under-self path))

-- what a crash leaves of it
left_of_made : (soft : List Area) (tree image : Tree) (path : Path) (at : Node) → IsFormed tree → CanMake tree path → IsLeft soft (with_node path at tree) image → IsLeft (Under path ∷ soft) tree image
left_of_made soft tree image path at formed can left =
    left_then (Under path ∷ soft) tree (with_node path at tree) image (left_first (Under path) soft tree (with_node path at tree) (made_under tree path at formed can)) (left_more (Under path) soft (with_node path at tree) image left)

-- ---- one call

-- a call that only looked
pub under_looked : {T U E : Type 0} (path : Path) (error : E) (old new : State) (looked : Result T WorldError) (result : Result U E) → HasFormedTree old → Looks old new looked → HasCause error old new result
    → ChangesUnder path error old new result
under_looked path error old new looked result formed l cause = record {
  partly = λ tree told. (tree, l.unchanged.tree ∙ told, left_same (Under path ∷ []) tree (formed tree told));
  soft = ap (λ (h : History). h.soft) l.unchanged.history;
  moments = λ tree told. adds_none _ old.history new.history (ap (λ (h : History). h.past) l.unchanged.history);
  ran_none = l.unchanged.ran_none;
  cause = cause;
}

module _ {T : Type 0} (path : Path) (old new : State) (result : Result T WorldError) (formed : HasFormedTree old) (can : ForSome old.tree (λ tree. CanMake tree path)) where
  same_left : (tree : Tree) → old.tree ≡ Some tree → new.tree ≡ old.tree → IsChangedUnder path new.tree tree
  same_left tree told same = (tree, same ∙ told, left_same (Under path ∷ []) tree (formed tree told))

  made_left : (tree : Tree) → old.tree ≡ Some tree → (at : Node) → new.tree ≡ option_map (with_node path at) old.tree → IsChangedUnder path new.tree tree
  made_left tree told at made = (with_node path at tree, made ∙ ap (option_map (with_node path at)) told, made_under tree path at (formed tree told) (can tree told))

  -- something was made
  pub under_made : (at : Node) → Changes (with_node path at) old new result → ChangesUnder path Failed old new result
  under_made at c = record {
    partly = λ tree told. by tree told result c;
    soft = c.soft;
    moments = λ tree told. adds_wider _ (IsLeft (Under path ∷ old.history.soft) tree) old.history new.history (λ image left. elim left [
      | inl before ↦ left_more (Under path) old.history.soft tree image (subst (λ o. LeftOf old.history.soft o image) told before)
      | inr after ↦ left_of_made old.history.soft tree image path at (formed tree told) (can tree told) (subst (λ o. LeftOf old.history.soft o image) (ap (option_map (with_node path at)) told) after)
    ]) (turns_adds _ _ old.history new.history c.moments);
    ran_none = c.ran_none;
    cause = c.cause;
  }
    where
      by : (tree : Tree) → old.tree ≡ Some tree → (r : Result T WorldError) → Changes (with_node path at) old new r → IsChangedUnder path new.tree tree
      by tree told (Ok value) d = made_left tree told at d.done
      by tree told (Err Failed) d = elim (d.failed refl) [ inl same ↦ same_left tree told same | inr made ↦ made_left tree told at made ]
      by tree told (Err NoMemory) d = same_left tree told (d.no_memory refl)

  -- a file was put
  pub under_put : (bytes : List ℕ) (exec : Bool) → Puts path bytes exec old new result → ChangesUnder path Failed old new result
  under_put bytes exec p = record {
    partly = λ tree told. by tree told result p;
    soft = p.soft;
    moments = λ tree told. adds_wider _ (IsLeft (Under path ∷ old.history.soft) tree) old.history new.history (λ image left. elim left [
      | inl before ↦ left_more (Under path) old.history.soft tree image (subst (λ o. LeftOf old.history.soft o image) told before)
      | inr torn ↦
          let part = subst (λ o. TornOf path old.history.soft o image) told torn in
          left_of_made old.history.soft tree image path (nodes.File part.0 part.1) (formed tree told) (can tree told) part.2
    ]) p.moments;
    ran_none = p.ran_none;
    cause = p.cause;
  }
    where
      by : (tree : Tree) → old.tree ≡ Some tree → (r : Result T WorldError) → Puts path bytes exec old new r → IsChangedUnder path new.tree tree
      by tree told (Ok value) q = made_left tree told (nodes.File bytes exec) q.done
      by tree told (Err Failed) q = elim (q.failed refl) [ inl same ↦ same_left tree told same | inr torn ↦ made_left tree told (nodes.File torn.bytes torn.exec) torn.torn ]
      by tree told (Err NoMemory) q = same_left tree told (q.no_memory refl)

-- ---- under another path

under_under : (p a b : Path) → is_under p a ≡ true → is_under a b ≡ true → is_under p b ≡ true
under_under p a b h k =
    let first = under-split p a h in
    let next = under-split a b k in
    ap (λ x. is_under x b) (first ∙ ap (λ x. x ++ drop (length a) p) next) ∙ more (drop (length b) a) (drop (length a) p)
  where
    more : (r s : Path) → is_under ((b ++ r) ++ s) b ≡ true
    more r s = ap (λ x. is_under x b) (append_assoc b r s) ∙ under-append b (r ++ s)

left_wider : (place path : Path) → is_under place path ≡ true → (soft : List Area) (before after : Tree) → IsLeft (Under place ∷ soft) before after → IsLeft (Under path ∷ soft) before after
left_wider place path inside soft before after left = record {
  each = λ q. elim (left.each q) [ inl same ↦ inl same | inr differs ↦ inr (by q (is_under q place) refl differs) ];
  formed = left.formed;
}
  where
    by : (q : Path) (b : Bool) → is_under q place ≡ b → (is_under q place || is_soft_at soft q (node_at before q) (node_at after q)) ≡ true → (is_under q path || is_soft_at soft q (node_at before q) (node_at after q)) ≡ true
    by q true e h = ap (λ b. b || is_soft_at soft q (node_at before q) (node_at after q)) (under_under q place path e inside)
    by q false e h = or_right (is_under q path) _ (sym (ap (λ b. b || is_soft_at soft q (node_at before q) (node_at after q)) e) ∙ h)
      where
        or_right : (a b : Bool) → b ≡ true → (a || b) ≡ true
        or_right true b e = refl
        or_right false b e = e

pub under_wider : {E T : Type 0} (place path : Path) (error : E) (old new : State) (result : Result T E) → is_under place path ≡ true → ChangesUnder place error old new result → ChangesUnder path error old new result
under_wider place path error old new result inside c = record {
  partly = λ tree told. let now = c.partly tree told in (now.0, now.1, left_wider place path inside [] tree now.0 now.2);
  soft = c.soft;
  moments = λ tree told. adds_wider _ (IsLeft (Under path ∷ old.history.soft) tree) old.history new.history (λ image left. left_wider place path inside old.history.soft tree image left) (c.moments tree told);
  ran_none = c.ran_none;
  cause = c.cause;
}

-- ---- one call after another

pub under_then : {E T U : Type 0} (path : Path) (error : E) (old mid new : State) (first : Result T E) (second : Result U E) → ChangesUnder path error old mid first → ChangesUnder path error mid new second
    → ChangesUnder path error old new second
under_then path error old mid new first second a b = record {
  partly = λ tree told.
      let half = a.partly tree told in
      let now = b.partly half.0 half.1 in
      (now.0, now.1, left_then (Under path ∷ []) tree half.0 now.0 half.2 now.2);
  soft = b.soft ∙ a.soft;
  moments = λ tree told.
      let half = a.partly tree told in
      adds_then _ old.history mid.history new.history (a.moments tree told) (adds_wider _ (IsLeft (Under path ∷ old.history.soft) tree) mid.history new.history
      (λ image left. left_then (Under path ∷ old.history.soft) tree half.0 image (left_first (Under path) old.history.soft tree half.0 half.2) (subst (λ s. IsLeft (Under path ∷ s) half.0 image) a.soft left)) (b.moments half.0 half.1));
  ran_none = ran_none_then old mid new a.ran_none b.ran_none;
  cause = cause_then error old mid new first second a.ran_none.lasts.told a.cause b.cause;
}

-- ---- how an answer goes on

-- another value, or an error that is handed on
pub under_as : {E F T U : Type 0} (path : Path) (error : E) (other : F) (old new : State) (first : Result T E) (result : Result U F) → (IsErrOf result other → IsErrOf first error) → ChangesUnder path error old new first
    → ChangesUnder path other old new result
under_as path error other old new first result same c = record {
  partly = c.partly;
  soft = c.soft;
  moments = c.moments;
  ran_none = c.ran_none;
  cause = record { later = c.cause.later; rose = λ failed. c.cause.rose (same failed); steady = c.cause.steady; never = λ told is failed. c.cause.never told is (same failed) };
}

-- a call of the world stopped it
pub under_stop : {T U : Type 0} (path : Path) (old new : State) (error : WorldError) (stop : Stop) → stop ≡ stop_for error → ChangesUnder path Failed {T = T} old new (Err error) → ChangesUnder path stops.Fault {T = U} old new (Err stop)
under_stop {T = T} {U = U} path old new error stop is c = under_as {T = T} {U = U} path Failed stops.Fault old new (Err error) (Err stop) (by error is) c
  where
    stopped : Stop → Result U Stop
    stopped stop = Err stop

    by : (error : WorldError) → stop ≡ stop_for error → IsErrOf {T = U} (Err stop) stops.Fault → IsErrOf {T = T} (Err error) Failed
    by Failed e failed = refl
    by NoMemory e failed = let impossible : stopped stops.NoMemory ≡ stopped stops.Fault = ap stopped (sym e) ∙ failed in absurd (cc)
