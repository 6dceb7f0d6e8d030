-- Areas that are settled one after another, and paths that are taken away one after another.
use Rattle.std.proofs.Common.{◌≡◌, ℕ, ◌+◌, ◌<◌, ◌≤◌, Bool, true, false, cond, ◌||◌, List, [], ◌∷◌, ◌++◌, length, take, map, get_or, Option, Some, None, Result, Ok, Err, refl, sym, ap, ◌∙◌, subst, inl, inr, arith, take_all}
use Rattle.std.specs.Prelude.{filter, filter_map, option_map, OnOk}
use Rattle.std.specs.List.{list_any, AllByRecursion}
use Rattle.std.proofs.lemmas.List.{map-append}
use Rattle.std.proofs.lemmas.List.Elements.{filter_map-append}
use Rattle.kb_world.specs.Area.{IsLeft}
use Rattle.kb_world.specs.Crash.{LeftOf}
use Rattle.kb_world.specs.Path.{Path, is_under}
use Rattle.kb_world.specs.State.{State, Settles}
use Rattle.kb_world.specs.Tree.{Tree, node_at}
use Rattle.kb_world.specs.TreeLaws.{same_tree}
use Rattle.kb_world.specs.declared.child.Area.{Area}
use Rattle.kb_world.specs.declared.child.Request.{Request}
use Rattle.kb_world.specs.declared.world.WorldError.{WorldError}
use Rattle.kb_world.specs.declared.world.WorldError.TheVariants.{Failed, NoMemory}
use Rattle.kb_world.proofs.CrashLaws.{adds_then, adds_none, adds_wider}
use Rattle.kb_world.proofs.CallLaws.{cause_then, ran_none_then}
use Rattle.kb_changes.specs.Groups.{run_of}
use Rattle.kb_changes.specs.declared.change.Change.{Change}
use Rattle.kb_changes.specs.declared.change.Change.TheVariants as changes
use Rattle.kb_again.specs.Sparing.{areas_of, settled}
use Rattle.kb_machine.specs.Aside.{IsOneArea}
use Rattle.kb_machine.proofs.AsideThenLaws.{all_members, all_wider, left_by_members}
use Rattle.kb_walk.specs.Wipe.{Wipes, without_tree, IsWipedInPart}
use Rattle.kb_walk.proofs.WipeLaws.{cleared_at}
use Rattle.kb_walk.proofs.WipeCalls.{HasFormedTree, done_not_failed}
use Rattle.kb_intent.specs.Clearing.{SettlesAll, without_trees, IsGoneAt, LeftOfGone, TakesAllAway}
use Rattle.kb_intent.proofs.ChangesLaws.{one_longer}

-- ---- one of these areas has what all have

pub member_has : (P : Area → Type 0) (areas : List Area) (area : Area) → AllByRecursion P areas → IsOneArea area areas → P area
member_has P [] area all one = absurd one
member_has P (x ∷ areas) area all (inl here) = subst P (sym here) all.0
member_has P (x ∷ areas) area all (inr later) = member_has P areas area all.1 later

pub all_through : (whole some few : List Area) → AllByRecursion (λ area. IsOneArea area whole) some → AllByRecursion (λ area. IsOneArea area some) few → AllByRecursion (λ area. IsOneArea area whole) few
all_through whole some few all each = all_wider (λ area. IsOneArea area some) (λ area. IsOneArea area whole) few (λ area one. member_has (λ other. IsOneArea other whole) some area all one) each

filtered : (test : Area → Bool) (areas whole : List Area) → AllByRecursion (λ area. IsOneArea area whole) areas → AllByRecursion (λ area. IsOneArea area whole) (filter test areas)
filtered test [] whole all = tt
filtered test (x ∷ areas) whole all = by (test x) (filtered test areas whole all.1)
  where
    by : (b : Bool) → AllByRecursion (λ area. IsOneArea area whole) (filter test areas) → AllByRecursion (λ area. IsOneArea area whole) (cond b (x ∷ filter test areas) (filter test areas))
    by true later = (all.0, later)
    by false later = later

own_members : (soft : List Area) → AllByRecursion (λ area. IsOneArea area soft) soft
own_members soft = all_members soft soft (λ area one. one)

-- ---- settled

settled-append : (xs ys soft : List Area) → settled (xs ++ ys) soft ≡ settled ys (settled xs soft)
settled-append [] ys soft = refl
settled-append (x ∷ xs) ys soft = settled-append xs ys _

pub settles_none : {T : Type 0} (state : State) (value : T) → SettlesAll [] state state (Ok value)
settles_none state value = record {
  tree = refl;
  done = refl;
  soft = own_members state.history.soft;
  moments = adds_none _ state.history state.history refl;
  ran_none = record { ran = refl; lasts = record { roots = refl; script = refl; told = refl } };
  cause = record { later = omega arith; rose = λ failed. absurd (done_not_failed value failed); steady = λ is. is; never = λ told is failed. done_not_failed value failed };
}

pub settles_one : {T : Type 0} (area : Area) (old new : State) (result : Result T WorldError) → Settles area old new result → SettlesAll (area ∷ []) old new result
settles_one {T = T} area old new result s = record {
  tree = s.tree;
  done = s.soft;
  soft = by result s;
  moments = s.moments;
  ran_none = s.ran_none;
  cause = s.cause;
}
  where
    by : (r : Result T WorldError) → Settles area old new r → AllByRecursion (λ area. IsOneArea area old.history.soft) new.history.soft
    by (Ok value) s = subst (AllByRecursion (λ area. IsOneArea area old.history.soft)) (sym s.soft) (filtered _ old.history.soft old.history.soft (own_members old.history.soft))
    by (Err error) s = subst (AllByRecursion (λ area. IsOneArea area old.history.soft)) (sym s.soft_err) (own_members old.history.soft)

-- of a change that is no run no area is soft
pub settles_no_run : (change : Change) (state : State) → ((request : Request) → change ≡ changes.Run request → ⊥) → SettlesAll (areas_of (change ∷ [])) {T = Unit {0}} state state (Ok tt)
settles_no_run (changes.Run request) state none = absurd (none request refl)
settles_no_run (changes.Dir path) state none = settles_none state tt
settles_no_run (changes.Put _ number target) state none = settles_none state tt
settles_no_run (changes.Drop path) state none = settles_none state tt
settles_no_run (changes.DropDir path) state none = settles_none state tt
settles_no_run (changes.Wipe path) state none = settles_none state tt

-- what a crash leaves where less is soft it leaves where more is
left_earlier : (old mid : State) (image : Tree) → mid.tree ≡ old.tree → AllByRecursion (λ area. IsOneArea area old.history.soft) mid.history.soft → LeftOf mid.history.soft mid.tree image → LeftOf old.history.soft old.tree image
left_earlier old mid image same all left = by old.tree (subst (λ o. LeftOf mid.history.soft o image) same left)
  where
    by : (o : Option Tree) → LeftOf mid.history.soft o image → LeftOf old.history.soft o image
    by None left = left
    by (Some tree) left = left_by_members mid.history.soft old.history.soft tree image all left

pub settles_then : {S T : Type 0} (xs ys : List Area) (old mid new : State) (value : S) (result : Result T WorldError) → SettlesAll xs old mid (Ok value) → SettlesAll ys mid new result → SettlesAll (xs ++ ys) old new result
settles_then {T = T} xs ys old mid new value result a b = record {
  tree = b.tree ∙ a.tree;
  done = by result b.done;
  soft = all_through old.history.soft mid.history.soft new.history.soft a.soft b.soft;
  moments = adds_then _ old.history mid.history new.history a.moments
      (adds_wider _ (LeftOf old.history.soft old.tree) mid.history new.history (λ image left. left_earlier old mid image a.tree a.soft left) b.moments);
  ran_none = ran_none_then old mid new a.ran_none b.ran_none;
  cause = cause_then Failed old mid new (Ok value) result a.ran_none.lasts.told a.cause b.cause;
}
  where
    by : (r : Result T WorldError) → OnOk r (new.history.soft ≡ settled ys mid.history.soft) → OnOk r (new.history.soft ≡ settled (xs ++ ys) old.history.soft)
    by (Ok value) done = done ∙ ap (settled ys) a.done ∙ sym (settled-append xs ys old.history.soft)
    by (Err error) done = tt

-- a call that stopped did as much of any areas
pub settles_part : {T : Type 0} (xs ys : List Area) (old new : State) (error : WorldError) → SettlesAll xs {T = T} old new (Err error) → SettlesAll ys {T = T} old new (Err error)
settles_part xs ys old new error s = record { tree = s.tree; done = tt; soft = s.soft; moments = s.moments; ran_none = s.ran_none; cause = s.cause }

areas_more : (front : List Change) (change : Change) → areas_of (front ++ change ∷ []) ≡ areas_of front ++ areas_of (change ∷ [])
areas_more front change =
    ap (map (λ request. request.area)) (filter_map-append run_of front (change ∷ [])) ∙ map-append (λ (request : Request). request.area) (filter_map run_of front) (filter_map run_of (change ∷ []))

-- the loop over the changes
pub settles_more : {T : Type 0} (changes : List Change) (i : ℕ) (change : Change) → i < length changes → change ≡ get_or changes i change → (old now new : State) (result : Result T WorldError)
    → SettlesAll (areas_of (take i changes)) {T = Unit {0}} old now (Ok tt) → SettlesAll (areas_of (change ∷ [])) now new result → SettlesAll (areas_of (take (i + 1) changes)) old new result
settles_more changes i change within is old now new result a b =
    subst (λ areas. SettlesAll areas old new result) (sym (areas_more (take i changes) change) ∙ ap areas_of (sym (one_longer changes i change within is)))
    (settles_then (areas_of (take i changes)) (areas_of (change ∷ [])) old now new tt result a b)

pub settles_all : (changes : List Change) (i : ℕ) → length changes ≤ i → (old now : State) → SettlesAll (areas_of (take i changes)) {T = Unit {0}} old now (Ok tt) → SettlesAll (areas_of changes) {T = Unit {0}} old now (Ok tt)
settles_all changes i all old now s = subst (λ cs. SettlesAll (areas_of cs) old now (Ok tt)) (take_all i changes all) s

-- ---- taken away

any-append : (test : Path → Bool) (xs ys : List Path) → list_any test (xs ++ ys) ≡ (list_any test xs || list_any test ys)
any-append test [] ys = refl
any-append test (x ∷ xs) ys = ap (λ b. test x || b) (any-append test xs ys) ∙ regrouped (test x) (list_any test xs) (list_any test ys)
  where
    regrouped : (a b c : Bool) → (a || (b || c)) ≡ ((a || b) || c)
    regrouped true b c = refl
    regrouped false b c = refl

pub any_front : (test : Path → Bool) (xs ys : List Path) → list_any test xs ≡ true → list_any test (xs ++ ys) ≡ true
any_front test xs ys is = any-append test xs ys ∙ ap (λ b. b || list_any test ys) is

or_right : (a b : Bool) → b ≡ true → (a || b) ≡ true
or_right true b e = refl
or_right false b e = e

pub any_behind : (test : Path → Bool) (xs ys : List Path) → list_any test ys ≡ true → list_any test (xs ++ ys) ≡ true
any_behind test xs ys is = any-append test xs ys ∙ or_right (list_any test xs) (list_any test ys) is

pub without_trees-at : (paths : List Path) (tree : Tree) (q : Path) → node_at (without_trees paths tree) q ≡ cond (list_any (is_under q) paths) None (node_at tree q)
without_trees-at paths tree q = cleared_at (λ other. list_any (is_under other) paths) tree q

without_trees-append : (xs ys : List Path) (tree : Tree) → without_trees ys (without_trees xs tree) ≡ without_trees (xs ++ ys) tree
without_trees-append xs ys tree = same_tree _ _ (λ q.
    without_trees-at ys (without_trees xs tree) q ∙ ap (cond (list_any (is_under q) ys) None) (without_trees-at xs tree q)
    ∙ by (list_any (is_under q) xs) (list_any (is_under q) ys) (node_at tree q) ∙ ap (λ b. cond b None (node_at tree q)) (sym (any-append (is_under q) xs ys))
    ∙ sym (without_trees-at (xs ++ ys) tree q))
  where
    by : {A : Type 0} (a b : Bool) (at : Option A) → cond b None (cond a None at) ≡ cond (a || b) None at
    by true true at = refl
    by true false at = refl
    by false b at = refl

without_one : (path : Path) (tree : Tree) → without_tree path tree ≡ without_trees (path ∷ []) tree
without_one path tree = same_tree _ _ (λ q.
    cleared_at (λ other. is_under other path) tree q ∙ ap (λ b. cond b None (node_at tree q)) (alone (is_under q path)) ∙ sym (without_trees-at (path ∷ []) tree q))
  where
    alone : (b : Bool) → b ≡ (b || false)
    alone true = refl
    alone false = refl

gone_one : (path : Path) (before now : Tree) → IsWipedInPart path before now → IsGoneAt (path ∷ []) before now
gone_one path before now w q = elim (w.each q) [ inl same ↦ inl same | inr gone ↦ inr (ap (λ b. b || false) gone.0, gone.1) ]

pub gone_none : (paths : List Path) (tree : Tree) → IsGoneAt paths tree tree
gone_none paths tree q = inl refl

pub gone_front : (xs ys : List Path) (before now : Tree) → IsGoneAt xs before now → IsGoneAt (xs ++ ys) before now
gone_front xs ys before now g q = elim (g q) [ inl same ↦ inl same | inr gone ↦ inr (any_front (is_under q) xs ys gone.0, gone.1) ]

pub gone_behind : (xs ys : List Path) (before now : Tree) → IsGoneAt ys before now → IsGoneAt (xs ++ ys) before now
gone_behind xs ys before now g q = elim (g q) [ inl same ↦ inl same | inr gone ↦ inr (any_behind (is_under q) xs ys gone.0, gone.1) ]

-- some was gone, and now more
pub gone_then : (paths : List Path) (before mid now : Tree) → IsGoneAt paths before mid → IsGoneAt paths mid now → IsGoneAt paths before now
gone_then paths before mid now a b q = elim (b q) [
  | inl same ↦ elim (a q) [ inl still ↦ inl (same ∙ still) | inr gone ↦ inr (gone.0, same ∙ gone.1) ]
  | inr gone ↦ inr gone
]

mapped_one : (path : Path) (o : Option Tree) → option_map (without_tree path) o ≡ option_map (without_trees (path ∷ [])) o
mapped_one path None = refl
mapped_one path (Some tree) = ap Some (without_one path tree)

pub takes_one : {T : Type 0} (path : Path) (old new : State) (result : Result T WorldError) → Wipes path old new result → TakesAllAway (path ∷ []) old new result
takes_one {T = T} path old new result t = record {
  done = by result t.done;
  partly = λ tree told. let now = t.partly tree told in (now.0, now.1, gone_one path tree now.0 now.2);
  soft = t.soft;
  moments = λ tree told. adds_wider _ (LeftOfGone (path ∷ []) old.history.soft tree) old.history new.history
      (λ image left. record { now = left.now; gone = gone_one path tree left.now left.partly; left = left.left }) (t.moments tree told);
  ran_none = t.ran_none;
  cause = t.cause;
}
  where
    by : (r : Result T WorldError) → OnOk r (new.tree ≡ option_map (without_tree path) old.tree) → OnOk r (new.tree ≡ option_map (without_trees (path ∷ [])) old.tree)
    by (Ok value) done = done ∙ mapped_one path old.tree
    by (Err error) done = tt

twice : (xs ys : List Path) (o : Option Tree) → option_map (without_trees ys) (option_map (without_trees xs) o) ≡ option_map (without_trees (xs ++ ys)) o
twice xs ys None = refl
twice xs ys (Some tree) = ap Some (without_trees-append xs ys tree)

pub takes_then : {S T : Type 0} (xs ys : List Path) (old mid new : State) (value : S) (result : Result T WorldError) → TakesAllAway xs old mid (Ok value) → TakesAllAway ys mid new result → TakesAllAway (xs ++ ys) old new result
takes_then {T = T} xs ys old mid new value result a b = record {
  done = by result b.done;
  partly = λ tree told.
      let first = a.partly tree told in
      let next = b.partly first.0 first.1 in
      (next.0, next.1, both tree first.0 next.0 first.2 next.2);
  soft = b.soft ∙ a.soft;
  moments = λ tree told.
      let first = a.partly tree told in
      adds_then _ old.history mid.history new.history
      (adds_wider _ (LeftOfGone (xs ++ ys) old.history.soft tree) old.history mid.history (λ image left. record { now = left.now; gone = gone_front xs ys tree left.now left.gone; left = left.left }) (a.moments tree told))
      (adds_wider _ (LeftOfGone (xs ++ ys) old.history.soft tree) mid.history new.history
      (λ image left. record { now = left.now; gone = both tree first.0 left.now first.2 left.gone; left = subst (λ soft. IsLeft soft left.now image) a.soft left.left }) (b.moments first.0 first.1));
  ran_none = ran_none_then old mid new a.ran_none b.ran_none;
  cause = cause_then Failed old mid new (Ok value) result a.ran_none.lasts.told a.cause b.cause;
}
  where
    both : (tree first next : Tree) → IsGoneAt xs tree first → IsGoneAt ys first next → IsGoneAt (xs ++ ys) tree next
    both tree first next one other = gone_then (xs ++ ys) tree first next (gone_front xs ys tree first one) (gone_behind xs ys first next other)

    by : (r : Result T WorldError) → OnOk r (new.tree ≡ option_map (without_trees ys) mid.tree) → OnOk r (new.tree ≡ option_map (without_trees (xs ++ ys)) old.tree)
    by (Ok value) done = done ∙ ap (option_map (without_trees ys)) a.done ∙ twice xs ys old.tree
    by (Err error) done = tt

-- a call that stopped did as much where more was to go
pub takes_part : {T : Type 0} (xs ys : List Path) (old new : State) (error : WorldError) → TakesAllAway xs {T = T} old new (Err error) → TakesAllAway (xs ++ ys) {T = T} old new (Err error)
takes_part xs ys old new error t = record {
  done = tt;
  partly = λ tree told. let now = t.partly tree told in (now.0, now.1, gone_front xs ys tree now.0 now.2);
  soft = t.soft;
  moments = λ tree told. adds_wider _ (LeftOfGone (xs ++ ys) old.history.soft tree) old.history new.history
      (λ image left. record { now = left.now; gone = gone_front xs ys tree left.now left.gone; left = left.left }) (t.moments tree told);
  ran_none = t.ran_none;
  cause = t.cause;
}

-- nothing was begun, for want of memory
pub wants_wipe : {T : Type 0} (path : Path) (state : State) → HasFormedTree state → Wipes path {T = T} state state (Err NoMemory)
wants_wipe {T = T} path state formed = record {
  done = tt;
  partly = λ tree told. (tree, told, record { each = λ q. inl refl; formed = formed tree told });
  soft = refl;
  moments = λ tree told. adds_none _ state.history state.history refl;
  ran_none = record { ran = refl; lasts = record { roots = refl; script = refl; told = refl } };
  cause = record {
    later = omega arith;
    rose = λ failed. let impossible : stopped NoMemory ≡ stopped Failed = failed in cc;
    steady = λ is. is;
    never = λ told is failed. let impossible : stopped NoMemory ≡ stopped Failed = failed in cc;
  };
}
  where
    stopped : WorldError → Result T WorldError
    stopped error = Err error
