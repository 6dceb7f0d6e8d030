-- Entries are taken away one by one, from the last on.
use Rattle.std.proofs.Common.{◌≡◌, ◌⊎◌, ℕ, ◌+◌, ◌-◌, ◌<◌, ◌≤◌, List, [], ◌∷◌, ◌++◌, length, take, drop, map, get_or, Option, Some, None, Ok, Err, refl, sym, ap, ◌∙◌, subst, inl, inr, arith}
use Rattle.std.specs.Prelude.{option_map, IsTrue}
use Rattle.std.specs.Option.{ForSome}
use Rattle.std.proofs.lemmas.List.{get_or-map, length-map, take-append-drop, at_drop_more, drop_all}
use Rattle.kb_world.specs.Path.{Path}
use Rattle.kb_world.specs.Tree.{Tree, without, kind_of}
use Rattle.kb_world.specs.Area.{IsLeft}
use Rattle.kb_world.specs.Crash.{LeftOf, Adds}
use Rattle.kb_world.specs.State.{State, Changes, HasCause, RanNone}
use Rattle.kb_world.specs.declared.child.Area.{Area}
use Rattle.kb_world.specs.declared.tree.Node.{Node}
use Rattle.kb_world.specs.declared.tree.Node.TheVariants as nodes
use Rattle.kb_world.specs.declared.tree.Kind.{Kind}
use Rattle.kb_world.specs.declared.tree.Kind.TheVariants as kinds
use Rattle.kb_world.specs.declared.world.WorldError.{WorldError}
use Rattle.kb_world.specs.declared.world.WorldError.TheVariants.{Failed, NoMemory}
use Rattle.kb_world.proofs.CrashLaws.{adds_then, adds_wider, adds_none, turns_adds, turns_none}
use Rattle.kb_world.proofs.CallLaws.{ran_none_then}
use Rattle.kb_walk.specs.Walking.{paths_below, met_at}
use Rattle.kb_walk.specs.declared.walking.Met.{Met}
use Rattle.kb_walk.specs.Wipe.{CanWipe, without_all}
use Rattle.kb_walk.proofs.WipeLaws.{none_wiped, one_wiped, can_wipe}

abbrev pub path_of : Met → Path
path_of met = met.path

-- a crash leaves it once the last so many are gone
abbrev pub LeftWiped : List Area → List Path → Tree → Tree → Type 0
LeftWiped soft paths tree image = (n : ℕ) × IsLeft soft (without_all (drop n paths) tree) image

-- ---- what was done from the last on

pub record HasWiped (old new : State) (paths : List Path) (count : ℕ) : Type 0 where
  pub tree : new.tree ≡ option_map (without_all (drop count paths)) old.tree
  pub soft : new.history.soft ≡ old.history.soft
  pub moments : ForSome old.tree (λ tree. Adds (LeftWiped old.history.soft paths tree) old.history new.history)
  pub ran_none : RanNone old new
  pub later : old.faults ≤ new.faults
  pub steady : IsTrue old.steady → IsTrue new.steady

-- the tree that was told
abbrev pub Told : Option Tree → (Tree → Tree) → Tree → Type 0
Told o f now = (tree : Tree) × (o ≡ Some tree) × (f tree ≡ now)

pub told_from : (o : Option Tree) (f : Tree → Tree) (now : Tree) → option_map f o ≡ Some now → Told o f now
told_from None f now h = let q : None ≡ Some now = h in absurd (cc)
told_from (Some tree) f now h = let q : f tree ≡ now = cc in (tree, refl, q)

-- ---- the loop

paths_met : (tree : Tree) (paths : List Path) → map path_of (map (met_at tree) paths) ≡ paths
paths_met tree [] = refl
paths_met tree (path ∷ paths) = ap (λ l. path ∷ l) (paths_met tree paths)

pub wiped_none : (state : State) (paths : List Path) (count : ℕ) → length paths ≤ count → HasWiped state state paths count
wiped_none state paths count all = record {
  tree = by state.tree;
  soft = refl;
  moments = λ tree told. adds_none _ state.history state.history refl;
  ran_none = record { ran = refl; lasts = record { roots = refl; script = refl; told = refl } };
  later = omega arith;
  steady = λ is. is;
}
  where
    by : (o : Option Tree) → o ≡ option_map (without_all (drop count paths)) o
    by None = refl
    by (Some t) = ap Some (none_wiped t ∙ ap (λ l. without_all l t) (sym (drop_all count paths all)))

-- the entry met at an index, among the paths below the directory
module _ (t : Tree) (start : Path) (mets : List Met) (met : Met) (i : ℕ) (below_len : i < length mets) (is : met ≡ get_or mets i met) (listed : mets ≡ map (met_at t) (paths_below t start)) where
  paths_are : map path_of mets ≡ paths_below t start
  paths_are = ap (map path_of) listed ∙ paths_met t (paths_below t start)

  here : get_or (map path_of mets) i met.path ≡ met.path
  here = get_or-map path_of mets i met met.path below_len ∙ ap path_of (sym is)

  pub met_cut : paths_below t start ≡ take i (map path_of mets) ++ met.path ∷ drop (i + 1) (map path_of mets)
  met_cut =
      sym paths_are ∙ sym (take-append-drop i (map path_of mets))
      ∙ ap (λ l. take i (map path_of mets) ++ l) (at_drop_more (λ l. l) (map path_of mets) i met.path (subst (λ n. i < n) (sym (length-map mets path_of)) below_len) ∙ ap (λ p. p ∷ drop (i + 1) (map path_of mets)) here)

  pub met_seen : met ≡ met_at t met.path
  met_seen =
      is ∙ ap (λ l. get_or l i met) listed ∙ get_or-map (met_at t) (paths_below t start) i met.path met (subst (λ n. i < n) (ap length listed ∙ length-map (paths_below t start) (met_at t)) below_len)
      ∙ ap (met_at t) (ap (λ l. get_or l i met.path) (sym paths_are) ∙ here)

pub can_wipe_next : (old new : State) (tree : Tree) (start : Path) (mets : List Met) (met : Met) (i : ℕ) → i < length mets → met ≡ get_or mets i met
    → ForSome old.tree (λ t. mets ≡ map (met_at t) (paths_below t start)) → HasWiped old new (map path_of mets) (i + 1) → new.tree ≡ Some tree → CanWipe tree met
can_wipe_next old new tree start mets met i below_len is all h told =
    let was = told_from old.tree (without_all (drop (i + 1) (map path_of mets))) tree (sym h.tree ∙ told) in
    let t = was.0 in
    let listed = all t was.1 in
    subst (λ n. CanWipe n met) was.2
    (can_wipe t start (take i (map path_of mets)) (drop (i + 1) (map path_of mets)) met.path (met_cut t start mets met i below_len is listed) met (met_seen t start mets met i below_len is listed))

-- what one call makes of it
one_more : (paths : List Path) (i : ℕ) (path : Path) (t : Tree) → i < length paths → path ≡ get_or paths i path → without path (without_all (drop (i + 1) paths) t) ≡ without_all (drop i paths) t
one_more paths i path t below_len is = one_wiped path (drop (i + 1) paths) t ∙ sym (ap (λ l. without_all l t) (at_drop_more (λ l. l) paths i path below_len ∙ ap (λ p. p ∷ drop (i + 1) paths) (sym is)))

twice : (paths : List Path) (i : ℕ) (path : Path) (o : Option Tree) → i < length paths → path ≡ get_or paths i path → option_map (without path) (option_map (without_all (drop (i + 1) paths)) o) ≡ option_map (without_all (drop i paths)) o
twice paths i path None below_len is = refl
twice paths i path (Some t) below_len is = ap Some (one_more paths i path t below_len is)

front_moments : (old mid new : State) (paths : List Path) (i : ℕ) (path : Path) (tree : Tree) → old.tree ≡ Some tree → i < length paths → path ≡ get_or paths i path
    → mid.tree ≡ option_map (without_all (drop (i + 1) paths)) old.tree → mid.history.soft ≡ old.history.soft
    → Adds (λ image. LeftOf mid.history.soft mid.tree image ⊎ LeftOf mid.history.soft (option_map (without path) mid.tree) image) mid.history new.history
    → Adds (LeftWiped old.history.soft paths tree) mid.history new.history
front_moments old mid new paths i path tree told below_len is was soft adds =
    let there : mid.tree ≡ Some (without_all (drop (i + 1) paths) tree) = was ∙ ap (option_map (without_all (drop (i + 1) paths))) told in
    adds_wider _ (LeftWiped old.history.soft paths tree) mid.history new.history (λ image left. elim left [
      | inl before ↦ (i + 1, subst (λ s. IsLeft s (without_all (drop (i + 1) paths) tree) image) soft (subst (λ o. LeftOf mid.history.soft o image) there before))
      | inr after ↦ (i, subst (λ s. IsLeft s (without_all (drop i paths) tree) image) soft (subst (λ t. IsLeft mid.history.soft t image) (one_more paths i path tree below_len is) (subst (λ o. LeftOf mid.history.soft (option_map (without path) o) image) there after)))
    ]) adds

pub wiped_more : (old mid new : State) (paths : List Path) (i : ℕ) (path : Path) (u : Unit {0}) → i < length paths → path ≡ get_or paths i path → HasWiped old mid paths (i + 1)
    → Changes (without path) mid new (Ok u) → HasWiped old new paths i
wiped_more old mid new paths i path u below_len is h c = record {
  tree = c.done ∙ ap (option_map (without path)) h.tree ∙ twice paths i path old.tree below_len is;
  soft = c.soft ∙ h.soft;
  moments = λ tree told. adds_then _ old.history mid.history new.history (h.moments tree told) (front_moments old mid new paths i path tree told below_len is h.tree h.soft (turns_adds _ _ mid.history new.history c.moments));
  ran_none = ran_none_then old mid new h.ran_none c.ran_none;
  later = omega (arith, h.later, c.cause.later);
  steady = λ was. c.cause.steady (h.steady was);
}

-- a call that stopped it
pub record HasStopped (old new : State) (paths : List Path) (error : WorldError) : Type 0 where
  pub partly : ForSome old.tree (λ tree. (n : ℕ) × (new.tree ≡ Some (without_all (drop n paths) tree)))
  pub soft : new.history.soft ≡ old.history.soft
  pub moments : ForSome old.tree (λ tree. Adds (LeftWiped old.history.soft paths tree) old.history new.history)
  pub ran_none : RanNone old new
  pub cause : HasCause {T = Unit {0}} Failed old new (Err error)

pub wiped_stopped : (old mid new : State) (paths : List Path) (i : ℕ) (path : Path) (error : WorldError) → i < length paths → path ≡ get_or paths i path → HasWiped old mid paths (i + 1)
    → Changes (without path) {T = Unit {0}} mid new (Err error) → HasStopped old new paths error
wiped_stopped old mid new paths i path error below_len is h c = record {
  partly = λ tree told. by error c tree told;
  soft = c.soft ∙ h.soft;
  moments = λ tree told. adds_then _ old.history mid.history new.history (h.moments tree told) (front_moments old mid new paths i path tree told below_len is h.tree h.soft (turns_adds _ _ mid.history new.history c.moments));
  ran_none = ran_none_then old mid new h.ran_none c.ran_none;
  cause = record {
    later = omega (arith, h.later, c.cause.later);
    rose = λ failed. let r = c.cause.rose failed in omega (arith, h.later, r);
    steady = λ was. c.cause.steady (h.steady was);
    never = λ told was failed. c.cause.never (h.ran_none.lasts.told ∙ told) (h.steady was) failed;
  };
}
  where
    there : (tree : Tree) → old.tree ≡ Some tree → mid.tree ≡ Some (without_all (drop (i + 1) paths) tree)
    there tree told = h.tree ∙ ap (option_map (without_all (drop (i + 1) paths))) told

    by : (e : WorldError) → Changes (without path) {T = Unit {0}} mid new (Err e) → (tree : Tree) → old.tree ≡ Some tree → (n : ℕ) × (new.tree ≡ Some (without_all (drop n paths) tree))
    by Failed d tree told = elim (d.failed refl) [
      | inl same ↦ (i + 1, same ∙ there tree told)
      | inr done ↦ (i, done ∙ ap (option_map (without path)) (there tree told) ∙ ap Some (one_more paths i path tree below_len is))
    ]
    by NoMemory d tree told = (i + 1, d.no_memory refl ∙ there tree told)

-- ---- the same, where the count is one more than the index

one_back : (n : ℕ) → 0 < n → n - 1 + 1 ≡ n
one_back n some = omega (arith, some)

path_there : (mets : List Met) (i : ℕ) (met : Met) → i < length mets → met ≡ get_or mets i met → met.path ≡ get_or (map path_of mets) i met.path
path_there mets i met below_len is = ap path_of is ∙ sym (get_or-map path_of mets i met met.path below_len)

inside : (mets : List Met) (i : ℕ) → i < length mets → i < length (map path_of mets)
inside mets i below_len = subst (λ n. i < n) (sym (length-map mets path_of)) below_len

module _ (old mid : State) (start : Path) (mets : List Met) (met : Met) (n : ℕ) (some : 0 < n) (within : n - 1 < length mets) (is : met ≡ get_or mets (n - 1) met) (h : HasWiped old mid (map path_of mets) n) where
  before : HasWiped old mid (map path_of mets) (n - 1 + 1)
  before = subst (HasWiped old mid (map path_of mets)) (sym (one_back n some)) h

  pub can_wipe_last : ForSome old.tree (λ t. mets ≡ map (met_at t) (paths_below t start)) → ForSome mid.tree (λ tree. CanWipe tree met)
  can_wipe_last all tree told = can_wipe_next old mid tree start mets met (n - 1) within is all before told

  pub wiped_last : (new : State) (u : Unit {0}) → Changes (without met.path) mid new (Ok u) → HasWiped old new (map path_of mets) (n - 1)
  wiped_last new u c = wiped_more old mid new (map path_of mets) (n - 1) met.path u (inside mets (n - 1) within) (path_there mets (n - 1) met within is) before c

  pub stopped_last : (new : State) (error : WorldError) → Changes (without met.path) {T = Unit {0}} mid new (Err error) → HasStopped old new (map path_of mets) error
  stopped_last new error c = wiped_stopped old mid new (map path_of mets) (n - 1) met.path error (inside mets (n - 1) within) (path_there mets (n - 1) met within is) before c

pub paths_of_met : (mets : List Met) (start : Path) (tree : Tree) → mets ≡ map (met_at tree) (paths_below tree start) → map path_of mets ≡ paths_below tree start
paths_of_met mets start tree is = ap (map path_of) is ∙ paths_met tree (paths_below tree start)

pub all_wiped : (o : Option Tree) (tree : Tree) → o ≡ Some tree → (mets : List Met) (start : Path) (n : ℕ) → n ≡ 0 → mets ≡ map (met_at tree) (paths_below tree start)
    → option_map (without_all (drop n (map path_of mets))) o ≡ Some (without_all (paths_below tree start) tree)
all_wiped o tree told mets start n none is =
    ap (option_map (without_all (drop n (map path_of mets)))) told ∙ ap (λ k. Some (without_all (drop k (map path_of mets)) tree)) none ∙ ap (λ l. Some (without_all l tree)) (paths_of_met mets start tree is)

-- where a told tree can't be, nothing is to be done
pub never_told : (change : Tree → Tree) (state : State) → ForSome state.tree (λ tree. ⊥) → Changes change {T = Unit {0}} state state (Ok tt)
never_told change state never = record {
  done = by state.tree never;
  failed = λ failed. inl refl;
  no_memory = λ failed. refl;
  soft = refl;
  moments = turns_none _ _ state.history state.history refl;
  none_forgotten = λ image left. inr left;
  ran_none = record { ran = refl; lasts = record { roots = refl; script = refl; told = refl } };
  cause = record { later = omega arith; rose = λ failed. absurd (cc failed); steady = λ is. is; never = λ told is failed. absurd (cc failed) };
}
  where
    by : (o : Option Tree) → ForSome o (λ tree. ⊥) → o ≡ option_map change o
    by None each = refl
    by (Some tree) each = absurd (each tree refl)

pub absent_stands : (at : Option Node) (kind : Kind) → kind ≡ kinds.Absent → kind ≡ kind_of at → at ≡ None
absent_stands None kind absent is = refl
absent_stands (Some nodes.Dir) kind absent is = let q : kinds.Absent ≡ kinds.Dir = sym absent ∙ is in absurd (cc)
absent_stands (Some (nodes.File bytes exec)) kind absent is = let q : kinds.Absent ≡ kinds.File (length bytes) exec = sym absent ∙ is in absurd (cc)
absent_stands (Some (nodes.Link text)) kind absent is = let q : kinds.Absent ≡ kinds.Link = sym absent ∙ is in absurd (cc)
