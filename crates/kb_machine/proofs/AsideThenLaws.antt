-- What is done aside, one call after another, and a child that has an area aside.
use Rattle.std.proofs.Common.{◌≡◌, Bool, true, false, cond, ◌&&◌, ◌||◌, not, List, [], ◌∷◌, ◌++◌, map, Option, Some, None, refl, sym, ap, ◌∙◌, subst, inl, inr}
use Rattle.std.specs.Prelude.{Result, Ok, Err}
use Rattle.std.specs.List.{AllByRecursion}
use Rattle.std.specs.Cmp.{first_so}
use Rattle.kb_world.specs.Path.{Path}
use Rattle.kb_world.specs.Tree.{Tree, node_at, edited, is_dir}
use Rattle.kb_world.specs.TreeLaws.{with_node-apart, remove-apart}
use Rattle.kb_world.specs.Area.{holds, lets_differ, is_soft_at, IsLeft}
use Rattle.kb_world.specs.Crash.{LeftOf}
use Rattle.kb_world.specs.View.{view_of}
use Rattle.kb_world.specs.Script.{Script, answer_in, tree_after, after_edits, with_edit, can_edit, edit_of}
use Rattle.kb_world.specs.State.{State, Runs, EndsAs, IsReplied}
use Rattle.kb_world.specs.declared.tree.Edit.{Edit}
use Rattle.kb_world.specs.declared.tree.Node.{Node}
use Rattle.kb_world.specs.declared.child.Area.{Area}
use Rattle.kb_world.specs.declared.child.Area.TheVariants as areas
use Rattle.kb_world.specs.declared.child.Request.{Request}
use Rattle.kb_world.specs.declared.child.Reply.{Reply}
use Rattle.kb_world.specs.declared.roots.Roots.{Roots}
use Rattle.kb_world.specs.declared.world.WorldError.{WorldError}
use Rattle.kb_world.specs.declared.world.WorldError.TheVariants.{Failed, NoMemory}
use Rattle.kb_world.proofs.CrashLaws.{adds_then, adds_wider, adds_none}
use Rattle.kb_again.specs.Sparing.{reaches}
use Rattle.kb_machine.specs.Aside.{is_aside, IsSameBut, IsAsideArea, LeftAside, IsOneArea, IsOldOrAside, WorksAside}
use Rattle.kb_machine.proofs.RestLaws.{some_area, lets-reaches}

-- ---- one of these areas

pub member_left : (area : Area) (xs ys : List Area) → IsOneArea area xs → IsOneArea area (xs ++ ys)
member_left area [] ys one = absurd one
member_left area (x ∷ xs) ys (inl here) = inl here
member_left area (x ∷ xs) ys (inr later) = inr (member_left area xs ys later)

pub member_right : (area : Area) (xs ys : List Area) → IsOneArea area ys → IsOneArea area (xs ++ ys)
member_right area [] ys one = one
member_right area (x ∷ xs) ys one = inr (member_right area xs ys one)

or_right : (a b : Bool) → b ≡ true → (a || b) ≡ true
or_right true b e = refl
or_right false b e = e

member_soft : (area : Area) (soft : List Area) (path : Path) (was left : Option Node) → IsOneArea area soft → lets_differ area path was left ≡ true → is_soft_at soft path was left ≡ true
member_soft area [] path was left one lets = absurd one
member_soft area (x ∷ soft) path was left (inl here) lets = ap (λ b. b || is_soft_at soft path was left) (ap (λ x. lets_differ x path was left) (sym here) ∙ lets)
member_soft area (x ∷ soft) path was left (inr later) lets = or_right (lets_differ x path was left) _ (member_soft area soft path was left later lets)

pub all_members : (areas whole : List Area) → ((area : Area) → IsOneArea area areas → IsOneArea area whole) → AllByRecursion (λ area. IsOneArea area whole) areas
all_members [] whole each = tt
all_members (area ∷ areas) whole each = (each area (inl refl), all_members areas whole (λ other one. each other (inr one)))

-- more areas leave more
pub left_by_members : (some whole : List Area) (before after : Tree) → AllByRecursion (λ area. IsOneArea area whole) some → IsLeft some before after → IsLeft whole before after
left_by_members some whole before after all left = record {
  each = λ path. elim (left.each path) [
    | inl same ↦ inl same
    | inr soft ↦
        let l = some_area (λ area. IsOneArea area whole) some path (node_at before path) (node_at after path) all soft in
        inr (member_soft l.area whole path (node_at before path) (node_at after path) l.has l.lets)
  ];
  formed = left.formed;
}

-- ---- one after another

-- those of the areas that were given aside
abbrev pub own_part : (roots : Roots) (soft areas : List Area) → AllByRecursion (IsOldOrAside roots soft) areas → List Area
own_part roots soft [] all = []
own_part roots soft (area ∷ areas) (inl old, rest) = own_part roots soft areas rest
own_part roots soft (area ∷ areas) (inr aside, rest) = area ∷ own_part roots soft areas rest

own_part-aside : (roots : Roots) (soft areas : List Area) (all : AllByRecursion (IsOldOrAside roots soft) areas) → AllByRecursion (IsAsideArea roots) (own_part roots soft areas all)
own_part-aside roots soft [] all = tt
own_part-aside roots soft (area ∷ areas) (inl old, rest) = own_part-aside roots soft areas rest
own_part-aside roots soft (area ∷ areas) (inr aside, rest) = (aside, own_part-aside roots soft areas rest)

own_part-has : (roots : Roots) (soft areas : List Area) (all : AllByRecursion (IsOldOrAside roots soft) areas) → AllByRecursion (λ area. IsOneArea area (own_part roots soft areas all ++ soft)) areas
own_part-has roots soft [] all = tt
own_part-has roots soft (area ∷ areas) (inl old, rest) = (member_right area (own_part roots soft areas rest) soft old, own_part-has roots soft areas rest)
own_part-has roots soft (area ∷ areas) (inr aside, rest) = (inl refl, later (own_part roots soft areas rest ++ soft) areas (own_part-has roots soft areas rest))
  where
    later : (whole some : List Area) → AllByRecursion (λ other. IsOneArea other whole) some → AllByRecursion (λ other. IsOneArea other (area ∷ whole)) some
    later whole [] each = tt
    later whole (x ∷ some) each = (inr each.0, later whole some each.1)

pub all_append : (P : Area → Type 0) (xs ys : List Area) → AllByRecursion P xs → AllByRecursion P ys → AllByRecursion P (xs ++ ys)
all_append P [] ys all more = more
all_append P (x ∷ xs) ys all more = (all.0, all_append P xs ys all.1 more)

pub all_wider : (P Q : Area → Type 0) (xs : List Area) → ((x : Area) → P x → Q x) → AllByRecursion P xs → AllByRecursion Q xs
all_wider P Q [] wider all = tt
all_wider P Q (x ∷ xs) wider all = (wider x all.0, all_wider P Q xs wider all.1)

regroup : (area : Area) (xs ys zs : List Area) → IsOneArea area (ys ++ zs) → IsOneArea area ((xs ++ ys) ++ zs)
regroup area [] ys zs one = one
regroup area (x ∷ xs) ys zs one = inr (regroup area xs ys zs one)

first_of : (area : Area) (xs ys zs : List Area) → IsOneArea area xs → IsOneArea area ((xs ++ ys) ++ zs)
first_of area xs ys zs one = member_left area (xs ++ ys) zs (member_left area xs ys one)

aside_wider : (roots : Roots) (soft areas : List Area) (tree mid image : Tree) → AllByRecursion (IsOldOrAside roots soft) areas → IsSameBut (is_aside roots) tree mid
    → LeftAside roots areas mid image → LeftAside roots soft tree image
aside_wider roots soft areas tree mid image all same l =
    let own = own_part roots soft areas all in
    record {
      mid = l.mid;
      given = l.given ++ own;
      same = λ path e. l.same path e ∙ same path e;
      aside = all_append (IsAsideArea roots) l.given own l.aside (own_part-aside roots soft areas all);
      left = left_by_members (l.given ++ areas) ((l.given ++ own) ++ soft) l.mid image
          (all_append (λ area. IsOneArea area ((l.given ++ own) ++ soft)) l.given areas
          (all_members l.given ((l.given ++ own) ++ soft) (λ area one. first_of area l.given own soft one))
          (all_wider (λ area. IsOneArea area (own ++ soft)) (λ area. IsOneArea area ((l.given ++ own) ++ soft)) areas (λ area one. regroup area l.given own soft one) (own_part-has roots soft areas all)))
          l.left;
    }

old_or_aside : (roots : Roots) (old mid : List Area) (area : Area) → AllByRecursion (IsOldOrAside roots old) mid → IsOldOrAside roots mid area → IsOldOrAside roots old area
old_or_aside roots old mid area all (inr aside) = inr aside
old_or_aside roots old mid area all (inl one) = by mid all one
  where
    by : (areas : List Area) → AllByRecursion (IsOldOrAside roots old) areas → IsOneArea area areas → IsOldOrAside roots old area
    by [] all one = absurd one
    by (x ∷ areas) all (inl here) = subst (IsOldOrAside roots old) (sym here) all.0
    by (x ∷ areas) all (inr later) = by areas all.1 later

pub aside_then : (roots : Roots) (old mid new : State) → WorksAside roots old mid → WorksAside roots mid new → WorksAside roots old new
aside_then roots old mid new a b = record {
  tree = λ tree told. let now = a.tree tree told in let next = b.tree now.0 now.1 in (next.0, next.1, λ path e. next.2 path e ∙ now.2 path e);
  soft = all_wider (IsOldOrAside roots mid.history.soft) (IsOldOrAside roots old.history.soft) new.history.soft (λ area one. old_or_aside roots old.history.soft mid.history.soft area a.soft one) b.soft;
  moments = λ tree told.
      let now = a.tree tree told in
      adds_then (LeftAside roots old.history.soft tree) old.history mid.history new.history (a.moments tree told)
      (adds_wider (LeftAside roots mid.history.soft now.0) (LeftAside roots old.history.soft tree) mid.history new.history
      (λ image left. aside_wider roots old.history.soft mid.history.soft tree now.0 image a.soft now.2 left) (b.moments now.0 now.1));
}

-- ---- a child

-- an edit outside of the area does nothing
edit_outside : (area : Area) (tree : Tree) (edit : Option Edit) (q : Path) → ((t : Tree) → holds area t q ≡ false) → node_at (with_edit area tree edit) q ≡ node_at tree q
edit_outside area tree None q out = refl
edit_outside area tree (Some edit) q out = by (can_edit area tree edit.path) refl
  where
    other : can_edit area tree edit.path ≡ true → q ≡ edit.path → ⊥
    other can same =
        let held = first_so (holds area tree edit.path) _ (first_so (holds area tree edit.path && not (is_dir (node_at tree edit.path))) _ can) in
        let impossible : true ≡ false = sym held ∙ ap (holds area tree) (sym same) ∙ out tree in cc

    at_edit : (at : Option Node) → (q ≡ edit.path → ⊥) → node_at (edited edit.path at tree) q ≡ node_at tree q
    at_edit None apart = remove-apart tree edit.path q apart
    at_edit (Some node) apart = with_node-apart tree edit.path node q apart

    by : (b : Bool) → can_edit area tree edit.path ≡ b → node_at (cond b (edited edit.path edit.at tree) tree) q ≡ node_at tree q
    by true can = at_edit edit.at (other can)
    by false can = refl

pub edits_outside : (area : Area) (tree : Tree) (edits : List (Option Edit)) (q : Path) → ((t : Tree) → holds area t q ≡ false) → node_at (after_edits area tree edits) q ≡ node_at tree q
edits_outside area tree [] q out = refl
edits_outside area tree (edit ∷ edits) q out = edits_outside area (with_edit area tree edit) edits q out ∙ edit_outside area tree edit q out

pub holds-reaches : (area : Area) (tree : Tree) (q : Path) → reaches area q ≡ false → holds area tree q ≡ false
holds-reaches areas.Nothing tree q none = refl
holds-reaches (areas.Under directory) tree q none = none
holds-reaches (areas.Names directory names) tree q none = ap (λ b. b && not (is_dir (node_at tree q))) none

not_reached : (roots : Roots) (area : Area) → IsAsideArea roots area → (q : Path) → is_aside roots q ≡ false → reaches area q ≡ false
not_reached roots area o q none = by (reaches area q) refl
  where
    by : (b : Bool) → reaches area q ≡ b → b ≡ false
    by true e = let impossible : true ≡ false = sym (o.own q e) ∙ none in cc
    by false e = refl

ran_same : (roots : Roots) (script : Script) (request : Request) (tree : Tree) → IsAsideArea roots request.area → IsSameBut (is_aside roots) tree (tree_after roots script request tree)
unfolding tree_after
ran_same roots script request tree o q none =
    edits_outside request.area tree (map (edit_of (view_of roots request tree)) (answer_in roots script request tree).effects) q (λ t. holds-reaches request.area t q (not_reached roots request.area o q none))

cut_same : (roots : Roots) (area : Area) (tree now : Tree) → IsAsideArea roots area → IsLeft (area ∷ []) tree now → IsSameBut (is_aside roots) tree now
cut_same roots area tree now o left q none = elim (left.each q) [
  | inl same ↦ same
  | inr soft ↦ absurd (by (lets_differ area q (node_at tree q) (node_at now q)) refl soft)
]
  where
    by : (b : Bool) → lets_differ area q (node_at tree q) (node_at now q) ≡ b → (b || false) ≡ true → ⊥
    by true lets e = let impossible : true ≡ false = sym (lets-reaches area q (node_at tree q) (node_at now q) lets) ∙ not_reached roots area o q none in cc
    by false lets e = let impossible : false ≡ true = e in cc

still_old : (roots : Roots) (areas soft : List Area) → ((area : Area) → IsOneArea area areas → IsOneArea area soft) → AllByRecursion (IsOldOrAside roots soft) areas
still_old roots [] soft each = tt
still_old roots (area ∷ areas) soft each = (inl (each area (inl refl)), still_old roots areas soft (λ other one. each other (inr one)))

pub aside_of_run : (roots : Roots) (request : Request) (old new : State) (result : Result Reply WorldError) → old.roots ≡ roots → IsAsideArea roots request.area → Runs request old new result → WorksAside roots old new
aside_of_run roots request old new result rooted o r = record {
  tree = λ tree told. by result r.ends tree told;
  soft = elim r.begun [
    | inl not_begun ↦ subst (AllByRecursion (IsOldOrAside roots old.history.soft)) (sym not_begun.soft) (still_old roots old.history.soft old.history.soft (λ area one. one))
    | inr more ↦ subst (AllByRecursion (IsOldOrAside roots old.history.soft)) (sym more) (inr o, still_old roots old.history.soft old.history.soft (λ area one. one))
  ];
  moments = λ tree told. adds_wider (LeftOf (request.area ∷ old.history.soft) old.tree) (LeftAside roots old.history.soft tree) old.history new.history
      (λ image left. record {
        mid = tree;
        given = request.area ∷ [];
        same = λ path e. refl;
        aside = (o, tt);
        left = subst (λ t. LeftOf (request.area ∷ old.history.soft) t image) told left;
      }) r.moments;
}
  where
    by : (result : Result Reply WorldError) → ((tree : Tree) → old.tree ≡ Some tree → EndsAs request old new result tree) → (tree : Tree) → old.tree ≡ Some tree
        → (now : Tree) × (new.tree ≡ Some now) × IsSameBut (is_aside roots) tree now
    by (Ok reply) ends tree told =
        let is : IsReplied request old new reply tree = ends tree told in
        (tree_after old.roots old.script request tree, is.done, subst (λ r. IsSameBut (is_aside roots) tree (tree_after r old.script request tree)) (sym rooted) (ran_same roots old.script request tree o))
    by (Err Failed) ends tree told = let cut = (ends tree told).0 in (cut.0, cut.1, cut_same roots request.area tree cut.0 o cut.2)
    by (Err NoMemory) ends tree told = let cut = (ends tree told).0 in (cut.0, cut.1, cut_same roots request.area tree cut.0 o cut.2)

pub aside_none : (roots : Roots) (state : State) → WorksAside roots state state
aside_none roots state = record {
  tree = λ tree told. (tree, told, λ path e. refl);
  soft = still_old roots state.history.soft state.history.soft (λ area one. one);
  moments = λ tree told. adds_none (LeftAside roots state.history.soft tree) state.history state.history refl;
}
