-- What a crash leaves where no soft area reaches what is public.
use Rattle.std.proofs.Common.{◌≡◌, ◌⊎◌, ℕ, ◌+◌, Bool, true, false, cond, ◌&&◌, ◌||◌, not, List, [], ◌∷◌, length, drop, nat_eq, Option, Some, None, refl, sym, ap, ◌∙◌, subst, inl, inr, arith, length-append}
use Rattle.std.specs.List.{list_any, AllByRecursion}
use Rattle.std.specs.Cmp.{first_so, second_so}
use Rattle.std.proofs.lemmas.Bool.{cases_Bool, true≢false}
use Rattle.kb_world.specs.Path.{Path, is_under}
use Rattle.kb_world.specs.Tree.{Tree, node_at, is_dir, sole, IsFormed}
use Rattle.kb_world.specs.TreeLaws.{same_tree}
use Rattle.kb_world.specs.Area.{is_named, lets_differ, is_soft_at, IsLeft}
use Rattle.kb_world.specs.Public.{intent_path, staging_path, is_private, is_loose, is_public, public_tree}
use Rattle.kb_world.specs.Script.{Script}
use Rattle.kb_world.specs.Crash.{LeftOf}
use Rattle.kb_world.specs.State.{State}
use Rattle.kb_world.specs.declared.roots.Roots.{Roots}
use Rattle.kb_world.specs.declared.tree.Node.{Node}
use Rattle.kb_world.specs.declared.child.Area.{Area}
use Rattle.kb_world.specs.declared.child.Area.TheVariants as areas
use Rattle.kb_world.proofs.PathLaws.{under-self, under-split}
use Rattle.kb_world.proofs.PublicLaws.{node_at-public_tree}
use Rattle.kb_machine.specs.Opens.{IsReady, at_rest, recovers, Opens, own_areas}
use Rattle.kb_changes.specs.declared.change.Intent.{Intent}
use Rattle.kb_changes.specs.Valid.{written_roots, is_initrd, is_initrd_name, is_kept_out}
use Rattle.kb_again.specs.Sparing.{reaches, is_list_of_names, counts, IsSparing, AreSparing}
use Rattle.kb_machine.specs.Stands.{Rests}
use Rattle.kb_world.specs.declared.tree.Node.TheVariants as node

-- below a root that is written
abbrev is_written : Roots → Path → Bool
is_written roots path = list_any (is_under path) (written_roots roots)

turned : (b : Bool) → not b ≡ true → b ≡ false
turned true h = let q : false ≡ true = h in cc
turned false h = refl

-- an area that lets something differ at a path reaches it
pub lets-reaches : (area : Area) (path : Path) (was left : Option Node) → lets_differ area path was left ≡ true → reaches area path ≡ true
lets-reaches areas.Nothing path was left h = h
lets-reaches (areas.Under directory) path was left h = h
lets-reaches (areas.Names directory names) path was left h = first_so (is_named directory names path) _ (first_so (is_named directory names path && not (is_dir was)) _ h)

-- of a list of names no directory is among what differs
lets-leaves : (area : Area) (path : Path) (was left : Option Node) → is_list_of_names area ≡ true → lets_differ area path was left ≡ true → (is_dir was ≡ false) × (is_dir left ≡ false)
lets-leaves areas.Nothing path was left names h = let q : false ≡ true = names in cc
lets-leaves (areas.Under directory) path was left names h = let q : false ≡ true = names in cc
lets-leaves (areas.Names directory names) path was left is h = (
  turned (is_dir was) (second_so (is_named directory names path) _ (first_so (is_named directory names path && not (is_dir was)) _ h)),
  turned (is_dir left) (second_so (is_named directory names path && not (is_dir was)) _ h),
)

-- the area that lets it
pub record Lets (P : Area → Type 0) (path : Path) (was left : Option Node) : Type 0 where
  pub area : Area
  pub has : P area
  pub lets : lets_differ area path was left ≡ true

pub some_area : (P : Area → Type 0) (soft : List Area) (path : Path) (was left : Option Node) → AllByRecursion P soft → is_soft_at soft path was left ≡ true → Lets P path was left
some_area P [] path was left all h = let q : false ≡ true = h in absurd (cc)
some_area P (area ∷ soft) path was left all h = elim (cases_Bool (lets_differ area path was left)) [
  | inl is ↦ record { area = area; has = all.0; lets = is }
  | inr isnt ↦ some_area P soft path was left all.1 (sym (ap (λ b. b || is_soft_at soft path was left) isnt) ∙ h)
]

-- ---- a file or a link with the name of an initrd lies loose

sole_name : (rest : Path) (name : List ℕ) → sole rest ≡ Some name → rest ≡ name ∷ []
sole_name [] name h = let q : None ≡ Some name = h in cc
sole_name (first ∷ []) name h = let q : first ≡ name = cc in ap (λ n. n ∷ []) q
sole_name (first ∷ more ∷ rest) name h = let q : None ≡ Some name = h in cc

is_initrd-parts : (roots : Roots) (path : Path) → is_initrd roots path ≡ true → (is_under path roots.boot ≡ true) × (nat_eq (length path) (length roots.boot + 1) ≡ true)
is_initrd-parts roots path h = by_under (is_under path roots.boot) refl
  where
    by_sole : (under : is_under path roots.boot ≡ true) (o : Option (List ℕ)) → sole (drop (length roots.boot) path) ≡ o → (is_under path roots.boot ≡ true) × (nat_eq (length path) (length roots.boot + 1) ≡ true)
    by_sole under None e = let q : false ≡ true = sym (ap (λ o. is_initrd_name (cond (is_under path roots.boot) o None)) e ∙ ap (λ b. is_initrd_name (cond b None None)) under) ∙ h in cc
    by_sole under (Some name) e =
        let long : length path ≡ length roots.boot + 1 = ap length (under-split path roots.boot under) ∙ length-append roots.boot (drop (length roots.boot) path) ∙ ap (λ r. length roots.boot + length r) (sole_name _ name e) in
        (under, ap (λ n. nat_eq n (length roots.boot + 1)) long ∙ same (length roots.boot + 1))
      where
        same : (n : ℕ) → nat_eq n n ≡ true
        same n = grind arith

    by_under : (b : Bool) → is_under path roots.boot ≡ b → (is_under path roots.boot ≡ true) × (nat_eq (length path) (length roots.boot + 1) ≡ true)
    by_under true e = by_sole e (sole (drop (length roots.boot) path)) refl
    by_under false e = let q : false ≡ true = sym (ap (λ b. is_initrd_name (cond b (sole (drop (length roots.boot) path)) None)) e) ∙ h in cc

loose : (roots : Roots) (path : Path) (at : Option Node) → is_initrd roots path ≡ true → is_dir at ≡ false → is_loose roots path at ≡ true
loose roots path at initrd file =
    let parts = is_initrd-parts roots path initrd in
    all_three (is_under path roots.boot) (nat_eq (length path) (length roots.boot + 1)) (is_dir at) parts.0 parts.1 file
  where
    all_three : (a b c : Bool) → a ≡ true → b ≡ true → c ≡ false → (a && b && not c) ≡ true
    all_three a b c ha hb hc = cc

-- ---- the public part

-- what stands there isn't public, whether before or after
neither : (roots : Roots) (area : Area) (path : Path) (was left : Option Node) → IsSparing roots [] area → lets_differ area path was left ≡ true
    → (is_public roots path was ≡ false) × (is_public roots path left ≡ false)
neither roots area path was left spares lets =
    let reached = lets-reaches area path was left lets in
    by_counts (counts roots area path) refl reached
  where
    hidden : (w p : Bool) (at : Option Node) → is_written roots path ≡ w → is_private roots path ≡ p → (w ≡ false) ⊎ (p ≡ true) → is_public roots path at ≡ false
    hidden w p at hw hp (inl out) = ap (λ b. b && not (is_private roots path) && not (is_loose roots path at)) (hw ∙ out)
    hidden w p at hw hp (inr own) = not_own (is_written roots path) (is_private roots path) (is_loose roots path at) (hp ∙ own)
      where
        not_own : (a b c : Bool) → b ≡ true → (a && not b && not c) ≡ false
        not_own true b c h = ap (λ x. not x && not c) h
        not_own false b c h = refl

    loosely : (at : Option Node) → is_initrd roots path ≡ true → is_dir at ≡ false → is_public roots path at ≡ false
    loosely at initrd file = last_of_three (is_written roots path) (is_private roots path) (is_loose roots path at) (loose roots path at initrd file)
      where
        last_of_three : (a b c : Bool) → c ≡ true → (a && not b && not c) ≡ false
        last_of_three true true c h = refl
        last_of_three true false c h = ap not h
        last_of_three false b c h = refl

    by_parts : (w p i : Bool) → is_written roots path ≡ w → is_private roots path ≡ p → (is_list_of_names area && is_initrd roots path) ≡ i → (w && (not p && not i)) ≡ false
        → (is_public roots path was ≡ false) × (is_public roots path left ≡ false)
    by_parts false p i hw hp hi h = (hidden false p was hw hp (inl refl), hidden false p left hw hp (inl refl))
    by_parts true true i hw hp hi h = (hidden true true was hw hp (inr refl), hidden true true left hw hp (inr refl))
    by_parts true false true hw hp hi h =
        let names = first_so (is_list_of_names area) (is_initrd roots path) hi in
        let initrd = second_so (is_list_of_names area) (is_initrd roots path) hi in
        let files = lets-leaves area path was left names lets in
        (loosely was initrd files.0, loosely left initrd files.1)
    by_parts true false false hw hp hi h = let q : true ≡ false = h in absurd (cc)

    by_counts : (b : Bool) → counts roots area path ≡ b → reaches area path ≡ true → (is_public roots path was ≡ false) × (is_public roots path left ≡ false)
    by_counts true e reached = absurd (true≢false (sym (spares.public path reached e)))
    by_counts false e reached = by_parts (is_written roots path) (is_private roots path) (is_list_of_names area && is_initrd roots path) refl refl refl e

pub spared_public : (roots : Roots) (soft : List Area) (tree image : Tree) → AreSparing roots [] soft → IsLeft soft tree image → public_tree roots image ≡ public_tree roots tree
spared_public roots soft tree image spares left = same_tree _ _ (λ q.
    node_at-public_tree roots image q ∙ at_path q (left.each q) ∙ sym (node_at-public_tree roots tree q))
  where
    at_path : (q : Path) → (node_at image q ≡ node_at tree q) ⊎ (is_soft_at soft q (node_at tree q) (node_at image q) ≡ true)
        → cond (is_public roots q (node_at image q)) (node_at image q) None ≡ cond (is_public roots q (node_at tree q)) (node_at tree q) None
    at_path q (inl same) = ap (λ at. cond (is_public roots q at) at None) same
    at_path q (inr soft_there) =
        let lets = some_area (IsSparing roots []) soft q (node_at tree q) (node_at image q) spares soft_there in
        let out = neither roots lets.area q (node_at tree q) (node_at image q) lets.has lets.lets in
        ap (λ b. cond b (node_at image q) None) out.1 ∙ sym (ap (λ b. cond b (node_at tree q) None) out.0)

-- the journal is none of what they reach
pub spared_journal : (roots : Roots) (own soft : List Area) (tree image : Tree) → AreSparing roots own soft → IsLeft soft tree image → node_at image (intent_path roots) ≡ node_at tree (intent_path roots)
spared_journal roots own soft tree image spares left = elim (left.each (intent_path roots)) [
  | inl same ↦ same
  | inr soft_there ↦
      let lets = some_area (IsSparing roots own) soft (intent_path roots) _ _ spares soft_there in
      let reached = lets-reaches lets.area (intent_path roots) _ _ lets.lets in
      let kept : is_kept_out roots (intent_path roots) ≡ true = ap (λ b. b || list_any (is_under (intent_path roots)) (staging_path roots.dkms ∷ staging_path roots.src ∷ staging_path roots.modules ∷ staging_path roots.boot ∷ [])) (under-self (intent_path roots)) in
      absurd (true≢false (sym kept ∙ lets.has.kept_out (intent_path roots) reached))
]

-- ---- a world at rest

pub opens-none : (roots : Roots) (script : Script) (tree store : Tree) → node_at tree (intent_path roots) ≡ None → public_tree roots tree ≡ store → Opens roots script tree store
opens-none roots script tree store none is = (tree, None, at_rest none refl refl, is)

pub rests_from : (roots : Roots) (state : State) (tree : Tree) → state.tree ≡ Some tree → node_at tree (intent_path roots) ≡ None → AreSparing roots [] state.history.soft → Rests roots (public_tree roots tree) state
rests_from roots state tree told none spares =
    let left : (image : Tree) → LeftOf state.history.soft state.tree image → IsLeft state.history.soft tree image = λ image l. subst (λ t. LeftOf state.history.soft t image) told l in
    record {
      no_journal = λ image l. spared_journal roots [] state.history.soft tree image spares (left image l) ∙ none;
      stands = record {
        opens = λ image l. opens-none roots state.script image (public_tree roots tree) (spared_journal roots [] state.history.soft tree image spares (left image l) ∙ none) (spared_public roots state.history.soft tree image spares (left image l));
        spares = λ t is. let same : t ≡ tree = some_same t tree (sym is ∙ told) in (t, None, at_rest (ap (λ x. node_at x (intent_path roots)) same ∙ none) refl refl, spares);
      };
    }
  where
    some_same : (a b : Tree) → Some a ≡ Some b → a ≡ b
    some_same a b e = cc

-- of a tree without a journal nothing is found
pub ready_at_rest : (roots : Roots) (script : Script) (tree ready : Tree) (found : Option Intent) → node_at tree (intent_path roots) ≡ None → IsReady roots script tree ready found → (ready ≡ tree) × (found ≡ None)
ready_at_rest roots script tree ready found bare (at_rest none is nothing) = (is, nothing)
ready_at_rest roots script tree ready found bare (recovers bytes exec intent there journal is something) = let impossible : None ≡ Some (node.File bytes exec) = sym bare ∙ there in absurd (cc)

-- a formed tree is one that a crash leaves
left_itself : (state : State) (tree : Tree) → state.tree ≡ Some tree → IsFormed tree → LeftOf state.history.soft state.tree tree
left_itself state tree told formed = subst (λ t. LeftOf state.history.soft t tree) (sym told) (record { each = λ q. inl refl; formed = formed })

pub rests_bare : (roots : Roots) (store : Tree) (state : State) (tree : Tree) → state.tree ≡ Some tree → IsFormed tree → Rests roots store state → node_at tree (intent_path roots) ≡ None
rests_bare roots store state tree told formed rests = rests.no_journal tree (left_itself state tree told formed)

pub rests_spares : (roots : Roots) (store : Tree) (state : State) (tree : Tree) → state.tree ≡ Some tree → IsFormed tree → Rests roots store state → AreSparing roots [] state.history.soft
rests_spares roots store state tree told formed rests =
    let s = rests.stands.spares tree told in
    subst (λ found. AreSparing roots (own_areas found) state.history.soft) (ready_at_rest roots state.script tree s.0 s.1 (rests_bare roots store state tree told formed rests) s.2).1 s.3

-- the store is that of the public tree
pub rests_public : (roots : Roots) (store : Tree) (state : State) (tree : Tree) → state.tree ≡ Some tree → IsFormed tree → Rests roots store state → public_tree roots tree ≡ store
rests_public roots store state tree told formed rests =
    let o = rests.stands.opens tree (left_itself state tree told formed) in
    ap (public_tree roots) (sym (ready_at_rest roots state.script tree o.0 o.1 (rests_bare roots store state tree told formed rests) o.2).0) ∙ o.3
