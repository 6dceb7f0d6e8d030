-- What the paths of a tree give a store's lists: each entry of a list tells the path that gave it.
use Rattle.std.proofs.Common.{◌≡◌, ℕ, Bool, true, false, cond, ◌||◌, List, [], ◌∷◌, map, Option, Some, None, is_some, refl, sym, ap, ◌∙◌}
use Rattle.std.specs.Prelude.{filter_map, option_and_then}
use Rattle.std.specs.List.{find, list_all, list_any, cons_option}
use Rattle.std.specs.FinMap.{keys}
use Rattle.std.specs.Ordering.{is_lt}
use Rattle.std.specs.Cmp.{first_so, second_so}
use Rattle.std.specs.Cmp.Derive.{both_true}
use Rattle.kb_world.specs.Path.{Path, path_cmp}
use Rattle.kb_world.specs.StorePath.{is_ruled, store_path, path_of}
use Rattle.kb_world.specs.Tree.{Tree, node_at}
use Rattle.kb_world.specs.TreeLaws.{same_path, same_path-true, same_path-refl}
use Rattle.kb_world.specs.Store.{is_added, added_by}
use Rattle.kb_world.specs.declared.roots.Roots.{Roots}
use Rattle.kb_world.specs.declared.job.Key.{Key}
use Rattle.kb_world.specs.declared.job.Spot.{Spot}
use Rattle.kb_world.specs.declared.store_path.StorePath.{StorePath}
use Rattle.kb_world.specs.declared.store_path.StorePath.TheVariants.{SourceLink, Targets, KernelLink, InChest}
use Rattle.kb_world.specs.declared.tree.Node.{Node}
use Rattle.kb_world.proofs.StorePathLaws.{open_some, mapped_from, place_back, place_there}
use Rattle.kb_store.specs.Contents.{at_place, build_of, build_by, installation_of, installation_by, chest_of, chest_by}
use Rattle.kb_walk.specs.Walking.{rises}
use Rattle.kb_store.specs.declared.store.Build.{Build}
use Rattle.kb_store.specs.declared.store.Installation.{Installation}
use Rattle.kb_store.specs.declared.store.Chest.{Chest}
use Rattle.kb_walk.proofs.WalkLaws.{standing, rises_keys}

-- ---- what is found in the list that paths give

-- what passes the test
abbrev pub picked : {X : Type 0} → (X → Bool) → Option X → Option X
picked test None = None
picked test (Some x) = cond (test x) (Some x) None

none_some : {X : Type 0} (x : X) → None ≡ Some x → ⊥
none_some x h = cc

some_same : {X : Type 0} (x y : X) → Some x ≡ Some y → x ≡ y
some_same x y h = cc

pub cond_none : {X : Type 0} (b : Bool) → ◌≡◌ {A = Option X} (cond b None None) None
cond_none true = refl
cond_none false = refl

-- one passes the test exactly where one is found
pub any_found : {X : Type 0} (test : X → Bool) (xs : List X) → list_any test xs ≡ is_some (find test xs)
any_found test [] = refl
any_found test (x ∷ xs) = by (test x) (any_found test xs)
  where
    by : (b : Bool) → list_any test xs ≡ is_some (find test xs) → (b || list_any test xs) ≡ is_some (cond b (Some x) (find test xs))
    by true later = refl
    by false later = later

-- where only one path can give what passes, that is found exactly where the path is in the list
found_once : {X : Type 0} (f : Path → Option X) (test : X → Bool) (q : Path) → ((path : Path) (x : X) → f path ≡ Some x → test x ≡ true → path ≡ q)
    → (paths : List Path) → find test (filter_map f paths) ≡ cond (list_any (same_path q) paths) (picked test (f q)) None
found_once f test q single [] = refl
found_once {X} f test q single (path ∷ paths) = at_path (f path) refl (found_once f test q single paths)
  where
    IsLater : Type 0
    IsLater = find test (filter_map f paths) ≡ cond (list_any (same_path q) paths) (picked test (f q)) None

    IsNow : Type 0
    IsNow = find test (cons_option (f path) (filter_map f paths)) ≡ cond (same_path q path || list_any (same_path q) paths) (picked test (f q)) None

    hit : (x : X) → f path ≡ Some x → test x ≡ true → IsNow
    hit x g t =
        let is = single path x g t in
        let picks : picked test (f q) ≡ Some x = ap (λ p. picked test (f p)) (sym is) ∙ ap (picked test) g ∙ ap (λ b. cond b (Some x) None) t in
        ap (λ o. find test (cons_option o (filter_map f paths))) g ∙ ap (λ b. cond b (Some x) (find test (filter_map f paths))) t
        ∙ sym (ap (λ b. cond (b || list_any (same_path q) paths) (picked test (f q)) None) (ap (same_path q) is ∙ same_path-refl q) ∙ picks)

    miss : picked test (f path) ≡ None → find test (cons_option (f path) (filter_map f paths)) ≡ find test (filter_map f paths) → IsLater → IsNow
    miss none over later = by (same_path q path) refl
      where
        by : (b : Bool) → same_path q path ≡ b → IsNow
        by true e =
            let nothing : picked test (f q) ≡ None = ap (λ p. picked test (f p)) (same_path-true q path e) ∙ none in
            over ∙ later ∙ ap (λ o. cond (list_any (same_path q) paths) o None) nothing ∙ cond_none (list_any (same_path q) paths)
            ∙ sym (ap (λ b. cond (b || list_any (same_path q) paths) (picked test (f q)) None) e ∙ nothing)
        by false e = over ∙ later ∙ sym (ap (λ b. cond (b || list_any (same_path q) paths) (picked test (f q)) None) e)

    at_path : (o : Option X) → f path ≡ o → IsLater → IsNow
    at_path None g later = miss (ap (picked test) g) (ap (λ o. find test (cons_option o (filter_map f paths))) g) later
    at_path (Some x) g later = at_test (test x) refl
      where
        at_test : (b : Bool) → test x ≡ b → IsNow
        at_test true t = hit x g t
        at_test false t =
            miss (ap (picked test) g ∙ ap (λ b. cond b (Some x) None) t)
            (ap (λ o. find test (cons_option o (filter_map f paths))) g ∙ ap (λ b. cond b (Some x) (find test (filter_map f paths))) t) later

-- ---- the order of the list that paths give

-- what is less than all paths is less than all that they give
less_given : {X : Type 0} (f : Path → Option X) (place : X → Path) → ((path : Path) (x : X) → f path ≡ Some x → path ≡ place x) → (least : Path) (paths : List Path)
    → list_all (λ other. is_lt (path_cmp least other)) paths ≡ true → list_all (λ other. is_lt (path_cmp least other)) (map place (filter_map f paths)) ≡ true
less_given f place placed least [] h = refl
less_given {X} f place placed least (path ∷ paths) h =
    by (f path) refl (less_given f place placed least paths (second_so (is_lt (path_cmp least path)) (list_all (λ other. is_lt (path_cmp least other)) paths) h))
  where
    by : (o : Option X) → f path ≡ o → list_all (λ other. is_lt (path_cmp least other)) (map place (filter_map f paths)) ≡ true
        → list_all (λ other. is_lt (path_cmp least other)) (map place (cons_option (f path) (filter_map f paths))) ≡ true
    by None e later = ap (λ o. list_all (λ other. is_lt (path_cmp least other)) (map place (cons_option o (filter_map f paths)))) e ∙ later
    by (Some x) e later =
        ap (λ o. list_all (λ other. is_lt (path_cmp least other)) (map place (cons_option o (filter_map f paths)))) e
        ∙ both_true (ap (λ p. is_lt (path_cmp least p)) (sym (placed path x e)) ∙ first_so (is_lt (path_cmp least path)) (list_all (λ other. is_lt (path_cmp least other)) paths) h) later

-- what rising paths give rises
rises_given : {X : Type 0} (f : Path → Option X) (place : X → Path) → ((path : Path) (x : X) → f path ≡ Some x → path ≡ place x) → (paths : List Path)
    → rises paths ≡ true → rises (map place (filter_map f paths)) ≡ true
rises_given f place placed [] up = refl
rises_given {X} f place placed (path ∷ paths) up =
    by (f path) refl (less_given f place placed path paths (first_so (list_all (λ other. is_lt (path_cmp path other)) paths) (rises paths) up))
    (rises_given f place placed paths (second_so (list_all (λ other. is_lt (path_cmp path other)) paths) (rises paths) up))
  where
    by : (o : Option X) → f path ≡ o → list_all (λ other. is_lt (path_cmp path other)) (map place (filter_map f paths)) ≡ true → rises (map place (filter_map f paths)) ≡ true
        → rises (map place (cons_option (f path) (filter_map f paths))) ≡ true
    by None e less later = ap (λ o. rises (map place (cons_option o (filter_map f paths)))) e ∙ later
    by (Some x) e less later =
        ap (λ o. rises (map place (cons_option o (filter_map f paths)))) e
        ∙ both_true (ap (λ p. list_all (λ other. is_lt (path_cmp p other)) (map place (filter_map f paths))) (sym (placed path x e)) ∙ less) later

-- ---- what paths give by what they are for

then_from : {X Y : Type 0} (next : X → Option Y) (told : Option X) (y : Y) → option_and_then next told ≡ Some y → (x : X) × (told ≡ Some x) × (next x ≡ Some y)
then_from next None y h = absurd (none_some y h)
then_from next (Some x) y h = (x, refl, h)

-- what is given tells what its path is for
abbrev pub TellsPlace : {X : Type 0} → (StorePath → Option X) → (X → StorePath) → Type 0
TellsPlace {X} f own = (place : StorePath) (x : X) → f place ≡ Some x → place ≡ own x

module _ {X : Type 0} (roots : Roots) (tree : Tree) (f : StorePath → Option X) (own : X → StorePath) (tells : TellsPlace f own) where
  -- a path that gives something is for that, and the names in it keep their rules
  pub path_told : (path : Path) (x : X) → at_place roots f path ≡ Some x → (is_ruled (own x) ≡ true) × (path ≡ path_of roots (own x)) × (f (own x) ≡ Some x)
  path_told path x g =
      let found = then_from f (store_path roots path) x g in
      let is = place_back roots path found.0 found.1 in
      let same = tells found.0 x found.2 in
      (sym (ap is_ruled same) ∙ is.ruled, is.is ∙ ap (path_of roots) same, sym (ap f same) ∙ found.2)

  -- what all paths of a tree give rises
  pub entries_rise : rises (map (λ x. path_of roots (own x)) (filter_map (at_place roots f) (keys tree))) ≡ true
  entries_rise = rises_given (at_place roots f) (λ x. path_of roots (own x)) (λ path x g. (path_told path x g).1) (keys tree) (rises_keys tree)

  -- what is found by its path is what that path gives
  pub found_path : (test : X → Bool) (q : Path) → ((x : X) → test x ≡ true → path_of roots (own x) ≡ q)
      → find test (filter_map (at_place roots f) (keys tree)) ≡ cond (is_some (node_at tree q)) (picked test (at_place roots f q)) None
  found_path test q named =
      found_once (at_place roots f) test q (λ path x g t. (path_told path x g).1 ∙ named x t) (keys tree)
      ∙ ap (λ b. cond b (picked test (at_place roots f q)) None) (sym (standing tree q))

  pub found_at : (test : X → Bool) (place : StorePath) → is_ruled place ≡ true → ((x : X) → test x ≡ true → own x ≡ place) → (node_at tree (path_of roots place) ≡ None → picked test (f place) ≡ None)
      → find test (filter_map (at_place roots f) (keys tree)) ≡ picked test (f place)
  found_at test place ruled named absent = found_path test (path_of roots place) (λ x t. ap (path_of roots) (named x t)) ∙ at_node (node_at tree (path_of roots place)) refl
    where
      at_node : (at : Option Node) → node_at tree (path_of roots place) ≡ at → cond (is_some (node_at tree (path_of roots place))) (picked test (at_place roots f (path_of roots place))) None ≡ picked test (f place)
      at_node None e = ap (λ at. cond (is_some at) (picked test (at_place roots f (path_of roots place))) None) e ∙ sym (absent e)
      at_node (Some node) e =
          ap (λ at. cond (is_some at) (picked test (at_place roots f (path_of roots place))) None) e ∙ ap (λ o. picked test (option_and_then f o)) (place_there roots place ruled)

-- ---- each of what is given

pub added_tells : (roots : Roots) (tree : Tree) → TellsPlace (added_by roots tree) SourceLink
added_tells roots tree (SourceLink key) x h = ap SourceLink (some_same key x (open_some (is_added roots key tree) (Some key) x h).1)
added_tells roots tree other x h = absurd (none_some x h)

-- what each stands for
abbrev pub build_place : Build → StorePath
build_place build = Targets build.key build.spot

pub build_tells : (places : Key → Spot → Option (List Path)) → TellsPlace (build_by places) build_place
build_tells places (Targets key spot) x h = ap build_place (mapped_from (build_of key spot) (places key spot) x h).2
build_tells places other x h = absurd (none_some x h)

abbrev pub installation_place : Installation → StorePath
installation_place installation = KernelLink installation.module installation.spot

pub installation_tells : (version : List ℕ → Spot → Option (List ℕ)) → TellsPlace (installation_by version) installation_place
installation_tells version (KernelLink word spot) x h = ap installation_place (mapped_from (installation_of word spot) (version word spot) x h).2
installation_tells version other x h = absurd (none_some x h)

abbrev pub chest_place : Chest → StorePath
chest_place chest = InChest chest.module chest.spot []

pub chest_tells : (files : List ℕ → Spot → Option (List Path)) → TellsPlace (chest_by files) chest_place
chest_tells files (InChest word spot []) x h = ap chest_place (mapped_from (chest_of word spot) (files word spot) x h).2
chest_tells files other x h = absurd (none_some x h)
