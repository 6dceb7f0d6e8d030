-- Edits of a tree that keep what every change keeps that spares the entries that tell.
use Rattle.std.proofs.Common.{◌≡◌, ◌≢◌, ℕ, Bool, true, false, cond, ◌&&◌, ◌||◌, not, List, [], ◌∷◌, ◌++◌, map, Option, Some, None, codes, refl, sym, ap, ◌∙◌, subst}
use Rattle.std.proofs.lemmas.List.{append_cancel_left}
use Rattle.std.specs.Prelude.{flat_map}
use Rattle.std.specs.List.{list_any, AllByRecursion}
use Rattle.std.specs.FinMap.{keys, remove}
use Rattle.std.specs.Cmp.{first_so, second_so}
use Rattle.kb_world.specs.Path.{Path, is_under}
use Rattle.kb_world.specs.Tree.{Tree, node_at, with_node, is_dir, is_file, is_leaf}
use Rattle.kb_world.specs.TreeLaws.{same_path, same_path-true, same_path-refl, same_path-false, node_at-with_node, with_node-apart, node_at-remove, node_at-retain}
use Rattle.kb_world.specs.Roots.{is_below}
use Rattle.kb_world.specs.Patch.{Patch, above, dirs_of, emptied_of, patched, with_directory, with_directories, with_nodes, dropped, all_dropped, wiped, all_wiped, tidied, all_tidied, is_listed}
use Rattle.kb_world.specs.declared.roots.Roots.{Roots}
use Rattle.kb_world.specs.declared.tree.Node.{Node}
use Rattle.kb_world.specs.declared.tree.Node.TheVariants as node
use Rattle.kb_world.proofs.PathLaws.{under-beside, under-self, by_test}
use Rattle.kb_world.proofs.ListedLaws.{listed-append, listed-in_order, listed-flat_map}
use Rattle.kb_world.proofs.AboveLaws.{fronts, front-any, above-below, AreAll, each-listed, all-append, all-map}
use Rattle.kb_world.proofs.PatchLaws.{dropped-at}
use Rattle.kb_world.proofs.StepLaws.{directory-apart}
use Rattle.kb_world.proofs.SoundLaws.{tells, may_go, is_module_entry, Kept, same, gone, filed, Keeps}

-- ---- where a path lies to the entries that tell

-- the path isn't that of an entry that tells
abbrev pub IsAside : Roots → Path → Type 0
IsAside roots path = (names : Path) → tells names ≡ true → roots.dkms ++ names ≢ path

pub aside-of : (roots : Roots) (other : Path) → tells other ≡ false → IsAside roots (roots.dkms ++ other)
aside-of roots other none names h e =
    let impossible : true ≡ false = sym h ∙ ap tells (append_cancel_left roots.dkms names other e) ∙ none in cc

-- nor does it lie below one
abbrev pub IsBeside : Roots → Path → Type 0
IsBeside roots path = (names : Path) → tells names ≡ true → is_below path (roots.dkms ++ names) ≡ false

pub beside-of : (roots : Roots) (other : Path) → list_any tells (fronts other) ≡ false → IsBeside roots (roots.dkms ++ other)
beside-of roots other none names h = by_test (is_below (roots.dkms ++ other) (roots.dkms ++ names)) (λ e.
    let down = sym (under-beside roots.dkms other names) ∙ first_so (is_under (roots.dkms ++ other) (roots.dkms ++ names)) _ e in
    let up = sym (under-beside roots.dkms names other) ∙ no_not _ (second_so (is_under (roots.dkms ++ other) (roots.dkms ++ names)) _ e) in
    let impossible : true ≡ false = sym (front-any tells other names h down up) ∙ none in cc)
  where
    no_not : (b : Bool) → not b ≡ true → b ≡ false
    no_not true e = let impossible : true ≡ false = sym e in absurd (cc)
    no_not false e = refl

-- no entry that tells stands at the path or above it
abbrev pub IsClear : Roots → Path → Type 0
IsClear roots path = (names : Path) → tells names ≡ true → is_under path (roots.dkms ++ names) ≡ false

pub clear-beside : (roots : Roots) (path : Path) → IsClear roots path → IsBeside roots path
clear-beside roots path clear names h = ap (λ b. b && not (is_under (roots.dkms ++ names) path)) (clear names h)

pub clear-aside : (roots : Roots) (path : Path) → IsClear roots path → IsAside roots path
clear-aside roots path clear names h e =
    let impossible : true ≡ false = sym (under-self path) ∙ ap (is_under path) (sym e) ∙ clear names h in cc

-- ---- what spares the entries that tell

-- such a change keeps it
abbrev pub IsSpared : Roots → (Tree → Type 0) → Type 0
IsSpared roots P = (old new : Tree) → Keeps roots old new → P old → P new

dir_goes : (names : Path) (at : Option Node) → is_dir at ≡ true → may_go names at ≡ true
dir_goes [] at d = d
dir_goes (word ∷ []) at d = d
dir_goes (word ∷ name ∷ []) at d = refl
dir_goes (word ∷ version ∷ name ∷ rest) at d = d

module _ (roots : Roots) (P : Tree → Type 0) (spared : IsSpared roots P) where
  pub node_aside : (path : Path) (at : Node) (tree : Tree) → IsAside roots path → P tree → P (with_node path at tree)
  node_aside path at tree aside = spared tree (with_node path at tree) (λ names h. same (with_node-apart tree path at (roots.dkms ++ names) (aside names h)))

  directory_aside : (path : Path) (tree : Tree) → IsAside roots path → P tree → P (with_directory path tree)
  directory_aside path tree aside = spared tree (with_directory path tree) (λ names h. same (directory-apart path tree (roots.dkms ++ names) (aside names h)))

  dropped_aside : (path : Path) (tree : Tree) → IsAside roots path → P tree → P (dropped path tree)
  dropped_aside path tree aside = spared tree (dropped path tree)
      (λ names h. same (dropped-at path tree (roots.dkms ++ names)
      ∙ ap (λ b. cond (b && is_leaf (node_at tree (roots.dkms ++ names))) None (node_at tree (roots.dkms ++ names))) (same_path-false (roots.dkms ++ names) path (aside names h))))

  -- what is wiped has nothing that tells
  pub wiped_clear : (path : Path) (tree : Tree) → ((names : Path) → tells names ≡ true → is_under (roots.dkms ++ names) path ≡ false) → P tree → P (wiped path tree)
  wiped_clear path tree clear = spared tree (wiped path tree)
      (λ names h. same (node_at-retain tree (λ other. not (is_under other path)) (roots.dkms ++ names) ∙ ap (λ b. cond (not b) (node_at tree (roots.dkms ++ names)) None) (clear names h)))

  -- a file for a module
  pub file_put : (word version kernel arch file : List ℕ) (bytes : List ℕ) (exec : Bool) (tree : Tree) → P tree
      → P (with_node (roots.dkms ++ word ∷ version ∷ kernel ∷ arch ∷ codes "module" ∷ file ∷ []) (node.File bytes exec) tree)
  file_put word version kernel arch file bytes exec tree = spared tree (with_node path (node.File bytes exec) tree) (λ names h. by names (same_path (roots.dkms ++ names) path) refl)
    where
      path : Path
      path = roots.dkms ++ word ∷ version ∷ kernel ∷ arch ∷ codes "module" ∷ file ∷ []

      by : (names : Path) (b : Bool) → same_path (roots.dkms ++ names) path ≡ b → Kept names (node_at tree (roots.dkms ++ names)) (node_at (with_node path (node.File bytes exec) tree) (roots.dkms ++ names))
      by names true e =
          let is = append_cancel_left roots.dkms names (word ∷ version ∷ kernel ∷ arch ∷ codes "module" ∷ file ∷ []) (same_path-true (roots.dkms ++ names) path e) in
          filed (ap is_file (node_at-with_node tree path (node.File bytes exec) (roots.dkms ++ names)) ∙ ap (λ b. is_file (cond b (Some (node.File bytes exec)) (node_at tree (roots.dkms ++ names)))) e) (ap is_module_entry is)
      by names false e =
          same (node_at-with_node tree path (node.File bytes exec) (roots.dkms ++ names) ∙ ap (λ b. cond b (Some (node.File bytes exec)) (node_at tree (roots.dkms ++ names))) e)

  -- a directory that is empty
  tidied_so : (path : Path) (tree : Tree) → P tree → P (tidied path tree)
  tidied_so path tree s = by (is_dir (node_at tree path)) (list_any (λ other. is_below other path) (keys tree)) refl
    where
      at_path : is_dir (node_at tree path) ≡ true → (names : Path) (b : Bool) → same_path (roots.dkms ++ names) path ≡ b → Kept names (node_at tree (roots.dkms ++ names)) (node_at (remove tree path) (roots.dkms ++ names))
      at_path d names true e =
          gone (node_at-remove tree path (roots.dkms ++ names) ∙ ap (λ b. cond b None (node_at tree (roots.dkms ++ names))) e)
          (dir_goes names (node_at tree (roots.dkms ++ names)) (ap (λ p. is_dir (node_at tree p)) (same_path-true (roots.dkms ++ names) path e) ∙ d))
      at_path d names false e = same (node_at-remove tree path (roots.dkms ++ names) ∙ ap (λ b. cond b None (node_at tree (roots.dkms ++ names))) e)

      by : (d any : Bool) → is_dir (node_at tree path) ≡ d → P (cond (is_dir (node_at tree path) && not any) (remove tree path) tree)
      by true true e = subst (λ b. P (cond (b && false) (remove tree path) tree)) (sym e) s
      by true false e = subst (λ b. P (cond (b && true) (remove tree path) tree)) (sym e) (spared tree (remove tree path) (λ names h. at_path e names (same_path (roots.dkms ++ names) path) refl) s)
      by false any e = subst (λ b. P (cond (b && not any) (remove tree path) tree)) (sym e) s

  -- ---- the parts of a patch

  pub drops_aside : (paths : List Path) (tree : Tree) → AllByRecursion (IsAside roots) paths → P tree → P (all_dropped paths tree)
  drops_aside [] tree aside s = s
  drops_aside (path ∷ paths) tree aside s = drops_aside paths (dropped path tree) aside.1 (dropped_aside path tree aside.0 s)

  pub puts_aside : (puts : List (Path × Node)) (tree : Tree) → AllByRecursion (λ put. IsAside roots put.0) puts → P tree → P (with_nodes puts tree)
  puts_aside [] tree aside s = s
  puts_aside (put ∷ puts) tree aside s = puts_aside puts (with_node put.0 put.1 tree) aside.1 (node_aside put.0 put.1 tree aside.0 s)

  directories_aside : (paths : List Path) (tree : Tree) → ((q : Path) → is_listed q paths ≡ true → IsAside roots q) → P tree → P (with_directories paths tree)
  directories_aside [] tree aside s = s
  directories_aside (path ∷ paths) tree aside s =
      directories_aside paths (with_directory path tree) (λ q listed. aside q (or_right (same_path q path) (is_listed q paths) listed))
      (directory_aside path tree (aside path (ap (λ b. b || is_listed path paths) (same_path-refl path))) s)
    where
      or_right : (a b : Bool) → b ≡ true → (a || b) ≡ true
      or_right true b e = refl
      or_right false b e = e

  all_tidied_so : (paths : List Path) (tree : Tree) → P tree → P (all_tidied paths tree)
  all_tidied_so [] tree s = s
  all_tidied_so (path ∷ paths) tree s = all_tidied_so paths (tidied path tree) (tidied_so path tree s)

-- what comes lies beside the entries that tell, and directories that come of themselves at none
pub record ComesBeside (roots : Roots) (patch : Patch) : Type 0 where
  pub dirs : AllByRecursion (IsClear roots) patch.dirs
  pub puts : AllByRecursion (λ put. IsBeside roots put.0) patch.puts

-- so no directory that is made is one that tells
made_aside : (roots : Roots) (patch : Patch) → ComesBeside roots patch → (q : Path) → is_listed q (dirs_of roots patch) ≡ true → IsAside roots q
made_aside roots patch b q listed names h e = by (is_listed q (flat_map (above roots) sources)) refl (sym (listed-append q (flat_map (above roots) sources) patch.dirs) ∙ sym (listed-in_order q (flat_map (above roots) sources ++ patch.dirs)) ∙ listed)
  where
    sources : List Path
    sources = patch.dirs ++ map (λ put. put.0) patch.puts

    beside : AllByRecursion (IsBeside roots) sources
    beside = all-append (IsBeside roots) patch.dirs (map (λ put. put.0) patch.puts) (AreAll (IsClear roots) (IsBeside roots) (clear-beside roots) patch.dirs b.dirs)
        (all-map (IsBeside roots) (λ put. put.0) patch.puts b.puts)

    none : is_listed q (flat_map (above roots) sources) ≡ false
    none = listed-flat_map (above roots) sources q (λ p there. by_test (is_listed q (above roots p)) (λ over.
        let impossible : true ≡ false = sym (above-below roots p q over) ∙ ap (is_below p) (sym e) ∙ each-listed (IsBeside roots) sources beside p there names h in cc))

    by : (f : Bool) → is_listed q (flat_map (above roots) sources) ≡ f → (is_listed q (flat_map (above roots) sources) || is_listed q patch.dirs) ≡ true → ⊥
    by true f either = let impossible : true ≡ false = sym f ∙ none in cc
    by false f either =
        clear-aside roots q (each-listed (IsClear roots) patch.dirs b.dirs q (sym (ap (λ x. x || is_listed q patch.dirs) f) ∙ either)) names h e

-- A patch keeps what every change keeps that spares the entries that tell, where what goes and what is put does.
pub patched_spared : (roots : Roots) (P Q : Tree → Type 0) → IsSpared roots P → IsSpared roots Q → (patch : Patch) (store : Tree) → ComesBeside roots patch
    → P (all_wiped patch.wipes (all_dropped patch.drops store)) → ((tree : Tree) → P tree → Q (with_nodes patch.puts tree)) → Q (patched roots patch store)
unfolding patched
patched_spared roots P Q spared_p spared_q patch store beside taken put =
    let left = all_wiped patch.wipes (all_dropped patch.drops store) in
    let made = directories_aside roots P spared_p (dirs_of roots patch) left (made_aside roots patch beside) taken in
    all_tidied_so roots Q spared_q (emptied_of roots patch) (with_nodes patch.puts (with_directories (dirs_of roots patch) left)) (put (with_directories (dirs_of roots patch) left) made)
