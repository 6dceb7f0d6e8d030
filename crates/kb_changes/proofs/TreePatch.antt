-- The patch of `dkms add` of a directory: which paths it names, and what is staged for it.
use Rattle.std.proofs.Common.{◌≡◌, ◌⊎◌, ℕ, Bool, true, false, cond, ◌||◌, not, List, [], ◌∷◌, ◌++◌, length, drop, map, Option, Some, None, is_some, refl, sym, ap, ◌∙◌, inl, inr, append-nil}
use Rattle.std.proofs.lemmas.List.{append_cancel_left, map-append}
use Rattle.std.proofs.lemmas.Simd.{map-map}
use Rattle.std.specs.Prelude.{filter, unwrap_or}
use Rattle.std.specs.List.{AllByRecursion}
use Rattle.std.specs.FinMap.{keys, contains_key-keys}
use Rattle.std.specs.Cmp.{first_so, second_so}
use Rattle.std.specs.Cmp.Derive.{both_true}
use Rattle.std.specs.declared.cmp.Ordering.TheVariants.{Less}
use Rattle.kb_world.specs.Path.{Path, path_cmp}
use Rattle.kb_world.specs.Patch.{is_listed}
use Rattle.kb_world.specs.Roots.{AreApart, is_below}
use Rattle.kb_world.specs.Steps.{source_copy, add_tree_patch}
use Rattle.kb_world.specs.Store.{link_path, source_path, source_text}
use Rattle.kb_world.specs.Tree.{Tree, node_at, is_dir, is_leaf}
use Rattle.kb_world.specs.TreeLaws.{same_path, same_path-true, same_path-refl}
use Rattle.kb_world.specs.declared.job.Key.{Key}
use Rattle.kb_world.specs.declared.roots.Roots.{Roots}
use Rattle.kb_world.specs.declared.tree.Node.{Node}
use Rattle.kb_world.specs.declared.tree.Node.TheVariants as node
use Rattle.kb_world.proofs.PathLaws.{under-append, under-above, drop-front, by_test}
use Rattle.kb_world.proofs.AboveLaws.{all-filter, all-passing, all-map, all-all, AreAll, each-listed}
use Rattle.kb_world.proofs.ListedLaws.{or_first, or_second, listed-append, neither}
use Rattle.kb_world.proofs.OrderLaws.{IsRising, less-once}
use Rattle.kb_changes.specs.Changes.{root_of, same_root, nodes_below, nodes_of}
use Rattle.kb_changes.specs.Valid.{all_differ}
use Rattle.kb_changes.specs.declared.change.RootName.{RootName}
use Rattle.kb_changes.specs.declared.change.RootName.TheVariants as root_name
use Rattle.kb_changes.proofs.PatchParents.{not_true, or_right, either, behind}
use Rattle.kb_changes.proofs.PatchDone.{all_listed}
use Rattle.kb_changes.proofs.PatchPuts.{root-under, below-append-nodes}

untrue : false ≡ true → ⊥
untrue e = cc

-- ---- lists

pub filter-map : {X Y : Type 0} (test : Y → Bool) (f : X → Y) (xs : List X) → filter test (map f xs) ≡ map f (filter (λ x. test (f x)) xs)
filter-map test f [] = refl
filter-map {X} {Y} test f (x ∷ xs) = by (test (f x)) (filter-map test f xs)
  where
    by : (b : Bool) → filter test (map f xs) ≡ map f (filter (λ o. test (f o)) xs) → cond b (f x ∷ filter test (map f xs)) (filter test (map f xs)) ≡ map f (cond b (x ∷ filter (λ o. test (f o)) xs) (filter (λ o. test (f o)) xs))
    by true later = ap (λ ys. f x ∷ ys) later
    by false later = later

-- tests that tell the same of each of a list
pub filter-same : {X : Type 0} (one other : X → Bool) (xs : List X) → AllByRecursion (λ x. one x ≡ other x) xs → filter one xs ≡ filter other xs
filter-same one other [] same = refl
filter-same {X} one other (x ∷ xs) same = (λ i. cond (same.0 i) (x ∷ filter-same one other xs same.1 i) (filter-same one other xs same.1 i))

pub found-map : (f : Path → Path) (paths : List Path) (q : Path) → is_listed q (map f paths) ≡ true → (p : Path) × (is_listed p paths ≡ true) × (q ≡ f p)
found-map f [] q e = absurd (untrue e)
found-map f (path ∷ paths) q e = by (either (same_path q (f path)) (is_listed q (map f paths)) e) (λ later. found-map f paths q later)
  where
    by : (same_path q (f path) ≡ true) ⊎ (is_listed q (map f paths) ≡ true) → (is_listed q (map f paths) ≡ true → (p : Path) × (is_listed p paths ≡ true) × (q ≡ f p)) → (p : Path) × (is_listed p (path ∷ paths) ≡ true) × (q ≡ f p)
    by (inl s) more = (path, ap (λ b. b || is_listed path paths) (same_path-refl path), same_path-true q (f path) s)
    by (inr later) more = let found = more later in (found.0, or_right (same_path found.0 path) (is_listed found.0 paths) found.1, found.2)

-- ---- lists of paths that differ

pub rising-filter : (test : Path → Bool) (paths : List Path) → IsRising paths → IsRising (filter test paths)
rising-filter test [] rises = tt
rising-filter test (path ∷ paths) rises = by (test path) (rising-filter test paths rises.1)
  where
    by : (b : Bool) → IsRising (filter test paths) → IsRising (cond b (path ∷ filter test paths) (filter test paths))
    by true later = (all-filter (λ other. path_cmp path other ≡ Less) test paths rises.0, later)
    by false later = later

-- what is made of rising paths differs, where it tells them apart
pub differ-map : (f : Path → Path) (paths : List Path) → IsRising paths → ((p q : Path) → is_listed p paths ≡ true → is_listed q paths ≡ true → f p ≡ f q → p ≡ q) → all_differ (map f paths) ≡ true
differ-map f [] rises once = refl
differ-map f (path ∷ paths) rises once =
    both_true (ap not (by_test (is_listed (f path) (map f paths)) (λ e. again (found-map f paths (f path) e))))
    (differ-map f paths rises.1 (λ p q lp lq. once p q (or_right (same_path p path) (is_listed p paths) lp) (or_right (same_path q path) (is_listed q paths) lq)))
  where
    again : (q : Path) × (is_listed q paths ≡ true) × (f path ≡ f q) → ⊥
    again found =
        let is : path ≡ found.0 = once path found.0 (ap (λ b. b || is_listed path paths) (same_path-refl path)) (or_right (same_path found.0 path) (is_listed found.0 paths) found.1) found.2 in
        let less : path_cmp path path ≡ Less = ap (path_cmp path) is ∙ each-listed (λ other. path_cmp path other ≡ Less) paths rises.0 found.0 found.1 in
        less-once path path less less

-- and so does one more that isn't among them
pub differ-more : (paths : List Path) (last : Path) → all_differ paths ≡ true → is_listed last paths ≡ false → all_differ (paths ++ last ∷ []) ≡ true
differ-more [] last differ other = refl
differ-more (path ∷ paths) last differ other =
    both_true (ap not (listed-append path paths (last ∷ [])
    ∙ neither (is_listed path paths) (same_path path last || false) (not_true (is_listed path paths) (first_so (not (is_listed path paths)) (all_differ paths) differ)) (neither (same_path path last) false apart refl)))
    (differ-more paths last (second_so (not (is_listed path paths)) (all_differ paths) differ) (or_second (same_path last path) (is_listed last paths) other))
  where
    apart : same_path path last ≡ false
    apart = by_test (same_path path last) (λ s. untrue (sym (or_first (same_path last path) (is_listed last paths) other) ∙ ap (same_path last) (same_path-true path last s) ∙ same_path-refl last))

-- ---- what the patch names

pub some_is : (at : Option Node) → is_some at ≡ true → Some (unwrap_or at node.Dir) ≡ at
some_is None e = absurd (untrue e)
some_is (Some at) e = refl

-- what lies below a directory, the directories of it, and the files and links
abbrev pub copied_paths : Path → Tree → List Path
copied_paths from whole = filter (λ path. is_below path from) (keys whole)

abbrev pub copied_dirs : Path → Tree → List Path
copied_dirs from whole = filter (λ path. is_dir (node_at whole path)) (copied_paths from whole)

abbrev pub copied_leaves : Path → Tree → List Path
copied_leaves from whole = filter (λ path. is_leaf (node_at whole path)) (copied_paths from whole)

-- where a path is copied to
abbrev pub copy_path : Roots → Key → Path → Path → Path
copy_path roots key from path = source_path roots key ++ drop (length from) path

-- and what stands there
abbrev pub copy_at : Roots → Key → Path → Tree → Path → Path × Node
copy_at roots key from whole path = (copy_path roots key from path, unwrap_or (node_at whole path) node.Dir)

-- the link that is put last
abbrev pub link_put : Roots → Key → Path × Node
link_put roots key = (link_path roots key, node.Link (source_text roots key))

module _ (roots : Roots) (key : Key) (from : Path) where
  -- each path below the directory has a place below the source
  pub record IsCopied (path : Path) : Type 0 where
    pub name : List ℕ
    pub rest : Path
    pub is : path ≡ from ++ name ∷ rest
    pub copy : copy_path roots key from path ≡ source_path roots key ++ name ∷ rest

  module _ (whole : Tree) where
    abbrev paths : List Path
    paths = copied_paths from whole

    abbrev at : Path → Path × Node
    at = copy_at roots key from whole

    pub copied_stands : AllByRecursion (λ path. is_some (node_at whole path) ≡ true) (copied_paths from whole)
    copied_stands =
        all-filter (λ path. is_some (node_at whole path) ≡ true) (λ path. is_below path from) (keys whole)
        (all_listed (λ path. is_some (node_at whole path) ≡ true) (keys whole) (λ q listed. contains_key-keys whole q ∙ listed))

    copies_are : source_copy roots key from whole ≡ map at paths
    copies_are = map-map (λ (item : Path × Node). (source_path roots key ++ item.0, item.1)) (λ path. (drop (length from) path, unwrap_or (node_at whole path) node.Dir)) paths

    -- the copies at which the node passes a test are those of the paths at which it does
    passing : (test : Option Node → Bool) → filter (λ (item : Path × Node). test (Some item.1)) (source_copy roots key from whole) ≡ map at (filter (λ path. test (node_at whole path)) paths)
    passing test =
        ap (filter (λ (item : Path × Node). test (Some item.1))) copies_are ∙ filter-map (λ (item : Path × Node). test (Some item.1)) at paths
        ∙ ap (map at) (filter-same (λ path. test (Some (unwrap_or (node_at whole path) node.Dir))) (λ path. test (node_at whole path)) paths
        (AreAll (λ path. is_some (node_at whole path) ≡ true) (λ path. test (Some (unwrap_or (node_at whole path) node.Dir)) ≡ test (node_at whole path)) (λ path some. ap test (some_is (node_at whole path) some)) paths copied_stands))

    pub dirs_are : (add_tree_patch roots key from whole).dirs ≡ source_path roots key ∷ map (copy_path roots key from) (copied_dirs from whole)
    dirs_are = ap (λ ps. source_path roots key ∷ ps) (ap (map (λ (item : Path × Node). item.0)) (passing is_dir) ∙ map-map (λ (item : Path × Node). item.0) at (copied_dirs from whole))

    pub puts_are : (add_tree_patch roots key from whole).puts ≡ map (copy_at roots key from whole) (copied_leaves from whole) ++ link_put roots key ∷ []
    puts_are = ap (λ puts. puts ++ link_put roots key ∷ []) (passing is_leaf)

    pub targets_are : map (λ (put : Path × Node). put.0) (add_tree_patch roots key from whole).puts ≡ map (copy_path roots key from) (copied_leaves from whole) ++ link_path roots key ∷ []
    targets_are =
        ap (map (λ (put : Path × Node). put.0)) puts_are ∙ map-append (λ (put : Path × Node). put.0) (map at (copied_leaves from whole)) (link_put roots key ∷ [])
        ∙ ap (λ targets. targets ++ link_path roots key ∷ []) (map-map (λ (put : Path × Node). put.0) at (copied_leaves from whole))

    pub copied : (path : Path) → is_listed path (copied_paths from whole) ≡ true → IsCopied path
    copied path listed =
        let b = behind path from (each-listed (λ p. is_below p from ≡ true) paths (all-passing (λ p. is_below p from ≡ true) (λ p. is_below p from) (λ p e. e) (keys whole)) path listed) in
        record { name = b.name; rest = b.rest; is = b.is; copy = ap (copy_path roots key from) b.is ∙ ap (λ r. source_path roots key ++ r) (drop-front from (b.name ∷ b.rest)) }

    -- two paths are copied to two places
    pub copied_once : (p q : Path) → is_listed p (copied_paths from whole) ≡ true → is_listed q (copied_paths from whole) ≡ true → copy_path roots key from p ≡ copy_path roots key from q → p ≡ q
    copied_once p q lp lq same =
        let a = copied p lp in
        let b = copied q lq in
        a.is ∙ ap (λ r. from ++ r) (append_cancel_left (source_path roots key) (a.name ∷ a.rest) (b.name ∷ b.rest) (sym a.copy ∙ same ∙ b.copy)) ∙ sym b.is

-- ---- what is staged for it

-- the nodes of puts that are all below one root
nodes_of_one : (roots : Roots) (base own : RootName) (puts : List (Path × Node)) → AllByRecursion (λ (put : Path × Node). root_of roots put.0 ≡ own) puts
    → nodes_below roots base puts ≡ cond (same_root own base) (map (λ (put : Path × Node). put.1) puts) []
nodes_of_one roots base own [] same = by (same_root own base)
  where
    by : (b : Bool) → let none : List Node = [] in none ≡ cond b none none
    by true = refl
    by false = refl
nodes_of_one roots base own (put ∷ puts) same =
    ap (λ root. map (λ (p : Path × Node). p.1) (cond (same_root root base) (put ∷ below) below)) same.0 ∙ by (same_root own base) (nodes_of_one roots base own puts same.1)
  where
    below : List (Path × Node)
    below = filter (λ (p : Path × Node). same_root (root_of roots p.0) base) puts

    by : (b : Bool) → map (λ (p : Path × Node). p.1) below ≡ cond b (map (λ (p : Path × Node). p.1) puts) [] → map (λ (p : Path × Node). p.1) (cond b (put ∷ below) below) ≡ cond b (put.1 ∷ map (λ (p : Path × Node). p.1) puts) []
    by true later = ap (λ nodes. put.1 ∷ nodes) later
    by false later = later

module _ (roots : Roots) (apart : AreApart roots) (key : Key) (from : Path) (whole : Tree) where
  -- below the root of sources the files and links in their order, and below the dkms root the link
  pub nodes_are : nodes_of roots (add_tree_patch roots key from whole) ≡ record {
    dkms = node.Link (source_text roots key) ∷ [];
    src = map (λ path. unwrap_or (node_at whole path) node.Dir) (copied_leaves from whole);
    «modules» = [];
    boot = [];
  }
  nodes_are = (λ i. record {
    dkms = below root_name.Dkms i;
    src = (below root_name.Src ∙ append-nil (map (λ (put : Path × Node). put.1) copies) ∙ map-map (λ (put : Path × Node). put.1) (copy_at roots key from whole) (copied_leaves from whole)) i;
    «modules» = below root_name.Modules i;
    boot = below root_name.Boot i;
  })
    where
      copies : List (Path × Node)
      copies = map (copy_at roots key from whole) (copied_leaves from whole)

      in_src : AllByRecursion (λ (put : Path × Node). root_of roots put.0 ≡ root_name.Src) copies
      in_src = all-map (λ (put : Path × Node). root_of roots put.0 ≡ root_name.Src) (copy_at roots key from whole) (copied_leaves from whole)
          (all-all (λ path. root_of roots (copy_path roots key from path) ≡ root_name.Src) (λ path. root-under roots apart root_name.Src (copy_path roots key from path) (under-above (copy_path roots key from path) roots.src _ (under-append (source_path roots key) (drop (length from) path)))) (copied_leaves from whole))

      below : (base : RootName) → nodes_below roots base (add_tree_patch roots key from whole).puts
          ≡ cond (same_root root_name.Src base) (map (λ (put : Path × Node). put.1) copies) [] ++ cond (same_root root_name.Dkms base) (node.Link (source_text roots key) ∷ []) []
      below base =
          ap (nodes_below roots base) (puts_are roots key from whole) ∙ below-append-nodes roots base copies (link_put roots key ∷ [])
          ∙ (λ i. nodes_of_one roots base root_name.Src copies in_src i ++ nodes_of_one roots base root_name.Dkms (link_put roots key ∷ []) (root-under roots apart root_name.Dkms (link_path roots key) (under-append roots.dkms _), tt) i)
