-- Directories that are listed in order have parents when their turn comes.
use Rattle.std.proofs.Common.{◌≡◌, ◌⊎◌, ℕ, zero, suc, Bool, true, false, cond, ◌&&◌, ◌||◌, not, List, [], ◌∷◌, ◌++◌, length, drop, map, Option, Some, None, is_some, refl, sym, ap, ◌∙◌, subst, inl, inr, append_assoc}
use Rattle.std.proofs.lemmas.List.{append_cancel_left}
use Rattle.std.proofs.lemmas.List.Sums.{fold-append}
use Rattle.std.specs.Prelude.{flat_map}
use Rattle.std.specs.List.{list_all, list_any, slice_get, AllByRecursion}
use Rattle.std.specs.Option.{option_or}
use Rattle.std.specs.Cmp.{first_so, second_so}
use Rattle.std.specs.Cmp.Derive.{both_true}
use Rattle.std.specs.declared.cmp.Ordering.TheVariants.{Less}
use Rattle.kb_world.specs.Path.{Path, path_cmp, child, parent, is_under, are_apart}
use Rattle.kb_world.specs.Tree.{Tree, node_at, with_node, is_dir, is_leaf}
use Rattle.kb_world.specs.TreeLaws.{same_path, same_path-true, same_path-refl}
use Rattle.kb_world.specs.Roots.{AreApart, is_below, based_roots, each_apart}
use Rattle.kb_world.specs.Patch.{Patch, directories_to, above_in, above, dirs_of, is_listed, with_directory, with_directories}
use Rattle.kb_world.specs.Script.{Script}
use Rattle.kb_world.specs.declared.roots.Roots.{Roots}
use Rattle.kb_world.specs.declared.tree.Node.{Node}
use Rattle.kb_world.specs.declared.tree.Node.TheVariants as node
use Rattle.kb_world.proofs.PathLaws.{under-append, under-self, under-beside, under-split, elsewhere, apart-back}
use Rattle.kb_world.proofs.StepLaws.{parent-child}
use Rattle.kb_world.proofs.ListedLaws.{listed-append, listed-in_order}
use Rattle.kb_world.proofs.OrderLaws.{IsRising, below-rises, less-once}
use Rattle.kb_world.proofs.PatchLaws.{with_directories-at}
use Rattle.kb_world.proofs.AboveLaws.{above-below, each-listed}
use Rattle.kb_world.proofs.PublicLaws.{WrittenApart, written_apart}
use Rattle.kb_changes.specs.Change.{do_change, done}
use Rattle.kb_changes.specs.Fit.{is_rooted, coming_paths}
use Rattle.kb_changes.specs.Valid.{written_roots}
use Rattle.kb_changes.specs.declared.change.Change.TheVariants.{Dir}

-- ---- a path and its parent

untrue : false ≡ true → ⊥
untrue e = cc

pub not_true : (b : Bool) → not b ≡ true → b ≡ false
not_true true e = let impossible : true ≡ false = sym e in absurd (cc)
not_true false e = refl

and_false : (a : Bool) → (a && false) ≡ false
and_false true = refl
and_false false = refl

pub or_right : (a b : Bool) → b ≡ true → (a || b) ≡ true
or_right true b e = refl
or_right false b e = e

pub either : (a b : Bool) → (a || b) ≡ true → (a ≡ true) ⊎ (b ≡ true)
either true b e = inl refl
either false b e = inr e

-- a name and names behind a directory
pub below-append : (directory : Path) (name : List ℕ) (rest : Path) → is_below (directory ++ name ∷ rest) directory ≡ true
below-append directory name rest =
    both_true (under-append directory (name ∷ rest)) (ap not (ap (λ p. is_under p (directory ++ name ∷ rest)) (sym (append-nil-path directory)) ∙ under-beside directory [] (name ∷ rest)))
  where
    append-nil-path : (path : Path) → path ++ [] ≡ path
    append-nil-path [] = refl
    append-nil-path (n ∷ path) = ap (λ p. n ∷ p) (append-nil-path path)

-- what lies below a directory is that directory's with a name behind it, and perhaps more
pub record Behind (directory path : Path) : Type 0 where
  pub name : List ℕ
  pub rest : Path
  pub is : path ≡ directory ++ name ∷ rest

pub behind : (path directory : Path) → is_below path directory ≡ true → Behind directory path
behind path directory h = by (drop (length directory) path) (under-split path directory (first_so (is_under path directory) _ h))
  where
    by : (names : Path) → path ≡ directory ++ names → Behind directory path
    by [] e =
        let whole : is_under directory path ≡ true = ap (λ p. is_under p path) (sym (e ∙ append-nil-path directory)) ∙ under-self path in
        absurd (untrue (sym (not_true (is_under directory path) (second_so (is_under path directory) _ h)) ∙ whole))
      where
        append-nil-path : (path : Path) → path ++ [] ≡ path
        append-nil-path [] = refl
        append-nil-path (n ∷ path) = ap (λ p. n ∷ p) (append-nil-path path)
    by (name ∷ rest) e = record { name = name; rest = rest; is = e }

-- the parent of such a path is the directory, or lies below it, and the path lies below its parent
pub record HasParent (directory path : Path) : Type 0 where
  pub place : (parent path ≡ directory) ⊎ (is_below (parent path) directory ≡ true)
  pub over : is_below path (parent path) ≡ true

parent-behind : (directory : Path) (name : List ℕ) (rest : Path) → HasParent directory (directory ++ name ∷ rest)
parent-behind directory name [] = record {
  place = inl (parent-child directory name);
  over = ap (is_below (directory ++ name ∷ [])) (parent-child directory name) ∙ below-append directory name [];
}
parent-behind directory name (next ∷ rest) =
    let inner = parent-behind (child directory name) next rest in
    let here : child directory name ++ next ∷ rest ≡ directory ++ name ∷ next ∷ rest = append_assoc directory (name ∷ []) (next ∷ rest) in
    subst (HasParent directory) here (record {
      place = inr (elim inner.place as (λ _. is_below (parent (child directory name ++ next ∷ rest)) directory ≡ true) [
        | inl same ↦ ap (λ p. is_below p directory) same ∙ below-append directory name []
        | inr below ↦ further (parent (child directory name ++ next ∷ rest)) below
      ]);
      over = inner.over;
    })
  where
    further : (p : Path) → is_below p (child directory name) ≡ true → is_below p directory ≡ true
    further p h =
        let b = behind p (child directory name) h in
        ap (λ q. is_below q directory) (b.is ∙ append_assoc directory (name ∷ []) (b.name ∷ b.rest)) ∙ below-append directory name (b.name ∷ b.rest)

pub has_parent : (path directory : Path) → is_below path directory ≡ true → HasParent directory path
has_parent path directory h = let b = behind path directory h in subst (HasParent directory) (sym b.is) (parent-behind directory b.name b.rest)

-- below what lies below
pub below-trans : (a b c : Path) → is_below a b ≡ true → is_below b c ≡ true → is_below a c ≡ true
below-trans a b c h k =
    let x = behind a b h in
    let y = behind b c k in
    ap (λ p. is_below p c) (x.is ∙ ap (λ p. p ++ x.name ∷ x.rest) y.is ∙ append_assoc c (y.name ∷ y.rest) (x.name ∷ x.rest)) ∙ below-append c y.name (y.rest ++ x.name ∷ x.rest)

-- ---- which directories stand above a path

-- between the base and a path below it
pub listed-directories : (base names q : Path) → is_below q base ≡ true → is_below (base ++ names) q ≡ true → is_listed q (directories_to base names) ≡ true
listed-directories base [] q h k =
    let x = behind q base h in
    let y = behind (base ++ []) q k in
    absurd (none (append_cancel_left base [] (x.name ∷ (x.rest ++ y.name ∷ y.rest)) (y.is ∙ ap (λ p. p ++ y.name ∷ y.rest) x.is ∙ append_assoc base (x.name ∷ x.rest) (y.name ∷ y.rest))))
  where
    none : {n : List ℕ} {p : Path} → [] ≡ n ∷ p → ⊥
    none e = cc
listed-directories base (name ∷ []) q h k =
    let x = behind q base h in
    let y = behind (base ++ name ∷ []) q k in
    absurd (none x.rest y.name y.rest (append_cancel_left base (name ∷ []) (x.name ∷ (x.rest ++ y.name ∷ y.rest)) (y.is ∙ ap (λ p. p ++ y.name ∷ y.rest) x.is ∙ append_assoc base (x.name ∷ x.rest) (y.name ∷ y.rest))))
  where
    none : {n m : List ℕ} (p : Path) (l : List ℕ) (r : Path) → n ∷ [] ≡ m ∷ (p ++ l ∷ r) → ⊥
    none [] l r e = cc
    none (a ∷ p) l r e = cc
listed-directories base (name ∷ next ∷ rest) q h k = by_rest x.rest x.is (λ below over. listed-directories (child base name) (next ∷ rest) q below over)
  where
    x : Behind base q
    x = behind q base h

    y : Behind q (base ++ name ∷ next ∷ rest)
    y = behind (base ++ name ∷ next ∷ rest) q k

    first_is : name ≡ x.name
    first_is = let e = append_cancel_left base (name ∷ next ∷ rest) (x.name ∷ (x.rest ++ y.name ∷ y.rest)) (y.is ∙ ap (λ p. p ++ y.name ∷ y.rest) x.is ∙ append_assoc base (x.name ∷ x.rest) (y.name ∷ y.rest)) in cc

    by_rest : (r : Path) → q ≡ base ++ x.name ∷ r → (is_below q (child base name) ≡ true → is_below (child base name ++ next ∷ rest) q ≡ true → is_listed q (directories_to (child base name) (next ∷ rest)) ≡ true)
        → is_listed q (directories_to base (name ∷ next ∷ rest)) ≡ true
    by_rest [] e later =
        ap (λ b. b || is_listed q (directories_to (child base name) (next ∷ rest))) (ap (λ p. same_path p (child base name)) (e ∙ ap (λ n. base ++ n ∷ []) (sym first_is)) ∙ same_path-refl (child base name))
    by_rest (m ∷ r) e later =
        or_right (same_path q (child base name)) _
        (later
        (ap (λ p. is_below p (child base name)) (e ∙ ap (λ n. base ++ n ∷ m ∷ r) (sym first_is) ∙ sym (append_assoc base (name ∷ []) (m ∷ r))) ∙ below-append (child base name) m r)
        (ap (λ p. is_below p q) (append_assoc base (name ∷ []) (next ∷ rest)) ∙ k))

pub directories-over : (base names q : Path) → is_listed q (directories_to base names) ≡ true → is_below q base ≡ true
directories-over base [] q e = absurd (untrue e)
directories-over base (name ∷ []) q e = absurd (untrue e)
directories-over base (name ∷ next ∷ rest) q e = by (either (same_path q (child base name)) _ e) (λ later. directories-over (child base name) (next ∷ rest) q later)
  where
    by : (same_path q (child base name) ≡ true) ⊎ (is_listed q (directories_to (child base name) (next ∷ rest)) ≡ true)
        → (is_listed q (directories_to (child base name) (next ∷ rest)) ≡ true → is_below q (child base name) ≡ true) → is_below q base ≡ true
    by (inl s) more = ap (λ p. is_below p base) (same_path-true q (child base name) s) ∙ below-append base name []
    by (inr later) more = below-trans q (child base name) base (more later) (below-append base name [])

-- the n-th path of a list is one of it
pub nth_listed : (paths : List Path) (n : ℕ) (q : Path) → slice_get paths n ≡ Some q → is_listed q paths ≡ true
nth_listed [] n q e = let impossible : None ≡ Some q = e in absurd (cc)
nth_listed (path ∷ paths) zero q e = let is : q ≡ path = cc in ap (λ p. same_path q p || is_listed q paths) (sym is) ∙ ap (λ b. b || is_listed q paths) (same_path-refl q)
nth_listed (path ∷ paths) (suc n) q e = or_right (same_path q path) (is_listed q paths) (nth_listed paths n q e)

-- a path that lies below a root that passes a test, and which directories are above it
pub record RootedAt (roots : Roots) (test : Path → Bool) (path : Path) : Type 0 where
  pub root : Path
  pub written : is_listed root (written_roots roots) ≡ true
  pub below : is_below path root ≡ true
  pub passes : test root ≡ true
  pub above_is : above roots path ≡ directories_to root (drop (length root) path)

pub modules_boot : (roots : Roots) → AreApart roots → are_apart roots.modules roots.boot ≡ true
modules_boot roots apart =
    let boot = first_so (list_all (are_apart roots.boot) (based_roots roots)) _ (first_so (each_apart (roots.boot ∷ based_roots roots)) _ apart) in
    apart-back roots.boot roots.modules (first_so (are_apart roots.boot roots.modules) _ (second_so (are_apart roots.boot roots.src) _ (second_so (are_apart roots.boot roots.dkms) _ boot)))

pub rooted_at : (roots : Roots) → AreApart roots → (test : Path → Bool) (path : Path) → list_any (λ root. is_below path root && test root) (written_roots roots) ≡ true → RootedAt roots test path
rooted_at roots apart test path h = by_dkms (either (is_below path roots.dkms && test roots.dkms) _ h)
  where
    w : WrittenApart roots
    w = written_apart roots apart

    made : (n : ℕ) (root : Path) → slice_get (written_roots roots) n ≡ Some root → (is_below path root && test root) ≡ true → (is_under path root ≡ true → above roots path ≡ directories_to root (drop (length root) path)) → RootedAt roots test path
    made n root at e is =
        let below = first_so (is_below path root) (test root) e in
        record { root = root; written = nth_listed (written_roots roots) n root at; below = below; passes = second_so (is_below path root) (test root) e; above_is = is (first_so (is_under path root) _ below) }

    at_boot : (is_below path roots.boot && test roots.boot) ≡ true → RootedAt roots test path
    at_boot e = made 3 roots.boot refl e (λ u.
        ap (λ b. cond b (directories_to roots.dkms (drop (length roots.dkms) path)) (above_in (roots.src ∷ roots.modules ∷ roots.boot ∷ []) path)) (elsewhere path roots.boot roots.dkms (apart-back roots.dkms roots.boot w.dkms_boot) u)
        ∙ ap (λ b. cond b (directories_to roots.src (drop (length roots.src) path)) (above_in (roots.modules ∷ roots.boot ∷ []) path)) (elsewhere path roots.boot roots.src (apart-back roots.src roots.boot w.src_boot) u)
        ∙ ap (λ b. cond b (directories_to roots.modules (drop (length roots.modules) path)) (above_in (roots.boot ∷ []) path)) (elsewhere path roots.boot roots.modules (apart-back roots.modules roots.boot (modules_boot roots apart)) u)
        ∙ ap (λ b. cond b (directories_to roots.boot (drop (length roots.boot) path)) []) u)

    by_boot : ((is_below path roots.boot && test roots.boot) ≡ true) ⊎ (false ≡ true) → RootedAt roots test path
    by_boot (inl e) = at_boot e
    by_boot (inr e) = absurd (untrue e)

    by_modules : ((is_below path roots.modules && test roots.modules) ≡ true) ⊎ (list_any (λ root. is_below path root && test root) (roots.boot ∷ []) ≡ true) → RootedAt roots test path
    by_modules (inl e) = made 2 roots.modules refl e (λ u.
        ap (λ b. cond b (directories_to roots.dkms (drop (length roots.dkms) path)) (above_in (roots.src ∷ roots.modules ∷ roots.boot ∷ []) path)) (elsewhere path roots.modules roots.dkms (apart-back roots.dkms roots.modules w.dkms_modules) u)
        ∙ ap (λ b. cond b (directories_to roots.src (drop (length roots.src) path)) (above_in (roots.modules ∷ roots.boot ∷ []) path)) (elsewhere path roots.modules roots.src (apart-back roots.src roots.modules w.src_modules) u)
        ∙ ap (λ b. cond b (directories_to roots.modules (drop (length roots.modules) path)) (above_in (roots.boot ∷ []) path)) u)
    by_modules (inr e) = by_boot (either (is_below path roots.boot && test roots.boot) false e)

    by_src : ((is_below path roots.src && test roots.src) ≡ true) ⊎ (list_any (λ root. is_below path root && test root) (roots.modules ∷ roots.boot ∷ []) ≡ true) → RootedAt roots test path
    by_src (inl e) = made 1 roots.src refl e (λ u.
        ap (λ b. cond b (directories_to roots.dkms (drop (length roots.dkms) path)) (above_in (roots.src ∷ roots.modules ∷ roots.boot ∷ []) path)) (elsewhere path roots.src roots.dkms (apart-back roots.dkms roots.src w.dkms_src) u)
        ∙ ap (λ b. cond b (directories_to roots.src (drop (length roots.src) path)) (above_in (roots.modules ∷ roots.boot ∷ []) path)) u)
    by_src (inr e) = by_modules (either (is_below path roots.modules && test roots.modules) _ e)

    by_dkms : ((is_below path roots.dkms && test roots.dkms) ≡ true) ⊎ (list_any (λ root. is_below path root && test root) (roots.src ∷ roots.modules ∷ roots.boot ∷ []) ≡ true) → RootedAt roots test path
    by_dkms (inl e) = made 0 roots.dkms refl e (λ u. ap (λ b. cond b (directories_to roots.dkms (drop (length roots.dkms) path)) (above_in (roots.src ∷ roots.modules ∷ roots.boot ∷ []) path)) u)
    by_dkms (inr e) = by_src (either (is_below path roots.src && test roots.src) _ e)

-- the parent of such a path is a root that stands, or stands above the path
abbrev pub HasPlace : Roots → Tree → List Path → Path → Type 0
HasPlace roots tree paths path = (is_dir (node_at tree path) ≡ true) ⊎ (is_listed path paths ≡ true)

pub parent_place : (roots : Roots) (tree : Tree) (path : Path) → RootedAt roots (λ root. is_dir (node_at tree root)) path → HasPlace roots tree (above roots path) (parent path)
parent_place roots tree path r = by (has_parent path r.root r.below).place
  where
    by : (parent path ≡ r.root) ⊎ (is_below (parent path) r.root ≡ true) → HasPlace roots tree (above roots path) (parent path)
    by (inl same) = inl (ap (λ p. is_dir (node_at tree p)) same ∙ r.passes)
    by (inr below) =
        inr (ap (is_listed (parent path)) r.above_is
        ∙ listed-directories r.root (drop (length r.root) path) (parent path) below
        (ap (λ p. is_below p (parent path)) (sym (under-split path r.root (first_so (is_under path r.root) _ r.below))) ∙ (has_parent path r.root r.below).over))

-- and so is that of each directory above it
pub above_place : (roots : Roots) (tree : Tree) (path q : Path) → RootedAt roots (λ root. is_dir (node_at tree root)) path → is_listed q (above roots path) ≡ true → HasPlace roots tree (above roots path) (parent q)
above_place roots tree path q r listed = by (has_parent q r.root below).place
  where
    below : is_below q r.root ≡ true
    below = directories-over r.root (drop (length r.root) path) q (sym (ap (is_listed q) r.above_is) ∙ listed)

    over : is_below path (parent q) ≡ true
    over = below-trans path q (parent q) (above-below roots path q listed) (has_parent q r.root below).over

    by : (parent q ≡ r.root) ⊎ (is_below (parent q) r.root ≡ true) → HasPlace roots tree (above roots path) (parent q)
    by (inl same) = inl (ap (λ p. is_dir (node_at tree p)) same ∙ r.passes)
    by (inr further) =
        inr (ap (is_listed (parent q)) r.above_is
        ∙ listed-directories r.root (drop (length r.root) path) (parent q) further
        (ap (λ p. is_below p (parent q)) (sym (under-split path r.root (first_so (is_under path r.root) _ r.below))) ∙ over))

-- ---- the directories of a patch

pub found-flat_map : (f : Path → List Path) (paths : List Path) (q : Path) → is_listed q (flat_map f paths) ≡ true → (p : Path) × (is_listed p paths ≡ true) × (is_listed q (f p) ≡ true)
found-flat_map f [] q e = absurd (untrue e)
found-flat_map f (p ∷ paths) q e = by (either (is_listed q (f p)) (is_listed q (flat_map f paths)) (sym (listed-append q (f p) (flat_map f paths)) ∙ e)) (λ later. found-flat_map f paths q later)
  where
    by : (is_listed q (f p) ≡ true) ⊎ (is_listed q (flat_map f paths) ≡ true) → (is_listed q (flat_map f paths) ≡ true → (o : Path) × (is_listed o paths ≡ true) × (is_listed q (f o) ≡ true))
        → (o : Path) × (is_listed o (p ∷ paths) ≡ true) × (is_listed q (f o) ≡ true)
    by (inl here) more = (p, ap (λ b. b || is_listed p paths) (same_path-refl p), here)
    by (inr later) more = let found = more later in (found.0, or_right (same_path found.0 p) (is_listed found.0 paths) found.1, found.2)

in-flat_map : (f : Path → List Path) (paths : List Path) (p q : Path) → is_listed p paths ≡ true → is_listed q (f p) ≡ true → is_listed q (flat_map f paths) ≡ true
in-flat_map f [] p q e h = absurd (untrue e)
in-flat_map f (o ∷ paths) p q e h = by (either (same_path p o) (is_listed p paths) e) (λ later. in-flat_map f paths p q later h)
  where
    by : (same_path p o ≡ true) ⊎ (is_listed p paths ≡ true) → (is_listed p paths ≡ true → is_listed q (flat_map f paths) ≡ true) → is_listed q (f o ++ flat_map f paths) ≡ true
    by (inl s) more = listed-append q (f o) (flat_map f paths) ∙ ap (λ b. b || is_listed q (flat_map f paths)) (ap (λ x. is_listed q (f x)) (sym (same_path-true p o s)) ∙ h)
    by (inr later) more = listed-append q (f o) (flat_map f paths) ∙ or_right (is_listed q (f o)) (is_listed q (flat_map f paths)) (more later)

-- a directory that is made stands above what comes, or comes of itself
pub dir_from : (roots : Roots) (patch : Patch) (q : Path) → is_listed q (dirs_of roots patch) ≡ true → (is_listed q (flat_map (above roots) (coming_paths patch)) ≡ true) ⊎ (is_listed q patch.dirs ≡ true)
dir_from roots patch q listed =
    let above_it = flat_map (above roots) (coming_paths patch) in
    either (is_listed q above_it) (is_listed q patch.dirs) (sym (listed-append q above_it patch.dirs) ∙ sym (listed-in_order q (above_it ++ patch.dirs)) ∙ listed)

module _ (roots : Roots) (apart : AreApart roots) (patch : Patch) (tree : Tree) (rooted : AllByRecursion (λ path. is_rooted roots tree path ≡ true) (patch.dirs ++ map (λ put. put.0) patch.puts)) where
  abbrev sources : List Path
  sources = patch.dirs ++ map (λ put. put.0) patch.puts

  root_at : (path : Path) → is_listed path sources ≡ true → RootedAt roots (λ root. is_dir (node_at tree root)) path
  root_at path listed = rooted_at roots apart (λ root. is_dir (node_at tree root)) path (each-listed (λ p. is_rooted roots tree p ≡ true) sources rooted path listed)

  dir_listed : (q : Path) → is_listed q (flat_map (above roots) sources) ≡ true → is_listed q (dirs_of roots patch) ≡ true
  dir_listed q e = listed-in_order q (flat_map (above roots) sources ++ patch.dirs) ∙ listed-append q (flat_map (above roots) sources) patch.dirs ∙ ap (λ b. b || is_listed q patch.dirs) e

  place_listed : (path q : Path) → is_listed path sources ≡ true → HasPlace roots tree (above roots path) q → HasPlace roots tree (dirs_of roots patch) q
  place_listed path q listed (inl stands) = inl stands
  place_listed path q listed (inr above_it) = inr (dir_listed q (in-flat_map (above roots) sources path q listed above_it))

  -- a put's target has its place
  pub source_place : (path : Path) → is_listed path sources ≡ true → HasPlace roots tree (dirs_of roots patch) (parent path)
  source_place path listed = place_listed path (parent path) listed (parent_place roots tree path (root_at path listed))

  -- where a directory stands to its parent
  pub record DirPlace (q : Path) : Type 0 where
    pub place : HasPlace roots tree (dirs_of roots patch) (parent q)
    pub over : is_below q (parent q) ≡ true

  pub dir_place : (q : Path) → is_listed q (dirs_of roots patch) ≡ true → DirPlace q
  dir_place q listed = by (dir_from roots patch q listed)
    where
      by : (is_listed q (flat_map (above roots) sources) ≡ true) ⊎ (is_listed q patch.dirs ≡ true) → DirPlace q
      by (inl made) =
          let found = found-flat_map (above roots) sources q made in
          let r = root_at found.0 found.1 in
          record {
            place = place_listed found.0 (parent q) found.1 (above_place roots tree found.0 q r found.2);
            over = (has_parent q r.root (directories-over r.root (drop (length r.root) found.0) q (sym (ap (is_listed q) r.above_is) ∙ found.2))).over;
          }
      by (inr own) =
          let there : is_listed q sources ≡ true = listed-append q patch.dirs (map (λ put. put.0) patch.puts) ∙ ap (λ b. b || is_listed q (map (λ put. put.0) patch.puts)) own in
          let r = root_at q there in
          record { place = source_place q there; over = (has_parent q r.root r.below).over }

-- ---- directories are made, each in one that stands

dir_or : (a b : Option Node) → is_dir a ≡ true → is_dir (option_or a b) ≡ true
dir_or None b d = absurd (untrue d)
dir_or (Some at) b d = d

made_or : (a : Option Node) → is_leaf a ≡ false → is_dir (option_or a (Some node.Dir)) ≡ true
made_or None e = refl
made_or (Some node.Dir) e = refl
made_or (Some (node.File bytes exec)) e = absurd (untrue (sym e))
made_or (Some (node.Link text)) e = absurd (untrue (sym e))

pub stands_after : (paths : List Path) (tree : Tree) (q : Path) → is_listed q paths ≡ true → is_leaf (node_at tree q) ≡ false → is_dir (node_at (with_directories paths tree) q) ≡ true
stands_after paths tree q listed free =
    ap is_dir (with_directories-at paths tree q ∙ ap (λ b. option_or (node_at tree q) (cond b (Some node.Dir) None)) listed) ∙ made_or (node_at tree q) free

pub stays_after : (paths : List Path) (tree : Tree) (q : Path) → is_dir (node_at tree q) ≡ true → is_dir (node_at (with_directories paths tree) q) ≡ true
stays_after paths tree q d = ap is_dir (with_directories-at paths tree q) ∙ dir_or (node_at tree q) (cond (is_listed q paths) (Some node.Dir) None) d

dir_done : (roots : Roots) (script : Script) (path : Path) (tree : Tree) → is_dir (node_at tree (parent path)) ≡ true → do_change roots script (Dir path) tree ≡ with_directory path tree
dir_done roots script path tree stands = ap (λ b. cond (not (is_some (node_at tree path)) && b) (with_node path node.Dir tree) tree) stands ∙ by (is_some (node_at tree path))
  where
    by : (b : Bool) → cond (not b && true) (with_node path node.Dir tree) tree ≡ cond b tree (with_node path node.Dir tree)
    by true = refl
    by false = refl

pub dirs_done : (roots : Roots) (script : Script) (earlier paths : List Path) (tree : Tree) → IsRising paths
    → ((q : Path) → is_listed q paths ≡ true → HasPlace roots tree (earlier ++ paths) (parent q) × (is_below q (parent q) ≡ true))
    → ((q : Path) → is_listed q (earlier ++ paths) ≡ true → is_leaf (node_at tree q) ≡ false)
    → done roots script (map Dir paths) (with_directories earlier tree) ≡ with_directories paths (with_directories earlier tree)
dirs_done roots script earlier [] tree rises places free = refl
dirs_done roots script earlier (path ∷ paths) tree rises places free =
    ap (done roots script (map Dir paths)) (dir_done roots script path (with_directories earlier tree) (stands (places path here).0 (places path here).1))
    ∙ ap (done roots script (map Dir paths)) (sym joined)
    ∙ dirs_done roots script (earlier ++ path ∷ []) paths tree rises.1
    (λ q listed. let p = places q (or_right (same_path q path) (is_listed q paths) listed) in (subst (λ ps. HasPlace roots tree ps (parent q)) (sym regrouped) p.0, p.1))
    (λ q listed. free q (ap (is_listed q) (sym regrouped) ∙ listed))
    ∙ ap (with_directories paths) joined
  where
    here : is_listed path (path ∷ paths) ≡ true
    here = ap (λ b. b || is_listed path paths) (same_path-refl path)

    regrouped : (earlier ++ path ∷ []) ++ paths ≡ earlier ++ path ∷ paths
    regrouped = append_assoc earlier (path ∷ []) paths

    joined : with_directories (earlier ++ path ∷ []) tree ≡ with_directory path (with_directories earlier tree)
    joined = fold-append (λ t p. with_directory p t) tree earlier (path ∷ [])

    later_no : is_below path (parent path) ≡ true → is_listed (parent path) (path ∷ paths) ≡ true → ⊥
    later_no over listed = by (either (same_path (parent path) path) (is_listed (parent path) paths) listed)
      where
        by : (same_path (parent path) path ≡ true) ⊎ (is_listed (parent path) paths ≡ true) → ⊥
        by (inl s) = less-once path (parent path) (ap (λ p. path_cmp p (parent path)) (sym (same_path-true (parent path) path s)) ∙ ap (path_cmp (parent path)) (same_path-true (parent path) path s) ∙ below-rises path (parent path) over) (below-rises path (parent path) over)
        by (inr later) = less-once path (parent path) (each-listed (λ other. path_cmp path other ≡ Less) paths rises.0 (parent path) later) (below-rises path (parent path) over)

    stands : HasPlace roots tree (earlier ++ path ∷ paths) (parent path) → is_below path (parent path) ≡ true → is_dir (node_at (with_directories earlier tree) (parent path)) ≡ true
    stands (inl d) over = stays_after earlier tree (parent path) d
    stands (inr listed) over = by (either (is_listed (parent path) earlier) (is_listed (parent path) (path ∷ paths)) (sym (listed-append (parent path) earlier (path ∷ paths)) ∙ listed))
      where
        by : (is_listed (parent path) earlier ≡ true) ⊎ (is_listed (parent path) (path ∷ paths) ≡ true) → is_dir (node_at (with_directories earlier tree) (parent path)) ≡ true
        by (inl before) = stands_after earlier tree (parent path) before (free (parent path) listed)
        by (inr not_before) = absurd (later_no over not_before)
