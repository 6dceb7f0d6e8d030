-- What stands where after a directory was made.
use Rattle.std.proofs.Common.{◌≡◌, ◌≢◌, ℕ, ◌-◌, Bool, true, false, cond, List, [], ◌∷◌, ◌++◌, length, take, Some, None, is_some, refl, sym, ap, ◌∙◌, arith, length-append}
use Rattle.std.proofs.Math.Seq.{take-append_seam}
use Rattle.kb_world.specs.Path.{Path, child, parent}
use Rattle.kb_world.specs.Tree.{Tree, node_at, with_node, is_dir}
use Rattle.kb_world.specs.TreeLaws.{with_node-here, with_node-apart}
use Rattle.kb_world.specs.Steps.{with_directory, blocking}
use Rattle.kb_world.specs.declared.tree.Node.TheVariants as node

pub parent-child : (path : Path) (name : List ℕ) → parent (child path name) ≡ path
parent-child path name =
    let long : length (path ++ name ∷ []) - 1 ≡ length path = omega (arith, length-append path (name ∷ [])) in
    ap (λ n. take n (path ++ name ∷ [])) long ∙ take-append_seam path (name ∷ [])

pub child-other : (path : Path) (name : List ℕ) → child path name ≢ path
child-other path name same = absurd (omega (arith, length-append path (name ∷ []), ap length same))

pub grandchild-other : (path : Path) (name more : List ℕ) → child (child path name) more ≢ path
grandchild-other path name more same = absurd (omega (arith, length-append path (name ∷ []), length-append (path ++ name ∷ []) (more ∷ []), ap length same))

-- where no file or link stands, a directory stands afterwards
pub directory-here : (path : Path) (tree : Tree) → blocking path tree ≡ None → is_dir (node_at (with_directory path tree) path) ≡ true
directory-here path tree free = by_case (is_some (node_at tree path)) (is_dir (node_at tree path)) refl refl
  where
    by_case : (some dir : Bool) → is_some (node_at tree path) ≡ some → is_dir (node_at tree path) ≡ dir → is_dir (node_at (with_directory path tree) path) ≡ true
    by_case true true s d = ap (λ b. is_dir (node_at (cond b tree (with_node path node.Dir tree)) path)) s ∙ d
    by_case true false s d =
        let blocked : blocking path tree ≡ Some path = ap (λ b. cond b (cond (is_dir (node_at tree path)) None (Some path)) None) s ∙ ap (λ b. cond b None (Some path)) d in
        let none : Some path ≡ None = sym blocked ∙ free in cc
    by_case false dir s d = ap (λ b. is_dir (node_at (cond b tree (with_node path node.Dir tree)) path)) s ∙ ap is_dir (with_node-here tree path node.Dir)

-- and elsewhere what stood there
pub directory-apart : (path : Path) (tree : Tree) (q : Path) → q ≢ path → node_at (with_directory path tree) q ≡ node_at tree q
directory-apart path tree q apart = by_case (is_some (node_at tree path)) refl
  where
    by_case : (some : Bool) → is_some (node_at tree path) ≡ some → node_at (with_directory path tree) q ≡ node_at tree q
    by_case true s = ap (λ b. node_at (cond b tree (with_node path node.Dir tree)) q) s
    by_case false s = ap (λ b. node_at (cond b tree (with_node path node.Dir tree)) q) s ∙ with_node-apart tree path node.Dir q apart

-- whether a path is blocked is told by what stands there
pub blocking-same : (path : Path) (a b : Tree) → node_at a path ≡ node_at b path → blocking path a ≡ blocking path b
blocking-same path a b same = ap (λ at. cond (is_some at) (cond (is_dir at) None (Some path)) None) same
