-- How the public tree goes with the changes of a tree.
use Rattle.std.proofs.Common.{◌≡◌, Bool, true, false, cond, ◌&&◌, not, List, [], ◌∷◌, Option, Some, None, is_some, refl, sym, ap, ◌∙◌}
use Rattle.std.specs.List.{list_any, AllByRecursion}
use Rattle.std.specs.FinMap.{keys, remove}
use Rattle.kb_world.specs.Path.{Path, is_under}
use Rattle.kb_world.specs.Tree.{Tree, node_at, with_node, without, edited, moved, is_leaf, is_dir}
use Rattle.kb_world.specs.TreeLaws.{same_path, same_path-true, same_tree, node_at-remove, node_at-retain}
use Rattle.kb_world.specs.Roots.{is_below}
use Rattle.kb_world.specs.Public.{IsAlwaysPublic, is_public, public_tree}
use Rattle.kb_world.specs.Patch.{with_directory, dropped, wiped, tidied, all_dropped, all_wiped, with_directories, all_tidied}
use Rattle.kb_world.specs.declared.roots.Roots.{Roots}
use Rattle.kb_world.specs.declared.tree.Node.{Node}
use Rattle.kb_world.specs.declared.tree.Node.TheVariants as node
use Rattle.kb_world.proofs.PublicLaws.{node_at-public_tree, shown, public_tree-with_node}

-- whatever stands at the path, it isn't public
abbrev pub IsNeverPublic : Roots → Path → Type 0
IsNeverPublic roots path = (at : Option Node) → is_public roots path at ≡ false

-- what is left in the directory is left there in the public tree too
abbrev pub IsPlain : Roots → Path → Tree → Type 0
IsPlain roots path tree = list_any (λ other. is_below other path) (keys tree) ≡ list_any (λ other. is_below other path) (keys (public_tree roots tree))

module _ (roots : Roots) where
  abbrev at_public : Path → Option Node → Option Node
  at_public q at = cond (is_public roots q at) at None

  none_public : (q : Path) → at_public q None ≡ None
  none_public q = by (is_public roots q None)
    where
      nothing : Option Node
      nothing = None

      by : (b : Bool) → cond b nothing nothing ≡ nothing
      by true = refl
      by false = refl

  pub public-remove : (path : Path) (tree : Tree) → public_tree roots (remove tree path) ≡ remove (public_tree roots tree) path
  public-remove path tree = same_tree _ _ (λ q.
      node_at-public_tree roots (remove tree path) q ∙ ap (at_public q) (node_at-remove tree path q) ∙ by q (same_path q path)
      ∙ sym (node_at-remove (public_tree roots tree) path q ∙ ap (λ at. cond (same_path q path) None at) (node_at-public_tree roots tree q)))
    where
      by : (q : Path) (b : Bool) → at_public q (cond b None (node_at tree q)) ≡ cond b None (at_public q (node_at tree q))
      by q true = none_public q
      by q false = refl

  pub public-wiped : (path : Path) (tree : Tree) → public_tree roots (wiped path tree) ≡ wiped path (public_tree roots tree)
  public-wiped path tree = same_tree _ _ (λ q.
      node_at-public_tree roots (wiped path tree) q ∙ ap (at_public q) (node_at-retain tree (λ other. not (is_under other path)) q) ∙ by q (not (is_under q path))
      ∙ sym (node_at-retain (public_tree roots tree) (λ other. not (is_under other path)) q ∙ ap (λ at. cond (not (is_under q path)) at None) (node_at-public_tree roots tree q)))
    where
      by : (q : Path) (b : Bool) → at_public q (cond b (node_at tree q) None) ≡ cond b (at_public q (node_at tree q)) None
      by q true = refl
      by q false = none_public q

  pub public-dropped : (path : Path) (tree : Tree) → IsAlwaysPublic roots path → public_tree roots (dropped path tree) ≡ dropped path (public_tree roots tree)
  public-dropped path tree opens = by (is_leaf (node_at tree path)) refl
    where
      same : is_leaf (node_at (public_tree roots tree) path) ≡ is_leaf (node_at tree path)
      same = ap is_leaf (shown roots tree path opens)

      by : (b : Bool) → is_leaf (node_at tree path) ≡ b → public_tree roots (dropped path tree) ≡ dropped path (public_tree roots tree)
      by true e = ap (λ b. public_tree roots (cond b (without path tree) tree)) e ∙ public-remove path tree ∙ sym (ap (λ b. cond b (without path (public_tree roots tree)) (public_tree roots tree)) (same ∙ e))
      by false e = ap (λ b. public_tree roots (cond b (without path tree) tree)) e ∙ sym (ap (λ b. cond b (without path (public_tree roots tree)) (public_tree roots tree)) (same ∙ e))

  public-directory : (path : Path) (tree : Tree) → IsAlwaysPublic roots path → public_tree roots (with_directory path tree) ≡ with_directory path (public_tree roots tree)
  public-directory path tree opens = by (is_some (node_at tree path)) refl
    where
      by : (some : Bool) → is_some (node_at tree path) ≡ some → public_tree roots (with_directory path tree) ≡ with_directory path (public_tree roots tree)
      by true s =
          ap (λ b. public_tree roots (cond b tree (with_node path node.Dir tree))) s
          ∙ sym (ap (λ b. cond b (public_tree roots tree) (with_node path node.Dir (public_tree roots tree))) (ap is_some (shown roots tree path opens) ∙ s))
      by false s =
          ap (λ b. public_tree roots (cond b tree (with_node path node.Dir tree))) s ∙ public_tree-with_node roots tree path node.Dir opens
          ∙ sym (ap (λ b. cond b (public_tree roots tree) (with_node path node.Dir (public_tree roots tree))) (ap is_some (shown roots tree path opens) ∙ s))

  pub public-tidied : (path : Path) (tree : Tree) → IsAlwaysPublic roots path → IsPlain roots path tree → public_tree roots (tidied path tree) ≡ tidied path (public_tree roots tree)
  public-tidied path tree opens plain = by (is_dir (node_at tree path)) (list_any (λ other. is_below other path) (keys tree)) refl refl
    where
      p : Tree
      p = public_tree roots tree

      by : (d any : Bool) → is_dir (node_at tree path) ≡ d → list_any (λ other. is_below other path) (keys tree) ≡ any → public_tree roots (tidied path tree) ≡ tidied path p
      by d any e f =
          ap (λ b. public_tree roots (cond (b && not (list_any (λ other. is_below other path) (keys tree))) (remove tree path) tree)) e
          ∙ ap (λ b. public_tree roots (cond (d && not b) (remove tree path) tree)) f ∙ each (d && not any)
          ∙ sym (ap (λ b. cond (b && not (list_any (λ other. is_below other path) (keys p))) (remove p path) p) (ap is_dir (shown roots tree path opens) ∙ e)
          ∙ ap (λ b. cond (d && not b) (remove p path) p) (sym plain ∙ f))
        where
          each : (b : Bool) → public_tree roots (cond b (remove tree path) tree) ≡ cond b (remove p path) p
          each true = public-remove path tree
          each false = refl

  -- what isn't there can't be taken away
  remove-none : (path : Path) (tree : Tree) → node_at tree path ≡ None → remove tree path ≡ tree
  remove-none path tree none = same_tree _ _ (λ q. node_at-remove tree path q ∙ by q (same_path q path) refl)
    where
      by : (q : Path) (b : Bool) → same_path q path ≡ b → cond b None (node_at tree q) ≡ node_at tree q
      by q true e = sym (ap (node_at tree) (same_path-true q path e) ∙ none)
      by q false e = refl

  pub public-moved : (staged target : Path) (at : Node) (tree : Tree) → node_at tree staged ≡ Some at → IsNeverPublic roots staged → IsAlwaysPublic roots target
      → public_tree roots (moved staged target tree) ≡ with_node target at (public_tree roots tree)
  public-moved staged target at tree is hidden opens =
      ap (λ n. public_tree roots (edited target n (without staged tree))) is
      ∙ public_tree-with_node roots (without staged tree) target at opens
      ∙ ap (with_node target at) (public-remove staged tree ∙ remove-none staged (public_tree roots tree) (node_at-public_tree roots tree staged ∙ ap (λ b. cond b (node_at tree staged) None) (hidden (node_at tree staged))))

  -- ---- groups

  pub all_dropped-public : (paths : List Path) (tree : Tree) → AllByRecursion (IsAlwaysPublic roots) paths → public_tree roots (all_dropped paths tree) ≡ all_dropped paths (public_tree roots tree)
  all_dropped-public [] tree opens = refl
  all_dropped-public (path ∷ paths) tree opens = all_dropped-public paths (dropped path tree) opens.1 ∙ ap (all_dropped paths) (public-dropped path tree opens.0)

  pub all_wiped-public : (paths : List Path) (tree : Tree) → public_tree roots (all_wiped paths tree) ≡ all_wiped paths (public_tree roots tree)
  all_wiped-public [] tree = refl
  all_wiped-public (path ∷ paths) tree = all_wiped-public paths (wiped path tree) ∙ ap (all_wiped paths) (public-wiped path tree)

  pub with_directories-public : (paths : List Path) (tree : Tree) → AllByRecursion (IsAlwaysPublic roots) paths → public_tree roots (with_directories paths tree) ≡ with_directories paths (public_tree roots tree)
  with_directories-public [] tree opens = refl
  with_directories-public (path ∷ paths) tree opens = with_directories-public paths (with_directory path tree) opens.1 ∙ ap (with_directories paths) (public-directory path tree opens.0)

  abbrev pub ArePlain : List Path → Tree → Type 0
  ArePlain [] tree = Unit {0}
  ArePlain (path ∷ paths) tree = IsPlain roots path tree × ArePlain paths (tidied path tree)

  pub all_tidied-public : (paths : List Path) (tree : Tree) → AllByRecursion (IsAlwaysPublic roots) paths → ArePlain paths tree → public_tree roots (all_tidied paths tree) ≡ all_tidied paths (public_tree roots tree)
  all_tidied-public [] tree opens plain = refl
  all_tidied-public (path ∷ paths) tree opens plain = all_tidied-public paths (tidied path tree) opens.1 plain.1 ∙ ap (all_tidied paths) (public-tidied path tree opens.0 plain.0)
