-- The union of trees, and that the parts of a store make it up.
use Rattle.std.proofs.Common.{◌≡◌, Bool, true, false, cond, ◌&&◌, ◌||◌, not, List, [], ◌∷◌, ◌++◌, Option, Some, None, refl, sym, ap, ◌∙◌}
use Rattle.std.specs.Option.{option_or}
use Rattle.std.specs.FinMap.{entries, get-entries, get-from_entries}
use Rattle.std.specs.FinMap.Entries.{find}
use Rattle.std.specs.Ordering.{eq_by_cmp}
use Rattle.std.specs.List.{list_any}
use Rattle.kb_world.specs.Path.{Path, path_cmp, is_under}
use Rattle.kb_world.specs.Tree.{Tree, node_at, is_dir}
use Rattle.kb_world.specs.View.{is_own, is_index, sees, view_of}
use Rattle.kb_world.specs.declared.child.Request.{Request}
use Rattle.kb_world.specs.TreeLaws.{paths_total, node_at-retain, same_tree}
use Rattle.kb_world.specs.Public.{is_private, is_public, is_loose, public_tree, foreign_tree, IsAlwaysPublic}
use Rattle.kb_world.specs.Layout.{united, whole_tree, is_source_link, is_in_box, is_kernel_link, is_in_chest, is_in_rest, source_links, boxes, kernel_links, chests, rest, layout}
use Rattle.kb_world.specs.declared.roots.Roots.{Roots}
use Rattle.kb_world.specs.declared.tree.Node.{Node}
use Rattle.kb_world.proofs.PublicLaws.{node_at-public_tree, node_at-foreign_tree}

find-append : (es fs : List (Path × Node)) (q : Path) → find path_cmp q (es ++ fs) ≡ option_or (find path_cmp q es) (find path_cmp q fs)
find-append [] fs q = refl
find-append (e ∷ es) fs q = by (eq_by_cmp path_cmp q e.0) (find-append es fs q)
  where
    by : (b : Bool) → find path_cmp q (es ++ fs) ≡ option_or (find path_cmp q es) (find path_cmp q fs)
        → cond b (Some e.1) (find path_cmp q (es ++ fs)) ≡ option_or (cond b (Some e.1) (find path_cmp q es)) (find path_cmp q fs)
    by true h = refl
    by false h = h

pub node_at-united : (a b : Tree) (q : Path) → node_at (united a b) q ≡ option_or (node_at a q) (node_at b q)
node_at-united a b q =
    get-from_entries paths_total (entries a ++ entries b) q ∙ find-append (entries a) (entries b) q
    ∙ ap (λ o. option_or o (find path_cmp q (entries b))) (sym (get-entries a q)) ∙ ap (λ o. option_or (node_at a q) o) (sym (get-entries b q))

-- ---- the layout of a store is the store

nothing_more : (b : Bool) (others : Option Node) → others ≡ None → option_or (cond b None None) others ≡ None
nothing_more true others h = h
nothing_more false others h = h

no_node : (b : Bool) → let none : Option Node = None in cond b none none ≡ none
no_node true = refl
no_node false = refl

-- of five parts of which the last has what is in no other, one has it
one_of_five : (at : Option Node) (a b c d : Bool)
    → option_or (cond a at None) (option_or (cond b at None) (option_or (cond c at None) (option_or (cond d at None) (cond (not (a || b || c || d)) at None)))) ≡ at
one_of_five None a b c d = nothing_more a _ (nothing_more b _ (nothing_more c _ (nothing_more d _ (no_node (not (a || b || c || d))))))
one_of_five (Some node) true b c d = refl
one_of_five (Some node) false true c d = refl
one_of_five (Some node) false false true d = refl
one_of_five (Some node) false false false true = refl
one_of_five (Some node) false false false false = refl

pub layout_is_store : (roots : Roots) (store : Tree) → layout roots store ≡ store
unfolding layout
layout_is_store roots store = same_tree _ _ (λ q.
    node_at-united (source_links roots store) _ q ∙ ap (option_or (node_at (source_links roots store) q)) (
    node_at-united (boxes roots store) _ q ∙ ap (option_or (node_at (boxes roots store) q)) (
    node_at-united (kernel_links roots store) _ q ∙ ap (option_or (node_at (kernel_links roots store) q)) (
    node_at-united (chests roots store) (rest roots store) q)))
    ∙ all_five q)
  where
    all_five : (q : Path) → option_or (node_at (source_links roots store) q) (option_or (node_at (boxes roots store) q) (option_or (node_at (kernel_links roots store) q) (option_or (node_at (chests roots store) q) (node_at (rest roots store) q)))) ≡ node_at store q
    all_five q =
        rw (node_at-retain store (is_source_link roots store) q, node_at-retain store (is_in_box roots store) q, node_at-retain store (is_kernel_link roots store) q, node_at-retain store (is_in_chest roots store) q, node_at-retain store (is_in_rest roots store) q)
        (one_of_five (node_at store q) (is_source_link roots store q) (is_in_box roots store q) (is_kernel_link roots store q) (is_in_chest roots store q))

-- ---- the public and the foreign tree together

or_none : (at : Option Node) → option_or at None ≡ at
or_none None = refl
or_none (Some node) = refl

either_part : (at : Option Node) (within own loose : Bool)
    → option_or (cond (within && not own && not loose) at None) (cond (not (within && not own && not loose) && not own) at None) ≡ cond own None at
either_part at true true loose = refl
either_part at false true loose = refl
either_part at true false true = refl
either_part at true false false = or_none at
either_part at false false loose = refl

-- they have all that isn't private
pub node_at-whole : (roots : Roots) (tree : Tree) (q : Path) → node_at (whole_tree roots tree) q ≡ cond (is_private roots q) None (node_at tree q)
node_at-whole roots tree q =
    node_at-united (public_tree roots tree) (foreign_tree roots tree) q ∙ ap (λ o. option_or o (node_at (foreign_tree roots tree) q)) (node_at-public_tree roots tree q)
    ∙ ap (option_or (cond (is_public roots q (node_at tree q)) (node_at tree q) None)) (node_at-foreign_tree roots tree q)
    ∙ either_part (node_at tree q) (list_any (is_under q) (roots.dkms ∷ roots.src ∷ roots.modules ∷ roots.boot ∷ [])) (is_private roots q) (is_loose roots q (node_at tree q))

-- at a path that isn't private they have what the tree has
pub whole_at : (roots : Roots) (tree : Tree) (q : Path) → is_private roots q ≡ false → node_at (whole_tree roots tree) q ≡ node_at tree q
whole_at roots tree q opens = node_at-whole roots tree q ∙ ap (λ hidden. cond hidden None (node_at tree q)) opens

-- a path that is always public isn't private
not_private : (roots : Roots) (q : Path) → IsAlwaysPublic roots q → is_private roots q ≡ false
not_private roots q always = second_of_three (list_any (is_under q) (roots.dkms ∷ roots.src ∷ roots.modules ∷ roots.boot ∷ [])) (is_private roots q) (is_loose roots q None) (always None)
  where
    second_of_three : (within own loose : Bool) → (within && not own && not loose) ≡ true → own ≡ false
    second_of_three within false loose e = refl
    second_of_three true true loose e = cc
    second_of_three false true loose e = cc

-- and so at one that is always public
pub whole_shown : (roots : Roots) (tree : Tree) (q : Path) → IsAlwaysPublic roots q → node_at (whole_tree roots tree) q ≡ node_at tree q
whole_shown roots tree q always = whole_at roots tree q (not_private roots q always)

-- their public tree is that of the tree
pub public_whole : (roots : Roots) (tree : Tree) → public_tree roots (whole_tree roots tree) ≡ public_tree roots tree
public_whole roots tree = same_tree _ _ (λ q.
    node_at-public_tree roots (whole_tree roots tree) q ∙ ap (λ at. cond (is_public roots q at) at None) (node_at-whole roots tree q)
    ∙ either_hidden (node_at tree q) (list_any (is_under q) (roots.dkms ∷ roots.src ∷ roots.modules ∷ roots.boot ∷ [])) (is_private roots q) (is_loose roots q)
    ∙ sym (node_at-public_tree roots tree q))
  where
    either_hidden : (at : Option Node) (within own : Bool) (loose : Option Node → Bool)
        → cond (within && not own && not (loose (cond own None at))) (cond own None at) None ≡ cond (within && not own && not (loose at)) at None
    either_hidden at true true loose = refl
    either_hidden at false true loose = refl
    either_hidden at within false loose = refl

unseen : (own any hidden index : Bool) → own ≡ false → hidden ≡ true → ((own || any && not hidden) && not index) ≡ false
unseen own any hidden index a b = ap (λ o. (o || any && not hidden) && not index) a ∙ ap (λ h. (any && not h) && not index) b ∙ none any
  where
    none : (any : Bool) → ((any && false) && not index) ≡ false
    none true = refl
    none false = refl

-- a request with no directory of its own sees nothing private, so it sees the same of both together
pub view-whole : (roots : Roots) (request : Request) (tree : Tree) → ((q : Path) → is_own request.area q ≡ false)
    → view_of roots request (whole_tree roots tree) ≡ view_of roots request tree
unfolding view_of
view-whole roots request tree none = same_tree _ _ (λ q.
    node_at-retain whole (λ path. sees roots request path && not (is_dir (node_at whole path))) q ∙ at_path q (is_private roots q) refl
    ∙ sym (node_at-retain tree (λ path. sees roots request path && not (is_dir (node_at tree path))) q))
  where
    whole : Tree
    whole = whole_tree roots tree

    seen : Path → Option Node → Option Node
    seen q at = cond (sees roots request q && not (is_dir at)) at None

    at_path : (q : Path) (hidden : Bool) → is_private roots q ≡ hidden → seen q (node_at whole q) ≡ seen q (node_at tree q)
    at_path q true h =
        let blind = unseen (is_own request.area q) (list_any (is_under q) request.seen) (is_private roots q) (is_index roots q) (none q) h in
        ap (λ b. cond (b && not (is_dir (node_at whole q))) (node_at whole q) None) blind ∙ sym (ap (λ b. cond (b && not (is_dir (node_at tree q))) (node_at tree q) None) blind)
    at_path q false h = ap (seen q) (node_at-whole roots tree q ∙ ap (λ b. cond b None (node_at tree q)) h)
