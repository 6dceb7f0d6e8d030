-- What a disk means once one change more is done: what undoes it gives back what there was before.
use Rattle.std.proofs.Common.{◌≡◌, Bool, true, false, cond, List, [], ◌∷◌, ◌++◌, drop, reverse, Option, Some, None, refl, sym, ap, ◌∙◌}
use Rattle.std.proofs.lemmas.List.{reverse-append}
use Rattle.kb_world.specs.Path.{Path}
use Rattle.kb_world.specs.Tree.{Tree, node_at, with_node, without, moved, edited}
use Rattle.kb_world.specs.TreeLaws.{same_path, same_path-true, same_path-refl, node_at-with_node, node_at-remove, same_tree}
use Rattle.kb_world.specs.declared.child.Area.{Area}
use Rattle.kb_world.specs.declared.tree.Node.{Node}
use Rattle.kb_disk.specs.declared.disk.Undo.{Undo}
use Rattle.kb_disk.specs.declared.disk.Undo.TheVariants as undo
use Rattle.kb_disk.specs.Stored.{stored_from, passed}
use Rattle.kb_disk.specs.Undo.{Now, undone, put_path, soft_at, moments_of}

-- the moments with one change more are those before and that of the change
pub pushed : (changes more : List Undo) (change : Undo) (before after : Now) → more ≡ changes ++ change ∷ [] → undone change after ≡ before
    → stored_from more after ≡ passed (soft_at change before.soft after.soft) (put_path change) after.tree after.soft (stored_from changes before)
pushed changes more change before after is back =
    let past : moments_of (reverse more) after ≡ moments_of (reverse changes) before ++ record { tree = before.tree; soft = soft_at change before.soft after.soft; putting = put_path change } ∷ [] =
    ap (λ l. moments_of (reverse l) after) is ∙ ap (λ l. moments_of l after) (reverse-append changes (change ∷ []))
    ∙ ap (λ (now : Now). moments_of (reverse changes) now ++ record { tree = now.tree; soft = soft_at change now.soft after.soft; putting = put_path change } ∷ []) back in
    λ i. record { tree = after.tree; history = record { soft = after.soft; past = past i } }

-- the same, told by the tree after it, what is soft then, and what was soft meanwhile
pub changed : (changes more : List Undo) (change : Undo) (during : List Area) (tree : Tree) (soft : List Area) (before after : Now) → more ≡ changes ++ change ∷ [] → undone change after ≡ before
    → soft_at change before.soft after.soft ≡ during → after.tree ≡ tree → after.soft ≡ soft → stored_from more after ≡ passed during (put_path change) tree soft (stored_from changes before)
changed changes more change during tree soft before after is back meanwhile made left =
    pushed changes more change before after is back ∙ (λ i. passed (meanwhile i) (put_path change) (made i) (left i) (stored_from changes before))

at_edit : (path : Path) (at : Option Node) (tree : Tree) (q : Path) → node_at (edited path at tree) q ≡ cond (same_path q path) at (node_at tree q)
at_edit path None tree q = node_at-remove tree path q
at_edit path (Some n) tree q = node_at-with_node tree path n q

-- what stood there, put back
edited_back : (path : Path) (at : Option Node) (tree : Tree) → edited path (node_at tree path) (edited path at tree) ≡ tree
edited_back path at tree = same_tree _ _ (λ q. at_edit path (node_at tree path) (edited path at tree) q ∙ ap (cond (same_path q path) (node_at tree path)) (at_edit path at tree q) ∙ by q (same_path q path) refl)
  where
    by : (q : Path) (b : Bool) → same_path q path ≡ b → cond b (node_at tree path) (cond b at (node_at tree q)) ≡ node_at tree q
    by q true same = ap (node_at tree) (sym (same_path-true q path same))
    by q false same = refl

pub undone_was : (path : Path) (at was : Option Node) (before after : Now) → after.tree ≡ edited path at before.tree → after.soft ≡ before.soft → was ≡ node_at before.tree path → undone (undo.Was path was) after ≡ before
unfolding undone
undone_was path at was before after made same is =
    let taken : edited path was after.tree ≡ before.tree = (λ i. edited path (is i) (made i)) ∙ edited_back path at before.tree in
    λ i. record { tree = taken i; soft = same i }

-- nothing stood where a file was put
pub undone_put : (path : Path) (node : Node) (before after : Now) → after.tree ≡ with_node path node before.tree → after.soft ≡ before.soft → node_at before.tree path ≡ None → undone (undo.Put path) after ≡ before
unfolding undone
undone_put path node before after made same free =
    let taken : without path after.tree ≡ before.tree =
    ap (without path) made ∙ ap (λ at. edited path at (with_node path node before.tree)) (sym free) ∙ edited_back path (Some node) before.tree in
    λ i. record { tree = taken i; soft = same i }

-- nor where one wasn't
pub undone_failed_put : (path : Path) (now : Now) → node_at now.tree path ≡ None → undone (undo.Put path) now ≡ now
unfolding undone
undone_failed_put path now free =
    let taken : without path now.tree ≡ now.tree = same_tree _ _ (λ q. node_at-remove now.tree path q ∙ by q (same_path q path) refl) in
    λ i. record { tree = taken i; soft = now.soft }
  where
    by : (q : Path) (b : Bool) → same_path q path ≡ b → cond b None (node_at now.tree q) ≡ node_at now.tree q
    by q true same = sym (ap (node_at now.tree) (same_path-true q path same) ∙ free)
    by q false same = refl

four : {A : Type 0} (a b : Bool) (x n y z : A) → (a ≡ true → x ≡ z) → (b ≡ true → n ≡ z) → cond a x (cond b n (cond a n (cond b y z))) ≡ z
four true b x n y z h k = h refl
four false true x n y z h k = k refl
four false false x n y z h k = refl

-- what stood at both paths, put back
moved_back : (from to : Path) (tree after : Tree) → after ≡ moved from to tree → edited to (node_at tree to) (edited from (node_at after to) after) ≡ tree
moved_back from to tree after made =
    let each : (q : Path) → node_at after q ≡ cond (same_path q to) (node_at tree from) (cond (same_path q from) None (node_at tree q)) =
    λ q. ap (λ t. node_at t q) made ∙ at_edit to (node_at tree from) (without from tree) q ∙ ap (cond (same_path q to) (node_at tree from)) (node_at-remove tree from q) in
    let there : node_at after to ≡ node_at tree from =
    each to ∙ ap (λ b. cond b (node_at tree from) (cond (same_path to from) None (node_at tree to))) (same_path-refl to) in
    same_tree _ _ (λ q.
    at_edit to (node_at tree to) (edited from (node_at after to) after) q
    ∙ ap (cond (same_path q to) (node_at tree to)) (at_edit from (node_at after to) after q ∙ (λ i. cond (same_path q from) (there i) (each q i)))
    ∙ four (same_path q to) (same_path q from) (node_at tree to) (node_at tree from) None (node_at tree q)
    (λ same. ap (node_at tree) (sym (same_path-true q to same)))
    (λ same. ap (node_at tree) (sym (same_path-true q from same))))

pub undone_moved : (from to : Path) (was : Option Node) (before after : Now) → after.tree ≡ moved from to before.tree → after.soft ≡ before.soft → was ≡ node_at before.tree to → undone (undo.Moved from to was) after ≡ before
unfolding undone
undone_moved from to was before after made same is =
    let back : edited to was (edited from (node_at after.tree to) after.tree) ≡ before.tree =
    ap (λ at. edited to at (edited from (node_at after.tree to) after.tree)) is ∙ moved_back from to before.tree after.tree made in
    λ i. record { tree = back i; soft = same i }

pub undone_given : (area : Area) (before after : Now) → after.tree ≡ before.tree → after.soft ≡ area ∷ before.soft → undone undo.Given after ≡ before
unfolding undone
undone_given area before after same given = λ i. record { tree = same i; soft = rest i }
  where
    rest : drop 1 after.soft ≡ before.soft
    rest = ap (drop 1) given

pub undone_settled : (areas : List Area) (before after : Now) → after.tree ≡ before.tree → areas ≡ before.soft → undone (undo.Settled areas) after ≡ before
unfolding undone
undone_settled areas before after same is = λ i. record { tree = same i; soft = is i }
