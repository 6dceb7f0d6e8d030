-- Changes of each kind that are valid under the usual roots, and a tree that a crash leaves with an index file in it.
use Rattle.std.proofs.Common.{◌≡◌, inl, inr, true, false, List, [], ◌∷◌, ◌++◌, map, codes, Some, None, is_some, refl, sym, ap, ◌∙◌, subst}
use Rattle.std.specs.FinMap.{empty}
use Rattle.std.proofs.lemmas.Bool.{true≢false}
use Rattle.kb_world.specs.Area.{IsLeft, is_soft_at}
use Rattle.kb_world.specs.Path.{Path, parent, child}
use Rattle.kb_world.specs.Roots.{roots_under}
use Rattle.kb_world.specs.Script.{Script}
use Rattle.kb_world.specs.Tree.{Tree, node_at, with_node, is_dir, IsFormed}
use Rattle.kb_world.specs.TreeLaws.{node_at-empty, with_node-here, with_node-apart}
use Rattle.kb_world.specs.View.{index_names}
use Rattle.kb_world.specs.declared.child.Area.{Area}
use Rattle.kb_world.specs.declared.child.Area.TheVariants.{Names}
use Rattle.kb_world.specs.declared.child.Request.{Request}
use Rattle.kb_world.specs.declared.roots.Roots.{Roots}
use Rattle.kb_world.specs.declared.tree.Node.{Node}
use Rattle.kb_world.specs.declared.tree.Node.TheVariants as node
use Rattle.kb_world.proofs.RootsLaws.{usual_apart}
use Rattle.kb_changes.specs.Valid.{is_valid}
use Rattle.kb_changes.specs.declared.change.Change.{Change}
use Rattle.kb_changes.specs.declared.change.Change.TheVariants.{Dir, Put, Drop, DropDir, Wipe, Run}
use Rattle.kb_changes.specs.declared.change.RootName.TheVariants.{Dkms}
use Rattle.kb_again.specs.Cases.{IsCase}
use Rattle.kb_again.specs.Sparing.{areas_of}
use Rattle.kb_again.proofs.EditLaws.{same_or_not}
use Rattle.kb_again.proofs.Laws.{own_sparing}

-- ---- formed trees

bare : Tree
bare = with_node [] node.Dir empty

bare_formed : IsFormed bare
unfolding bare
bare_formed q stands = elim (same_or_not q []) [
  | inl same ↦ ap (λ p. is_dir (node_at (with_node [] node.Dir empty) (parent p))) same ∙ ap is_dir (with_node-here empty [] node.Dir)
  | inr other ↦ absurd (true≢false (sym stands ∙ ap is_some (with_node-apart empty [] node.Dir q other ∙ node_at-empty q)))
]

dir_formed : (t : Tree) (p : Path) → IsFormed t → is_dir (node_at t (parent p)) ≡ true → IsFormed (with_node p node.Dir t)
dir_formed t p formed above q stands = elim (same_or_not q p) [
  | inl same ↦ ap (λ x. is_dir (node_at (with_node p node.Dir t) (parent x))) same ∙ still (parent p) above
  | inr other ↦ still (parent q) (formed q (ap is_some (sym (with_node-apart t p node.Dir q other)) ∙ stands))
]
  where
    still : (x : Path) → is_dir (node_at t x) ≡ true → is_dir (node_at (with_node p node.Dir t) x) ≡ true
    still x dir = elim (same_or_not x p) [
      | inl here ↦ ap (λ y. is_dir (node_at (with_node p node.Dir t) y)) here ∙ ap is_dir (with_node-here t p node.Dir)
      | inr there ↦ ap is_dir (with_node-apart t p node.Dir x there) ∙ dir
    ]

file_formed : (t : Tree) (p : Path) (n : Node) → IsFormed t → is_dir (node_at t (parent p)) ≡ true → node_at t p ≡ None
    → IsFormed (with_node p n t)
file_formed t p n formed above none q stands = elim (same_or_not q p) [
  | inl same ↦ ap (λ x. is_dir (node_at (with_node p n t) (parent x))) same ∙ still (parent p) above
  | inr other ↦ still (parent q) (formed q (ap is_some (sym (with_node-apart t p n q other)) ∙ stands))
]
  where
    still : (x : Path) → is_dir (node_at t x) ≡ true → is_dir (node_at (with_node p n t) x) ≡ true
    still x dir = elim (same_or_not x p) [
      | inl here ↦ absurd (true≢false (sym dir ∙ ap (λ y. is_dir (node_at t y)) here ∙ ap is_dir none))
      | inr there ↦ ap is_dir (with_node-apart t p n x there) ∙ dir
    ]

-- ---- the case

abbrev the_roots : Roots
the_roots = roots_under []

abbrev kernel_dir : Path
kernel_dir = child the_roots.modules (codes "6.1.0")

abbrev index_file : Path
index_file = child kernel_dir (codes "modules.dep")

abbrev module_dir : Path
module_dir = child the_roots.dkms (codes "hello")

abbrev version_dir : Path
version_dir = child module_dir (codes "1.0")

abbrev new_dir : Path
new_dir = child the_roots.dkms (codes "world")

abbrev depmod : Request
depmod = record { program = codes "depmod"; args = []; env = []; dir = []; area = Names kernel_dir index_names; seen = kernel_dir ∷ [] }

abbrev index_drops : List Change
index_drops = map (λ name. Drop (child kernel_dir name)) index_names

abbrev the_changes : List Change
the_changes =
    index_drops ++ Wipe (child version_dir (codes "build")) ∷ Dir new_dir ∷ Put Dkms 0
    (child new_dir (codes "file")) ∷ DropDir version_dir ∷ DropDir module_dir ∷ Run depmod ∷ []

valid : is_valid the_roots the_changes ≡ true
valid = refl

abbrev with_lib : Tree
with_lib = with_node (codes "lib" ∷ []) node.Dir bare

abbrev with_modules : Tree
with_modules = with_node the_roots.modules node.Dir with_lib

abbrev the_tree : Tree
the_tree = with_node kernel_dir node.Dir with_modules

abbrev the_image : Tree
the_image = with_node index_file (node.File [] false) the_tree

different : (a b : Path) → (a ≡ b → ⊥) → a ≡ b → ⊥
different a b h = h

root_dir : is_dir (node_at bare []) ≡ true
unfolding bare
root_dir = ap is_dir (with_node-here empty [] node.Dir)

tree_formed : IsFormed the_tree
tree_formed =
    dir_formed with_modules kernel_dir
    (dir_formed with_lib the_roots.modules
    (dir_formed bare (codes "lib" ∷ []) bare_formed root_dir)
    (ap is_dir (with_node-here bare (codes "lib" ∷ []) node.Dir)))
    (ap is_dir (with_node-here with_lib the_roots.modules node.Dir))

nothing_there : node_at the_tree index_file ≡ None
unfolding bare
nothing_there =
    with_node-apart with_modules kernel_dir node.Dir index_file (λ e. cc)
    ∙ with_node-apart with_lib the_roots.modules node.Dir index_file (λ e. cc)
    ∙ with_node-apart bare (codes "lib" ∷ []) node.Dir index_file (λ e. cc)
    ∙ with_node-apart empty [] node.Dir index_file (λ e. cc)
    ∙ node_at-empty index_file

index_there : node_at the_image index_file ≡ Some (node.File [] false)
index_there = with_node-here the_tree index_file (node.File [] false)

image_left : IsLeft (areas_of the_changes) the_tree the_image
image_left = record {
  each = λ q. elim (same_or_not q index_file) [
    | inr other ↦ inl (with_node-apart the_tree index_file (node.File [] false) q other)
    | inl same ↦ inr (subst (λ x. is_soft_at (areas_of the_changes) x (node_at the_tree x) (node_at the_image x) ≡ true) (sym same)
        ((λ i. is_soft_at (areas_of the_changes) index_file (nothing_there i) (index_there i))))
  ];
  formed =
      file_formed the_tree index_file (node.File [] false) tree_formed
      (ap is_dir (with_node-here with_modules kernel_dir node.Dir)) nothing_there;
}

pub some_case : (roots : Roots) × (script : Script) × (changes : List Change) × (soft : List Area) × (tree : Tree) ×
    (image : Tree) × IsCase roots script changes soft tree image
some_case = (
  the_roots,
  [],
  the_changes,
  areas_of the_changes,
  the_tree,
  the_image,
  record {
    apart = usual_apart [];
    valid = valid;
    formed = tree_formed;
    sparing = own_sparing the_roots the_changes (usual_apart []) valid;
    between = record { front = []; back = the_changes; split = refl; mid = the_tree; within = inl refl; left = image_left };
    differs = λ same. absurd (impossible (sym nothing_there ∙ ap (λ t. node_at t index_file) (sym same) ∙ index_there));
    drops = refl;
    wipes = refl;
    dirs = refl;
    puts = refl;
    drop_dirs = refl;
    runs = refl;
  },
)
  where
    impossible : {n : Node} → None ≡ Some n → ⊥
    impossible e = cc
