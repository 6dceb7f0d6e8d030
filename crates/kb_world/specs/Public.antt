-- Which part of the tree is whose. This project's own.
use Rattle.std.specs.Prelude.{◌≡◌, ◌+◌, ℕ, Bool, true, false, ◌&&◌, ◌||◌, not, List, [], ◌∷◌, length, nat_eq, Option, codes}
use Rattle.std.specs.List.{list_any}
use Rattle.std.specs.FinMap.{retain_keys}
use Rattle.kb_world.specs.Path.{Path, child, is_under}
use Rattle.kb_world.specs.StorePath.{store_path, is_in_scratch}
use Rattle.kb_world.specs.Tree.{Tree, node_at, is_dir}
use Rattle.kb_world.specs.declared.roots.Roots.{Roots}
use Rattle.kb_world.specs.declared.tree.Node.{Node}

-- the journal, and where it is written first
abbrev pub intent_path : Roots → Path
intent_path roots = child roots.dkms (codes ".intent")

-- what a command stages before its journal is committed
abbrev pub staging_path : Path → Path
staging_path root = child root (codes ".kb-staged")

-- the names of private places directly in the dkms root
abbrev pub private_dkms_names : List (List ℕ)
private_dkms_names = codes ".intent" ∷ codes ".intent.new" ∷ codes ".kb-staged" ∷ []

-- and in the boot root
abbrev pub private_boot_names : List (List ℕ)
private_boot_names = codes ".kb-staged" ∷ codes ".kb-plugins" ∷ []

abbrev pub private_places : Roots → List Path
private_places roots =
    intent_path roots ∷ child roots.dkms (codes ".intent.new") ∷ staging_path roots.dkms ∷ staging_path roots.src ∷ staging_path roots.modules
    ∷ staging_path roots.boot ∷ child roots.boot (codes ".kb-plugins") ∷ []

-- what the tool keeps for itself: these, each version's scratch tree MODULE/VERSION/build, and what is in them
abbrev pub is_private : Roots → Path → Bool
is_private roots path = list_any (is_under path) (private_places roots) || is_in_scratch (store_path roots path)

-- a file or a link directly in the boot root, as a kernel's image is
abbrev pub is_loose : Roots → Path → Option Node → Bool
is_loose roots path at = is_under path roots.boot && nat_eq (length path) (length roots.boot + 1) && not (is_dir at)

-- what the roots that are written hold, but for what is private and what lies loose in the boot root
abbrev pub is_public : Roots → Path → Option Node → Bool
is_public roots path at =
    list_any (is_under path) (roots.dkms ∷ roots.src ∷ roots.modules ∷ roots.boot ∷ []) && not (is_private roots path) && not (is_loose roots path at)

-- the public tree
unfoldable pub public_tree : Roots → Tree → Tree
public_tree roots tree = retain_keys tree (λ path. is_public roots path (node_at tree path))

-- neither public nor private
abbrev pub is_foreign : Roots → Path → Option Node → Bool
is_foreign roots path at = not (is_public roots path at) && not (is_private roots path)

-- the foreign tree
unfoldable pub foreign_tree : Roots → Tree → Tree
foreign_tree roots tree = retain_keys tree (λ path. is_foreign roots path (node_at tree path))

-- whatever stands at the path, it is public
abbrev pub IsAlwaysPublic : Roots → Path → Type 0
IsAlwaysPublic roots path = (at : Option Node) → is_public roots path at ≡ true

-- whatever stands at the path, it isn't foreign
abbrev pub IsNeverForeign : Roots → Path → Type 0
IsNeverForeign roots path = (at : Option Node) → is_foreign roots path at ≡ false
