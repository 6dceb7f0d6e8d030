-- The changes of a patch, in the order of a journal, and what is staged for them. This project's own.
use Rattle.std.specs.Prelude.{◌≡◌, ℕ, Bool, true, false, not, cond, List, [], ◌∷◌, ◌++◌, length, map, filter, Some, is_some, codes}
use Rattle.std.specs.List.{slice_get}
use Rattle.kb_world.specs.Path.{Path, child, is_under}
use Rattle.kb_world.specs.Patch.{Patch, dirs_of, emptied_of, put_at}
use Rattle.kb_world.specs.Tree.{Tree, node_at}
use Rattle.kb_world.specs.declared.roots.Roots.{Roots}
use Rattle.kb_world.specs.declared.tree.Node.{Node}
use Rattle.kb_changes.specs.Change.{staged_path}
use Rattle.kb_changes.specs.Valid.{is_version_dir}
use Rattle.kb_changes.specs.declared.change.Change.{Change}
use Rattle.kb_changes.specs.declared.change.Change.TheVariants.{Dir, Put, Drop, DropDir, Wipe}
use Rattle.kb_changes.specs.declared.change.RootName.{RootName}
use Rattle.kb_changes.specs.declared.change.RootName.TheVariants as root_name

-- ---- which root a file or a link is staged below, and under which number

-- the root that a path is put below
abbrev pub root_of : Roots → Path → RootName
root_of roots path =
    cond (is_under path roots.dkms) root_name.Dkms
    (cond (is_under path roots.src) root_name.Src (cond (is_under path roots.modules) root_name.Modules root_name.Boot))

abbrev pub same_root : RootName → RootName → Bool
same_root root_name.Dkms root_name.Dkms = true
same_root root_name.Src root_name.Src = true
same_root root_name.Modules root_name.Modules = true
same_root root_name.Boot root_name.Boot = true
same_root a b = false

-- the nodes that are put below a root, in their order
abbrev pub nodes_below : Roots → RootName → List (Path × Node) → List Node
nodes_below roots root puts = map (λ put. put.1) (filter (λ put. same_root (root_of roots put.0) root) puts)

-- Each put has the number of the earlier ones below its root.
abbrev pub numbered_puts : Roots → List (Path × Node) → List (Path × Node) → List Change
numbered_puts roots earlier [] = []
numbered_puts roots earlier (put ∷ puts) =
    Put (root_of roots put.0) (length (nodes_below roots (root_of roots put.0) earlier)) put.0
    ∷ numbered_puts roots (earlier ++ put ∷ []) puts

-- ---- the changes

-- what is dropped and not put again
abbrev pub drops_of : Patch → List Path
drops_of patch = filter (λ path. not (is_some (put_at path patch.puts))) patch.drops

-- the scratch trees of the versions whose directories go
abbrev pub scratches : Roots → List Path → List Path
scratches roots paths = map (λ path. child path (codes "build")) (filter (is_version_dir roots) paths)

-- The changes of a patch: Drops, Wipes, Dirs, Puts, DropDirs. Directories are listed whether or not they are there.
unfoldable pub changes_of : Roots → Patch → List Change
changes_of roots patch =
    map Drop (drops_of patch)
    ++ (map Wipe (patch.wipes ++ scratches roots (emptied_of roots patch))
    ++ (map Dir (dirs_of roots patch) ++ (numbered_puts roots [] patch.puts ++ map DropDir (emptied_of roots patch))))

-- ---- what is staged

-- what is staged below each root, in the order of its numbers
pub record Staged : Type 0 where
  pub dkms : List Node
  pub src : List Node
  pub modules : List Node
  pub boot : List Node

abbrev pub staged_below : Staged → RootName → List Node
staged_below staged root_name.Dkms = staged.dkms
staged_below staged root_name.Src = staged.src
staged_below staged root_name.Modules = staged.modules
staged_below staged root_name.Boot = staged.boot

-- what has to be staged for a patch
abbrev pub nodes_of : Roots → Patch → Staged
nodes_of roots patch = record {
  dkms = nodes_below roots root_name.Dkms patch.puts;
  src = nodes_below roots root_name.Src patch.puts;
  «modules» = nodes_below roots root_name.Modules patch.puts;
  boot = nodes_below roots root_name.Boot patch.puts;
}

-- each of these nodes stands at its staged place
abbrev pub HasStaged : Roots → Staged → Tree → Type 0
HasStaged roots staged tree =
    (root : RootName) (number : ℕ) (node : Node) → slice_get (staged_below staged root) number ≡ Some node
    → node_at tree (staged_path roots root number) ≡ Some node
