-- The paths of a patch, by which its changes go. This project's own.
use Rattle.std.specs.Prelude.{◌≡◌, List, map}
use Rattle.kb_world.specs.Patch.{Patch}
use Rattle.kb_world.specs.Path.{Path}
use Rattle.kb_world.specs.declared.tree.Node.{Node}
use Rattle.kb_world.specs.declared.tree.Node.TheVariants as node
use Rattle.kb_changes.specs.declared.patch_paths.PatchPaths.{PatchPaths}

-- these are the paths of the patch
pub record ArePathsOf (patch : Patch) (paths : PatchPaths) : Type 0 where
  pub drops : paths.drops ≡ patch.drops
  pub wipes : paths.wipes ≡ patch.wipes
  pub dirs : paths.dirs ≡ patch.dirs
  pub puts : paths.puts ≡ map (λ put. put.0) patch.puts

-- puts at these targets: what is put counts for nothing here, and is taken as a directory
abbrev pub some_puts : List Path → List (Path × Node)
some_puts targets = map (λ path. (path, node.Dir)) targets

-- a patch of these paths
abbrev pub some_patch : PatchPaths → Patch
some_patch paths = record { drops = paths.drops; wipes = paths.wipes; dirs = paths.dirs; puts = some_puts paths.puts }
