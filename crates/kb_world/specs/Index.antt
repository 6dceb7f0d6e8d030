-- The index of a kernel's modules: what a step takes away so that depmod(8) makes it anew. After dkms(8), and this
-- project's own.
use Rattle.std.specs.Prelude.{ℕ, List, [], ◌∷◌, ◌++◌, map, codes}
use Rattle.kb_world.specs.Path.{Path, child, path_text}
use Rattle.kb_world.specs.View.{index_names}
use Rattle.kb_world.specs.Patch.{Patch}
use Rattle.kb_world.specs.declared.roots.Roots.{Roots}
use Rattle.kb_world.specs.declared.child.Area.TheVariants as areas
use Rattle.kb_world.specs.declared.child.Request.{Request}

-- the index files of a kernel
abbrev pub index_paths : Roots → List ℕ → List Path
index_paths roots kernel = map (child (child roots.modules kernel)) index_names

-- the old index goes, and nothing else
abbrev pub index_patch : Roots → List ℕ → Patch
index_patch roots kernel = record { drops = index_paths roots kernel; wipes = []; dirs = []; puts = [] }

-- a step's patch, and the old index goes with it
abbrev pub indexing : Roots → List ℕ → Patch → Patch
indexing roots kernel patch = record patch { drops = patch.drops ++ index_paths roots kernel }

-- then depmod(8) is asked for a new one: it sees the kernel's directory and writes index files alone
abbrev pub depmod_request : Roots → List ℕ → Request
depmod_request roots kernel = record {
  program = codes "depmod";
  args = codes "-b" ∷ path_text roots.base ∷ codes "-a" ∷ kernel ∷ [];
  env = [];
  dir = roots.base;
  area = areas.Names (child roots.modules kernel) index_names;
  seen = child roots.modules kernel ∷ [];
}
