-- When a patch fits a tree, so that its changes can be done there. This project's own.
use Rattle.std.specs.Prelude.{◌≡◌, ℕ, ◌<◌, ◌^◌, Bool, true, false, ◌&&◌, List, [], ◌∷◌, ◌++◌, length, map, Some, None}
use Rattle.std.specs.List.{list_any, AllByRecursion}
use Rattle.kb_world.specs.Path.{Path}
use Rattle.kb_world.specs.Index.{index_paths, depmod_request}
use Rattle.kb_world.specs.Names.{is_kernel}
use Rattle.kb_world.specs.Patch.{Patch, dirs_of, emptied_of, is_listed, put_at, left_at}
use Rattle.kb_world.specs.Public.{IsAlwaysPublic}
use Rattle.kb_world.specs.Roots.{is_below}
use Rattle.kb_world.specs.Tree.{Tree, node_at, is_dir, is_leaf, IsFormed}
use Rattle.kb_world.specs.declared.child.Area.TheVariants as areas
use Rattle.kb_world.specs.declared.child.Request.{Request}
use Rattle.kb_world.specs.declared.roots.Roots.{Roots}
use Rattle.kb_world.specs.declared.tree.Node.{Node}
use Rattle.kb_changes.specs.Valid.{written_roots, is_changeable, is_initrd, none_under, none_among, all_differ}

-- the path lies below one of the roots that are written, and that root's directory is there
abbrev pub is_rooted : Roots → Tree → Path → Bool
is_rooted roots tree path = list_any (λ root. is_below path root && is_dir (node_at tree root)) (written_roots roots)

-- a public path below a root in which nothing is foreign, as what lies loose in the boot root is
pub record IsInOwnRoot (roots : Roots) (path : Path) : Type 0 where
  pub opens : IsAlwaysPublic roots path
  pub placed : list_any (is_below path) (roots.dkms ∷ roots.src ∷ roots.modules ∷ []) ≡ true

-- a directory can be made or is there: no file or link is left in its place
pub record IsFitDir (roots : Roots) (patch : Patch) (tree : Tree) (path : Path) : Type 0 where
  pub opens : IsAlwaysPublic roots path
  pub free : is_leaf (left_at patch tree path) ≡ false

-- a file or a link is put where no directory stands, nor is made
pub record IsFitPut (roots : Roots) (patch : Patch) (tree : Tree) (put : Path × Node) : Type 0 where
  pub opens : IsAlwaysPublic roots put.0
  pub leaf : is_leaf (Some put.1) ≡ true
  pub free : is_dir (node_at tree put.0) ≡ false
  pub no_dir : is_listed put.0 (dirs_of roots patch) ≡ false

-- The patch fits the tree, which has what is staged and private too.
pub record IsFit (roots : Roots) (patch : Patch) (tree : Tree) : Type 0 where
  pub formed : IsFormed tree
  pub drops : AllByRecursion (IsAlwaysPublic roots) patch.drops
  pub wipes : AllByRecursion (IsInOwnRoot roots) patch.wipes
  pub dirs : (path : Path) → is_listed path (dirs_of roots patch) ≡ true → IsFitDir roots patch tree path
  pub puts : AllByRecursion (IsFitPut roots patch tree) patch.puts
  pub rooted : AllByRecursion (λ path. is_rooted roots tree path ≡ true) (patch.dirs ++ map (λ put. put.0) patch.puts)
  pub counted : length patch.puts < 2 ^ 64

-- ---- when the changes of a patch are valid: facts of its lists alone

-- a public path that a change may speak of
pub record IsPlacedPath (roots : Roots) (path : Path) : Type 0 where
  pub opens : IsAlwaysPublic roots path
  pub placed : is_changeable roots path ≡ true

-- what comes of a patch: directories that come of themselves, and targets
abbrev pub coming_paths : Patch → List Path
coming_paths patch = patch.dirs ++ map (λ put. put.0) patch.puts

-- The patch may stand: what goes and what comes has its place, and no part of it is in another's way.
pub record MayStand (roots : Roots) (patch : Patch) : Type 0 where
  pub drops : AllByRecursion (IsPlacedPath roots) patch.drops
  pub wipes : AllByRecursion (IsPlacedPath roots) patch.wipes
  pub comes : AllByRecursion (IsPlacedPath roots) (coming_paths patch)
  -- no directory that is made has the name of an initrd in the boot root
  pub dirs : list_any (is_initrd roots) (dirs_of roots patch) ≡ false
  -- nothing comes where all is wiped, targets differ, and none is a directory that would go
  pub unwiped : none_under patch.wipes (coming_paths patch) ≡ true
  pub differ : all_differ (map (λ put. put.0) patch.puts) ≡ true
  pub kept : none_among (emptied_of roots patch) (map (λ put. put.0) patch.puts) ≡ true
  pub counted : length patch.puts < 2 ^ 64

-- depmod's request for a kernel whose old index goes with the patch
pub record IsIndexing (roots : Roots) (patch : Patch) (request : Request) : Type 0 where
  pub kernel : List ℕ
  pub named : is_kernel kernel ≡ true
  pub asked : request ≡ depmod_request roots kernel
  pub dropped : (path : Path) → is_listed path (index_paths roots kernel) ≡ true
      → (is_listed path patch.drops ≡ true) × (put_at path patch.puts ≡ None)

-- a child that may stand behind the changes: one that may change nothing, or depmod
pub data IsFitRequest (roots : Roots) (patch : Patch) (request : Request) : Type 0 where
  idle : request.area ≡ areas.Nothing → IsFitRequest roots patch request
  indexing : IsIndexing roots patch request → IsFitRequest roots patch request
