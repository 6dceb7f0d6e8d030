-- What a child program sees. This project's own premise: it reads its inputs, and no index of modules.
use Rattle.std.specs.Prelude.{ℕ, Bool, false, ◌&&◌, ◌||◌, not, List, [], ◌∷◌, length, drop, codes, bytes_eq}
use Rattle.std.specs.List.{list_any}
use Rattle.std.specs.FinMap.{retain_keys}
use Rattle.kb_world.specs.Names.{is_kernel}
use Rattle.kb_world.specs.Path.{Path, is_under}
use Rattle.kb_world.specs.Tree.{Tree, node_at, is_dir}
use Rattle.kb_world.specs.Public.{is_private}
use Rattle.kb_world.specs.declared.roots.Roots.{Roots}
use Rattle.kb_world.specs.declared.child.Area.{Area}
use Rattle.kb_world.specs.declared.child.Area.TheVariants as areas
use Rattle.kb_world.specs.declared.child.Request.{Request}

-- the files that depmod(8) makes of a kernel's modules; that these are all is this project's own premise
abbrev pub index_names : List (List ℕ)
index_names =
    codes "modules.dep" ∷ codes "modules.dep.bin" ∷ codes "modules.alias" ∷ codes "modules.alias.bin" ∷ codes "modules.symbols" ∷ codes "modules.symbols.bin"
    ∷ codes "modules.builtin.bin" ∷ codes "modules.builtin.alias.bin" ∷ codes "modules.devname" ∷ codes "modules.softdep" ∷ codes "modules.weakdep" ∷ []

-- KERNEL/NAME, of an index name
abbrev pub is_index_of_kernel : Path → Bool
is_index_of_kernel (kernel ∷ name ∷ []) = is_kernel kernel && list_any (bytes_eq name) index_names
is_index_of_kernel (kernel ∷ name ∷ more ∷ rest) = false
is_index_of_kernel (kernel ∷ []) = false
is_index_of_kernel [] = false

-- the path of an index file, below the root of modules
abbrev pub is_index : Roots → Path → Bool
is_index roots path = is_under path roots.modules && is_index_of_kernel (drop (length roots.modules) path)

-- the path is in a directory that the child may change
abbrev pub is_own : Area → Path → Bool
is_own areas.Nothing path = false
is_own (areas.Under directory) path = is_under path directory
is_own (areas.Names directory names) path = false

-- A request sees what is in its own directory, and what is at or under its `seen` paths and not private; index files
-- it doesn't.
abbrev pub sees : Roots → Request → Path → Bool
sees roots request path = (is_own request.area path || list_any (is_under path) request.seen && not (is_private roots path)) && not (is_index roots path)

-- the view of a request: the files and links that it sees
unfoldable pub view_of : Roots → Request → Tree → Tree
view_of roots request tree = retain_keys tree (λ path. sees roots request path && not (is_dir (node_at tree path)))
