-- Paths, seen as their lists of names from the root. This project's own.
use Rattle.std.specs.Prelude.{ℕ, ◌-◌, Bool, ◌&&◌, not, List, [], ◌∷◌, ◌++◌, length, take, flat_map, codes, bytes_eq, IsTrue}
use Rattle.std.specs.List.{list_all, starts_with}
use Rattle.std.specs.Str.{byte}
use Rattle.std.specs.declared.cmp.Ordering.{Ordering}
use Rattle.std.specs.Ordering.{nat_cmp}
use Rattle.std.specs.Cmp.Lexicographic.{slice_cmp}
use Rattle.kb_world.specs.Names.{is_name}

abbrev pub Path : Type 0
Path = List (List ℕ)

-- each name can name an entry of a directory
abbrev pub IsPath : Path → Type 0
IsPath path = IsTrue (list_all is_name path)

-- `/` alone for the root, else a `/` and the name for each name
abbrev pub path_text : Path → List ℕ
path_text [] = codes "/"
path_text (name ∷ names) = flat_map (λ n. byte "/" ∷ n) (name ∷ names)

abbrev pub child : Path → List ℕ → Path
child path name = path ++ name ∷ []

-- the directory that a path stands in; the root's is the root
abbrev pub parent : Path → Path
parent path = take (length path - 1) path

-- the path is that of the directory or lies below it
abbrev pub is_under : Path → Path → Bool
is_under path directory = starts_with bytes_eq path directory

-- neither is at or under the other
abbrev pub are_apart : Path → Path → Bool
are_apart a b = not (is_under a b) && not (is_under b a)

-- name by name, each by bytes, a path before those below it
abbrev pub path_cmp : Path → Path → Ordering
path_cmp = slice_cmp (slice_cmp nat_cmp)
