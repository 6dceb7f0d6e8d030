-- The chests of a store, as what a walk met tells of them. This project's own.
use Rattle.std.specs.Prelude.{Bool, true, false, cond, List, [], ◌∷◌, length, drop, Option, Some, None}
use Rattle.std.specs.List.{cons_option}
use Rattle.kb_world.specs.Path.{Path, is_under}
use Rattle.kb_world.specs.declared.roots.Roots.{Roots}
use Rattle.kb_world.specs.declared.tree.Kind.{Kind}
use Rattle.kb_world.specs.declared.tree.Kind.TheVariants as kind
use Rattle.kb_store.specs.Contents.{at_place, chest_by}
use Rattle.kb_walk.specs.Walking.{is_dir_kind}
use Rattle.kb_store.specs.declared.store.Chest.{Chest}
use Rattle.kb_walk.specs.declared.walking.Met.{Met}

abbrev pub is_file_kind : Kind → Bool
is_file_kind (kind.File len exec) = true
is_file_kind kind.Absent = false
is_file_kind kind.Dir = false
is_file_kind kind.Link = false

-- the files under a directory that were met first, by their names below it
abbrev pub files_in : Path → List Met → List Path
files_in directory [] = []
files_in directory (met ∷ rest) =
    cond (is_under met.path directory) (cond (is_file_kind met.kind) (drop (length directory) met.path ∷ files_in directory rest) (files_in directory rest)) []

-- the chest whose directory was met, before these
abbrev pub chest_met : Roots → Met → List Met → Option Chest
chest_met roots met rest = cond (is_dir_kind met.kind) (at_place roots (chest_by (λ word spot. Some (files_in met.path rest))) met.path) None

-- the chests of what was met
abbrev pub chests_met : Roots → List Met → List Chest
chests_met roots [] = []
chests_met roots (met ∷ rest) = cons_option (chest_met roots met rest) (chests_met roots rest)
