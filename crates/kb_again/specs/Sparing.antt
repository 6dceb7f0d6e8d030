-- Soft areas that do no harm. This project's own.
use Rattle.std.specs.Prelude.{◌≡◌, Bool, true, false, ◌&&◌, not, List, [], ◌∷◌, map, filter}
use Rattle.std.specs.List.{list_any, AllByRecursion}
use Rattle.kb_world.specs.Area.{is_named, is_settled_by}
use Rattle.kb_world.specs.Path.{Path, is_under}
use Rattle.kb_world.specs.Public.{is_private}
use Rattle.kb_world.specs.declared.child.Area.{Area}
use Rattle.kb_world.specs.declared.child.Area.TheVariants.{Nothing, Under, Names}
use Rattle.kb_world.specs.declared.roots.Roots.{Roots}
use Rattle.kb_changes.specs.Groups.{runs_in}
use Rattle.kb_changes.specs.Valid.{written_roots, is_kept_out, is_initrd}
use Rattle.kb_changes.specs.declared.change.Change.{Change}

-- the path is in the area, whatever stands there
abbrev pub reaches : Area → Path → Bool
reaches Nothing path = false
reaches (Under directory) path = is_under path directory
reaches (Names directory names) path = is_named directory names path

-- in a list of names files and links alone change
abbrev pub is_list_of_names : Area → Bool
is_list_of_names Nothing = false
is_list_of_names (Under directory) = false
is_list_of_names (Names directory names) = true

-- What the area leaves at the path may be public: it is at or under a root that is written, and not private. At an initrd's
-- path, directly in the boot root, only a directory would be, and a list of names leaves none.
abbrev pub counts : Roots → Area → Path → Bool
counts roots area path =
    list_any (is_under path) (written_roots roots) && (not (is_private roots path) && not (is_list_of_names area && is_initrd roots path))

-- Of a sparing area no path is the journal's or a staged one's, and what is public is in one of the own areas too.
pub record IsSparing (roots : Roots) (own : List Area) (area : Area) : Type 0 where
  pub kept_out : (path : Path) → reaches area path ≡ true → is_kept_out roots path ≡ false
  pub public : (path : Path) → reaches area path ≡ true → counts roots area path ≡ true → list_any (λ other. reaches other path) own ≡ true

abbrev pub AreSparing : Roots → List Area → List Area → Type 0
AreSparing roots own soft = AllByRecursion (IsSparing roots own) soft

-- the areas of the children that the changes run
abbrev pub areas_of : List Change → List Area
areas_of changes = map (λ request. request.area) (runs_in changes)

-- what is soft once each of these areas is settled
abbrev pub settled : List Area → List Area → List Area
settled [] soft = soft
settled (area ∷ areas) soft = settled areas (filter (λ other. not (is_settled_by area other)) soft)
