-- What a walk meets below a directory, in the order of paths, and where it stops. This project's own.
use Rattle.std.specs.Prelude.{ℕ, ◌+◌, Bool, true, false, ◌&&◌, ◌||◌, not, cond, List, [], ◌∷◌, ◌++◌, length, filter, nat_le, nat_lt, Option, Some, None}
use Rattle.std.specs.List.{fold, list_all}
use Rattle.std.specs.Ordering.{is_lt}
use Rattle.std.specs.FinMap.{keys}
use Rattle.kb_world.specs.Path.{Path, path_cmp, child}
use Rattle.kb_world.specs.Roots.{is_below}
use Rattle.kb_world.specs.Tree.{Tree, node_at, kind_of, is_dir}
use Rattle.kb_world.specs.declared.tree.Kind.{Kind}
use Rattle.kb_world.specs.declared.tree.Kind.TheVariants as kind
use Rattle.kb_walk.specs.declared.walking.Limits.{Limits}
use Rattle.kb_walk.specs.declared.walking.Met.{Met}
use Rattle.kb_walk.specs.declared.walking.Walk.{Walk}

-- each path is less than all behind it
abbrev pub rises : List Path → Bool
rises [] = true
rises (path ∷ paths) = list_all (λ other. is_lt (path_cmp path other)) paths && rises paths

-- the paths below a directory
abbrev pub paths_below : Tree → Path → List Path
paths_below tree directory = filter (λ path. is_below path directory) (keys tree)

-- without those that are skipped
abbrev pub entries : Tree → (Path → Bool) → Path → List Path
entries tree skips directory = filter (λ path. not (skips path)) (paths_below tree directory)

-- an entry of a directory, and those below it
abbrev pub entry_block : Tree → (Path → Bool) → Path → List ℕ → List Path
entry_block tree skips directory name = cond (skips (child directory name)) [] (child directory name ∷ entries tree skips (child directory name))

-- the limits of a walk that has any: how many entries it meets at most, and how deep below its start a directory may
-- stand
abbrev pub LIMITS : Limits
LIMITS = record { entries = 65536; depth = 64 }

-- what is met at a path
abbrev pub met_at : Tree → Path → Met
met_at tree path = record { path = path; kind = kind_of (node_at tree path) }

-- The path passes a limit: as many entries as may be were met before it, or a directory stands there whose path has
-- more names than this.
abbrev pub passes_limit : Tree → ℕ → ℕ → List Met → Path → Bool
passes_limit tree most deepest met path = nat_le most (length met) || nat_lt deepest (length path) && is_dir (node_at tree path)

-- what is met at the path: it itself, unless a path before it passed a limit or it does
abbrev pub meets : Tree → ℕ → ℕ → Walk → Path → Walk
meets tree most deepest walk path = by walk.over
  where
    by : Option Path → Walk
    by (Some over) = walk
    by None =
        cond (passes_limit tree most deepest walk.met path) (record { met = walk.met; over = Some path })
        (record { met = walk.met ++ met_at tree path ∷ []; over = None })

-- the walk goes on over these paths, in order
abbrev pub walk_on : Tree → ℕ → ℕ → Walk → List Path → Walk
walk_on tree most deepest walk paths = fold (meets tree most deepest) walk paths

-- A walk: what it meets before the first path that passes a limit, and that path.
unfoldable pub walked : Limits → Tree → (Path → Bool) → Path → Walk
walked limits tree skips start = walk_on tree limits.entries (length start + limits.depth) (record { met = []; over = None }) (entries tree skips start)

abbrev pub is_dir_kind : Kind → Bool
is_dir_kind kind.Dir = true
is_dir_kind kind.Absent = false
is_dir_kind (kind.File len exec) = false
is_dir_kind kind.Link = false

-- a file or a link
abbrev pub is_leaf_kind : Kind → Bool
is_leaf_kind kind.Dir = false
is_leaf_kind kind.Absent = false
is_leaf_kind (kind.File len exec) = true
is_leaf_kind kind.Link = true
