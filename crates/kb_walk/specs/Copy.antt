-- A directory is copied with all that is below it: what is too much to be copied, and what comes of the copy. The limits
-- are this project's own.
use Rattle.std.specs.Prelude.{◌≡◌, ◌≢◌, Bool, true, false, cond, List, [], ◌∷◌, ◌++◌, length, drop, map, nat_lt, Option, Some, None, Result, OnOk, IsErrOf}
use Rattle.std.specs.List.{list_any}
use Rattle.std.specs.Option.{ForSome, option_map, option_or}
use Rattle.kb_world.specs.Path.{Path, is_under}
use Rattle.kb_world.specs.Tree.{Tree, node_at, kind_of, is_dir, edited, CanMake, IsFormed}
use Rattle.kb_world.specs.TreeLaws.{same_path}
use Rattle.kb_world.specs.Area.{IsLeft}
use Rattle.kb_world.specs.Crash.{Adds}
use Rattle.kb_world.specs.Read.{Agrees}
use Rattle.kb_world.specs.State.{State, HasCause, RanNone, Unchanged}
use Rattle.kb_world.specs.declared.child.Area.TheVariants.{Under}
use Rattle.kb_world.specs.declared.refusal.Refusal.{Refusal}
use Rattle.kb_world.specs.declared.refusal.Refusal.TheVariants as refusal
use Rattle.kb_world.specs.declared.stop.Stop.{Stop}
use Rattle.kb_world.specs.declared.stop.Stop.TheVariants.{Refused, Fault}
use Rattle.kb_world.specs.declared.tree.Kind.{Kind}
use Rattle.kb_world.specs.declared.tree.Kind.TheVariants as kind
use Rattle.kb_world.specs.declared.tree.Node.{Node}
use Rattle.kb_world.specs.declared.world.WorldError.{WorldError}
use Rattle.kb_world.specs.declared.world.WorldError.TheVariants.{Failed}
use Rattle.kb_walk.specs.Walking.{LIMITS, met_at, paths_below, walked}
use Rattle.kb_walk.specs.declared.walking.Met.{Met}
use Rattle.kb_walk.specs.declared.walking.Walk.{Walk}

-- ---- what is below a directory, and when it is too much

-- what a walk meets below it, up to the first entry that passes a limit
abbrev pub met_below : Path → Tree → List Met
met_below from tree = (walked LIMITS tree (λ path. false) from).met

abbrev pub too_many : Path → Tree → Option Refusal
too_many from tree = option_map refusal.TooMany (walked LIMITS tree (λ path. false) from).over

-- a file of more than 256 MiB
abbrev pub is_too_large_to_copy : Kind → Bool
is_too_large_to_copy (kind.File len exec) = nat_lt 268435456 len
is_too_large_to_copy kind.Absent = false
is_too_large_to_copy kind.Dir = false
is_too_large_to_copy kind.Link = false

-- the first of these files that is too large to be copied
abbrev pub first_too_large_to_copy : List Met → Option Path
first_too_large_to_copy [] = None
first_too_large_to_copy (met ∷ later) = cond (is_too_large_to_copy met.kind) (Some met.path) (first_too_large_to_copy later)

abbrev pub too_large : Path → Tree → Option Refusal
too_large from tree = option_map refusal.TooLarge (first_too_large_to_copy (met_below from tree))

-- what a walk met is more than is copied
abbrev pub too_much_met : Walk → Option Refusal
too_much_met walk = option_or (option_map refusal.TooMany walk.over) (option_map refusal.TooLarge (first_too_large_to_copy walk.met))

-- more is below the directory, or more is in a file there, than is copied
abbrev pub too_much : Path → Tree → Option Refusal
too_much from tree = option_or (too_many from tree) (too_large from tree)

-- ---- where it is copied to

-- the same names below another directory
abbrev pub place_copied : Path → Path → Path → Path
place_copied to from path = to ++ drop (length from) path

-- the path whose node stands at this one once the first directory is copied to the second
abbrev pub original_of : Path → Path → Path → Path
original_of from to path = cond (is_under path to) (place_copied from to path) path

-- At and below the copy the same stands as at and below the original, and everything else stands as it did.
abbrev pub IsCopied : Path → Path → Tree → Tree → Type 0
IsCopied from to before now = (path : Path) → node_at now path ≡ node_at before (original_of from to path)

-- the told tree is one to which the directory was copied
abbrev pub IsCopiedNow : Path → Path → Option Tree → Tree → Type 0
IsCopiedNow from to new before = (now : Tree) × (new ≡ Some now) × IsCopied from to before now

-- ---- what a copy does

-- The directory is there, and its copy can be made.
pub record CanCopyTo (from to : Path) (tree : Tree) : Type 0 where
  pub directory : is_dir (node_at tree from) ≡ true
  pub can_make : CanMake tree to

-- the told tree differs from that of before at or under the path alone
abbrev pub IsChangedUnder : Path → Option Tree → Tree → Type 0
IsChangedUnder path new before = (now : Tree) × (new ≡ Some now) × IsLeft (Under path ∷ []) before now

-- Whatever the call answered, only what is at or under the path differs, and whenever a crash comes it leaves such a tree.
-- No child ran.
pub record ChangesUnder (path : Path) {E : Type 0} (error : E) {T : Type 0} (old new : State) (result : Result T E) : Type 0 where
  pub partly : ForSome old.tree (IsChangedUnder path new.tree)
  pub soft : new.history.soft ≡ old.history.soft
  pub moments : ForSome old.tree (λ tree. Adds (IsLeft (Under path ∷ old.history.soft) tree) old.history new.history)
  pub ran_none : RanNone old new
  pub cause : HasCause error old new result

-- The directory is copied. Where more is below it than is copied, nothing is changed, and the call is refused unless it
-- stopped for another cause.
pub record Copies (from to : Path) {T : Type 0} (old new : State) (result : Result T Stop) : Type 0 where
  pub done : OnOk result (ForSome old.tree (IsCopiedNow from to new.tree))
  pub agrees : ForSome old.tree (λ tree. Agrees result (too_much from tree))
  pub bounded : ForSome old.tree (λ tree. too_much from tree ≢ None → Unchanged old new)
  pub refused : (why : Refusal) → IsErrOf result (Refused why) → Unchanged old new
  pub under : ChangesUnder to Fault old new result

-- ---- what the loop over the entries goes by

-- the entry stands as it was met, and can be made at its place
pub record CanCopyEntry (from to : Path) (tree : Tree) (met : Met) : Type 0 where
  pub kind : met.kind ≡ kind_of (node_at tree met.path)
  pub stands : node_at tree met.path ≢ None
  pub can_make : CanMake tree (place_copied to from met.path)

-- The node at the path comes to stand at the place too.
pub record CopiesOne (path place : Path) {T : Type 0} (old new : State) (result : Result T WorldError) : Type 0 where
  pub done : OnOk result (ForSome old.tree (λ tree. new.tree ≡ Some (edited place (node_at tree path) tree)))
  pub under : ChangesUnder place Failed old new result

-- what stands at a path once these paths are copied, to where nothing stood
abbrev pub copied_in_part : Path → Path → List Path → Tree → Path → Option Node
copied_in_part from to paths before path =
    cond (is_under path to) (cond (list_any (same_path (place_copied from to path)) paths) (node_at before (place_copied from to path)) None) (node_at before path)

abbrev pub IsCopiedInPart : Path → Path → List Path → Tree → Tree → Type 0
IsCopiedInPart from to paths before now = (path : Path) → node_at now path ≡ copied_in_part from to paths before path

-- Of a tree of before the directory itself is copied, and these entries were met below it.
pub record IsCopyBegun (from to : Path) (mets : List Met) (now before : Tree) : Type 0 where
  pub formed : IsFormed before
  pub directory : is_dir (node_at before from) ≡ true
  pub met : mets ≡ map (met_at before) (paths_below before from)
  pub first : IsCopiedInPart from to (from ∷ []) before now

abbrev pub WasCopyBegun : Path → Path → List Met → Tree → Type 0
WasCopyBegun from to mets now = (before : Tree) × IsCopyBegun from to mets now before

-- The entries are copied, of any tree of which the directory itself was.
pub record CopiesEntries (from to : Path) (mets : List Met) {T : Type 0} (old new : State) (result : Result T WorldError) : Type 0 where
  pub done : OnOk result (ForSome old.tree (λ tree. (before : Tree) → IsCopyBegun from to mets tree before → IsCopiedNow from to new.tree before))
  pub under : ChangesUnder to Failed old new result

-- The directory is copied whole, where it isn't too much.
pub record CopiesWhole (from to : Path) {T : Type 0} (old new : State) (result : Result T WorldError) : Type 0 where
  pub done : OnOk result (ForSome old.tree (IsCopiedNow from to new.tree))
  pub under : ChangesUnder to Failed old new result
