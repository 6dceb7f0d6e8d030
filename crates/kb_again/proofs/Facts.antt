-- What is known of valid changes, in the lists of their groups.
use Rattle.std.specs.Prelude.{◌≡◌, ◌⊎◌, ℕ, Bool, true, not, ◌&&◌, ◌||◌, List, [], ◌∷◌, ◌++◌, map, codes, Option, Some, None, filter_map}
use Rattle.std.specs.List.{list_any}
use Rattle.kb_world.specs.Path.{Path, child}
use Rattle.kb_world.specs.Public.{intent_path, is_private}
use Rattle.kb_world.specs.Roots.{based_roots}
use Rattle.kb_world.specs.StorePath.{key_of, is_key}
use Rattle.kb_world.specs.View.{index_names}
use Rattle.kb_world.specs.declared.child.Area.TheVariants.{Nothing, Names}
use Rattle.kb_world.specs.declared.child.Request.{Request}
use Rattle.kb_world.specs.declared.roots.Roots.{Roots}
use Rattle.kb_changes.specs.Change.{staged_path}
use Rattle.kb_changes.specs.Groups.{drops_in, wipes_in, first_drop_dirs, second_drop_dirs, dirs_in, runs_in}
use Rattle.kb_changes.specs.Valid.{written_roots, new_intent_path, is_initrd}
use Rattle.kb_changes.specs.declared.change.Change.{Change}
use Rattle.kb_changes.specs.declared.change.Change.TheVariants as change
use Rattle.kb_changes.specs.declared.change.RootName.{RootName}
use Rattle.kb_again.specs.Within.{staging_paths}
use Rattle.kb_again.proofs.PathLaws.{is_over, is_above, is_listed}
use Rattle.kb_again.proofs.Ends.{Move, is_under_one, IsMember, IsUpward, IsDownward}
use Rattle.kb_again.proofs.Parts.{Groups}

-- ---- the lists of the groups

-- a Put: where it is staged, and where it is put
pub record StagedPut : Type 0 where
  pub root : RootName
  pub number : ℕ
  pub target : Path

pub record Lists : Type 0 where
  pub drops : List Path
  pub wipes : List Path
  pub first : List Path
  pub dirs : List Path
  pub puts : List StagedPut
  pub second : List Path
  pub runs : List Request

abbrev pub put_in : Change → Option StagedPut
put_in (change.Put root number target) = Some (record { root = root; number = number; target = target })
put_in (change.Dir path) = None
put_in (change.Drop path) = None
put_in (change.DropDir path) = None
put_in (change.Wipe path) = None
put_in (change.Run request) = None

abbrev pub puts_in : List Change → List StagedPut
puts_in changes = filter_map put_in changes

abbrev pub lists_of : List Change → Lists
lists_of changes = record {
  drops = drops_in changes;
  wipes = wipes_in changes;
  first = first_drop_dirs changes;
  dirs = dirs_in changes;
  puts = puts_in changes;
  second = second_drop_dirs changes;
  runs = runs_in changes;
}

abbrev pub staged_at : Roots → StagedPut → Path
staged_at r c = staged_path r c.root c.number

abbrev pub move_of : Roots → StagedPut → Move
move_of r c = (staged_at r c, c.target)

abbrev pub groups_of : Roots → Lists → Groups
groups_of r s =
    record { drops = s.drops; wipes = s.wipes; first = s.first; dirs = s.dirs; puts = map (move_of r) s.puts; second = s.second }

abbrev pub targets : Lists → List Path
targets s = map (λ c. c.target) s.puts

abbrev pub changed_paths : Lists → List Path
changed_paths s = s.drops ++ (s.wipes ++ (s.first ++ (s.dirs ++ (targets s ++ s.second))))

-- ---- paths

abbrev pub all_roots : Roots → List Path
all_roots r = r.boot ∷ based_roots r

-- none is at or under another
abbrev pub AreDisjoint : List Path → Type 0
AreDisjoint [] = Unit {0}
AreDisjoint (p ∷ ps) = ((q : Path) → is_listed q ps ≡ true → (is_over p q ≡ true → ⊥) × (is_over q p ≡ true → ⊥)) × AreDisjoint ps

-- each but boot is below the base
pub record AreRoots (r : Roots) : Type 0 where
  pub disjoint : AreDisjoint (all_roots r)
  pub below : (q : Path) → is_listed q (based_roots r) ≡ true → is_above r.base q ≡ true

-- paths at and below which no change is made
abbrev pub untouched : Roots → List Path
untouched r = intent_path r ∷ new_intent_path r ∷ staging_paths r

-- the scratch tree of a version
abbrev pub build_at : Roots → List ℕ → List ℕ → Path
build_at r m v = child (child (child r.dkms m) v) (codes "build")

abbrev pub is_open : Roots → Path → Bool
is_open r q = not (is_private r q)

-- at or below a root that is written, and neither private nor an initrd's
abbrev pub is_kept : Roots → Path → Bool
is_kept r q = is_under_one (written_roots r) q && (is_open r q && not (is_initrd r q))

-- an initrd's, or above a root that is written
abbrev pub is_beside : Roots → Path → Bool
is_beside r q = is_initrd r q || list_any (is_above q) (written_roots r)

-- ---- valid

-- no two have one target or one staged path
abbrev pub AreDifferent : Roots → List StagedPut → Type 0
AreDifferent r [] = Unit {0}
AreDifferent r (c ∷ cs) =
    ((d : StagedPut) → IsMember d cs → (c.target ≡ d.target → ⊥) × (staged_at r c ≡ staged_at r d → ⊥)) × AreDifferent r cs

-- depmod's request for a kernel
pub record IsIndexRun (r : Roots) (drops : List Path) (c : Request) (k : List ℕ) : Type 0 where
  pub area : c.area ≡ Names (child r.modules k) index_names
  pub dir : c.dir ≡ r.base
  pub seen : c.seen ≡ child r.modules k ∷ []
  pub dropped : (n : List ℕ) → IsMember n index_names → is_listed (child (child r.modules k) n) drops ≡ true

pub record IsValidUnder (r : Roots) (s : Lists) : Type 0 where
  pub first_order : IsUpward s.first
  pub second_order : IsUpward s.second
  pub dirs_order : IsDownward s.dirs
  pub target_not_wiped : (c : StagedPut) → IsMember c s.puts → is_under_one s.wipes c.target ≡ true → ⊥
  pub target_not_dropped : (c : StagedPut) → IsMember c s.puts → is_listed c.target s.drops ≡ true → ⊥
  pub target_not_second : (c : StagedPut) → IsMember c s.puts → is_listed c.target s.second ≡ true → ⊥
  pub different : AreDifferent r s.puts
  pub dir_not_wiped : (q : Path) → is_listed q s.dirs ≡ true → is_under_one s.wipes q ≡ true → ⊥
  pub second_not_below : (q x : Path) → is_listed q s.first ≡ true → is_above q x ≡ true → is_listed x s.second ≡ true → ⊥
  pub build_wiped : (m v : List ℕ) → is_key (key_of m v) ≡ true
      → (is_listed (child (child r.dkms m) v) s.first ≡ true) ⊎ (is_listed (child (child r.dkms m) v) s.second ≡ true) → is_listed
      (build_at r m v) s.wipes ≡ true
  pub below_root : (q : Path) → is_listed q (changed_paths s) ≡ true
      → (x : Path) × (is_listed x (written_roots r) ≡ true) × (is_above x q ≡ true)
  pub not_inside : (q : Path) → is_listed q (changed_paths s) ≡ true → is_under_one (untouched r) q ≡ true → ⊥
  pub no_initrd : (q : Path) → is_listed q (changed_paths s) ≡ true → is_initrd r q ≡ true → ⊥
  pub runs : (c : Request) → IsMember c s.runs → (c.area ≡ Nothing) ⊎ ((k : List ℕ) × IsIndexRun r s.drops c k)
