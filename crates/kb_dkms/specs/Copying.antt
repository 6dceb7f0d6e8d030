-- A directory that is copied to a package's source: when that can be, what is staged of it, and the paths that it is copied
-- to. This project's own.
use Rattle.std.specs.Prelude.{◌≡◌, ℕ, ◌+◌, true, false, List, [], ◌∷◌, ◌++◌, length, map, filter, unwrap_or, Option, Some, None, Result, OnOk}
use Rattle.std.specs.Option.{ForSome}
use Rattle.kb_world.specs.Path.{Path, is_under}
use Rattle.kb_world.specs.Public.{intent_path, is_private, staging_path}
use Rattle.kb_world.specs.State.{State}
use Rattle.kb_world.specs.Steps.{add_blocked}
use Rattle.kb_world.specs.Store.{link_path, source_path}
use Rattle.kb_world.specs.Tree.{Tree, node_at, is_dir, kind_of}
use Rattle.kb_world.specs.declared.job.Key.{Key}
use Rattle.kb_world.specs.declared.roots.Roots.{Roots}
use Rattle.kb_world.specs.declared.stop.Stop.{Stop}
use Rattle.kb_world.specs.declared.tree.Node.{Node}
use Rattle.kb_world.specs.declared.tree.Node.TheVariants as node
use Rattle.kb_walk.specs.Copy.{met_below, place_copied, too_many}
use Rattle.kb_walk.specs.Walking.{is_dir_kind, is_leaf_kind}
use Rattle.kb_walk.specs.declared.walking.Met.{Met}
use Rattle.kb_changes.specs.Changes.{Staged}
use Rattle.kb_changes.specs.declared.patch_paths.PatchPaths.{PatchPaths}
use Rattle.kb_machine.specs.Aside.{IsSameBut}
use Rattle.kb_intent.specs.Txn.{StaysAside, AreStagedFor}
use Rattle.kb_intent.specs.declared.txn.Txn.{Txn}
use Rattle.kb_dkms.specs.declared.places.Places.{Places}

-- ---- when the transaction can be made

-- No journal stands, the roots of packages and of sources are there, nothing stands at the package's source or its link,
-- and nothing where the link's directories are needed.
pub record CanCopy (roots : Roots) (key : Key) (tree : Tree) : Type 0 where
  pub root : is_dir (node_at tree roots.dkms) ≡ true
  pub src : is_dir (node_at tree roots.src) ≡ true
  pub bare : node_at tree (intent_path roots) ≡ None
  pub no_source : node_at tree (source_path roots key) ≡ None
  pub no_link : node_at tree (link_path roots key) ≡ None
  pub unblocked : add_blocked roots key tree ≡ None

-- ---- what was met

-- the files and links among it
abbrev pub leaves_met : List Met → List Met
leaves_met met = filter (λ entry. is_leaf_kind entry.kind) met

-- what stands at a path, for one at which something does
abbrev pub node_there : Tree → Path → Node
node_there tree path = unwrap_or (node_at tree path) node.Dir

-- what stands where they were met
abbrev pub nodes_met : List Met → Tree → List Node
nodes_met met tree = map (λ entry. node_there tree entry.path) (leaves_met met)

-- All that lies below the directory was met.
pub record IsAllMet (from : Path) (whole : Tree) (met : List Met) : Type 0 where
  pub is : met ≡ met_below from whole
  pub all : too_many from whole ≡ None

-- It still stands there, and isn't private.
pub record StandsAsMet (roots : Roots) (tree : Tree) (entry : Met) : Type 0 where
  pub kind : entry.kind ≡ kind_of (node_at tree entry.path)
  pub own : is_private roots entry.path ≡ false

-- ---- what is staged below the root of sources

-- these nodes behind the others
abbrev pub with_sources : List Node → Staged → Staged
with_sources nodes staged = record { dkms = staged.dkms; src = staged.src ++ nodes; «modules» = staged.«modules»; boot = staged.boot }

-- so many more are counted
abbrev pub with_sources_counted : ℕ → Txn → Txn
with_sources_counted more txn = record txn { staged = record txn.staged { src = txn.staged.src + more } }

-- They are staged behind the others. Nothing else is changed but that root's staging directory.
pub record AreSourcesStaged (before after : Txn) (nodes : List Node) (tree now : Tree) : Type 0 where
  pub staged : (staged : Staged) → AreStagedFor before staged tree → AreStagedFor after (with_sources nodes staged) now
  pub same : IsSameBut (λ path. is_under path (staging_path before.roots.src)) tree now

abbrev pub AreSourcesStagedNow : Txn → Txn → List Node → Option Tree → Tree → Type 0
AreSourcesStagedNow before after nodes new tree = (now : Tree) × (new ≡ Some now) × AreSourcesStaged before after nodes tree now

-- The call stages these nodes of the tree, so many of them, and counts them. Where it stops, some may be counted.
pub record StagesSources (nodes : Tree → List Node) (count : ℕ) (before after : Txn) {T : Type 0} (old new : State) (result : Result T Stop) : Type 0 where
  pub counted : OnOk result (after ≡ with_sources_counted count before)
  pub roots : after.roots ≡ before.roots
  pub intent : after.intent ≡ before.intent
  pub staged : ForSome old.tree (λ tree. OnOk result (AreSourcesStagedNow before after (nodes tree) new.tree tree))
  pub aside : StaysAside before.roots old new result

-- The call stages the files and links of what was met.
abbrev pub StagesMet : List Met → Txn → Txn → {T : Type 0} → State → State → Result T Stop → Type 0
StagesMet met before after old new result = StagesSources (nodes_met met) (length (leaves_met met)) before after old new result

-- ---- where it is copied to

-- the places of what was met
abbrev pub places_copied : Path → Path → List Met → List Path
places_copied source from met = map (λ entry. place_copied source from entry.path) met

-- the directories among it
abbrev pub dirs_met : List Met → List Met
dirs_met met = filter (λ entry. is_dir_kind entry.kind) met

-- the paths of the patch that copies them, and makes the link of the package
abbrev pub paths_copied : Places → Path → List Met → PatchPaths
paths_copied places from met = record {
  drops = [];
  wipes = [];
  dirs = places.source ∷ places_copied places.source from (dirs_met met);
  puts = places_copied places.source from (leaves_met met) ++ places.link ∷ [];
}
