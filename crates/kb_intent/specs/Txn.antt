-- A transaction that is being put together: its changes, and what is staged for them. This project's own.
use Rattle.std.specs.Prelude.{◌≡◌, ℕ, ◌≤◌, true, false, List, [], ◌∷◌, ◌++◌, length, Option, Some, None, Result, IfOk, OnOk, OnErr, IsErrOf}
use Rattle.std.specs.List.{list_any, slice_get}
use Rattle.std.specs.Option.{ForSome}
use Rattle.kb_world.specs.Path.{Path, is_under}
use Rattle.kb_world.specs.Public.{staging_path}
use Rattle.kb_world.specs.State.{State, HasCause, RanNone}
use Rattle.kb_world.specs.Tree.{Tree, node_at, is_leaf}
use Rattle.kb_world.specs.declared.job.Job.{Job}
use Rattle.kb_world.specs.declared.refusal.Refusal.{Refusal}
use Rattle.kb_world.specs.declared.roots.Roots.{Roots}
use Rattle.kb_world.specs.declared.stop.Stop.{Stop}
use Rattle.kb_world.specs.declared.stop.Stop.TheVariants.{Refused, Fault}
use Rattle.kb_world.specs.declared.tree.Node.{Node}
use Rattle.kb_changes.specs.Change.{staged_path, root_path}
use Rattle.kb_changes.specs.Changes.{Staged, staged_below}
use Rattle.kb_changes.specs.Counts.{count_below, none_counted, one_more}
use Rattle.kb_changes.specs.Valid.{new_intent_path}
use Rattle.kb_changes.specs.declared.change.Change.{Change}
use Rattle.kb_changes.specs.declared.change.RootName.{RootName}
use Rattle.kb_changes.specs.declared.change.RootName.TheVariants as root_name
use Rattle.kb_again.specs.Within.{staging_paths}
use Rattle.kb_machine.specs.Aside.{IsSameBut, WorksAside}
use Rattle.kb_intent.specs.declared.txn.Txn.{Txn}

-- below the root these nodes are staged under the first numbers, and nothing is under the others
pub record HoldsBelow (roots : Roots) (root : RootName) (nodes : List Node) (tree : Tree) : Type 0 where
  pub held : (number : ℕ) (node : Node) → slice_get nodes number ≡ Some node → node_at tree (staged_path roots root number) ≡ Some node
  pub free : (number : ℕ) → length nodes ≤ number → node_at tree (staged_path roots root number) ≡ None
  pub directory : is_leaf (node_at tree (staging_path (root_path roots root))) ≡ false

-- these nodes are staged, and no others
abbrev pub HoldsStaged : Roots → Staged → Tree → Type 0
HoldsStaged roots staged tree = (root : RootName) → HoldsBelow roots root (staged_below staged root) tree

-- one node more is staged below the root
abbrev pub with_staged : RootName → Node → Staged → Staged
with_staged root_name.Dkms node staged = record { dkms = staged.dkms ++ node ∷ []; src = staged.src; «modules» = staged.«modules»; boot = staged.boot }
with_staged root_name.Src node staged = record { dkms = staged.dkms; src = staged.src ++ node ∷ []; «modules» = staged.«modules»; boot = staged.boot }
with_staged root_name.Modules node staged = record { dkms = staged.dkms; src = staged.src; «modules» = staged.«modules» ++ node ∷ []; boot = staged.boot }
with_staged root_name.Boot node staged = record { dkms = staged.dkms; src = staged.src; «modules» = staged.«modules»; boot = staged.boot ++ node ∷ [] }

-- nothing is staged yet
abbrev pub none_staged : Staged
none_staged = record { dkms = []; src = []; «modules» = []; boot = [] }

-- ---- what a transaction counts, and how it grows

-- one node more is counted below the root, and nothing else is changed
abbrev pub with_count : RootName → Txn → Txn
with_count root txn = record txn { staged = one_more root txn.staged }

-- it has these changes, and nothing else is changed
abbrev pub with_changes : List Change → Txn → Txn
with_changes changes txn = record txn { intent = record txn.intent { changes = changes } }

-- it has one change more, and nothing else is changed
abbrev pub with_change_behind : Change → Txn → Txn
with_change_behind change txn = with_changes (txn.intent.changes ++ change ∷ []) txn

-- these nodes are staged for the transaction, no others, and it counts them
pub record AreStagedFor (txn : Txn) (staged : Staged) (tree : Tree) : Type 0 where
  pub counts : (root : RootName) → count_below txn.staged root ≡ length (staged_below staged root)
  pub held : HoldsStaged txn.roots staged tree

abbrev pub IsStagedFor : Txn → Tree → Type 0
IsStagedFor txn tree = (staged : Staged) × AreStagedFor txn staged tree

-- ---- whatever a call answers

-- It changes what is aside alone, runs no child, and is never refused.
pub record StaysAside (roots : Roots) {T : Type 0} (old new : State) (result : Result T Stop) : Type 0 where
  pub aside : WorksAside roots old new
  pub ran_none : RanNone old new
  pub unrefused : (refusal : Refusal) → IsErrOf result (Refused refusal) → ⊥
  pub cause : HasCause Fault old new result

-- ---- a transaction is begun

-- it has the job's roots and words, no change, and counts nothing
pub record IsNewTransaction (job : Job) (txn : Txn) : Type 0 where
  pub roots : txn.roots ≡ job.host.roots
  pub words : txn.intent.words ≡ job.words
  pub changes : txn.intent.changes ≡ []
  pub counts : txn.staged ≡ none_counted

-- what a transaction that wasn't committed may have left
abbrev pub left_places : Roots → List Path
left_places roots = new_intent_path roots ∷ staging_paths roots

-- nothing is staged, no journal is begun, and all else stands as it did
pub record IsCleared (txn : Txn) (tree now : Tree) : Type 0 where
  pub staged : AreStagedFor txn none_staged now
  pub unbegun : (path : Path) → is_under path (new_intent_path txn.roots) ≡ true → node_at now path ≡ None
  pub same : IsSameBut (λ path. list_any (is_under path) (left_places txn.roots)) tree now

abbrev pub IsClearedNow : Txn → Option Tree → Tree → Type 0
IsClearedNow txn new tree = (now : Tree) × (new ≡ Some now) × IsCleared txn tree now

-- The call begins a transaction of the job.
pub record BeginsTransaction (job : Job) (old new : State) (result : Result Txn Stop) : Type 0 where
  pub begun : IfOk result (IsNewTransaction job)
  pub cleared : ForSome old.tree (λ tree. IfOk result (λ txn. IsClearedNow txn new.tree tree))
  pub aside : StaysAside job.host.roots old new result

-- ---- a node is staged

-- It is staged below the root under the next number. Nothing else is changed but that root's staging directory.
pub record IsStaged (txn : Txn) (root : RootName) (node : Node) (tree now : Tree) : Type 0 where
  pub staged : (staged : Staged) → AreStagedFor txn staged tree → AreStagedFor (with_count root txn) (with_staged root node staged) now
  pub same : IsSameBut (λ path. is_under path (staging_path (root_path txn.roots root))) tree now

abbrev pub IsStagedNow : Txn → RootName → Node → Option Tree → Tree → Type 0
IsStagedNow txn root node new tree = (now : Tree) × (new ≡ Some now) × IsStaged txn root node tree now

-- The call stages the node, and answers its number. Where it stops nothing is counted.
pub record Stages (root : RootName) (node : Node) (before after : Txn) (old new : State) (result : Result ℕ Stop) : Type 0 where
  pub number : IfOk result (λ number. number ≡ count_below before.staged root)
  pub counted : OnOk result (after ≡ with_count root before)
  pub uncounted : OnErr result (after ≡ before)
  pub staged : ForSome old.tree (λ tree. OnOk result (IsStagedNow before root node new.tree tree))
  pub aside : StaysAside before.roots old new result
