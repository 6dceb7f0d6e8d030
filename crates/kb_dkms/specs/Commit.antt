-- The transaction of a patch with a script behind it: when that of `dkms add` can be made, its changes, and what is said of
-- its child. This project's own.
use Rattle.std.specs.Prelude.{◌≡◌, ℕ, true, List, [], ◌∷◌, ◌++◌, map, flat_map, Option, Some, None, Result, IfOk}
use Rattle.std.specs.Option.{ForSome}
use Rattle.kb_world.specs.Patch.{Patch}
use Rattle.kb_world.specs.Public.{intent_path}
use Rattle.kb_world.specs.State.{State}
use Rattle.kb_world.specs.Steps.{add_blocked}
use Rattle.kb_world.specs.Store.{link_path, source_path}
use Rattle.kb_world.specs.Tree.{Tree, node_at, is_dir}
use Rattle.kb_world.specs.declared.child.Reply.{Reply}
use Rattle.kb_world.specs.declared.child.Request.{Request}
use Rattle.kb_world.specs.declared.job.Host.{Host}
use Rattle.kb_world.specs.declared.job.Key.{Key}
use Rattle.kb_world.specs.declared.roots.Roots.{Roots}
use Rattle.kb_world.specs.declared.stop.Stop.{Stop}
use Rattle.kb_changes.specs.Changes.{changes_of, nodes_of, HasStaged}
use Rattle.kb_changes.specs.Valid.{new_intent_path}
use Rattle.kb_changes.specs.declared.change.Change.{Change}
use Rattle.kb_changes.specs.declared.change.Change.TheVariants.{Run}
use Rattle.kb_intent.specs.Txn.{StaysAside}
use Rattle.kb_intent.specs.declared.txn.Txn.{Txn}
use Rattle.kb_dkms.specs.Scripts.{host_given, ended_line, script_request}

-- ---- when the transaction of `dkms add` can be made

-- no journal stands, the directory of the packages and the package's source are there, and nothing stands at its link
pub record IsUnadded (roots : Roots) (key : Key) (tree : Tree) : Type 0 where
  pub root : is_dir (node_at tree roots.dkms) ≡ true
  pub bare : node_at tree (intent_path roots) ≡ None
  pub free : node_at tree (link_path roots key) ≡ None
  pub source : is_dir (node_at tree (source_path roots key)) ≡ true

-- and nothing stands where its directories are needed
pub record CanAdd (roots : Roots) (key : Key) (tree : Tree) : Type 0 where
  pub unadded : IsUnadded roots key tree
  pub unblocked : add_blocked roots key tree ≡ None

-- ---- its child, and its changes

-- the request for a script of the package's source, where there is one
abbrev pub script_asked : Host → Key → Option (List ℕ) → Option Request
script_asked host key None = None
script_asked host key (Some words) = Some (script_request host.roots (host_given host) key words)

abbrev pub runs_of : Option Request → List Request
runs_of None = []
runs_of (Some request) = request ∷ []

-- the changes of a patch, and the child behind them
abbrev pub changes_with : Roots → Patch → Option Request → List Change
changes_with roots patch request = changes_of roots patch ++ map Run (runs_of request)

-- The transaction has these changes, what they put is staged in the tree that is told now, and no journal is begun.
pub record IsPrepared (roots : Roots) (patch : Patch) (request : Option Request) (txn : Txn) (new : Option Tree) : Type 0 where
  pub now : Tree
  pub told : new ≡ Some now
  pub changes : txn.intent.changes ≡ changes_with roots patch request
  pub staged : HasStaged roots (nodes_of roots patch) now
  pub unbegun : node_at now (new_intent_path roots) ≡ None

-- The call puts the transaction together, and changes what is aside alone. The patch may go by the tree before it.
pub record Prepares (roots : Roots) (patch : Tree → Patch) (request : Option Request) (old new : State) (result : Result Txn Stop) : Type 0 where
  pub roots_are : IfOk result (λ txn. txn.roots ≡ roots)
  pub prepared : ForSome old.tree (λ tree. IfOk result (λ txn. IsPrepared roots (patch tree) request txn new.tree))
  pub aside : StaysAside roots old new result

-- what is said of the script's reply
abbrev pub endings : List ℕ → List Reply → List ℕ
endings which replies = flat_map (λ reply. ended_line which reply.code) replies
