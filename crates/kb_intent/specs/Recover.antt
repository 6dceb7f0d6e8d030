-- What a recovery does. This project's own.
use Rattle.std.specs.Prelude.{◌≡◌, ◌≢◌, Option, Some, None, Result, IfOk, IsErrOf}
use Rattle.std.specs.Option.{ForSome}
use Rattle.kb_world.specs.Public.{intent_path}
use Rattle.kb_world.specs.State.{State, HasCause, Lasts, Unchanged}
use Rattle.kb_world.specs.Tree.{Tree, node_at}
use Rattle.kb_world.specs.declared.refusal.Refusal.{Refusal}
use Rattle.kb_world.specs.declared.refusal.Refusal.TheVariants.{Damaged}
use Rattle.kb_world.specs.declared.roots.Roots.{Roots}
use Rattle.kb_world.specs.declared.stop.Stop.{Stop}
use Rattle.kb_world.specs.declared.stop.Stop.TheVariants.{Refused, Fault}
use Rattle.kb_changes.specs.Change.{requests_of}
use Rattle.kb_changes.specs.declared.change.Intent.{Intent}
use Rattle.kb_changes.specs.declared.change.Recovered.{Recovered}
use Rattle.kb_machine.specs.Behind.{touched_by, LeavesBehind}
use Rattle.kb_machine.specs.Commits.{transacted, IsCommitted}
use Rattle.kb_machine.specs.Stands.{Stands}
use Rattle.kb_intent.specs.Finish.{HasJournal, KeepsOpening}

-- the journal's transaction came about: its words, and the requests and replies of its children
pub record IsRecovered (roots : Roots) (old new : State) (tree : Tree) (found : Recovered) : Type 0 where
  pub intent : Intent
  pub stood : HasJournal roots intent tree
  pub words : found.words ≡ intent.words
  pub committed : IsCommitted (transacted roots old.script intent.changes tree) old new found.replies
  pub requests : found.requests ≡ requests_of roots old.script intent.changes tree

-- no journal stood, and nothing is changed
pub record IsAtRest (roots : Roots) (old new : State) (tree : Tree) : Type 0 where
  pub bare : node_at tree (intent_path roots) ≡ None
  pub unchanged : Unchanged old new

abbrev pub FoundJournal : Roots → State → State → Tree → Option Recovered → Type 0
FoundJournal roots old new tree None = IsAtRest roots old new tree
FoundJournal roots old new tree (Some found) = IsRecovered roots old new tree found

-- what stands at the journal's path isn't a file with the text of a valid intent
pub record HasDamagedJournal (roots : Roots) (tree : Tree) : Type 0 where
  pub stands : node_at tree (intent_path roots) ≢ None
  pub no_journal : (intent : Intent) → HasJournal roots intent tree → ⊥

-- A refusal names the journal's path, and comes only where what stands there is damaged.
pub record IsDamageTold (roots : Roots) (old : State) (why : Refusal) : Type 0 where
  pub path : why ≡ Damaged (intent_path roots)
  pub damaged : ForSome old.tree (HasDamagedJournal roots)

-- The call does the transaction of the journal, if one stands. Where a store stands in a told tree it survives a crash. A damaged journal
-- is refused, and then nothing is changed.
pub record Recovers (roots : Roots) (old new : State) (result : Result (Option Recovered) Stop) : Type 0 where
  pub found : ForSome old.tree (λ tree. IfOk result (FoundJournal roots old new tree))
  pub refused : (why : Refusal) → IsErrOf result (Refused why) → IsDamageTold roots old why
  pub damaged : ForSome old.tree (λ tree. HasDamagedJournal roots tree → Unchanged old new)
  -- whatever it answers: without a journal nothing is changed, and of a journal's children a front ran
  pub at_rest : ForSome old.tree (λ tree. node_at tree (intent_path roots) ≡ None → Unchanged old new)
  pub behind : ForSome old.tree (λ tree. (intent : Intent) → HasJournal roots intent tree
      → LeavesBehind roots (requests_of roots old.script intent.changes tree) (touched_by intent.changes) tree old new)
  pub survives : ForSome old.tree (λ tree. (store : Tree) → Stands roots store old → KeepsOpening roots store old new result)
  pub lasts : Lasts old new
  pub cause : HasCause Fault old new result
