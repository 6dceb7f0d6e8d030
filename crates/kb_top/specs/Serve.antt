-- What a command does to the world, and what it has to say of it. This project's own.
use Rattle.std.specs.Prelude.{◌≡◌, ◌⊎◌, Bool, false, ◌||◌, List, Option, Some, None, Result, Ok, Err}
use Rattle.std.specs.Option.{ForSome}
use Rattle.kb_world.specs.Path.{Path}
use Rattle.kb_world.specs.Tree.{Tree}
use Rattle.kb_world.specs.Public.{intent_path, public_tree}
use Rattle.kb_world.specs.State.{State, HasCause, Lasts, Unchanged}
use Rattle.kb_machine.specs.Does.{Answers}
use Rattle.kb_world.specs.declared.roots.Roots.{Roots}
use Rattle.kb_world.specs.declared.job.Host.{Host}
use Rattle.kb_world.specs.declared.job.Report.{Report}
use Rattle.kb_world.specs.declared.refusal.Refusal.{Refusal}
use Rattle.kb_world.specs.declared.refusal.Refusal.TheVariants as refusal
use Rattle.kb_world.specs.declared.stop.Stop.{Stop}
use Rattle.kb_world.specs.declared.stop.Stop.TheVariants.{Refused, Fault, NoMemory}
use Rattle.kb_changes.specs.declared.change.Intent.{Intent}
use Rattle.kb_machine.specs.Across.{Survives}
use Rattle.kb_machine.specs.Behind.{is_reached, touched_by, LeavesBehind}
use Rattle.kb_machine.specs.Outcome.{Outcome}
use Rattle.kb_machine.specs.Opens.{IsReady}
use Rattle.kb_machine.specs.Stands.{Stands}
use Rattle.kb_intent.specs.Recover.{HasDamagedJournal}
use Rattle.kb_words.specs.Reading.{reading}
use Rattle.kb_words.specs.Words.{Word}
use Rattle.kb_top.specs.Machine.{outcome_of, damaged_outcome}

-- of a told tree, of the tree that it is once its journal is ended, and of the journal's intent, if one stood
abbrev pub ForReady : Roots → State → (Tree → Tree → Option Intent → Type 0) → Type 0
ForReady roots old Has = ForSome old.tree (λ tree. (ready : Tree) (found : Option Intent) → IsReady roots old.script tree ready found → Has tree ready found)

-- of a told tree at whose journal's path stands what isn't a journal
abbrev pub ForDamaged : Roots → State → (Tree → Type 0) → Type 0
ForDamaged roots old Has = ForSome old.tree (λ tree. HasDamagedJournal roots tree → Has tree)

-- what the changes of a journal may touch, if one was found
abbrev pub touched_by_found : Option Intent → Path → Bool
touched_by_found None path = false
touched_by_found (Some intent) path = touched_by intent.changes path

-- A front of the outcome's children ran, and what is foreign stands as it did, but where they or the journal that was found
-- may change it.
abbrev pub LeavesBehindAll : Roots → Outcome → Option Intent → Tree → State → State → Type 0
LeavesBehindAll roots outcome found = LeavesBehind roots outcome.requests (λ path. is_reached outcome.requests path || touched_by_found found path)

-- where the words are no command line: they are refused so, or what stands at the journal's path is, or the call gave up
abbrev pub RefusesUnread : Roots → Refusal → Result (Unit {0}) Stop → Type 0
RefusesUnread roots why (Ok done) = ⊥
RefusesUnread roots why (Err (Refused due)) = (due ≡ why) ⊎ (due ≡ refusal.Damaged (intent_path roots))
RefusesUnread roots why (Err Fault) = Unit {0}
RefusesUnread roots why (Err NoMemory) = Unit {0}

pub record Serves (host : Host) (words : List Word) (old new : State) (before after : Report) (result : Result (Unit {0}) Stop) : Type 0 where
  -- the world and the report after it are those of the words' outcome
  pub answers : ForReady host.roots old (λ tree ready found.
      Answers host.roots (public_tree host.roots ready) (outcome_of host old.script words tree ready found) result old new before after)
  -- a damaged journal is refused, and then nothing is changed
  pub refused : ForDamaged host.roots old (λ tree. Answers host.roots (public_tree host.roots tree) (damaged_outcome host.roots tree) result old new before after)
  pub damaged : ForDamaged host.roots old (λ tree. Unchanged old new)
  -- where a store stands, a crash leaves it or one of the outcome's
  pub survives : ForReady host.roots old (λ tree ready found. (store : Tree) → Stands host.roots store old
      → Survives host.roots store (outcome_of host old.script words tree ready found) old new result)
  -- whatever it answers it leaves no more behind than the outcome may, and the journal that was found
  pub behind : ForReady host.roots old (λ tree ready found.
      LeavesBehindAll host.roots (outcome_of host old.script words tree ready found) found tree old new)
  -- also over a world that tells nothing
  pub unread : (why : Refusal) → reading words ≡ Err why → RefusesUnread host.roots why result
  pub lasts : Lasts old new
  pub cause : HasCause Fault old new result
