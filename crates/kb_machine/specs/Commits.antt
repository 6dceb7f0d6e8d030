-- What a transaction does, whatever it changes. This project's own.
use Rattle.std.specs.Prelude.{◌≡◌, ◌⊎◌, Bool, not, List, ◌++◌, Some, None, Result, Ok, Err, IfOk, IsErrOf}
use Rattle.std.specs.Option.{ForSome}
use Rattle.std.specs.FinMap.{retain_keys}
use Rattle.kb_world.specs.Path.{Path}
use Rattle.kb_world.specs.Tree.{Tree, node_at}
use Rattle.kb_world.specs.Public.{intent_path, public_tree}
use Rattle.kb_world.specs.Script.{Script}
use Rattle.kb_world.specs.Crash.{History, Turns}
use Rattle.kb_world.specs.State.{State, HasCause, Lasts}
use Rattle.kb_world.specs.declared.child.Reply.{Reply}
use Rattle.kb_world.specs.declared.child.Request.{Request}
use Rattle.kb_world.specs.declared.refusal.Refusal.{Refusal}
use Rattle.kb_world.specs.declared.roots.Roots.{Roots}
use Rattle.kb_world.specs.declared.stop.Stop.{Stop}
use Rattle.kb_world.specs.declared.stop.Stop.TheVariants.{Refused, Fault, NoMemory}
use Rattle.kb_changes.specs.Change.{done, requests_of, replies_of}
use Rattle.kb_changes.specs.Valid.{is_kept_out}
use Rattle.kb_changes.specs.declared.change.Change.{Change}
use Rattle.kb_machine.specs.Behind.{touched_by, LeavesBehind}
use Rattle.kb_machine.specs.Opens.{Opens}
use Rattle.kb_machine.specs.Stands.{Rests, Stands}

-- no journal, and this store
pub record IsBareOf (roots : Roots) (store image : Tree) : Type 0 where
  pub public : public_tree roots image ≡ store
  pub bare : node_at image (intent_path roots) ≡ None

-- First every crash leaves the old public tree and no journal, and from some moment on what opens the new store.
abbrev pub TurnsOver : Roots → Script → Tree → Tree → History → History → Type 0
TurnsOver roots script first second old new = Turns (IsBareOf roots first) (λ image. Opens roots script image second) old new

-- what a transaction makes of a tree: the tree, its children, what they say, and which paths it may change meanwhile
pub record Transacted : Type 0 where
  pub tree : Tree
  pub requests : List Request
  pub said : List Reply
  pub touched : Path → Bool

-- the tree without a journal and without what is staged
abbrev pub cleaned : Roots → Tree → Tree
cleaned roots tree = retain_keys tree (λ path. not (is_kept_out roots path))

-- what a transaction of these changes makes of it
abbrev pub transacted : Roots → Script → List Change → Tree → Transacted
transacted roots script changes tree = record {
  tree = cleaned roots (done roots script changes tree);
  requests = requests_of roots script changes tree;
  said = replies_of roots script changes tree;
  touched = touched_by changes;
}

pub record IsCommitted (made : Transacted) (old new : State) (replies : List Reply) : Type 0 where
  pub tree : new.tree ≡ Some made.tree
  pub ran : new.ran ≡ old.ran ++ made.requests
  pub said : replies ≡ made.said

-- what is left: at Ok the new store rests; a fault and want of memory leave the old one or the new one standing
abbrev pub CommitLeaves : Roots → Tree → Tree → Result (List Reply) Stop → State → Type 0
CommitLeaves roots first second (Ok replies) new = Rests roots second new
CommitLeaves roots first second (Err (Refused why)) new = Rests roots first new
CommitLeaves roots first second (Err Fault) new = Stands roots first new ⊎ Stands roots second new
CommitLeaves roots first second (Err NoMemory) new = Stands roots first new ⊎ Stands roots second new

-- whenever a crash comes it leaves the old store or the new one, and so does the end
pub record CommitSurvives (roots : Roots) (first second : Tree) (old new : State) (result : Result (List Reply) Stop) : Type 0 where
  pub turns : TurnsOver roots old.script first second old.history new.history
  pub leaves : CommitLeaves roots first second result new

-- The call makes this of the tree, and is never refused. Whatever it answers it leaves no more behind than the transaction
-- may. Where nothing was under way it survives a crash.
pub record Commits (roots : Roots) (made : Tree → Transacted) (old new : State) (result : Result (List Reply) Stop) : Type 0 where
  pub done : ForSome old.tree (λ tree. IfOk result (IsCommitted (made tree) old new))
  pub behind : ForSome old.tree (λ tree. LeavesBehind roots (made tree).requests (made tree).touched tree old new)
  pub unrefused : (refusal : Refusal) → IsErrOf result (Refused refusal) → ⊥
  pub lasts : Lasts old new
  pub cause : HasCause Fault old new result
  pub survives : ForSome old.tree (λ tree. let first = public_tree roots tree in let second = public_tree roots (made tree).tree in
      Rests roots first old → CommitSurvives roots first second old new result)
