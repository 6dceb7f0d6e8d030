-- A journal comes to its place: its text is put beside it, and moved there. This project's own.
use Rattle.std.specs.Prelude.{◌≡◌, ◌⊎◌, ℕ, Bool, false, List, Option, Some, Result, option_map, OnOk}
use Rattle.std.specs.Option.{ForSome}
use Rattle.kb_world.specs.Area.{IsLeft}
use Rattle.kb_world.specs.Crash.{Turns}
use Rattle.kb_world.specs.Path.{Path, is_under}
use Rattle.kb_world.specs.Public.{intent_path}
use Rattle.kb_world.specs.State.{State, HasCause, RanNone}
use Rattle.kb_world.specs.Tree.{Tree, with_node, moved}
use Rattle.kb_world.specs.declared.roots.Roots.{Roots}
use Rattle.kb_world.specs.declared.tree.Node.TheVariants as node
use Rattle.kb_world.specs.declared.world.WorldError.{WorldError}
use Rattle.kb_world.specs.declared.world.WorldError.TheVariants.{Failed}
use Rattle.kb_changes.specs.Valid.{new_intent_path}
use Rattle.kb_machine.specs.Aside.{IsSameBut}
use Rattle.kb_intent.specs.Staging.{LeftBut}

-- the tree in which a file of this text was put beside the journal's path and moved there
abbrev pub with_journal : Roots → List ℕ → Tree → Tree
with_journal roots text tree = moved (new_intent_path roots) (intent_path roots) (with_node (new_intent_path roots) (node.File text false) tree)

-- at and below the path where a journal is begun
abbrev pub is_begun_at : Roots → Path → Bool
is_begun_at roots path = is_under path (new_intent_path roots)

-- the tree that is told now differs where a journal is begun alone, or the journal stands
abbrev pub IsJournaling : Roots → List ℕ → Option Tree → Tree → Type 0
IsJournaling roots text new tree = (now : Tree) × (new ≡ Some now) × (IsSameBut (is_begun_at roots) tree now ⊎ (now ≡ with_journal roots text tree))

-- The call brings a journal of this text to its place. First each crash leaves none, and from some moment on it stands.
pub record PutsJournal (roots : Roots) (text : List ℕ) {T : Type 0} (old new : State) (result : Result T WorldError) : Type 0 where
  pub done : OnOk result (new.tree ≡ option_map (with_journal roots text) old.tree)
  pub now : ForSome old.tree (IsJournaling roots text new.tree)
  pub soft : new.history.soft ≡ old.history.soft
  pub moments : ForSome old.tree (λ tree. Turns (LeftBut (is_begun_at roots) old.history.soft tree) (IsLeft old.history.soft (with_journal roots text tree)) old.history new.history)
  pub ran_none : RanNone old new
  pub cause : HasCause Failed old new result
