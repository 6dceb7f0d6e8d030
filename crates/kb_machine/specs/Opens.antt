-- What a tree opens: the store that the next call begins with. This project's own.
use Rattle.std.specs.Prelude.{◌≡◌, ℕ, Bool, List, [], Option, Some, None}
use Rattle.kb_world.specs.Tree.{Tree, node_at}
use Rattle.kb_world.specs.Public.{intent_path, public_tree}
use Rattle.kb_world.specs.Script.{Script}
use Rattle.kb_world.specs.declared.child.Area.{Area}
use Rattle.kb_world.specs.declared.roots.Roots.{Roots}
use Rattle.kb_world.specs.declared.tree.Node.TheVariants as node
use Rattle.kb_changes.specs.Change.{done}
use Rattle.kb_changes.specs.Text.{IsJournal}
use Rattle.kb_changes.specs.declared.change.Intent.{Intent}
use Rattle.kb_again.specs.Sparing.{areas_of}

-- What the next call begins with: the tree, where no journal stands in it; else the tree once its journal's changes are
-- done, and what that journal says. A tree with anything else at the journal's path has no such tree.
pub data IsReady (roots : Roots) (script : Script) (tree ready : Tree) (found : Option Intent) : Type 0 where
  at_rest : node_at tree (intent_path roots) ≡ None → ready ≡ tree → found ≡ None → IsReady roots script tree ready found
  recovers : (bytes : List ℕ) (exec : Bool) (intent : Intent) → node_at tree (intent_path roots) ≡ Some (node.File bytes exec) → IsJournal roots bytes intent
      → ready ≡ done roots script intent.changes tree → found ≡ Some intent → IsReady roots script tree ready found

-- the tree opens the store: that is the public tree of what is ready
abbrev pub Opens : Roots → Script → Tree → Tree → Type 0
Opens roots script tree store = (ready : Tree) × (found : Option Intent) × IsReady roots script tree ready found × (public_tree roots ready ≡ store)

-- the areas of the children of a journal, if one was found
abbrev pub own_areas : Option Intent → List Area
own_areas None = []
own_areas (Some intent) = areas_of intent.changes
