-- What a change of a transaction does to a world, and what a crash leaves meanwhile. This project's own.
use Rattle.std.specs.Prelude.{◌≡◌, ◌⊎◌, List, [], ◌∷◌, ◌++◌, map, Option, Some, None, Result, option_map, OnOk, IfOk, is_some, cond, not, ◌&&◌}
use Rattle.std.specs.List.{AllByRecursion}
use Rattle.std.specs.Option.{ForSome}
use Rattle.kb_world.specs.Area.{IsLeft}
use Rattle.kb_world.specs.Crash.{Adds}
use Rattle.kb_world.specs.Path.{Path, parent}
use Rattle.kb_world.specs.Script.{Script, answer_in}
use Rattle.kb_world.specs.State.{State, HasCause, Lasts, RanNone}
use Rattle.kb_world.specs.Tree.{Tree, node_at, with_node, without, moved, is_dir, is_leaf}
use Rattle.kb_world.specs.declared.child.Area.{Area}
use Rattle.kb_world.specs.declared.child.Reply.{Reply}
use Rattle.kb_world.specs.declared.child.Request.{Request}
use Rattle.kb_world.specs.declared.roots.Roots.{Roots}
use Rattle.kb_world.specs.declared.tree.Node.TheVariants as node
use Rattle.kb_world.specs.declared.world.WorldError.{WorldError}
use Rattle.kb_world.specs.declared.world.WorldError.TheVariants.{Failed}
use Rattle.kb_changes.specs.Change.{do_change, done, request_at, requests_of, replies_of}
use Rattle.kb_changes.specs.declared.change.Change.{Change}
use Rattle.kb_changes.specs.declared.change.Change.TheVariants.{Dir, Put, Drop, DropDir, Wipe, Run}
use Rattle.kb_again.specs.Sparing.{areas_of}
use Rattle.kb_again.specs.Within.{IsWithin, IsWithinNext, IsBetween}
use Rattle.kb_machine.specs.Aside.{IsOneArea}
use Rattle.kb_machine.specs.Behind.{RanFront}
use Rattle.kb_intent.specs.declared.changing.Ran.{Ran}

-- ---- a change that is one file operation

-- the tree before, or the one after
abbrev pub IsEitherOf : (Tree → Tree) → Tree → Tree → Type 0
IsEitherOf change tree now = (now ≡ tree) ⊎ (now ≡ change tree)

abbrev pub IsEitherNow : (Tree → Tree) → Option Tree → Tree → Type 0
IsEitherNow change new tree = (now : Tree) × (new ≡ Some now) × IsEitherOf change tree now

-- a crash leaves it of one of the two
abbrev pub LeftOfEither : (Tree → Tree) → List Area → Tree → Tree → Type 0
LeftOfEither change soft tree image = (now : Tree) × IsEitherOf change tree now × IsLeft soft now image

-- The call makes this of the tree in one step, or does nothing.
pub record StepsTo (change : Tree → Tree) {T : Type 0} (old new : State) (result : Result T WorldError) : Type 0 where
  pub done : OnOk result (new.tree ≡ option_map change old.tree)
  pub either : ForSome old.tree (IsEitherNow change new.tree)
  pub soft : new.history.soft ≡ old.history.soft
  pub moments : ForSome old.tree (λ tree. Adds (LeftOfEither change old.history.soft tree) old.history new.history)
  pub ran_none : RanNone old new
  pub cause : HasCause Failed old new result

-- a directory is made where nothing stands, in a directory
abbrev pub made_dir_at : Path → Tree → Tree
made_dir_at path tree = cond (not (is_some (node_at tree path)) && is_dir (node_at tree (parent path))) (with_node path node.Dir tree) tree

-- a file or a link goes
abbrev pub dropped_leaf_at : Path → Tree → Tree
dropped_leaf_at path tree = cond (is_leaf (node_at tree path)) (without path tree) tree

-- a staged file or link comes to its target, where no directory stands, in a directory
abbrev pub put_staged_at : Path → Path → Tree → Tree
put_staged_at staged target tree = cond (is_leaf (node_at tree staged) && not (is_dir (node_at tree target)) && is_dir (node_at tree (parent target))) (moved staged target tree) tree

-- ---- any change

-- the reply of a run, if the change is one
abbrev pub said_by : Option Reply → List Reply
said_by None = []
said_by (Some reply) = reply ∷ []

-- the change was done: the tree after it, its request and its reply
pub record IsChanged (roots : Roots) (change : Change) (old new : State) (reply : Option Reply) (before : Tree) : Type 0 where
  pub tree : new.tree ≡ Some (do_change roots old.script change before)
  pub ran : new.ran ≡ old.ran ++ request_at change before
  pub said : said_by reply ≡ map (λ request. (answer_in roots old.script request before).reply) (request_at change before)

-- the tree that is told now lies within the change
abbrev pub IsWithinNow : Roots → Script → Change → Option Tree → Tree → Type 0
IsWithinNow roots script change new tree = (now : Tree) × (new ≡ Some now) × IsWithin roots script change tree now

-- a crash leaves it of a tree within the change, with the area of its child soft too
pub record LeftWithin (roots : Roots) (script : Script) (change : Change) (soft : List Area) (tree image : Tree) : Type 0 where
  pub mid : Tree
  pub within : IsWithin roots script change tree mid
  pub left : IsLeft (areas_of (change ∷ []) ++ soft) mid image

-- The call does the change, and whatever it answers nothing else is changed, and no other child ran.
pub record DoesChange (roots : Roots) (change : Change) (old new : State) (result : Result (Option Reply) WorldError) : Type 0 where
  pub done : ForSome old.tree (λ tree. IfOk result (λ reply. IsChanged roots change old new reply tree))
  pub ran : ForSome old.tree (λ tree. RanFront (request_at change tree) old new)
  pub within : ForSome old.tree (IsWithinNow roots old.script change new.tree)
  pub soft : (new.history.soft ≡ old.history.soft) ⊎ (new.history.soft ≡ areas_of (change ∷ []) ++ old.history.soft)
  pub moments : ForSome old.tree (λ tree. Adds (LeftWithin roots old.script change old.history.soft tree) old.history new.history)
  pub lasts : Lasts old new
  pub cause : HasCause Failed old new result

-- ---- changes in their order

-- the request that was made, where a run has a reply
abbrev pub asked_by : Change → Option Reply → List Request
asked_by change None = []
asked_by (Run request) (Some reply) = request ∷ []
asked_by (Dir path) (Some reply) = []
asked_by (Put _ number target) (Some reply) = []
asked_by (Drop path) (Some reply) = []
asked_by (DropDir path) (Some reply) = []
asked_by (Wipe path) (Some reply) = []

-- all were done: the tree after them, their requests and their replies
pub record AreChanged (roots : Roots) (changes : List Change) (old new : State) (made : Ran) (before : Tree) : Type 0 where
  pub tree : new.tree ≡ Some (done roots old.script changes before)
  pub ran : new.ran ≡ old.ran ++ requests_of roots old.script changes before
  pub requests : made.requests ≡ requests_of roots old.script changes before
  pub said : made.replies ≡ replies_of roots old.script changes before

-- some were done, and the tree that is told now lies within the next one
pub record IsCutOffNow (roots : Roots) (script : Script) (changes : List Change) (new : Option Tree) (before : Tree) : Type 0 where
  pub front : List Change
  pub back : List Change
  pub split : front ++ back ≡ changes
  pub now : Tree
  pub told : new ≡ Some now
  pub within : IsWithinNext roots script back (done roots script front before) now

-- The call does the changes in their order, and whatever it answers nothing else is changed, and a front of their children
-- ran.
pub record DoesChanges (roots : Roots) (changes : List Change) (old new : State) (result : Result Ran WorldError) : Type 0 where
  pub done : ForSome old.tree (λ tree. IfOk result (λ made. AreChanged roots changes old new made tree))
  pub ran : ForSome old.tree (λ tree. RanFront (requests_of roots old.script changes tree) old new)
  pub cut_off : ForSome old.tree (IsCutOffNow roots old.script changes new.tree)
  -- what is soft now was soft, or is an area of theirs
  pub soft : AllByRecursion (λ area. IsOneArea area (areas_of changes ++ old.history.soft)) new.history.soft
  pub moments : ForSome old.tree (λ tree. Adds (IsBetween roots old.script changes old.history.soft tree) old.history new.history)
  pub lasts : Lasts old new
  pub cause : HasCause Failed old new result
