-- What the command machine gives: a function of the store and the foreign tree. It makes no call, and knows no order
-- of calls. Its conditions and readings are of their union, which is all that isn't private. This project's own.
use Rattle.std.specs.Prelude.{ℕ, List, [], ◌∷◌, ◌++◌, Option, Some, None, Result, Ok, Err}
use Rattle.std.specs.Option.{option_or}
use Rattle.kb_world.specs.Tree.{Tree}
use Rattle.kb_world.specs.Layout.{united}
use Rattle.kb_world.specs.Script.{Script, answer_in}
use Rattle.kb_world.specs.declared.roots.Roots.{Roots}
use Rattle.kb_world.specs.declared.child.Request.{Request}
use Rattle.kb_world.specs.declared.child.Reply.{Reply}
use Rattle.kb_world.specs.declared.refusal.Refusal.{Refusal}

pub record Outcome : Type 0 where
  -- the store after each transaction, in order
  pub after : List Tree
  -- the children that it runs, in order
  pub requests : List Request
  pub out : List ℕ
  pub err : List ℕ
  -- none where all was done
  pub end : Option Refusal
  pub foreign : Tree

-- the last store of those after a first one
abbrev pub last_of : Tree → List Tree → Tree
last_of store [] = store
last_of store (next ∷ rest) = last_of next rest

-- from the store and the foreign tree
abbrev pub Action : Type 0
Action = Tree → Tree → Outcome

abbrev pub refuse_if : Option Refusal → Action
refuse_if refusal store foreign = record { after = []; requests = []; out = []; err = []; end = refusal; foreign = foreign }

-- the first of two refusals
infixl 4 ◌or◌
abbrev pub ◌or◌ : (Tree → Option Refusal) → (Tree → Option Refusal) → Tree → Option Refusal
◌or◌ first second tree = option_or (first tree) (second tree)

-- a refusal, where what stands gives one
abbrev pub unless : (Tree → Option Refusal) → Action
unless refusal store foreign = refuse_if (refusal (united store foreign)) store foreign

abbrev pub print : List ℕ → Action
print text store foreign = record { after = []; requests = []; out = text; err = []; end = None; foreign = foreign }

-- text for standard error
abbrev pub warn : List ℕ → Action
warn text store foreign = record { after = []; requests = []; out = []; err = text; end = None; foreign = foreign }

-- one transaction, and its line
abbrev pub transaction : (Tree → Tree) → List ℕ → Action
transaction step line store foreign = record { after = step store ∷ []; requests = []; out = line; err = []; end = None; foreign = foreign }

abbrev pub joined : Outcome → Outcome → Outcome
joined first second = record {
  after = first.after ++ second.after;
  requests = first.requests ++ second.requests;
  out = first.out ++ second.out;
  err = first.err ++ second.err;
  end = second.end;
  foreign = second.foreign;
}

-- the second part goes on from the first's last store, and isn't run where the first was refused
abbrev pub go_on : Tree → Outcome → Action → Outcome
go_on store first second = by first.end
  where
    by : Option Refusal → Outcome
    by None = joined first (second (last_of store first.after) first.foreign)
    by (Some refusal) = first

infixl 3 ◌then◌
abbrev pub ◌then◌ : Action → Action → Action
◌then◌ first second store foreign = go_on store (first store foreign) second

-- what was read says how it goes on, or that it is refused
abbrev pub by_answer : {T : Type 0} → (T → Action) → Result T Refusal → Action
by_answer next (Ok value) = next value
by_answer next (Err why) = refuse_if (Some why)

-- what is read of what stands says how it goes on
abbrev pub reads : {T : Type 0} → (Tree → Result T Refusal) → (T → Action) → Action
reads right next store foreign = by_answer next (right (united store foreign)) store foreign

-- the outcome of running a child that changes nothing
abbrev pub ran_child : Request → Tree → Outcome
ran_child request foreign = record { after = []; requests = request ∷ []; out = []; err = []; end = None; foreign = foreign }

-- A child that may change nothing is run, and its reply says how it goes on.
abbrev pub asks : Roots → Script → Request → (Reply → Action) → Action
asks roots script request next store foreign =
    joined (ran_child request foreign) (next (answer_in roots script request (united store foreign)).reply store foreign)
