-- What is left behind, one part of an action after another.
use Rattle.std.proofs.Common.{◌≡◌, Bool, true, false, cond, ◌||◌, List, [], ◌++◌, Option, Some, None, refl, sym, ap, ◌∙◌, subst, append_assoc}
use Rattle.std.proofs.lemmas.List.{append-nil}
use Rattle.std.proofs.lemmas.List.Folds.{list_any-append}
use Rattle.kb_world.specs.Path.{Path}
use Rattle.kb_world.specs.Public.{IsNeverForeign, foreign_tree}
use Rattle.kb_world.specs.State.{State}
use Rattle.kb_world.specs.Tree.{Tree, node_at}
use Rattle.kb_world.specs.declared.child.Request.{Request}
use Rattle.kb_world.specs.declared.refusal.Refusal.{Refusal}
use Rattle.kb_world.specs.declared.roots.Roots.{Roots}
use Rattle.kb_world.proofs.PublicLaws.{node_at-foreign_tree}
use Rattle.kb_again.specs.Sparing.{reaches}
use Rattle.kb_machine.specs.Aside.{IsSameBut}
use Rattle.kb_machine.specs.Behind.{RanFront, is_reached, KeepsForeignBut, LeavesBehindOf}
use Rattle.kb_machine.specs.Outcome.{Outcome, Action, joined, go_on, last_of}

-- ---- a front of the children

pub front_none : (requests : List Request) (old new : State) → new.ran ≡ old.ran → RanFront requests old new
front_none requests old new same = record { front = []; back = requests; split = refl; ran = same ∙ sym (append-nil old.ran) }

pub front_all : (requests : List Request) (old new : State) → new.ran ≡ old.ran ++ requests → RanFront requests old new
front_all requests old new ran = record { front = requests; back = []; split = append-nil requests; ran = ran }

pub front_since : (requests : List Request) (old mid new : State) → mid.ran ≡ old.ran → RanFront requests mid new → RanFront requests old new
front_since requests old mid new same f = record { front = f.front; back = f.back; split = f.split; ran = f.ran ∙ ap (λ so_far. so_far ++ f.front) same }

pub front_then : (first second : List Request) (old mid new : State) → mid.ran ≡ old.ran ++ first → RanFront second mid new → RanFront (first ++ second) old new
front_then first second old mid new ran f = record {
  front = first ++ f.front;
  back = f.back;
  split = append_assoc first f.front f.back ∙ ap (λ rest. first ++ rest) f.split;
  ran = f.ran ∙ ap (λ so_far. so_far ++ f.front) ran ∙ append_assoc old.ran first f.front;
}

pub front_first : (first second : List Request) (old new : State) → RanFront first old new → RanFront (first ++ second) old new
front_first first second old new f = record {
  front = f.front;
  back = f.back ++ second;
  split = sym (append_assoc f.front f.back second) ∙ ap (λ so_far. so_far ++ second) f.split;
  ran = f.ran;
}

-- ---- what lies outside of all areas lies outside of each

reached_append : (first second : List Request) (path : Path) → is_reached (first ++ second) path ≡ (is_reached first path || is_reached second path)
reached_append first second path = list_any-append (λ (request : Request). reaches request.area path) first second

pub unreached_first : (first second : List Request) (path : Path) → is_reached (first ++ second) path ≡ false → is_reached first path ≡ false
unreached_first first second path out = by (is_reached first path) (is_reached second path) (sym (reached_append first second path) ∙ out)
  where
    by : (a b : Bool) → (a || b) ≡ false → a ≡ false
    by true b h = h
    by false b h = refl

pub unreached_second : (first second : List Request) (path : Path) → is_reached (first ++ second) path ≡ false → is_reached second path ≡ false
unreached_second first second path out = by (is_reached first path) (is_reached second path) (sym (reached_append first second path) ∙ out)
  where
    by : (a b : Bool) → (a || b) ≡ false → b ≡ false
    by true b h = let impossible : true ≡ false = h in cc
    by false b h = h

-- ---- what is foreign

pub keeps_same : (roots : Roots) (may : Path → Bool) (tree now : Tree) (new : State) → new.tree ≡ Some now → foreign_tree roots now ≡ foreign_tree roots tree
    → KeepsForeignBut roots may tree new
keeps_same roots may tree now new told same = record { now = now; told = told; same = λ path out. ap (λ t. node_at t path) same }

pub keeps_wider : (roots : Roots) (narrow wide : Path → Bool) (tree : Tree) (new : State) → ((path : Path) → wide path ≡ false → narrow path ≡ false)
    → KeepsForeignBut roots narrow tree new → KeepsForeignBut roots wide tree new
keeps_wider roots narrow wide tree new wider k = record { now = k.now; told = k.told; same = λ path out. k.same path (wider path out) }

-- of the tree that is told
pub kept_at : (roots : Roots) (may : Path → Bool) (tree now : Tree) (new : State) → new.tree ≡ Some now → KeepsForeignBut roots may tree new
    → IsSameBut may (foreign_tree roots tree) (foreign_tree roots now)
kept_at roots may tree now new told k =
    subst (λ t. IsSameBut may (foreign_tree roots tree) (foreign_tree roots t)) (some_same k.now now (sym k.told ∙ told)) k.same
  where
    some_same : (a b : Tree) → Some a ≡ Some b → a ≡ b
    some_same a b e = cc

pub keeps_then : (roots : Roots) (may : Path → Bool) (tree now : Tree) (new : State) → IsSameBut may (foreign_tree roots tree) (foreign_tree roots now)
    → KeepsForeignBut roots may now new → KeepsForeignBut roots may tree new
keeps_then roots may tree now new before k = record { now = k.now; told = k.told; same = λ path out. k.same path out ∙ before path out }

-- at a path that is never foreign the foreign tree has nothing
pub never_shown : (roots : Roots) (a b : Tree) (path : Path) → IsNeverForeign roots path → node_at (foreign_tree roots a) path ≡ node_at (foreign_tree roots b) path
never_shown roots a b path never = none a ∙ sym (none b)
  where
    none : (tree : Tree) → node_at (foreign_tree roots tree) path ≡ None
    none tree = node_at-foreign_tree roots tree path ∙ ap (λ shown. cond shown (node_at tree path) None) (never (node_at tree path))

-- ---- of an outcome

-- what is foreign stands as it did
pub behind_same : (roots : Roots) (outcome : Outcome) (tree now : Tree) (old new : State) → new.tree ≡ Some now → foreign_tree roots now ≡ foreign_tree roots tree
    → RanFront outcome.requests old new → LeavesBehindOf roots outcome tree old new
behind_same roots outcome tree now old new told same ran = record { ran = ran; foreign = keeps_same roots (is_reached outcome.requests) tree now new told same }

-- nothing was done
pub behind_none : (roots : Roots) (outcome : Outcome) (tree : Tree) (old new : State) → new.tree ≡ Some tree → new.ran ≡ old.ran → LeavesBehindOf roots outcome tree old new
behind_none roots outcome tree old new told ran = behind_same roots outcome tree tree old new told refl (front_none outcome.requests old new ran)

-- since a moment before which no child ran, and what is foreign stood as it does
pub behind_since : (roots : Roots) (outcome : Outcome) (tree now : Tree) (old mid new : State) → mid.ran ≡ old.ran → foreign_tree roots now ≡ foreign_tree roots tree
    → LeavesBehindOf roots outcome now mid new → LeavesBehindOf roots outcome tree old new
behind_since roots outcome tree now old mid new ran same b = record {
  ran = front_since outcome.requests old mid new ran b.ran;
  foreign = keeps_then roots (is_reached outcome.requests) tree now new (λ path out. ap (λ t. node_at t path) same) b.foreign;
}

pub behind_first : (roots : Roots) (first second : Outcome) (tree : Tree) (old new : State) → LeavesBehindOf roots first tree old new → LeavesBehindOf roots (joined first second) tree old new
behind_first roots first second tree old new b = record {
  ran = front_first first.requests second.requests old new b.ran;
  foreign = keeps_wider roots (is_reached first.requests) (is_reached (first.requests ++ second.requests)) tree new (unreached_first first.requests second.requests) b.foreign;
}

-- the second part behind all children of the first
pub behind_then : (roots : Roots) (first second : Outcome) (tree now : Tree) (old mid new : State) → mid.tree ≡ Some now → mid.ran ≡ old.ran ++ first.requests
    → LeavesBehindOf roots first tree old mid → LeavesBehindOf roots second now mid new → LeavesBehindOf roots (joined first second) tree old new
behind_then roots first second tree now old mid new told ran a b = record {
  ran = front_then first.requests second.requests old mid new ran b.ran;
  foreign = keeps_then roots either tree now new
      (λ path out. kept_at roots (is_reached first.requests) tree now mid told a.foreign path (unreached_first first.requests second.requests path out))
      (keeps_wider roots (is_reached second.requests) either now new (unreached_second first.requests second.requests) b.foreign);
}
  where
    either : Path → Bool
    either = is_reached (first.requests ++ second.requests)

-- the first part alone, whether or not the second would have followed
pub behind_cut : (roots : Roots) (store : Tree) (outcome : Outcome) (second : Action) (tree : Tree) (old new : State)
    → LeavesBehindOf roots outcome tree old new → LeavesBehindOf roots (go_on store outcome second) tree old new
behind_cut roots store outcome second tree old new b = by outcome.end
  where
    with : Option Refusal → Outcome
    with end = record { after = outcome.after; requests = outcome.requests; out = outcome.out; err = outcome.err; end = end; foreign = outcome.foreign }

    by : (end : Option Refusal) → LeavesBehindOf roots (go_on store (with end) second) tree old new
    by None = behind_first roots (with None) (second (last_of store outcome.after) outcome.foreign) tree old new b
    by (Some why) = b
