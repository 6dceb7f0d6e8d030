-- What a run of a child does to a world in memory, told by what it makes of its disk.
use Rattle.std.proofs.Common.{◌≡◌, ◌⊎◌, inl, inr, ℕ, List, [], ◌∷◌, ◌++◌, map, take, Some, Result, Ok, Err, IfOk, OnOk, OnErr, IsErrOf, false, IsErrAnd, refl, sym, ap, subst, ◌∙◌}
use Rattle.kb_world.specs.Area.{IsLeft}
use Rattle.kb_world.specs.Crash.{IsImageOfOne, moments_since}
use Rattle.kb_world.specs.Script.{Script, answer_in, tree_after, edit_of}
use Rattle.kb_world.specs.State.{State, Runs, EndsAs, IsReplied}
use Rattle.kb_world.specs.Tree.{Tree, IsFormed}
use Rattle.kb_world.specs.View.{view_of}
use Rattle.kb_world.specs.declared.child.Reply.{Reply}
use Rattle.kb_world.specs.declared.child.Request.{Request}
use Rattle.kb_world.specs.declared.roots.Roots.{Roots}
use Rattle.kb_world.specs.declared.world.WorldError.{WorldError}
use Rattle.kb_world.specs.declared.world.WorldError.TheVariants.{Failed, NoMemory}
use Rattle.kb_world.proofs.CrashLaws.{adds_none, moments_since-added}
use Rattle.kb_world.proofs.LeftLaws.{left_same, left_more}
use Rattle.kb_disk.specs.Stored.{Stored, with_area, with_effects}
use Rattle.kb_disk.proofs.EffectLaws.{IsWithin, within_given, within_effects, effects_tree}
use Rattle.kb_memory.specs.Begun.{edits_in, IsBegun}
use Rattle.kb_memory.specs.Calls.{Counted, plan_in, fate_of, passes, is_done}
use Rattle.kb_memory.specs.declared.calls.Calls.{Calls}
use Rattle.kb_memory.specs.declared.calls.Fate.{Fate}
use Rattle.kb_memory.specs.declared.calls.Fate.TheVariants.{Passes, Fails, Halts}
use Rattle.kb_memory.proofs.CallLaws.{Ends, shown, still, ends_early, caused}
use Rattle.kb_memory.proofs.ScriptLaws.{all_plain, some_plain}

-- ---- what the child made of the disk

pub within_all : (roots : Roots) (script : Script) (request : Request) (was given now : Stored) → IsFormed was.tree → given ≡ with_area request.area was
    → now ≡ with_effects request.area given (edits_in roots script request given.tree) → IsWithin request.area was now
within_all roots script request was given now formed is made =
    subst (IsWithin request.area was) (sym made)
    (within_effects request.area was given (edits_in roots script request given.tree) (subst (IsWithin request.area was) (sym is) (within_given request.area was formed))
    (all_plain (view_of roots request given.tree) (answer_in roots script request given.tree).effects))

pub within_some : (roots : Roots) (script : Script) (request : Request) (was given now : Stored) → IsFormed was.tree → given ≡ with_area request.area was
    → IsBegun roots script request given now → IsWithin request.area was now
within_some roots script request was given now formed is begun =
    subst (IsWithin request.area was) (sym begun.done)
    (within_effects request.area was given (take begun.count (edits_in roots script request given.tree)) (subst (IsWithin request.area was) (sym is) (within_given request.area was formed))
    (some_plain (edits_in roots script request given.tree) begun.count (all_plain (view_of roots request given.tree) (answer_in roots script request given.tree).effects)))

-- the child did all that the script says
pub after_all : (roots : Roots) (script : Script) (request : Request) (was given now : Stored) → given ≡ with_area request.area was
    → now ≡ with_effects request.area given (edits_in roots script request given.tree) → now.tree ≡ tree_after roots script request was.tree
unfolding tree_after
after_all roots script request was given now is made =
    ap (λ (s : Stored). s.tree) made ∙ effects_tree request.area given (edits_in roots script request given.tree) ∙ ap (λ (s : Stored). tree_after roots script request s.tree) is

-- ---- what that says of the call

module _ (request : Request) (old new : State) (was now : Stored) (before after : Calls) (counted : Counted before after) (fate : Fate) (is : fate ≡ fate_of (plan_in before))
    (roots : new.roots ≡ old.roots) (script : new.script ≡ old.script) where
  unwrapped : (a b : Tree) → Some a ≡ Some b → a ≡ b
  unwrapped a b e = cc

  -- the child wasn't begun, for want of memory
  pub runs_unbegun : (result : Result Reply WorldError) → IsErrAnd result (λ e. e ≡ NoMemory) → IsFormed was.tree → now ≡ was → ((new.ran ≡ old.ran) ⊎ (new.ran ≡ old.ran ++ request ∷ []))
      → Runs request (shown old was before) (shown new now after) result
  runs_unbegun result want formed same ran = record {
    ends = λ tree told. cut_off result want tree told;
    begun = inl (record { tree = ap (λ (s : Stored). Some s.tree) same; soft = ap (λ (s : Stored). s.history.soft) same });
    given = λ tried tree told. absurd (untried result want tried);
    moments = adds_none _ was.history now.history (ap (λ (s : Stored). s.history.past) same);
    none_forgotten = still (shown old was before) (shown new now after) (ap (λ (s : Stored). Some s.tree) same) (ap (λ (s : Stored). s.history.soft) same);
    inside = λ tried image left. absurd (untried result want tried);
    lasts = record { roots = roots; script = script; told = refl };
    cause = caused old new was now before after counted result fate is (ends_early fate result want);
  }
    where
      untried : (result : Result Reply WorldError) → IsErrAnd result (λ e. e ≡ NoMemory) → (IsErrOf result NoMemory → ⊥) → ⊥
      untried (Ok value) want tried = want
      untried (Err Failed) want tried = let e : Failed ≡ NoMemory = want in cc
      untried (Err NoMemory) want tried = tried refl

      cut_off : (result : Result Reply WorldError) → IsErrAnd result (λ e. e ≡ NoMemory) → (tree : Tree) → Some was.tree ≡ Some tree → EndsAs request (shown old was before) (shown new now after) result tree
      cut_off (Ok value) want tree told = absurd want
      cut_off (Err Failed) want tree told = absurd (let e : Failed ≡ NoMemory = want in cc)
      cut_off (Err NoMemory) want tree told =
          ((now.tree, refl, subst (λ t. IsLeft (request.area ∷ []) t now.tree) (unwrapped was.tree tree told) (subst (λ (s : Stored). IsLeft (request.area ∷ []) was.tree s.tree) (sym same) (left_same (request.area ∷ []) was.tree formed))), ran)

  -- it was
  pub runs_begun : (result : Result Reply WorldError) → Ends fate result → IsWithin request.area was now → new.ran ≡ old.ran ++ request ∷ []
      → IfOk result (λ reply. reply ≡ (answer_in old.roots old.script request was.tree).reply) → OnOk result (now.tree ≡ tree_after old.roots old.script request was.tree)
      → Runs request (shown old was before) (shown new now after) result
  runs_begun result ends within ran said done = record {
    ends = λ tree told. subst (EndsAs request (shown old was before) (shown new now after) result) (unwrapped was.tree tree told) (by_result result said done);
    begun = inr within.soft;
    given = λ tried tree told. within.soft;
    moments = record { moments = within.moments; added = within.added; only = within.only };
    none_forgotten = λ image left. inl (since image (left_more request.area was.history.soft was.tree image left));
    inside = λ tried image left. since image left;
    lasts = record { roots = roots; script = script; told = refl };
    cause = caused old new was now before after counted result fate is ends;
  }
    where
      since : (image : Tree) → IsLeft (request.area ∷ was.history.soft) was.tree image → IsImageOfOne (moments_since was.history now.history) image
      since image left = subst (λ moments. IsImageOfOne moments image) (sym (moments_since-added was.history now.history within.moments within.added)) (within.inside image left)

      by_result : (result : Result Reply WorldError) → IfOk result (λ reply. reply ≡ (answer_in old.roots old.script request was.tree).reply)
          → OnOk result (now.tree ≡ tree_after old.roots old.script request was.tree) → EndsAs request (shown old was before) (shown new now after) result was.tree
      by_result (Ok reply) said done = record { said = said; done = ap Some done; ran = ran }
      by_result (Err Failed) said done = ((now.tree, refl, within.left), ran)
      by_result (Err NoMemory) said done = ((now.tree, refl, within.left), inr ran)

  -- it was, and memory ran out
  pub runs_early : (result : Result Reply WorldError) → IsErrAnd result (λ e. e ≡ NoMemory) → IsWithin request.area was now → new.ran ≡ old.ran ++ request ∷ [] → Runs request (shown old was before) (shown new now after) result
  runs_early (Ok reply) want within ran = absurd want
  runs_early (Err Failed) want within ran = absurd (let e : Failed ≡ NoMemory = want in cc)
  runs_early (Err NoMemory) want within ran = runs_begun (Err NoMemory) (ends_early fate (Err NoMemory) refl) within ran tt tt

-- what isn't done doesn't pass
pub undone_fails : (fate : Fate) → is_done fate ≡ false → passes fate ≡ false
undone_fails Passes undone = undone
undone_fails Fails undone = refl
undone_fails (Halts choice) undone = refl
