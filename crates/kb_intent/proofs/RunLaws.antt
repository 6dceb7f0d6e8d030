-- A wipe and a child as changes: what they leave where they are done, cut off, or passed over.
use Rattle.std.proofs.Common.{◌≡◌, ◌⊎◌, Bool, true, false, cond, ◌&&◌, ◌||◌, not, List, [], ◌∷◌, ◌++◌, map, Option, Some, None, Result, Ok, Err, refl, sym, ap, ◌∙◌, subst, inl, inr, append-nil}
use Rattle.std.specs.Prelude.{option_map, IfOk}
use Rattle.std.specs.Option.{ForSome}
use Rattle.std.specs.Cmp.{first_so, second_so}
use Rattle.std.specs.Cmp.Derive.{both_true}
use Rattle.kb_world.specs.Area.{is_named, holds, lets_differ, IsLeft}
use Rattle.kb_world.specs.Crash.{History, LeftOf, Adds}
use Rattle.kb_world.specs.Path.{Path, parent, is_under}
use Rattle.kb_world.specs.Script.{Script, answer_in, tree_after, after_edits, with_edit, can_edit, edit_of, copied}
use Rattle.kb_world.specs.State.{State, Looks, HasCause, Runs, IsReplied, EndsAs}
use Rattle.kb_world.specs.Tree.{Tree, node_at, edited, is_dir, IsFormed}
use Rattle.kb_world.specs.TreeLaws.{same_path, same_path-true, same_path-refl, with_node-here, with_node-apart, remove-here, remove-apart}
use Rattle.kb_world.specs.View.{view_of}
use Rattle.kb_world.specs.declared.child.Area.{Area}
use Rattle.kb_world.specs.declared.child.Area.TheVariants as areas
use Rattle.kb_world.specs.declared.child.Effect.{Effect}
use Rattle.kb_world.specs.declared.child.Effect.TheVariants as effects
use Rattle.kb_world.specs.declared.child.Reply.{Reply}
use Rattle.kb_world.specs.declared.child.Request.{Request}
use Rattle.kb_world.specs.declared.roots.Roots.{Roots}
use Rattle.kb_world.specs.declared.tree.Edit.{Edit}
use Rattle.kb_world.specs.declared.tree.Node.{Node}
use Rattle.kb_world.specs.declared.tree.Node.TheVariants as nodes
use Rattle.kb_world.specs.declared.world.WorldError.{WorldError}
use Rattle.kb_world.specs.declared.world.WorldError.TheVariants.{Failed, NoMemory}
use Rattle.kb_world.proofs.CrashLaws.{adds_none, adds_wider}
use Rattle.kb_world.proofs.CallLaws.{cause_then, lasts_then}
use Rattle.kb_world.proofs.LeftLaws.{left_same}
use Rattle.kb_changes.specs.Change.{do_change, request_at}
use Rattle.kb_changes.specs.declared.change.Change.{Change}
use Rattle.kb_changes.specs.declared.change.Change.TheVariants as changes
use Rattle.kb_walk.specs.Wipe.{IsWipedInPart, TakesAway, without_tree}
use Rattle.kb_walk.proofs.WipeLaws.{cleared_at}
use Rattle.kb_walk.proofs.WipeCalls.{HasFormedTree, cause_handed, done_not_failed}
use Rattle.kb_again.specs.Sparing.{areas_of}
use Rattle.kb_again.specs.Within.{IsWithin}
use Rattle.kb_machine.specs.Behind.{RanFront}
use Rattle.kb_machine.proofs.BehindLaws.{front_none, front_all, front_since}
use Rattle.kb_intent.specs.Doing.{DoesChange, IsChanged, IsWithinNow, LeftWithin}

cause_of_ok : {A B : Type 0} (old new : State) (a : A) (b : B) → HasCause {T = A} Failed old new (Ok a) → HasCause {T = B} Failed old new (Ok b)
cause_of_ok old new a b c = record { later = c.later; rose = λ failed. absurd (done_not_failed b failed); steady = c.steady; never = λ told is failed. done_not_failed b failed }

-- ---- a wipe

wiped_within : (roots : Roots) (script : Script) (path : Path) (tree now : Tree) → IsWipedInPart path tree now → IsWithin roots script (changes.Wipe path) tree now
wiped_within roots script path tree now w = (
  w.formed,
  λ q. elim (w.each q) [
    | inl same ↦ inl same
    | inr gone ↦ inr (gone.1 ∙ sym (cleared_at (λ other. is_under other path) tree q ∙ ap (λ b. cond b None (node_at tree q)) gone.0))
  ],
)

module _ (roots : Roots) (path : Path) (old new : State) where
  wipe_within : {T : Type 0} (result : Result T WorldError) → TakesAway (without_tree path) path old new result → ForSome old.tree (IsWithinNow roots old.script (changes.Wipe path) new.tree)
  wipe_within result t tree told = let now = t.partly tree told in (now.0, now.1, wiped_within roots old.script path tree now.0 now.2)

  wipe_moments : {T : Type 0} (result : Result T WorldError) → TakesAway (without_tree path) path old new result → ForSome old.tree (λ tree. Adds (LeftWithin roots old.script (changes.Wipe path) old.history.soft tree) old.history new.history)
  wipe_moments result t tree told = adds_wider _ (LeftWithin roots old.script (changes.Wipe path) old.history.soft tree) old.history new.history
      (λ image left. record { mid = left.now; within = wiped_within roots old.script path tree left.now left.partly; left = left.left }) (t.moments tree told)

  pub does_wipe : (u : Unit {0}) → TakesAway (without_tree path) path old new (Ok u) → DoesChange roots (changes.Wipe path) old new (Ok None)
  does_wipe u t = record {
    done = λ tree told. record { tree = t.done ∙ ap (option_map (without_tree path)) told; ran = t.ran_none.ran ∙ sym (append-nil old.ran); said = refl };
    ran = λ tree told. front_none [] old new t.ran_none.ran;
    within = wipe_within (Ok u) t;
    soft = inl t.soft;
    moments = wipe_moments (Ok u) t;
    lasts = t.ran_none.lasts;
    cause = cause_of_ok old new u None t.cause;
  }

  pub stops_wipe : (error : WorldError) → TakesAway (without_tree path) path {T = Unit {0}} old new (Err error) → DoesChange roots (changes.Wipe path) old new (Err error)
  stops_wipe error t = record {
    done = λ tree told. tt;
    ran = λ tree told. front_none [] old new t.ran_none.ran;
    within = wipe_within (Err error) t;
    soft = inl t.soft;
    moments = wipe_moments (Err error) t;
    lasts = t.ran_none.lasts;
    cause = cause_handed old new error t.cause;
  }

-- ---- what a child does lies in its area

-- at the path it is as it was, or the area lets it differ
abbrev pub DiffersIn : Area → Path → Option Node → Option Node → Type 0
DiffersIn area q was left = (left ≡ was) ⊎ (lets_differ area q was left ≡ true)

differs_then : (area : Area) (q : Path) (was mid left : Option Node) → DiffersIn area q was mid → DiffersIn area q mid left → DiffersIn area q was left
differs_then area q was mid left (inl same) b = subst (λ m. DiffersIn area q m left) same b
differs_then area q was mid left (inr first) (inl same) = inr (subst (λ l. lets_differ area q was l ≡ true) (sym same) first)
differs_then areas.Nothing q was mid left (inr first) (inr next) = inr first
differs_then (areas.Under directory) q was mid left (inr first) (inr next) = inr first
differs_then (areas.Names directory names) q was mid left (inr first) (inr next) =
    inr (both_true (first_so (is_named directory names q && not (is_dir was)) (not (is_dir mid)) first) (second_so (is_named directory names q && not (is_dir mid)) (not (is_dir left)) next))

-- no effect makes a directory
abbrev IsLeafEdit : Option Edit → Type 0
IsLeafEdit None = Unit {0}
IsLeafEdit (Some edit) = is_dir edit.at ≡ false

leaf_edit : (view : Tree) (effect : Effect) → IsLeafEdit (edit_of view effect)
leaf_edit view (effects.Write path bytes exec) = refl
leaf_edit view (effects.Copy from to) = by (node_at view from)
  where
    by : (at : Option Node) → IsLeafEdit (copied at to)
    by (Some (nodes.File bytes exec)) = refl
    by (Some nodes.Dir) = tt
    by (Some (nodes.Link text)) = tt
    by None = tt
leaf_edit view (effects.Remove path) = refl

edited_here : (path : Path) (at : Option Node) (tree : Tree) → node_at (edited path at tree) path ≡ at
edited_here path None tree = remove-here tree path
edited_here path (Some node) tree = with_node-here tree path node

edited_apart : (path : Path) (at : Option Node) (tree : Tree) (q : Path) → (q ≡ path → ⊥) → node_at (edited path at tree) q ≡ node_at tree q
edited_apart path None tree q apart = remove-apart tree path q apart
edited_apart path (Some node) tree q apart = with_node-apart tree path node q apart

lets_edit : (area : Area) (tree : Tree) (path : Path) (at : Option Node) → holds area tree path ≡ true → is_dir (node_at tree path) ≡ false → is_dir at ≡ false → lets_differ area path (node_at tree path) at ≡ true
lets_edit areas.Nothing tree path at held was left = held
lets_edit (areas.Under directory) tree path at held was left = held
lets_edit (areas.Names directory names) tree path at held was left = both_true held (ap not left)

not_so : (b : Bool) → not b ≡ true → b ≡ false
not_so true h = let impossible : false ≡ true = h in cc
not_so false h = refl

edit_differs : (area : Area) (tree : Tree) (edit : Option Edit) (q : Path) → IsLeafEdit edit → DiffersIn area q (node_at tree q) (node_at (with_edit area tree edit) q)
edit_differs area tree None q leaf = inl refl
edit_differs area tree (Some edit) q leaf = by_can (can_edit area tree edit.path) refl
  where
    here : can_edit area tree edit.path ≡ true → (b : Bool) → same_path q edit.path ≡ b → DiffersIn area q (node_at tree q) (node_at (edited edit.path edit.at tree) q)
    here can true same =
        let at_path : q ≡ edit.path = same_path-true q edit.path same in
        let parts = first_so (holds area tree edit.path && not (is_dir (node_at tree edit.path))) (is_dir (node_at tree (parent edit.path))) can in
        let lets = lets_edit area tree edit.path edit.at (first_so (holds area tree edit.path) (not (is_dir (node_at tree edit.path))) parts)
        (not_so (is_dir (node_at tree edit.path)) (second_so (holds area tree edit.path) (not (is_dir (node_at tree edit.path))) parts)) leaf in
        subst (λ p. DiffersIn area p (node_at tree p) (node_at (edited edit.path edit.at tree) p)) (sym at_path)
        (inr (subst (λ left. lets_differ area edit.path (node_at tree edit.path) left ≡ true) (sym (edited_here edit.path edit.at tree)) lets))
    here can false same = inl (edited_apart edit.path edit.at tree q (λ is. let impossible : true ≡ false = sym (same_path-refl q) ∙ ap (same_path q) is ∙ same in cc))

    by_can : (b : Bool) → can_edit area tree edit.path ≡ b → DiffersIn area q (node_at tree q) (node_at (cond b (edited edit.path edit.at tree) tree) q)
    by_can true can = here can (same_path q edit.path) refl
    by_can false can = inl refl

edits_differ : (area : Area) (view tree : Tree) (effects : List Effect) (q : Path) → DiffersIn area q (node_at tree q) (node_at (after_edits area tree (map (edit_of view) effects)) q)
edits_differ area view tree [] q = inl refl
edits_differ area view tree (effect ∷ effects) q =
    differs_then area q (node_at tree q) (node_at (with_edit area tree (edit_of view effect)) q) _ (edit_differs area tree (edit_of view effect) q (leaf_edit view effect))
    (edits_differ area view (with_edit area tree (edit_of view effect)) effects q)

pub run_differs : (roots : Roots) (script : Script) (request : Request) (tree : Tree) (q : Path) → DiffersIn request.area q (node_at tree q) (node_at (tree_after roots script request tree) q)
unfolding tree_after
run_differs roots script request tree q = edits_differ request.area (view_of roots request tree) tree (answer_in roots script request tree).effects q

run_left : (roots : Roots) (script : Script) (request : Request) (tree : Tree) → IsFormed (tree_after roots script request tree) → IsLeft (request.area ∷ []) tree (tree_after roots script request tree)
run_left roots script request tree formed = record {
  each = λ q. elim (run_differs roots script request tree q) [ inl same ↦ inl same | inr lets ↦ inr (ap (λ b. b || false) lets) ];
  formed = formed;
}

-- ---- a child

module _ (roots : Roots) (request : Request) (old new : State) (rooted : ForSome old.tree (λ tree. old.roots ≡ roots)) (there : ForSome old.tree (λ tree. is_dir (node_at tree request.dir) ≡ true))
    (formed : HasFormedTree old) (formed_new : HasFormedTree new) where
  run_within : (result : Result Reply WorldError) → Runs request old new result → ForSome old.tree (IsWithinNow roots old.script (changes.Run request) new.tree)
  run_within (Ok reply) r tree told =
      let is : IsReplied request old new reply tree = r.ends tree told in
      (tree_after old.roots old.script request tree, is.done, run_left old.roots old.script request tree (formed_new (tree_after old.roots old.script request tree) is.done))
  run_within (Err Failed) r tree told = let cut = (r.ends tree told).0 in (cut.0, cut.1, cut.2)
  run_within (Err NoMemory) r tree told = let cut = (r.ends tree told).0 in (cut.0, cut.1, cut.2)

  run_moments : (result : Result Reply WorldError) → Runs request old new result → ForSome old.tree (λ tree. Adds (LeftWithin roots old.script (changes.Run request) old.history.soft tree) old.history new.history)
  run_moments result r tree told = adds_wider (LeftOf (request.area ∷ old.history.soft) old.tree) (LeftWithin roots old.script (changes.Run request) old.history.soft tree) old.history new.history
      (λ image left. record {
        mid = tree;
        within = left_same (request.area ∷ []) tree (formed tree told);
        left = subst (λ o. LeftOf (request.area ∷ old.history.soft) o image) told left;
      }) r.moments

  -- it asks for this one child
  requests_here : (tree : Tree) → old.tree ≡ Some tree → request ∷ [] ≡ request_at (changes.Run request) tree
  requests_here tree told = sym (ap (λ b. cond b (request ∷ []) []) (there tree told))

  run_ran : (result : Result Reply WorldError) → Runs request old new result → ForSome old.tree (λ tree. RanFront (request_at (changes.Run request) tree) old new)
  run_ran result r tree told = subst (λ requests. RanFront requests old new) (requests_here tree told) (by result (r.ends tree told))
    where
      by : (ended : Result Reply WorldError) → EndsAs request old new ended tree → RanFront (request ∷ []) old new
      by (Ok reply) is = front_all (request ∷ []) old new is.ran
      by (Err Failed) cut = front_all (request ∷ []) old new cut.1
      by (Err NoMemory) cut = elim cut.1 [ inl same ↦ front_none (request ∷ []) old new same | inr ran ↦ front_all (request ∷ []) old new ran ]

  run_soft : (result : Result Reply WorldError) → Runs request old new result → (new.history.soft ≡ old.history.soft) ⊎ (new.history.soft ≡ request.area ∷ old.history.soft)
  run_soft result r = elim r.begun [ inl not_begun ↦ inl not_begun.soft | inr given ↦ inr given ]

  pub does_run : (reply : Reply) → Runs request old new (Ok reply) → DoesChange roots (changes.Run request) old new (Ok (Some reply))
  does_run reply r = record {
    done = λ tree told. let is : IsReplied request old new reply tree = r.ends tree told in record {
      tree = is.done ∙ ap (λ root. Some (tree_after root old.script request tree)) (rooted tree told) ∙ sym (ap (λ b. Some (cond b (tree_after roots old.script request tree) tree)) (there tree told));
      ran = is.ran ∙ sym (ap (λ b. old.ran ++ cond b (request ∷ []) []) (there tree told));
      said = ap (λ said. said ∷ []) (is.said ∙ ap (λ root. (answer_in root old.script request tree).reply) (rooted tree told))
          ∙ sym (ap (λ b. map (λ other. (answer_in roots old.script other tree).reply) (cond b (request ∷ []) [])) (there tree told));
    };
    ran = run_ran (Ok reply) r;
    within = run_within (Ok reply) r;
    soft = run_soft (Ok reply) r;
    moments = run_moments (Ok reply) r;
    lasts = r.lasts;
    cause = cause_of_ok old new reply (Some reply) r.cause;
  }

  pub stops_run : (error : WorldError) → Runs request old new (Err error) → DoesChange roots (changes.Run request) old new (Err error)
  stops_run error r = record {
    done = λ tree told. tt;
    ran = run_ran (Err error) r;
    within = run_within (Err error) r;
    soft = run_soft (Err error) r;
    moments = run_moments (Err error) r;
    lasts = r.lasts;
    cause = cause_handed old new error r.cause;
  }

-- ---- behind a look

pub does_since : {A : Type 0} (roots : Roots) (change : Change) (old mid new : State) (looked : Result A WorldError) (result : Result (Option Reply) WorldError) → Looks old mid looked
    → DoesChange roots change mid new result → DoesChange roots change old new result
does_since roots change old mid new looked result l d = record {
  done = λ tree told. by tree result (d.done tree (l.unchanged.tree ∙ told));
  ran = λ tree told. front_since (request_at change tree) old mid new l.unchanged.ran_none.ran (d.ran tree (l.unchanged.tree ∙ told));
  within = λ tree told. subst (λ script. IsWithinNow roots script change new.tree tree) l.unchanged.ran_none.lasts.script (d.within tree (l.unchanged.tree ∙ told));
  soft = subst (λ (h : History). (new.history.soft ≡ h.soft) ⊎ (new.history.soft ≡ areas_of (change ∷ []) ++ h.soft)) l.unchanged.history d.soft;
  moments = λ tree told. subst (λ (h : History). Adds (LeftWithin roots old.script change h.soft tree) h new.history) l.unchanged.history
      (subst (λ script. Adds (LeftWithin roots script change mid.history.soft tree) mid.history new.history) l.unchanged.ran_none.lasts.script (d.moments tree (l.unchanged.tree ∙ told)));
  lasts = lasts_then old mid new l.unchanged.ran_none.lasts d.lasts;
  cause = cause_then Failed old mid new looked result l.unchanged.ran_none.lasts.told l.cause d.cause;
}
  where
    by : (tree : Tree) (r : Result (Option Reply) WorldError) → IfOk r (λ reply. IsChanged roots change mid new reply tree) → IfOk r (λ reply. IsChanged roots change old new reply tree)
    by tree (Ok reply) is = record {
      tree = is.tree ∙ ap (λ script. Some (do_change roots script change tree)) l.unchanged.ran_none.lasts.script;
      ran = is.ran ∙ ap (λ r. r ++ request_at change tree) l.unchanged.ran_none.ran;
      said = is.said ∙ ap (λ script. map (λ request. (answer_in roots script request tree).reply) (request_at change tree)) l.unchanged.ran_none.lasts.script;
    }
    by tree (Err error) is = tt

-- a child whose directory isn't there is passed over
module _ (roots : Roots) (request : Request) (old new : State) (formed : HasFormedTree old) where
  pub passes_run : {A : Type 0} (told : A) → Looks old new (Ok told) → ForSome old.tree (λ tree. false ≡ is_dir (node_at tree request.dir)) → DoesChange roots (changes.Run request) old new (Ok None)
  passes_run value l absent = record {
    done = λ tree told. record {
      tree = l.unchanged.tree ∙ told ∙ sym (ap (λ b. Some (cond b (tree_after roots old.script request tree) tree)) (sym (absent tree told)));
      ran = l.unchanged.ran_none.ran ∙ sym (append-nil old.ran) ∙ sym (ap (λ b. old.ran ++ cond b (request ∷ []) []) (sym (absent tree told)));
      said = sym (ap (λ b. map (λ other. (answer_in roots old.script other tree).reply) (cond b (request ∷ []) [])) (sym (absent tree told)));
    };
    ran = λ tree told. front_none (request_at (changes.Run request) tree) old new l.unchanged.ran_none.ran;
    within = λ tree told. (tree, l.unchanged.tree ∙ told, left_same (request.area ∷ []) tree (formed tree told));
    soft = inl (ap (λ (h : History). h.soft) l.unchanged.history);
    moments = λ tree told. adds_none _ old.history new.history (ap (λ (h : History). h.past) l.unchanged.history);
    lasts = l.unchanged.ran_none.lasts;
    cause = cause_of_ok old new value None l.cause;
  }

  pub stops_look : {A : Type 0} (error : WorldError) → Looks {T = A} old new (Err error) → DoesChange roots (changes.Run request) old new (Err error)
  stops_look error l = record {
    done = λ tree told. tt;
    ran = λ tree told. front_none (request_at (changes.Run request) tree) old new l.unchanged.ran_none.ran;
    within = λ tree told. (tree, l.unchanged.tree ∙ told, left_same (request.area ∷ []) tree (formed tree told));
    soft = inl (ap (λ (h : History). h.soft) l.unchanged.history);
    moments = λ tree told. adds_none _ old.history new.history (ap (λ (h : History). h.past) l.unchanged.history);
    lasts = l.unchanged.ran_none.lasts;
    cause = cause_handed old new error l.cause;
  }
