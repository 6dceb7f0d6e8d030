-- A child that changes what is foreign leaves a world at rest, and an action goes on behind it.
use Rattle.std.proofs.Common.{◌≡◌, ◌⊎◌, Bool, true, false, cond, ◌&&◌, ◌||◌, not, List, [], ◌∷◌, map, Option, Some, None, refl, sym, ap, ◌∙◌, subst, inl, inr}
use Rattle.std.proofs.lemmas.Bool.{true≢false, or_cases}
use Rattle.std.proofs.lemmas.List.{append-nil}
use Rattle.std.specs.Cmp.{first_so, second_so}
use Rattle.std.specs.List.{list_any, list_all}
use Rattle.std.specs.Prelude.{ℕ, bytes_eq, Result, Ok, Err}
use Rattle.kb_world.specs.Area.{is_among, lets_differ, is_soft_at, IsLeft}
use Rattle.kb_world.specs.Crash.{LeftOf, Adds}
use Rattle.kb_world.specs.Layout.{united, whole_tree}
use Rattle.kb_world.specs.Path.{Path, parent, is_under}
use Rattle.kb_world.specs.Public.{intent_path, is_private, is_foreign, public_tree, foreign_tree}
use Rattle.kb_world.specs.Roots.{AreApart}
use Rattle.kb_world.specs.Script.{Script, answer, answer_in, tree_after, edit_of}
use Rattle.kb_world.specs.State.{State, HasCause, Runs, IsReplied, IsNotBegun, IsGiven}
use Rattle.kb_world.specs.Stop.{stop_for}
use Rattle.kb_world.specs.Tree.{Tree, node_at, is_dir, name_in, IsFormed}
use Rattle.kb_world.specs.TreeLaws.{same_tree}
use Rattle.kb_world.specs.View.{is_own, is_index, sees, view_of}
use Rattle.kb_world.specs.declared.child.Area.{Area}
use Rattle.kb_world.specs.declared.child.Area.TheVariants as areas
use Rattle.kb_world.specs.declared.child.Reply.{Reply}
use Rattle.kb_world.specs.declared.child.Request.{Request}
use Rattle.kb_world.specs.declared.job.Report.{Report}
use Rattle.kb_world.specs.declared.roots.Roots.{Roots}
use Rattle.kb_world.specs.declared.stop.Stop.{Stop}
use Rattle.kb_world.specs.declared.stop.Stop.TheVariants.{Fault, NoMemory}
use Rattle.kb_world.specs.declared.tree.Node.{Node}
use Rattle.kb_world.specs.declared.world.WorldError.{WorldError}
use Rattle.kb_world.specs.declared.world.WorldError.TheVariants as world
use Rattle.kb_world.proofs.CrashLaws.{adds_wider}
use Rattle.kb_world.proofs.LayoutLaws.{whole_at}
use Rattle.kb_world.proofs.PathLaws.{by_test}
use Rattle.kb_world.proofs.PublicLaws.{node_at-foreign_tree}
use Rattle.kb_changes.specs.Valid.{written_roots, is_initrd, is_initrd_name, is_kept_out}
use Rattle.kb_again.specs.Sparing.{reaches, IsSparing, AreSparing}
use Rattle.kb_again.proofs.ChangeLaws.{whole_of, formed_of}
use Rattle.kb_again.proofs.EditLaws.{dir_is}
use Rattle.kb_again.proofs.Ends.{in_turn}
use Rattle.kb_again.proofs.KeptLaws.{parent_under}
use Rattle.kb_again.proofs.PathLaws.{same_bytes}
use Rattle.kb_again.proofs.RootLaws.{are_roots, private_under}
use Rattle.kb_again.proofs.SoftLaws.{initrd_open}
use Rattle.kb_again.proofs.Steps.{writes, effect_in}
use Rattle.kb_again.proofs.WriteLaws.{view_alike, effects_dirs, effects_same, effects_whole, edits_are}
use Rattle.kb_machine.specs.Across.{Survives, LeavesStanding, DoesAcrossCrashes}
use Rattle.kb_machine.specs.Behind.{RanFront, is_reached, LeavesBehindOf}
use Rattle.kb_machine.specs.Child.{IsForeignArea, child_only, runs_child}
use Rattle.kb_machine.specs.Does.{Answers}
use Rattle.kb_machine.specs.Outcome.{Outcome, Action, ran_child, joined, ◌then◌}
use Rattle.kb_machine.specs.Stands.{Rests, OpensOneOf}
use Rattle.kb_machine.proofs.AsideThenLaws.{edits_outside, holds-reaches}
use Rattle.kb_machine.proofs.BehindLaws.{front_none, front_all, behind_first}
use Rattle.kb_machine.proofs.RestLaws.{opens-none, rests_from, rests_bare, rests_spares, lets-reaches, spared_public, spared_journal}
use Rattle.kb_machine.proofs.ThenLaws.{does_then}
use Rattle.kb_machine.proofs.TransactLaws.{kept_private, private_unforeign}

-- ---- what a child leaves differs from what it found in its area alone

lets_from : (area : Area) (q : Path) (was left : Option Node) → reaches area q ≡ true → is_dir was ≡ false → is_dir left ≡ false → lets_differ area q was left ≡ true
lets_from areas.Nothing q was left reached file still = reached
lets_from (areas.Under directory) q was left reached file still = reached
lets_from (areas.Names directory names) q was left reached file still = λ i. reached i && not (file i) && not (still i)

module _ (roots : Roots) (script : Script) (request : Request) (tree : Tree) where
  abbrev found : Tree
  found = view_of roots request tree

  abbrev left_there : Tree
  left_there = tree_after roots script request tree

  after_is : left_there ≡ in_turn (effect_in request.area) (writes script request found) tree
  unfolding tree_after
  after_is = edits_are request.area found (answer script request found).effects tree

  dirs_stay : (q : Path) → is_dir (node_at left_there q) ≡ is_dir (node_at tree q)
  dirs_stay q = ap (λ t. is_dir (node_at t q)) after_is ∙ effects_dirs request.area (writes script request found) tree q

  unreached : (q : Path) → reaches request.area q ≡ false → node_at left_there q ≡ node_at tree q
  unfolding tree_after
  unreached q out = edits_outside request.area tree (map (edit_of found) (answer_in roots script request tree).effects) q (λ t. holds-reaches request.area t q out)

  after_left : IsFormed tree → IsLeft (request.area ∷ []) tree left_there
  after_left formed = record {
    each = λ q. by q (reaches request.area q) refl (is_dir (node_at tree q)) refl;
    formed = subst IsFormed (sym after_is) (formed_of (in_turn (effect_in request.area) (writes script request found) tree) (effects_whole request.area (writes script request found) tree (whole_of tree formed)));
  }
    where
      by : (q : Path) (reached : Bool) → reaches request.area q ≡ reached → (directory : Bool) → is_dir (node_at tree q) ≡ directory
          → (node_at left_there q ≡ node_at tree q) ⊎ (is_soft_at (request.area ∷ []) q (node_at tree q) (node_at left_there q) ≡ true)
      by q false r d e = inl (unreached q r)
      by q true r true e = inl (dir_is (node_at left_there q) (dirs_stay q ∙ e) ∙ sym (dir_is (node_at tree q) e))
      by q true r false e = inr (ap (λ b. b || false) (lets_from request.area q (node_at tree q) (node_at left_there q) r e (dirs_stay q ∙ e)))

-- what differs in the area alone is the same outside
outside : (area : Area) (a b : Tree) → IsLeft (area ∷ []) a b → (q : Path) → reaches area q ≡ false → node_at b q ≡ node_at a q
outside area a b left q out = elim (left.each q) [
  | inl same ↦ same
  | inr soft ↦ absurd (by (lets_differ area q (node_at a q) (node_at b q)) refl soft)
]
  where
    by : (b' : Bool) → lets_differ area q (node_at a q) (node_at b q) ≡ b' → (b' || false) ≡ true → ⊥
    by true lets e = true≢false (sym (lets-reaches area q (node_at a q) (node_at b q) lets) ∙ out)
    by false lets e = true≢false (sym e)

-- ---- over the store and the foreign tree it does the same

untwice : (b : Bool) → not b ≡ true → b ≡ false
untwice true h = let impossible : false ≡ true = h in cc
untwice false h = refl

module _ (roots : Roots) (script : Script) (request : Request) (area_foreign : IsForeignArea roots request.area) (tree : Tree) where
  abbrev whole : Tree
  whole = whole_tree roots tree

  abbrev is_unprivate : Path → Bool
  is_unprivate q = not (is_private roots q)

  same_there : (q : Path) → is_unprivate q ≡ true → node_at whole q ≡ node_at tree q
  same_there q unprivate = whole_at roots tree q (untwice (is_private roots q) unprivate)

  own_reached : (area : Area) (q : Path) → is_own area q ≡ true → reaches area q ≡ true
  own_reached areas.Nothing q own = own
  own_reached (areas.Under directory) q own = own
  own_reached (areas.Names directory names) q own = let impossible : false ≡ true = own in cc

  -- what it sees isn't private
  sees_unprivate : (q : Path) → sees roots request q ≡ true → is_unprivate q ≡ true
  sees_unprivate q seen = by (is_own request.area q) refl (first_so (is_own request.area q || list_any (is_under q) request.seen && not (is_private roots q)) (not (is_index roots q)) seen)
    where
      by : (own : Bool) → is_own request.area q ≡ own → (own || list_any (is_under q) request.seen && not (is_private roots q)) ≡ true → is_unprivate q ≡ true
      by true e h = ap not (area_foreign.unprivate q (own_reached request.area q e))
      by false e h = second_so (list_any (is_under q) request.seen) (not (is_private roots q)) h

  view_whole : view_of roots request whole ≡ view_of roots request tree
  view_whole = view_alike is_unprivate roots request whole tree sees_unprivate same_there

  -- a directory over what isn't private isn't private
  parent_unprivate : (q : Path) → is_unprivate q ≡ true → is_unprivate (parent q) ≡ true
  parent_unprivate q unprivate = ap not (by_test (is_private roots (parent q)) (λ private. true≢false (sym (private_under roots (parent q) q (parent_under q) private) ∙ untwice (is_private roots q) unprivate)))

  after_same : (q : Path) → is_unprivate q ≡ true → node_at (tree_after roots script request whole) q ≡ node_at (tree_after roots script request tree) q
  after_same q unprivate =
      ap (λ t. node_at t q) (after_is roots script request whole)
      ∙ ap (λ view. node_at (in_turn (effect_in request.area) (writes script request view) whole) q) view_whole
      ∙ effects_same is_unprivate is_unprivate (λ p is. inl (parent_unprivate p is)) request.area (writes script request (view_of roots request tree)) whole tree same_there (λ p is. ap is_dir (same_there p is)) q unprivate
      ∙ sym (ap (λ t. node_at t q) (after_is roots script request tree))

  foreign_whole : foreign_tree roots (tree_after roots script request whole) ≡ foreign_tree roots (tree_after roots script request tree)
  foreign_whole = same_tree _ _ (λ q.
      node_at-foreign_tree roots (tree_after roots script request whole) q ∙ by q (is_private roots q) refl ∙ sym (node_at-foreign_tree roots (tree_after roots script request tree) q))
    where
      hidden : (q : Path) (at : Option Node) → is_private roots q ≡ true → cond (is_foreign roots q at) at None ≡ None
      hidden q at private = ap (λ b. cond b at None) (private_unforeign roots q at private)

      by : (q : Path) (private : Bool) → is_private roots q ≡ private
          → cond (is_foreign roots q (node_at (tree_after roots script request whole) q)) (node_at (tree_after roots script request whole) q) None
          ≡ cond (is_foreign roots q (node_at (tree_after roots script request tree) q)) (node_at (tree_after roots script request tree) q) None
      by q true e = hidden q (node_at (tree_after roots script request whole) q) e ∙ sym (hidden q (node_at (tree_after roots script request tree) q) e)
      by q false e = ap (λ at. cond (is_foreign roots q at) at None) (after_same q (ap not e))

-- ---- initrds by their names are such an area

module _ (roots : Roots) (apart : AreApart roots) where
  named_so : (names : List (List ℕ)) → list_all (λ name. is_initrd_name (Some name)) names ≡ true → (found : Option (List ℕ)) → is_among names found ≡ true → is_initrd_name found ≡ true
  named_so names all None among = among
  named_so [] all (Some name) among = let impossible : false ≡ true = among in absurd (cc)
  named_so (other ∷ names) all (Some name) among = elim (or_cases (bytes_eq name other) (list_any (bytes_eq name) names) among) [
    | inl here ↦ ap (λ n. is_initrd_name (Some n)) (same_bytes name other here) ∙ first_so (is_initrd_name (Some other)) (list_all (λ n. is_initrd_name (Some n)) names) all
    | inr later ↦ named_so names (second_so (is_initrd_name (Some other)) (list_all (λ n. is_initrd_name (Some n)) names) all) (Some name) later
  ]

  pub initrds_foreign : (names : List (List ℕ)) → list_all (λ name. is_initrd_name (Some name)) names ≡ true → IsForeignArea roots (areas.Names roots.boot names)
  initrds_foreign names all = record {
    unprivate = λ path reached. untwice (is_private roots path) (initrd_open roots (are_roots roots apart) path (named_so names all (name_in roots.boot path) reached));
    uncounted = λ path reached. by (list_any (is_under path) (written_roots roots)) (is_private roots path) (is_initrd roots path) (named_so names all (name_in roots.boot path) reached);
  }
    where
      by : (written private initrd : Bool) → initrd ≡ true → (written && (not private && not (true && initrd))) ≡ false
      by false private initrd e = refl
      by true true initrd e = refl
      by true false initrd e = ap not e

-- ---- it leaves a world at rest

foreign_sparing : (roots : Roots) (area : Area) → IsForeignArea roots area → IsSparing roots [] area
foreign_sparing roots area area_foreign = record {
  kept_out = λ path reached. by_test (is_kept_out roots path) (λ kept. true≢false (sym (kept_private roots path kept) ∙ area_foreign.unprivate path reached));
  public = λ path reached counted. absurd (true≢false (sym counted ∙ area_foreign.uncounted path reached));
}

module _ (roots : Roots) (request : Request) (area_foreign : IsForeignArea roots request.area) (old mid : State) (tree now : Tree) (told : old.tree ≡ Some tree) (formed : IsFormed tree)
    (now_told : mid.tree ≡ Some now) (left : IsLeft (request.area ∷ []) tree now) where
  pub child_public : public_tree roots now ≡ public_tree roots tree
  child_public = spared_public roots (request.area ∷ []) tree now (foreign_sparing roots request.area area_foreign, tt) left

  module _ (rests : Rests roots (public_tree roots tree) old) where
    bare : node_at tree (intent_path roots) ≡ None
    bare = rests_bare roots (public_tree roots tree) old tree told formed rests

    soft_spared : AreSparing roots [] (request.area ∷ old.history.soft)
    soft_spared = (foreign_sparing roots request.area area_foreign, rests_spares roots (public_tree roots tree) old tree told formed rests)

    now_spared : IsNotBegun old mid ⊎ IsGiven request.area old mid → AreSparing roots [] mid.history.soft
    now_spared (inl same) = subst (AreSparing roots []) (sym same.soft) soft_spared.1
    now_spared (inr given) = subst (AreSparing roots []) (sym given) soft_spared

    pub child_rests : IsNotBegun old mid ⊎ IsGiven request.area old mid → Rests roots (public_tree roots tree) mid
    child_rests begun =
        subst (λ s. Rests roots s mid) child_public
        (rests_from roots mid now now_told (spared_journal roots [] (request.area ∷ []) tree now (foreign_sparing roots request.area area_foreign, tt) left ∙ bare) (now_spared begun))

    pub child_opens : (stores : List Tree) → Adds (LeftOf (request.area ∷ old.history.soft) old.tree) old.history mid.history → Adds (OpensOneOf roots old.script (public_tree roots tree ∷ stores)) old.history mid.history
    child_opens stores adds = adds_wider (LeftOf (request.area ∷ old.history.soft) old.tree) (OpensOneOf roots old.script (public_tree roots tree ∷ stores)) old.history mid.history
        (λ image l.
        let there : IsLeft (request.area ∷ old.history.soft) tree image = subst (λ t. LeftOf (request.area ∷ old.history.soft) t image) told l in (
          public_tree roots tree,
          inl refl,
          opens-none roots old.script image (public_tree roots tree) (spared_journal roots [] (request.area ∷ old.history.soft) tree image soft_spared there ∙ bare) (spared_public roots (request.area ∷ old.history.soft) tree image soft_spared there),
        )) adds

  -- what is foreign stands as it did but in the area
  pub child_behind : (foreign : Tree) → RanFront (request ∷ []) old mid → LeavesBehindOf roots (ran_child request foreign) tree old mid
  child_behind foreign ran = record { ran = ran; foreign = record { now = now; told = now_told; same = λ path out. by path (unreached_by path out) } }
    where
      unreached_by : (path : Path) → is_reached (request ∷ []) path ≡ false → reaches request.area path ≡ false
      unreached_by path out = by_none (reaches request.area path) out
        where
          by_none : (b : Bool) → (b || false) ≡ false → b ≡ false
          by_none true h = h
          by_none false h = refl

      by : (path : Path) → reaches request.area path ≡ false → node_at (foreign_tree roots now) path ≡ node_at (foreign_tree roots tree) path
      by path out =
          node_at-foreign_tree roots now path ∙ ap (λ at. cond (is_foreign roots path at) at None) (outside request.area tree now left path out)
          ∙ sym (node_at-foreign_tree roots tree path)

-- ---- the action

-- an action is done by what it says of the tree that is told
does_at : (roots : Roots) (first second : Action) (old new : State) (before after : Report) (result : Result (Unit {0}) Stop)
    → ((tree : Tree) → old.tree ≡ Some tree → old.roots ≡ roots → first (public_tree roots tree) (foreign_tree roots tree) ≡ second (public_tree roots tree) (foreign_tree roots tree))
    → DoesAcrossCrashes roots first old new before after result → DoesAcrossCrashes roots second old new before after result
does_at roots first second old new before after result same d = record {
  does = record {
    answers = λ tree told rooted. subst (λ (o : Outcome). Answers roots (public_tree roots tree) o result old new before after) (same tree told rooted) (d.does.answers tree told rooted);
    lasts = d.does.lasts;
    cause = d.does.cause;
  };
  survives = λ tree told rooted rests. subst (λ (o : Outcome). Survives roots (public_tree roots tree) o old new result) (same tree told rooted) (d.survives tree told rooted rests);
  behind = λ tree told rooted. subst (λ (o : Outcome). LeavesBehindOf roots o tree old new) (same tree told rooted) (d.behind tree told rooted);
}

module _ (roots : Roots) (request : Request) (area_foreign : IsForeignArea roots request.area) (old mid : State) (formed : (tree : Tree) → old.tree ≡ Some tree → IsFormed tree) where
  -- it was run, and nothing more
  child_does : (report : Report) (reply : Reply) → Runs request old mid (Ok reply) → DoesAcrossCrashes roots (child_only roots old.script request) {T = Unit {0}} old mid report report (Ok tt)
  child_does report reply r = record {
    does = record {
      answers = λ tree told rooted.
          let is : IsReplied request old mid reply tree = r.ends tree told in
          let now_told = there tree told rooted in
          let now = tree_after roots old.script request tree in
          record {
            end = refl;
            tree = (
              now,
              now_told,
              record {
                public_part = child_public roots request area_foreign old mid tree now told (formed tree told) now_told (after_left roots old.script request tree (formed tree told));
                foreign_part = sym (foreign_whole roots old.script request area_foreign tree);
              },
            );
            ran = is.ran;
            out = sym (append-nil report.out);
            err = sym (append-nil report.err);
          };
      lasts = r.lasts;
      cause = record {
        later = r.cause.later;
        rose = λ failed. let impossible : Ok tt ≡ Err Fault = failed in cc;
        steady = r.cause.steady;
        never = λ is_told is failed. let impossible : Ok tt ≡ Err Fault = failed in cc;
      };
    };
    survives = λ tree told rooted rests.
        let now_told = there tree told rooted in
        let now = tree_after roots old.script request tree in
        let left = after_left roots old.script request tree (formed tree told) in
        record {
          each_moment = child_opens roots request area_foreign old mid tree now told (formed tree told) now_told left rests [] r.moments;
          end = child_rests roots request area_foreign old mid tree now told (formed tree told) now_told left rests r.begun;
        };
    behind = λ tree told rooted.
        let is : IsReplied request old mid reply tree = r.ends tree told in
        let left = after_left roots old.script request tree (formed tree told) in
        child_behind roots request area_foreign old mid tree (tree_after roots old.script request tree) told (formed tree told) (there tree told rooted) left
        (foreign_tree roots (tree_after roots old.script request (whole_tree roots tree))) (front_all (request ∷ []) old mid is.ran);
  }
    where
      there : (tree : Tree) → old.tree ≡ Some tree → old.roots ≡ roots → mid.tree ≡ Some (tree_after roots old.script request tree)
      there tree told rooted =
          let is : IsReplied request old mid reply tree = r.ends tree told in
          is.done ∙ ap (λ r. Some (tree_after r old.script request tree)) rooted

  pub does_child : (next : Reply → Action) (reply : Reply) (new : State) (before after : Report) (result : Result (Unit {0}) Stop) → Runs request old mid (Ok reply)
      → DoesAcrossCrashes roots (next reply) mid new before after result → DoesAcrossCrashes roots (runs_child roots old.script request next) old new before after result
  does_child next reply new before after result r d =
      does_at roots (child_only roots old.script request then next reply) (runs_child roots old.script request next) old new before after result
      (λ tree told rooted.
      let store = public_tree roots tree in
      let first = child_only roots old.script request store (foreign_tree roots tree) in
      let is : IsReplied request old mid reply tree = r.ends tree told in
      ap (λ said. joined first (next said store first.foreign))
      (is.said ∙ ap (λ r. (answer_in r old.script request tree).reply) rooted ∙ ap (λ view. (answer old.script request view).reply) (sym (view_whole roots old.script request area_foreign tree))))
      (does_then roots (child_only roots old.script request) (next reply) old mid new before before after result (child_does before reply r) d)

  -- ---- where it stopped

  ended : (error : WorldError) → Result Reply WorldError
  ended error = Err error

  record CutOff (tree : Tree) : Type 0 where
    now : Tree
    told : mid.tree ≡ Some now
    left : IsLeft (request.area ∷ []) tree now
    ran : RanFront (request ∷ []) old mid

  cut_off : (error : WorldError) → Runs request old mid (Err error) → (tree : Tree) → old.tree ≡ Some tree → CutOff tree
  cut_off world.Failed r tree told =
      let end = r.ends tree told in
      record { now = end.0.0; told = end.0.1; left = end.0.2; ran = front_all (request ∷ []) old mid end.1 }
  cut_off world.NoMemory r tree told =
      let end = r.ends tree told in
      record { now = end.0.0; told = end.0.1; left = end.0.2; ran = elim end.1 [ inl same ↦ front_none (request ∷ []) old mid same | inr ran ↦ front_all (request ∷ []) old mid ran ] }

  abbrev stopped : Stop → Result (Unit {0}) Stop
  stopped stop = Err stop

  cause_of : (error : WorldError) → Runs request old mid (Err error) → HasCause Fault old mid (stopped (stop_for error))
  cause_of world.Failed r = record { later = r.cause.later; rose = λ failed. r.cause.rose refl; steady = r.cause.steady; never = λ told is failed. r.cause.never told is refl }
  cause_of world.NoMemory r = record {
    later = r.cause.later;
    rose = λ failed. let impossible : stopped NoMemory ≡ stopped Fault = failed in cc;
    steady = r.cause.steady;
    never = λ told is failed. let impossible : stopped NoMemory ≡ stopped Fault = failed in cc;
  }

  pub does_no_child : (next : Reply → Action) (before after : Report) (error : WorldError) → Runs request old mid (Err error)
      → DoesAcrossCrashes roots (runs_child roots old.script request next) {T = Unit {0}} old mid before after (Err (stop_for error))
  does_no_child next before after error r = record {
    does = record { answers = λ tree told rooted. untold error tree; lasts = r.lasts; cause = cause_of error r };
    survives = λ tree told rooted rests.
        let cut = cut_off error r tree told in
        let outcome = runs_child roots old.script request next (public_tree roots tree) (foreign_tree roots tree) in
        record {
          each_moment = child_opens roots request area_foreign old mid tree cut.now told (formed tree told) cut.told cut.left rests outcome.after r.moments;
          end = standing error tree outcome.after (child_rests roots request area_foreign old mid tree cut.now told (formed tree told) cut.told cut.left rests r.begun);
        };
    behind = λ tree told rooted.
        let cut = cut_off error r tree told in
        let store = public_tree roots tree in
        let foreign = foreign_tree roots tree in
        let first = child_only roots old.script request store foreign in
        behind_first roots first (next (answer_in roots old.script request (united store foreign)).reply store first.foreign) tree old mid
        (child_behind roots request area_foreign old mid tree cut.now told (formed tree told) cut.told cut.left first.foreign cut.ran);
  }
    where
      untold : (error : WorldError) (tree : Tree) → Answers {T = Unit {0}} roots (public_tree roots tree) (runs_child roots old.script request next (public_tree roots tree) (foreign_tree roots tree)) (Err (stop_for error)) old mid before after
      untold world.Failed tree = tt
      untold world.NoMemory tree = tt

      standing : (error : WorldError) (tree : Tree) (stores : List Tree) → Rests roots (public_tree roots tree) mid → LeavesStanding {T = Unit {0}} roots (public_tree roots tree) stores (Err (stop_for error)) mid
      standing world.Failed tree stores rests = (public_tree roots tree, inl refl, rests.stands)
      standing world.NoMemory tree stores rests = (public_tree roots tree, inl refl, rests.stands)
