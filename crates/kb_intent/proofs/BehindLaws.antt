-- What changes leave foreign: at paths that they don't touch what stood there, but for what is private.
use Rattle.std.proofs.Common.{◌≡◌, ◌⊎◌, ℕ, Bool, true, false, cond, ◌&&◌, ◌||◌, not, List, [], ◌∷◌, Option, Some, None, refl, sym, ap, ◌∙◌, inl, inr}
use Rattle.std.specs.List.{list_any}
use Rattle.std.proofs.lemmas.Bool.{cases_Bool, true≢false, or_parts, or_left, or_right}
use Rattle.std.proofs.lemmas.List.Folds.{list_any-append}
use Rattle.kb_world.specs.Area.{lets_differ, is_named}
use Rattle.kb_world.specs.Path.{Path, is_under}
use Rattle.kb_world.specs.Public.{staging_path, is_private, is_foreign, foreign_tree}
use Rattle.kb_world.specs.Script.{Script, tree_after}
use Rattle.kb_world.specs.State.{State, Unchanged}
use Rattle.kb_world.specs.Tree.{Tree, node_at, with_node, without, moved, is_dir}
use Rattle.kb_world.specs.TreeLaws.{same_path, same_path-refl, with_node-apart, remove-apart}
use Rattle.kb_world.specs.declared.child.Area.{Area}
use Rattle.kb_world.specs.declared.child.Area.TheVariants as areas
use Rattle.kb_world.specs.declared.child.Request.{Request}
use Rattle.kb_world.specs.declared.roots.Roots.{Roots}
use Rattle.kb_world.specs.declared.tree.Node.{Node}
use Rattle.kb_world.specs.declared.tree.Node.TheVariants as nodes
use Rattle.kb_world.proofs.PatchLaws.{tidied-apart}
use Rattle.kb_world.proofs.PublicLaws.{node_at-foreign_tree}
use Rattle.kb_changes.specs.Change.{do_change, done, root_path, staged_path}
use Rattle.kb_changes.specs.declared.change.Change.{Change}
use Rattle.kb_changes.specs.declared.change.Change.TheVariants.{Dir, Put, Drop, DropDir, Wipe, Run}
use Rattle.kb_changes.specs.declared.change.RootName.{RootName}
use Rattle.kb_changes.specs.declared.change.RootName.TheVariants as root_name
use Rattle.kb_changes.proofs.PatchForeign.{private-own}
use Rattle.kb_again.specs.Sparing.{reaches}
use Rattle.kb_again.specs.Within.{IsWithin, IsWithinNext, staging_paths}
use Rattle.kb_again.proofs.WriteLaws.{edited-apart}
use Rattle.kb_machine.specs.Aside.{IsSameBut}
use Rattle.kb_machine.specs.Behind.{may_touch, touched_by, KeepsForeignBut, LeavesBehind}
use Rattle.kb_machine.proofs.BehindLaws.{front_none, never_shown}
use Rattle.kb_walk.proofs.WipeLaws.{cleared_at}
use Rattle.kb_intent.specs.Doing.{IsCutOffNow}
use Rattle.kb_intent.proofs.PlaceLaws.{staged_under}
use Rattle.kb_intent.proofs.RunLaws.{run_differs}
use Rattle.kb_intent.proofs.StandingLaws.{IsHiddenFrom, staged_private}

-- ---- trees that are the same but for what is private, and where a test lets them differ

-- at the path it may differ, or what stands there is private
abbrev pub or_private : Roots → (Path → Bool) → Path → Bool
or_private roots may path = may path || is_private roots path

or_none : (a b : Bool) → a ≡ false → b ≡ false → (a || b) ≡ false
or_none true b out other = out
or_none false b out other = other

-- what is private is never foreign
foreign_at : (roots : Roots) (tree now : Tree) (path : Path) → ((is_private roots path ≡ false) → node_at now path ≡ node_at tree path)
    → node_at (foreign_tree roots now) path ≡ node_at (foreign_tree roots tree) path
foreign_at roots tree now path same = elim (cases_Bool (is_private roots path)) [
  | inl private ↦ never_shown roots now tree path (private-own roots path private)
  | inr open_at ↦
      node_at-foreign_tree roots now path ∙ ap (λ at. cond (is_foreign roots path at) at None) (same open_at) ∙ sym (node_at-foreign_tree roots tree path)
]

pub foreign_but : (roots : Roots) (may : Path → Bool) (tree now : Tree) → IsSameBut (or_private roots may) tree now → IsSameBut may (foreign_tree roots tree) (foreign_tree roots now)
foreign_but roots may tree now same path out = foreign_at roots tree now path (λ open_at. same path (or_none (may path) (is_private roots path) out open_at))

pub keeps_but : (roots : Roots) (may : Path → Bool) (tree now : Tree) (new : State) → new.tree ≡ Some now → IsSameBut (or_private roots may) tree now → KeepsForeignBut roots may tree new
keeps_but roots may tree now new told same = record { now = now; told = told; same = foreign_but roots may tree now same }

-- since a tree that differed in what is private alone
pub but_then : (roots : Roots) (may : Path → Bool) (tree mid now : Tree) → IsSameBut (or_private roots may) tree mid → IsHiddenFrom roots mid now → IsSameBut (or_private roots may) tree now
but_then roots may tree mid now before hidden path out = elim (hidden path) [
  | inl same ↦ same ∙ before path out
  | inr private ↦ absurd (true≢false (sym private ∙ (or_parts (may path) (is_private roots path) out).1))
]

-- it differed in what is private alone
pub private_but : (roots : Roots) (may : Path → Bool) (tree now : Tree) → IsHiddenFrom roots tree now → IsSameBut (or_private roots may) tree now
private_but roots may tree now hidden = but_then roots may tree tree now (λ path out. refl) hidden

-- ---- a change

-- what is staged for a Put is private
root_staged : (roots : Roots) (root : RootName) (path : Path) → is_under path (staging_path (root_path roots root)) ≡ true → list_any (is_under path) (staging_paths roots) ≡ true
root_staged roots root path under = by root under
  where
    at : Path → Bool
    at place = is_under path (staging_path place)

    by : (root : RootName) → at (root_path roots root) ≡ true → (at roots.dkms || (at roots.src || (at roots.modules || (at roots.boot || false)))) ≡ true
    by root_name.Dkms h = or_left (at roots.dkms) _ h
    by root_name.Src h = or_right (at roots.dkms) _ (or_left (at roots.src) _ h)
    by root_name.Modules h = or_right (at roots.dkms) _ (or_right (at roots.src) _ (or_left (at roots.modules) _ h))
    by root_name.Boot h = or_right (at roots.dkms) _ (or_right (at roots.src) _ (or_right (at roots.modules) _ (or_left (at roots.boot) _ h)))

place_private : (roots : Roots) (root : RootName) (number : ℕ) → is_private roots (staged_path roots root number) ≡ true
place_private roots root number = staged_private roots (staged_path roots root number) (root_staged roots root (staged_path roots root number) (staged_under roots root number))

apart_from : (q path : Path) → same_path q path ≡ false → q ≡ path → ⊥
apart_from q path apart same = true≢false (sym (ap (λ p. same_path p path) same ∙ same_path-refl path) ∙ apart)

-- what an area lets differ it reaches
lets_reach : (area : Area) (q : Path) (was left : Option Node) → lets_differ area q was left ≡ true → reaches area q ≡ true
lets_reach areas.Nothing q was left lets = lets
lets_reach (areas.Under directory) q was left lets = lets
lets_reach (areas.Names directory names) q was left lets = by (is_named directory names q) (is_dir was) (is_dir left) lets
  where
    by : (named first second : Bool) → (named && not first && not second) ≡ true → named ≡ true
    by true first second h = refl
    by false first second h = h

module _ (roots : Roots) (script : Script) where
  abbrev ButTouched : List Change → Tree → Tree → Type 0
  ButTouched changes = IsSameBut (or_private roots (touched_by changes))

  abbrev Spares : Change → Tree → Tree → Path → Type 0
  Spares change tree now q = may_touch q change ≡ false → is_private roots q ≡ false → node_at now q ≡ node_at tree q

  unless : (b : Bool) (made tree : Tree) (q : Path) → node_at made q ≡ node_at tree q → node_at (cond b made tree) q ≡ node_at tree q
  unless true made tree q same = same
  unless false made tree q same = refl

  -- where it is done
  done_spares : (change : Change) (tree : Tree) (q : Path) → Spares change tree (do_change roots script change tree) q
  done_spares (Dir path) tree q out shown = unless _ (with_node path nodes.Dir tree) tree q (with_node-apart tree path nodes.Dir q (apart_from q path out))
  done_spares (Put root number target) tree q out shown =
      let staged = staged_path roots root number in
      unless _ (moved staged target tree) tree q
      (edited-apart target (node_at tree staged) (without staged tree) q (apart_from q target out)
      ∙ remove-apart tree staged q (λ same. true≢false (sym (ap (is_private roots) same ∙ place_private roots root number) ∙ shown)))
  done_spares (Drop path) tree q out shown = unless _ (without path tree) tree q (remove-apart tree path q (apart_from q path out))
  done_spares (DropDir path) tree q out shown = tidied-apart path tree q out
  done_spares (Wipe path) tree q out shown = cleared_at (λ other. is_under other path) tree q ∙ ap (λ b. cond b None (node_at tree q)) out
  done_spares (Run request) tree q out shown = unless _ (tree_after roots script request tree) tree q (elim (run_differs roots script request tree q) [
    | inl same ↦ same
    | inr lets ↦ absurd (true≢false (sym (lets_reach request.area q _ _ lets) ∙ out))
  ])

  either_spares : (change : Change) (tree now : Tree) (q : Path) → (now ≡ tree) ⊎ (now ≡ do_change roots script change tree) → Spares change tree now q
  either_spares change tree now q (inl same) out shown = ap (λ t. node_at t q) same
  either_spares change tree now q (inr done) out shown = ap (λ t. node_at t q) done ∙ done_spares change tree q out shown

  -- where it is cut off
  within_spares : (change : Change) (tree now : Tree) (q : Path) → IsWithin roots script change tree now → Spares change tree now q
  within_spares (Dir path) tree now q within out shown = either_spares (Dir path) tree now q within out shown
  within_spares (Put root number target) tree now q within out shown = either_spares (Put root number target) tree now q within out shown
  within_spares (Drop path) tree now q within out shown = either_spares (Drop path) tree now q within out shown
  within_spares (DropDir path) tree now q within out shown = either_spares (DropDir path) tree now q within out shown
  within_spares (Wipe path) tree now q within out shown = elim (within.1 q) [ inl same ↦ same | inr gone ↦ gone ∙ done_spares (Wipe path) tree q out shown ]
  within_spares (Run request) tree now q within out shown = elim (within.each q) [
    | inl same ↦ same
    | inr lets ↦ absurd (true≢false (sym (lets_reach request.area q (node_at tree q) (node_at now q) (one _ lets)) ∙ out))
  ]
    where
      one : (b : Bool) → (b || false) ≡ true → b ≡ true
      one true h = refl
      one false h = h

  -- ---- changes in their order

  pub done_but : (changes : List Change) (tree : Tree) → ButTouched changes tree (done roots script changes tree)
  done_but [] tree q out = refl
  done_but (change ∷ changes) tree q out =
      let parts = or_parts (touched_by (change ∷ changes) q) (is_private roots q) out in
      let each = or_parts (may_touch q change) (touched_by changes q) parts.0 in
      done_but changes (do_change roots script change tree) q (or_none (touched_by changes q) (is_private roots q) each.1 parts.1) ∙ done_spares change tree q each.0 parts.1

  next_but : (changes : List Change) (tree now : Tree) → IsWithinNext roots script changes tree now → ButTouched changes tree now
  next_but [] tree now same q out = ap (λ t. node_at t q) same
  next_but (change ∷ changes) tree now within q out =
      let parts = or_parts (touched_by (change ∷ changes) q) (is_private roots q) out in
      within_spares change tree now q within (or_parts (may_touch q change) (touched_by changes q) parts.0).0 parts.1

  -- some are done, and the next is cut off
  pub cut_but : (changes : List Change) (new : Option Tree) (tree : Tree) (cut : IsCutOffNow roots script changes new tree) → ButTouched changes tree cut.now
  cut_but changes new tree cut q out =
      let parts = or_parts (touched_by changes q) (is_private roots q) out in
      let split = sym (list_any-append (may_touch q) cut.front cut.back) ∙ ap (λ cs. touched_by cs q) cut.split ∙ parts.0 in
      let each = or_parts (touched_by cut.front q) (touched_by cut.back q) split in
      next_but cut.back (done roots script cut.front tree) cut.now cut.within q (or_none (touched_by cut.back q) (is_private roots q) each.1 parts.1)
      ∙ done_but cut.front tree q (or_none (touched_by cut.front q) (is_private roots q) each.0 parts.1)

-- ---- nothing is changed

pub unchanged_behind : (roots : Roots) (requests : List Request) (may : Path → Bool) (tree : Tree) (old new : State) → old.tree ≡ Some tree → Unchanged old new
    → LeavesBehind roots requests may tree old new
unchanged_behind roots requests may tree old new told u = record {
  ran = front_none requests old new u.ran_none.ran;
  foreign = record { now = tree; told = u.tree ∙ told; same = λ path out. refl };
}
