-- What a child does to a tree: it sees some of the files and links, and leaves files and links.
use Rattle.std.proofs.Common.{◌≡◌, ◌⊎◌, inl, inr, Bool, true, false, not, cond, ◌&&◌, List, [], ◌∷◌, map, Option, Some, None, is_some, refl, sym, ap, ◌∙◌, subst}
use Rattle.std.specs.FinMap.{get-retain_keys}
use Rattle.std.specs.List.{cons_option}
use Rattle.std.proofs.lemmas.Bool.{cases_Bool, true≢false, and_parts}
use Rattle.kb_world.specs.Area.{is_named}
use Rattle.kb_world.specs.Path.{Path, parent}
use Rattle.kb_world.specs.Script.{Script, answer, edit_of, copied, can_edit, with_edit, after_edits, tree_after}
use Rattle.kb_world.specs.Tree.{Tree, node_at, is_dir, edited}
use Rattle.kb_world.specs.TreeLaws.{paths_exact, same_tree, with_node-here, with_node-apart, remove-here, remove-apart}
use Rattle.kb_world.specs.View.{sees, view_of}
use Rattle.kb_world.specs.declared.child.Area.{Area}
use Rattle.kb_world.specs.declared.child.Area.TheVariants.{Nothing, Under, Names}
use Rattle.kb_world.specs.declared.child.Effect.{Effect}
use Rattle.kb_world.specs.declared.child.Effect.TheVariants as effects
use Rattle.kb_world.specs.declared.child.Request.{Request}
use Rattle.kb_world.specs.declared.roots.Roots.{Roots}
use Rattle.kb_world.specs.declared.tree.Edit.{Edit}
use Rattle.kb_world.specs.declared.tree.Node.{Node}
use Rattle.kb_world.specs.declared.tree.Node.TheVariants as node
use Rattle.kb_changes.specs.Change.{do_change}
use Rattle.kb_changes.specs.declared.change.Change.TheVariants.{Run}
use Rattle.kb_again.specs.Sparing.{reaches}
use Rattle.kb_again.proofs.EditLaws.{same_or_not, dir_is}
use Rattle.kb_again.proofs.Ends.{in_turn, IsMember}
use Rattle.kb_again.proofs.Facts.{is_kept}
use Rattle.kb_again.proofs.Kept.{SameOn, SameDirs, IsWhole}
use Rattle.kb_again.proofs.KeptLaws.{parent_dirs}
use Rattle.kb_again.proofs.PathLaws.{is_listed, not_so}
use Rattle.kb_again.proofs.Steps.{Written, written, all_written, writes, effect_in, run_request}

-- another tree but for files and links at these paths
abbrev pub IsSoftly : List Path → Tree → Tree → Type 0
IsSoftly ps t u =
    (q : Path) → (node_at u q ≡ node_at t q) ⊎ ((is_listed q ps ≡ true) × (is_dir (node_at t q) ≡ false) × (is_dir (node_at u q) ≡ false))

pub softly_same : (ps : List Path) (t : Tree) → IsSoftly ps t t
softly_same ps t q = inl refl

pub softly_more : (ps : List Path) (t u v : Tree) → IsSoftly ps t u → IsSoftly ps u v → IsSoftly ps t v
softly_more ps t u v first second q = elim (second q) [
  | inl same ↦ elim (first q) [ inl was ↦ inl (same ∙ was) | inr open_at ↦ inr (open_at.0, open_at.1, ap is_dir same ∙ open_at.2) ]
  | inr now ↦ elim (first q) [ inl was ↦ inr (now.0, ap is_dir (sym was) ∙ now.1, now.2) | inr open_at ↦ inr (now.0, open_at.1, now.2) ]
]

pub edited-here : (p : Path) (o : Option Node) (t : Tree) → node_at (edited p o t) p ≡ o
edited-here p None t = remove-here t p
edited-here p (Some n) t = with_node-here t p n

pub edited-apart : (p : Path) (o : Option Node) (t : Tree) (q : Path) → (q ≡ p → ⊥) → node_at (edited p o t) q ≡ node_at t q
edited-apart p None t q other = remove-apart t p q other
edited-apart p (Some n) t q other = with_node-apart t p n q other

-- ---- what it sees
node_at-view : (r : Roots) (c : Request) (t : Tree) (q : Path)
    → node_at (view_of r c t) q ≡ cond (sees r c q && not (is_dir (node_at t q))) (node_at t q) None
unfolding view_of
node_at-view r c t q =
    get-retain_keys t (λ x. sees r c x && not (is_dir (node_at t x))) q
    (λ x tie. ap (λ y. sees r c y && not (is_dir (node_at t y))) (sym (paths_exact q x tie)))

pub view_same : (r : Roots) (c : Request) (t u : Tree) → ((q : Path) → sees r c q ≡ true → is_kept r q ≡ true) → SameOn (is_kept r) t u
    → view_of r c t ≡ view_of r c u
view_same r c t u kept same = same_tree _ _ (λ q. node_at-view r c t q ∙ elim (cases_Bool (sees r c q)) [
  | inl is ↦ ap (λ o. cond (sees r c q && not (is_dir o)) o None) (same q (kept q is))
  | inr isnt ↦
      ap (λ b. cond (b && not (is_dir (node_at t q))) (node_at t q) None) isnt
      ∙ sym (ap (λ b. cond (b && not (is_dir (node_at u q))) (node_at u q) None) isnt)
] ∙ sym (node_at-view r c u q))

pub view_alike : (p : Path → Bool) (r : Roots) (c : Request) (t u : Tree) → ((q : Path) → sees r c q ≡ true → p q ≡ true) → SameOn p t u
    → view_of r c t ≡ view_of r c u
view_alike p r c t u kept same = same_tree _ _ (λ q. node_at-view r c t q ∙ elim (cases_Bool (sees r c q)) [
  | inl is ↦ ap (λ o. cond (sees r c q && not (is_dir o)) o None) (same q (kept q is))
  | inr isnt ↦
      ap (λ b. cond (b && not (is_dir (node_at t q))) (node_at t q) None) isnt
      ∙ sym (ap (λ b. cond (b && not (is_dir (node_at u q))) (node_at u q) None) isnt)
] ∙ sym (node_at-view r c u q))

can_leave : Area → Written → Tree → Bool
can_leave a e t = (reaches a e.0 && not (is_dir e.1)) && (not (is_dir (node_at t e.0)) && is_dir (node_at t (parent e.0)))

effect_is : (a : Area) (e : Written) (t : Tree) → effect_in a e t ≡ cond (can_leave a e t) (edited e.0 e.1 t) t
unfolding can_leave
effect_is a e t = refl

effect_does : (a : Area) (e : Written) (t : Tree) → can_leave a e t ≡ true → effect_in a e t ≡ edited e.0 e.1 t
effect_does a e t can = effect_is a e t ∙ ap (λ b. cond b (edited e.0 e.1 t) t) can

effect_not : (a : Area) (e : Written) (t : Tree) → can_leave a e t ≡ false → effect_in a e t ≡ t
effect_not a e t cant = effect_is a e t ∙ ap (λ b. cond b (edited e.0 e.1 t) t) cant

pub effect_other : (a : Area) (e : Written) (t : Tree) (q : Path) → (q ≡ e.0 → ⊥) → node_at (effect_in a e t) q ≡ node_at t q
effect_other a e t q other = elim (cases_Bool (can_leave a e t)) [
  | inl can ↦ ap (λ v. node_at v q) (effect_does a e t can) ∙ edited-apart e.0 e.1 t q other
  | inr cant ↦ ap (λ v. node_at v q) (effect_not a e t cant)
]

-- no child makes a directory or takes one away
effect_dirs : (a : Area) (e : Written) (t : Tree) (q : Path) → is_dir (node_at (effect_in a e t) q) ≡ is_dir (node_at t q)
unfolding can_leave
effect_dirs a e t q = elim (cases_Bool (can_leave a e t)) [
  | inr cant ↦ ap (λ v. is_dir (node_at v q)) (effect_not a e t cant)
  | inl can ↦ elim (same_or_not q e.0) [
    | inr other ↦ ap is_dir (effect_other a e t q other)
    | inl same ↦
        let front = and_parts _ _ (and_parts _ _ can).0 in
        let rest = and_parts _ _ (and_parts _ _ can).1 in
        ap is_dir (ap (λ v. node_at v q) (effect_does a e t can) ∙ ap (node_at (edited e.0 e.1 t)) same ∙ edited-here e.0 e.1 t)
        ∙ not_so _ front.1 ∙ sym (ap (λ x. is_dir (node_at t x)) same ∙ not_so _ rest.0)
  ]
]

pub effects_dirs : (a : Area) (es : List Written) (t : Tree) (q : Path) → is_dir (node_at (in_turn (effect_in a) es t) q) ≡ is_dir (node_at t q)
effects_dirs a [] t q = refl
effects_dirs a (e ∷ es) t q = effects_dirs a es (effect_in a e t) q ∙ effect_dirs a e t q

pub run_dirs : (f : Script) (r : Roots) (c : Request) (t : Tree) (q : Path)
    → is_dir (node_at (run_request f r c t) q) ≡ is_dir (node_at t q)
run_dirs f r c t q = elim (cases_Bool (is_dir (node_at t c.dir))) [
  | inl dir ↦
      ap (λ b. is_dir (node_at (cond b (in_turn (effect_in c.area) (writes f c (view_of r c t)) t) t) q)) dir
      ∙ effects_dirs c.area (writes f c (view_of r c t)) t q
  | inr other ↦ ap (λ b. is_dir (node_at (cond b (in_turn (effect_in c.area) (writes f c (view_of r c t)) t) t) q)) other
]

pub runs_dirs : (f : Script) (r : Roots) (cs : List Request) (t : Tree) (q : Path)
    → is_dir (node_at (in_turn (run_request f r) cs t) q) ≡ is_dir (node_at t q)
runs_dirs f r [] t q = refl
runs_dirs f r (c ∷ cs) t q = runs_dirs f r cs (run_request f r c t) q ∙ run_dirs f r c t q

module _ (p b : Path → Bool) (above : (q : Path) → p q ≡ true → (p (parent q) ≡ true) ⊎ (b (parent q) ≡ true)) where
  can_leave_same : (a : Area) (e : Written) (t u : Tree) → SameOn p t u → SameDirs b t u → p e.0 ≡ true → can_leave a e t ≡ can_leave a e u
  unfolding can_leave
  can_leave_same a e t u same dirs is =
      λ i. (reaches a e.0 && not (is_dir e.1)) && (not (is_dir (same e.0 is i)) && parent_dirs p b above t u same dirs e.0 is i)

  effect_same : (a : Area) (e : Written) (t u : Tree) → SameOn p t u → SameDirs b t u → SameOn p (effect_in a e t) (effect_in a e u)
  effect_same a e t u same dirs q is = elim (same_or_not q e.0) [
    | inr other ↦ effect_other a e t q other ∙ same q is ∙ sym (effect_other a e u q other)
    | inl here ↦
        let can = can_leave_same a e t u same dirs (ap p (sym here) ∙ is) in
        let at_both : (v : Tree) → can_leave a e v ≡ true → node_at (effect_in a e v) q ≡ e.1 =
        λ v c. ap (λ w. node_at w q) (effect_does a e v c) ∙ ap (node_at (edited e.0 e.1 v)) here ∙ edited-here e.0 e.1 v in
        elim (cases_Bool (can_leave a e t)) [
          | inl does ↦ at_both t does ∙ sym (at_both u (sym can ∙ does))
          | inr doesnt ↦
              ap (λ w. node_at w q) (effect_not a e t doesnt) ∙ same q is
              ∙ sym (ap (λ w. node_at w q) (effect_not a e u (sym can ∙ doesnt)))
        ]
  ]

  pub effects_same : (a : Area) (es : List Written) (t u : Tree) → SameOn p t u → SameDirs b t u
      → SameOn p (in_turn (effect_in a) es t) (in_turn (effect_in a) es u)
  effects_same a [] t u same dirs = same
  effects_same a (e ∷ es) t u same dirs =
      effects_same a es _ _ (effect_same a e t u same dirs) (λ q is. effect_dirs a e t q ∙ dirs q is ∙ sym (effect_dirs a e u q))

-- a child that may change nothing changes nothing
effects_nothing : (es : List Written) (t : Tree) → in_turn (effect_in Nothing) es t ≡ t
effects_nothing [] t = refl
effects_nothing (e ∷ es) t = effects_nothing es t

pub run_nothing : (f : Script) (r : Roots) (c : Request) (t : Tree) → c.area ≡ Nothing → run_request f r c t ≡ t
run_nothing f r c t none = elim (cases_Bool (is_dir (node_at t c.dir))) [
  | inl dir ↦
      ap (λ b. cond b (in_turn (effect_in c.area) (writes f c (view_of r c t)) t) t) dir
      ∙ ap (λ a. in_turn (effect_in a) (writes f c (view_of r c t)) t) none ∙ effects_nothing (writes f c (view_of r c t)) t
  | inr isnt ↦ ap (λ b. cond b (in_turn (effect_in c.area) (writes f c (view_of r c t)) t) t) isnt
]

-- what a child leaves
effect_softly : (ps : List Path) (a : Area) → ((q : Path) → reaches a q ≡ true → is_listed q ps ≡ true) → (e : Written) (t : Tree)
    → IsSoftly ps t (effect_in a e t)
unfolding can_leave
effect_softly ps a within e t q = elim (cases_Bool (can_leave a e t)) [
  | inr cant ↦ inl (ap (λ v. node_at v q) (effect_not a e t cant))
  | inl can ↦ elim (same_or_not q e.0) [
    | inr other ↦ inl (effect_other a e t q other)
    | inl same ↦
        let front = and_parts _ _ (and_parts _ _ can).0 in
        let rest = and_parts _ _ (and_parts _ _ can).1 in
        inr (
          within q (ap (reaches a) same ∙ front.0),
          ap (λ x. is_dir (node_at t x)) same
              ∙ not_so _ rest.0,
          ap is_dir
              (ap (λ v. node_at v q) (effect_does a e t can) ∙ ap (node_at (edited e.0 e.1 t)) same ∙ edited-here e.0 e.1 t)
              ∙ not_so _ front.1,
        )
  ]
]

effects_softly : (ps : List Path) (a : Area) → ((q : Path) → reaches a q ≡ true → is_listed q ps ≡ true) → (es : List Written) (t : Tree)
    → IsSoftly ps t (in_turn (effect_in a) es t)
effects_softly ps a within [] t = softly_same ps t
effects_softly ps a within (e ∷ es) t =
    softly_more ps t (effect_in a e t) _ (effect_softly ps a within e t) (effects_softly ps a within es (effect_in a e t))

run_softly : (ps : List Path) (f : Script) (r : Roots) (c : Request) → ((q : Path) → reaches c.area q ≡ true → is_listed q ps ≡ true)
    → (t : Tree) → IsSoftly ps t (run_request f r c t)
run_softly ps f r c within t = elim (cases_Bool (is_dir (node_at t c.dir))) [
  | inl dir ↦
      subst (λ b. IsSoftly ps t (cond b (in_turn (effect_in c.area) (writes f c (view_of r c t)) t) t)) (sym dir)
      (effects_softly ps c.area within (writes f c (view_of r c t)) t)
  | inr other ↦
      subst (λ b. IsSoftly ps t (cond b (in_turn (effect_in c.area) (writes f c (view_of r c t)) t) t)) (sym other) (softly_same ps t)
]

pub runs_softly : (ps : List Path) (f : Script) (r : Roots) (cs : List Request)
    → ((c : Request) → IsMember c cs → (q : Path) → reaches c.area q ≡ true → is_listed q ps ≡ true) → (t : Tree)
    → IsSoftly ps t (in_turn (run_request f r) cs t)
runs_softly ps f r [] within t = softly_same ps t
runs_softly ps f r (c ∷ cs) within t =
    softly_more ps t (run_request f r c t) _ (run_softly ps f r c (within c (inl refl)) t)
    (runs_softly ps f r cs (λ d h. within d (inr h)) (run_request f r c t))

-- a child leaves a tree whole
effect_whole : (a : Area) (e : Written) (t : Tree) → IsWhole t → IsWhole (effect_in a e t)
unfolding can_leave
effect_whole a e t whole q stands = elim (cases_Bool (can_leave a e t)) [
  | inr cant ↦
      ap (λ v. node_at v (parent q)) (effect_not a e t cant)
      ∙ whole q (ap (λ v. is_some (node_at v q)) (sym (effect_not a e t cant)) ∙ stands)
  | inl can ↦
      let rest = and_parts _ _ (and_parts _ _ can).1 in
      let no_dir : is_dir (node_at t e.0) ≡ false = not_so _ rest.0 in
      let keeps : (x : Path) → node_at t x ≡ Some node.Dir → node_at (effect_in a e t) x ≡ Some node.Dir =
      λ x dir. effect_other a e t x (λ same. true≢false (ap is_dir (sym dir) ∙ ap (λ y. is_dir (node_at t y)) same ∙ no_dir)) ∙ dir in
      elim (same_or_not q e.0) [
        | inl here ↦ ap (λ y. node_at (effect_in a e t) (parent y)) here ∙ keeps (parent e.0) (dir_is _ rest.1)
        | inr other ↦ keeps (parent q) (whole q (ap is_some (sym (effect_other a e t q other)) ∙ stands))
      ]
]

pub effects_whole : (a : Area) (es : List Written) (t : Tree) → IsWhole t → IsWhole (in_turn (effect_in a) es t)
effects_whole a [] t whole = whole
effects_whole a (e ∷ es) t whole = effects_whole a es (effect_in a e t) (effect_whole a e t whole)

pub run_whole : (f : Script) (r : Roots) (c : Request) (t : Tree) → IsWhole t → IsWhole (run_request f r c t)
run_whole f r c t whole = elim (cases_Bool (is_dir (node_at t c.dir))) [
  | inl dir ↦
      subst (λ b. IsWhole (cond b (in_turn (effect_in c.area) (writes f c (view_of r c t)) t) t)) (sym dir)
      (effects_whole c.area (writes f c (view_of r c t)) t whole)
  | inr other ↦ subst (λ b. IsWhole (cond b (in_turn (effect_in c.area) (writes f c (view_of r c t)) t) t)) (sym other) whole
]

-- ---- as the world has it: edits of the area, where they can be made

is_no_dir : Option Edit → Bool
is_no_dir None = true
is_no_dir (Some edit) = not (is_dir edit.at)

copied_no_dir : (o : Option Node) (to : Path) → is_no_dir (copied o to) ≡ true
unfolding is_no_dir
copied_no_dir (Some (node.File bytes exec)) to = refl
copied_no_dir (Some node.Dir) to = refl
copied_no_dir (Some (node.Link text)) to = refl
copied_no_dir None to = refl

edit_no_dir : (view : Tree) (e : Effect) → is_no_dir (edit_of view e) ≡ true
unfolding is_no_dir
edit_no_dir view (effects.Write path bytes exec) = refl
edit_no_dir view (effects.Copy from to) = copied_no_dir (node_at view from) to
edit_no_dir view (effects.Remove path) = refl

regroup : (u n p : Bool) → ((u && n) && p) ≡ ((u && true) && (n && p))
regroup true n p = refl
regroup false n p = refl

regroup_twice : (u n p : Bool) → (((u && n) && n) && p) ≡ ((u && true) && (n && p))
regroup_twice true true p = refl
regroup_twice true false p = refl
regroup_twice false n p = refl

can_same : (a : Area) (t : Tree) (path : Path) (x : Bool) → x ≡ true
    → can_edit a t path ≡ ((reaches a path && x) && (not (is_dir (node_at t path)) && is_dir (node_at t (parent path))))
can_same Nothing t path x e = refl
can_same (Under directory) t path x e =
    regroup _ (not (is_dir (node_at t path))) _
    ∙ ap (λ y. (reaches (Under directory) path && y) && (not (is_dir (node_at t path)) && is_dir (node_at t (parent path)))) (sym e)
can_same (Names directory names) t path x e =
    regroup_twice (is_named directory names path) (not (is_dir (node_at t path))) _
    ∙ ap (λ y. (is_named directory names path && y) && (not (is_dir (node_at t path)) && is_dir (node_at t (parent path)))) (sym e)

edit_then : (a : Area) (o : Option Edit) (more : List Written) (t : Tree) → is_no_dir o ≡ true
    → in_turn (effect_in a) more (with_edit a t o) ≡ in_turn (effect_in a) (cons_option (written o) more) t
unfolding is_no_dir
edit_then a None more t h = refl
edit_then a (Some edit) more t h =
    ap (λ b. in_turn (effect_in a) more (cond b (edited edit.path edit.at t) t)) (can_same a t edit.path (not (is_dir edit.at)) h)

pub edits_are : (a : Area) (view : Tree) (es : List Effect) (t : Tree)
    → after_edits a t (map (edit_of view) es) ≡ in_turn (effect_in a) (all_written view es) t
edits_are a view [] t = refl
edits_are a view (e ∷ es) t =
    edits_are a view es (with_edit a t (edit_of view e)) ∙ edit_then a (edit_of view e) (all_written view es) t (edit_no_dir view e)

pub run_is : (f : Script) (r : Roots) (c : Request) (t : Tree) → do_change r f (Run c) t ≡ run_request f r c t
unfolding tree_after
run_is f r c t = ap (λ u. cond (is_dir (node_at t c.dir)) u t) (edits_are c.area (view_of r c t) (answer f c (view_of r c t)).effects t)
