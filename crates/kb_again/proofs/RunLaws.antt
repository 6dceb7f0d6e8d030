-- Runs after the other changes: they see what is kept, and leave files and links at paths that are dropped.
use Rattle.std.proofs.Common.{◌≡◌, ◌⊎◌, inl, inr, ℕ, true, not, cond, List, [], ◌∷◌, ◌++◌, refl, sym, ap, ◌∙◌, subst, Option, Some, None}
use Rattle.std.specs.Prelude.{bytes_eq}
use Rattle.std.specs.List.{list_any}
use Rattle.std.proofs.lemmas.Bool.{cases_Bool, true≢false, and_parts, and_from, or_cases, or_left, or_right, false_from_ne_true}
use Rattle.kb_world.specs.Area.{is_named, is_among}
use Rattle.kb_world.specs.Path.{Path, parent, child}
use Rattle.kb_world.specs.Public.{private_places}
use Rattle.kb_world.specs.Script.{Script}
use Rattle.kb_world.specs.Tree.{Tree, node_at, is_dir, name_in}
use Rattle.kb_world.specs.View.{index_names, is_own, sees, view_of}
use Rattle.kb_world.specs.declared.child.Area.TheVariants.{Nothing}
use Rattle.kb_world.specs.declared.child.Request.{Request}
use Rattle.kb_world.specs.declared.roots.Roots.{Roots}
use Rattle.kb_changes.specs.declared.change.RootName.TheVariants as root_name
use Rattle.kb_again.specs.Sparing.{reaches}
use Rattle.kb_again.proofs.Ends.{in_turn, is_under_one, IsMember}
use Rattle.kb_again.proofs.Facts.{all_roots, AreRoots, is_open, is_beside, is_kept, build_at, staged_at, Lists, groups_of, IsValidUnder}
use Rattle.kb_again.proofs.FrontLaws.{listed_left}
use Rattle.kb_again.proofs.Kept.{SameOn, SameDirs, IsWhole}
use Rattle.kb_again.proofs.KeptLaws.{kept_again, kept_after}
use Rattle.kb_again.proofs.Parts.{groups_done}
use Rattle.kb_again.proofs.PathLaws.{is_over, is_above, is_listed, same_bytes, over_over, over_above, above_over, above_over_above, not_above_itself}
use Rattle.kb_again.proofs.PlaceLaws.{entry_is, initrd_child, build_parts}
use Rattle.kb_again.proofs.RootLaws.{above_child, child_above, inside_some, private_entry, disjoint_below, is_root, open_from, base_above, modules_boot}
use Rattle.kb_again.proofs.Steps.{writes, effect_in, run_request, after_runs, after_all, IsBehind, among_groups, among_runs}
use Rattle.kb_again.proofs.ValidLaws.{move_from, no_staged, groups_valid, groups_hidden}
use Rattle.kb_again.proofs.WriteLaws.{IsSoftly, view_same, run_dirs, runs_dirs, effects_same, run_nothing, runs_softly}

-- the base is open
pub base_open : (r : Roots) → AreRoots r → is_open r r.base ≡ true
base_open r roots =
    let above_dkms : is_above r.base r.dkms ≡ true = base_above r roots in
    open_from r r.base (λ priv. elim (or_cases _ _ priv) [
      | inl head ↦
          let w = inside_some (private_places r) r.base head in
          let x = private_entry r w.0 w.1 in
          let x_above : is_above x.0 w.0 ≡ true = subst (λ h. is_above x.0 h ≡ true) (sym x.3) (child_above x.0 x.1) in
          disjoint_below (all_roots r) roots.disjoint x.0 r.dkms x.2 (is_root r root_name.Dkms)
          (over_above x.0 r.base r.dkms (above_over x.0 r.base (above_over_above x.0 w.0 r.base x_above w.2)) above_dkms)
      | inr build ↦
          let w = build_parts r r.base build in
          let one = child r.dkms w.0 in
          let two = child one w.1 in
          let up : is_over r.dkms (build_at r w.0 w.1) ≡ true =
          over_over r.dkms two (build_at r w.0 w.1)
          (over_over r.dkms one two (above_over r.dkms one (child_above r.dkms w.0)) (above_over one two (child_above one w.1)))
          (above_over two (build_at r w.0 w.1) (child_above two _)) in
          not_above_itself r.dkms (over_above r.dkms r.base r.dkms (over_over r.dkms (build_at r w.0 w.1) r.base up w.3) above_dkms)
    ])

pub record SeesKept (r : Roots) (c : Request) : Type 0 where
  pub dir : is_beside r c.dir ≡ true
  pub sees_it : (q : Path) → sees r c q ≡ true → is_kept r q ≡ true

run_same : (f : Script) (r : Roots) (c : Request) (t u : Tree)
    → ((q : Path) → is_kept r q ≡ true → (is_kept r (parent q) ≡ true) ⊎ (is_beside r (parent q) ≡ true))
    → (c.area ≡ Nothing) ⊎ SeesKept r c → SameOn (is_kept r) t u → SameDirs (is_beside r) t u
    → SameOn (is_kept r) (run_request f r c t) (run_request f r c u)
run_same f r c t u above (inl none) same dirs_in q is =
    ap (λ v. node_at v q) (run_nothing f r c t none) ∙ same q is ∙ sym (ap (λ v. node_at v q) (run_nothing f r c u none))
run_same f r c t u above (inr ok) same dirs_in q is =
    let dirs : is_dir (node_at t c.dir) ≡ is_dir (node_at u c.dir) = dirs_in c.dir ok.dir in
    elim (cases_Bool (is_dir (node_at t c.dir))) [
      | inl dir ↦
          ap (λ b. node_at (cond b (in_turn (effect_in c.area) (writes f c (view_of r c t)) t) t) q) dir
          ∙ effects_same (is_kept r) (is_beside r) above c.area (writes f c (view_of r c t)) t u same dirs_in q is
          ∙ ap (λ w. node_at (in_turn (effect_in c.area) (writes f c w) u) q) (view_same r c t u ok.sees_it same)
          ∙ sym (ap (λ b. node_at (cond b (in_turn (effect_in c.area) (writes f c (view_of r c u)) u) u) q) (sym dirs ∙ dir))
      | inr isnt ↦
          ap (λ b. node_at (cond b (in_turn (effect_in c.area) (writes f c (view_of r c t)) t) t) q) isnt
          ∙ same q is
          ∙ sym (ap (λ b. node_at (cond b (in_turn (effect_in c.area) (writes f c (view_of r c u)) u) u) q) (sym dirs ∙ isnt))
    ]

abbrev AreOpenRuns : Roots → List Request → Type 0
AreOpenRuns r cs = (c : Request) → IsMember c cs → (c.area ≡ Nothing) ⊎ SeesKept r c

runs_same : (f : Script) (r : Roots) (cs : List Request) (t u : Tree)
    → ((q : Path) → is_kept r q ≡ true → (is_kept r (parent q) ≡ true) ⊎ (is_beside r (parent q) ≡ true)) → AreOpenRuns r cs
    → SameOn (is_kept r) t u → SameDirs (is_beside r) t u
    → SameOn (is_kept r) (in_turn (run_request f r) cs t) (in_turn (run_request f r) cs u)
runs_same f r [] t u above dirs same dirs_in = same
runs_same f r (c ∷ cs) t u above dirs same dirs_in =
    runs_same f r cs _ _ above (λ d h. dirs d (inr h)) (run_same f r c t u above (dirs c (inl refl)) same dirs_in)
    (λ q is. run_dirs f r c t q ∙ dirs_in q is ∙ sym (run_dirs f r c u q))

-- ---- entries with one of some names

pub member_name : (n : List ℕ) (ns : List (List ℕ)) → list_any (bytes_eq n) ns ≡ true → IsMember n ns
member_name n [] h = absurd (true≢false (sym h))
member_name n (m ∷ ns) h = elim (or_cases _ _ h) [ inl here ↦ inl (same_bytes n m here) | inr later ↦ inr (member_name n ns later) ]

pub named : (d : Path) (ns : List (List ℕ)) (q : Path) → is_named d ns q ≡ true → (n : List ℕ) × IsMember n ns × (q ≡ child d n)
named d ns q h = by (name_in d q) refl h
  where
    by : (o : Option (List ℕ)) → name_in d q ≡ o → is_among ns o ≡ true → (n : List ℕ) × IsMember n ns × (q ≡ child d n)
    by None e is = absurd (true≢false (sym is))
    by (Some n) e is = (n, member_name n ns is, entry_is d q n e)

member_left : {A : Type 0} (xs ys : List A) (x : A) → IsMember x xs → IsMember x (xs ++ ys)
member_left [] ys x h = absurd h
member_left (y ∷ xs) ys x (inl same) = inl same
member_left (y ∷ xs) ys x (inr later) = inr (member_left xs ys x later)

module _ (r : Roots) (s : Lists) (roots : AreRoots r) (valid : IsValidUnder r s) where
  pub area_dropped : (c : Request) → IsMember c s.runs → (q : Path) → reaches c.area q ≡ true → is_listed q s.drops ≡ true
  area_dropped c h q is = elim (valid.runs c h) [
    | inl none ↦ absurd (true≢false (sym is ∙ ap (λ a. reaches a q) none))
    | inr index ↦
        let w = named (child r.modules index.0) index_names q (ap (λ a. reaches a q) (sym index.1.area) ∙ is) in
        subst (λ x. is_listed x s.drops ≡ true) (sym w.2) (index.1.dropped w.0 w.1)
  ]

  base_beside : is_beside r r.base ≡ true
  base_beside = or_right _ _ (or_left _ _ (base_above r roots))

  kernel_kept : (k : List ℕ) (q : Path) → is_over (child r.modules k) q ≡ true → is_open r q ≡ true → is_kept r q ≡ true
  kernel_kept k q under open_at =
      and_from _ _ (or_right _ _
      (or_right _ _ (or_left _ _
      (over_over r.modules (child r.modules k) q
      (above_over r.modules (child r.modules k)
      (child_above r.modules k)) under)))) (and_from _ _ open_at (ap not (false_from_ne_true _ (λ is.
      let w = initrd_child r q is in
      let below : is_above r.modules (child r.boot w.0) ≡ true =
      subst (λ x. is_above r.modules x ≡ true) w.1 (above_over_above r.modules (child r.modules k) q (child_above r.modules k) under) in
      modules_boot r roots (above_child r.modules r.boot w.0 below)))))

  -- what a child sees isn't private, and a child that may change something sees the directory of a kernel
  seen_parts : (c : Request) → IsMember c s.runs → (q : Path) → sees r c q ≡ true → (is_under_one c.seen q ≡ true) × (is_open r q ≡ true)
  seen_parts c h q is = elim (or_cases (is_own c.area q) _ (and_parts _ _ is).0) [
    | inr seen ↦ (let both = and_parts _ _ seen in (both.0, both.1))
    | inl own ↦ absurd (elim (valid.runs c h) [
      | inl none ↦ true≢false (sym own ∙ ap (λ a. is_own a q) none)
      | inr index ↦ true≢false (sym own ∙ ap (λ a. is_own a q) index.1.area)
    ])
  ]

  pub seen_open : (c : Request) → IsMember c s.runs → (q : Path) → sees r c q ≡ true → is_open r q ≡ true
  seen_open c h q is = (seen_parts c h q is).1

  runs_open : AreOpenRuns r s.runs
  runs_open c h = elim (valid.runs c h) [
    | inl none ↦ inl none
    | inr index ↦ inr (record {
      dir = ap (is_beside r) index.1.dir ∙ base_beside;
      sees_it = λ q is.
          let parts = seen_parts c h q is in
          kernel_kept index.0 q
          (elim (or_cases _ _ (ap (λ l. is_under_one l q) (sym index.1.seen) ∙ parts.0)) [
            | inl under ↦ under
            | inr none ↦ absurd (true≢false (sym none))
          ]) parts.1;
    })
  ]

  all_same : (f : Script) (t u : Tree)
      → SameOn (is_kept r) (groups_done (groups_of r s) t) (groups_done (groups_of r s) u) × SameDirs (is_beside r)
      (groups_done (groups_of r s) t)
      (groups_done (groups_of r s) u)
      → SameOn (is_kept r) (after_all f r s t) (after_all f r s u) × SameDirs (is_beside r) (after_all f r s t) (after_all f r s u)
  all_same f t u same = (
    runs_same f r s.runs _ _ (groups_hidden r s roots valid).above runs_open same.0 same.1,
    λ q is. runs_dirs f r s.runs
        (groups_done (groups_of r s) t) q ∙ same.1 q is ∙ sym (runs_dirs f r s.runs (groups_done (groups_of r s) u) q),
  )

  pub left_same : (f : Script) (t u : Tree) → IsWhole t → IsWhole u → IsBehind f r s t u
      → SameOn (is_kept r) (after_all f r s t) (after_all f r s u) × SameDirs (is_beside r) (after_all f r s t) (after_all f r s u)
  left_same f t u whole whole_u (among_groups v part whole_v same dirs staged) =
      all_same f t u
      (kept_again (is_kept r) (is_beside r) (groups_of r s) t v u (groups_valid r s roots valid)
      (groups_hidden r s roots valid) part whole_v whole_u same dirs (λ m h is.
      let w = move_from r s roots valid s.puts m h in
      inl (subst (λ k. node_at u k.0 ≡ node_at v k.0) (sym w.2) (staged w.0 w.1))))
  left_same f t u whole whole_u (among_runs front back e soft dirs staged) =
      let ran : IsSoftly s.drops (groups_done (groups_of r s) t) (after_runs f r s front t) =
      runs_softly s.drops f r front (λ c h. area_dropped c (subst (IsMember c) e (member_left front back c h)))
      (groups_done (groups_of r s) t) in
      all_same f t u
      (kept_after (is_kept r) (is_beside r) (groups_of r s) t u (groups_valid r s roots valid)
      (groups_hidden r s roots valid) whole whole_u
      (λ q is. elim (soft q is) [
        | inl same ↦ elim (ran q) [ inl was ↦ inl (same ∙ was) | inr changed ↦ inr (changed.0, changed.1, ap is_dir same ∙ changed.2) ]
        | inr now ↦ elim (ran q) [ inl was ↦ inr (now.0, ap is_dir (sym was) ∙ now.1, now.2) | inr changed ↦ inr (now.0, changed.1, now.2) ]
      ])
      (λ q is. sym (runs_dirs f r front (groups_done (groups_of r s) t) q) ∙ dirs q is)
      (λ m h.
      let w = move_from r s roots valid s.puts m h in
      let at_place : (node_at u (staged_at r w.0) ≡ node_at (groups_done (groups_of r s) t) (staged_at r w.0)) ⊎
      (node_at u (staged_at r w.0) ≡ None) =
      elim (staged w.0 w.1) [
        | inr none ↦ inr none
        | inl same ↦ elim (ran (staged_at r w.0)) [
          | inl was ↦ inl (same ∙ was)
          | inr changed ↦ absurd (no_staged r s roots valid w.0 (staged_at r w.0) (listed_left (staged_at r w.0) s.drops _ changed.0) refl)
        ]
      ] in
      subst (λ k. (node_at u k.0 ≡ node_at (groups_done (groups_of r s) t) k.0) ⊎ (node_at u k.0 ≡ None)) (sym w.2) at_place))
