-- The journal stays as it is while the changes are done.
use Rattle.std.proofs.Common.{◌≡◌, inl, inr, true, false, not, cond, ◌&&◌, ◌||◌, List, [], ◌∷◌, ◌++◌, map, codes, refl, sym, ap, ◌∙◌, subst}
use Rattle.std.specs.Fmt.{decimal}
use Rattle.std.specs.List.{AllByRecursion}
use Rattle.std.proofs.lemmas.Bool.{cases_Bool, true≢false}
use Rattle.kb_world.specs.Path.{Path, parent}
use Rattle.kb_world.specs.Public.{intent_path, staging_path}
use Rattle.kb_world.specs.Script.{Script}
use Rattle.kb_world.specs.Tree.{Tree, node_at, is_dir, edited}
use Rattle.kb_world.specs.View.{view_of}
use Rattle.kb_world.specs.declared.child.Area.{Area}
use Rattle.kb_world.specs.declared.roots.Roots.{Roots}
use Rattle.kb_changes.specs.Change.{root_path}
use Rattle.kb_changes.specs.Valid.{new_intent_path}
use Rattle.kb_changes.specs.declared.change.RootName.TheVariants as root_name
use Rattle.kb_again.specs.Sparing.{reaches}
use Rattle.kb_again.proofs.Ends.{in_turn, IsMember}
use Rattle.kb_again.specs.Within.{staging_paths}
use Rattle.kb_again.proofs.Facts.{all_roots, untouched, staged_at, StagedPut, Lists, targets, groups_of, changed_paths, AreRoots, IsValidUnder}
use Rattle.kb_again.proofs.Flat.{Act, to_drop, to_wipe, to_drop_dir, to_make, to_put, do_act, put_of, acts_of}
use Rattle.kb_again.proofs.FrontLaws.{listed_left, listed_right}
use Rattle.kb_again.proofs.GroupLaws.{drop_each, drop_dir_cases, make_dir_cases, wiped}
use Rattle.kb_again.proofs.MoveLaws.{move_cases}
use Rattle.kb_again.proofs.PathLaws.{is_over, is_above, is_listed, over_itself, over_cases, above_over_above, listed_first, listed_more}
use Rattle.kb_again.proofs.RootLaws.{at_0, above_child, child_above, inside, disjoint_below, not_at_root, is_root}
use Rattle.kb_again.proofs.RunLaws.{area_dropped}
use Rattle.kb_again.proofs.Steps.{Written, writes, effect_in, Step, act, run, do_step, do_steps, steps_of}
use Rattle.kb_again.proofs.ValidLaws.{below_root, in_first_changed, in_dirs_changed, in_second_changed, target_changed, staged_under, move_from}
use Rattle.kb_again.proofs.WriteLaws.{effect_other}

-- a step that leaves what stands at a path
MissesBy : Path → Act → Type 0
MissesBy j (to_drop p) = j ≡ p → ⊥
MissesBy j (to_wipe p) = is_over p j ≡ true → ⊥
MissesBy j (to_drop_dir p) = j ≡ p → ⊥
MissesBy j (to_make p) = j ≡ p → ⊥
MissesBy j (to_put staged target) = (j ≡ staged → ⊥) × (j ≡ target → ⊥)

Misses : Path → Step → Type 0
Misses j (act c) = MissesBy j c
Misses j (run c) = (q : Path) → reaches c.area q ≡ true → j ≡ q → ⊥

change_misses : (j : Path) (c : Act) (t : Tree) → MissesBy j c → node_at (do_act c t) j ≡ node_at t j
unfolding MissesBy
change_misses j (to_drop p) t miss = elim (drop_each p t j) [ inl kept ↦ kept | inr gone ↦ absurd (miss gone.0) ]
change_misses j (to_wipe p) t miss = elim ((wiped (p ∷ []) t).each j) [
  | inl kept ↦ kept
  | inr gone ↦ absurd (elim (cases_Bool (is_over p j)) [ inl is ↦ miss is | inr out ↦ true≢false (sym gone.0 ∙ ap (λ b. b || false) out) ])
]
change_misses j (to_drop_dir p) t miss =
    elim (drop_dir_cases p t) [ inl takes ↦ takes.others j miss | inr leaves ↦ ap (λ v. node_at v j) leaves.same ]
change_misses j (to_make p) t miss =
    elim (make_dir_cases p t) [ inl adds ↦ adds.others j miss | inr lacks ↦ ap (λ v. node_at v j) lacks.same ]
change_misses j (to_put staged target) t miss =
    elim (move_cases (staged, target) t) [ inl moves ↦ moves.others j miss.0 miss.1 | inr stays ↦ ap (λ v. node_at v j) stays.same ]

effects_miss : (j : Path) (a : Area) → ((q : Path) → reaches a q ≡ true → j ≡ q → ⊥) → (es : List Written) (t : Tree)
    → node_at (in_turn (effect_in a) es t) j ≡ node_at t j
effects_miss j a miss [] t = refl
effects_miss j a miss (e ∷ es) t = effects_miss j a miss es (effect_in a e t) ∙ elim (cases_Bool (reaches a e.0)) [
  | inl is ↦ effect_other a e t j (miss e.0 is)
  | inr out ↦
      ap (λ b. node_at (cond ((b && not (is_dir e.1)) && (not (is_dir (node_at t e.0)) && is_dir (node_at t (parent e.0))))
      (edited e.0 e.1 t) t) j) out
]

step_misses : (j : Path) (f : Script) (r : Roots) (x : Step) (t : Tree) → Misses j x → node_at (do_step f r x t) j ≡ node_at t j
unfolding Misses
step_misses j f r (act c) t miss = change_misses j c t miss
step_misses j f r (run c) t miss = elim (cases_Bool (is_dir (node_at t c.dir))) [
  | inl dir ↦
      ap (λ b. node_at (cond b (in_turn (effect_in c.area) (writes f c (view_of r c t)) t) t) j) dir
      ∙ effects_miss j c.area miss (writes f c (view_of r c t)) t
  | inr other ↦ ap (λ b. node_at (cond b (in_turn (effect_in c.area) (writes f c (view_of r c t)) t) t) j) other
]

steps_miss : (j : Path) (f : Script) (r : Roots) (front back : List Step) (t : Tree) → AllByRecursion (Misses j) (front ++ back)
    → node_at (do_steps f r front t) j ≡ node_at t j
steps_miss j f r [] back t all = refl
steps_miss j f r (x ∷ front) back t all = steps_miss j f r front back (do_step f r x t) all.1 ∙ step_misses j f r x t all.0

all_append : {A : Type 0} (P : A → Type 0) (xs ys : List A) → AllByRecursion P xs → AllByRecursion P ys → AllByRecursion P (xs ++ ys)
all_append P [] ys a b = b
all_append P (x ∷ xs) ys a b = (a.0, all_append P xs ys a.1 b)

pub all_map : {A B : Type 0} (P : B → Type 0) (h : A → B) (xs : List A) → ((x : A) → IsMember x xs → P (h x)) → AllByRecursion P (map h xs)
all_map P h [] each = tt
all_map P h (x ∷ xs) each = (each x (inl refl), all_map P h xs (λ y in_it. each y (inr in_it)))

all_mapped : {A B : Type 0} (P : B → Type 0) (h : A → B) (xs : List A) → AllByRecursion (λ x. P (h x)) xs → AllByRecursion P (map h xs)
all_mapped P h [] all = tt
all_mapped P h (x ∷ xs) all = (all.0, all_mapped P h xs all.1)

listed : (p : Path) (ps : List Path) → IsMember p ps → is_listed p ps ≡ true
listed p [] h = absurd h
listed p (q ∷ ps) (inl same) = listed_first p q ps same
listed p (q ∷ ps) (inr later) = listed_more p q ps (listed p ps later)

module _ (r : Roots) (s : Lists) (roots : AreRoots r) (valid : IsValidUnder r s) where
  -- no changed path is at or above the journal
  not_changed : (q : Path) → is_listed q (changed_paths s) ≡ true → is_over q (intent_path r) ≡ true → ⊥
  not_changed q changed under =
      elim (over_cases q (intent_path r) under) [
        | inl same ↦
            valid.not_inside q changed
            (inside (untouched r) (intent_path r) q (at_0 (intent_path r) (new_intent_path r ∷ staging_paths r))
            (subst (λ x. is_over (intent_path r) x ≡ true) (sym same) (over_itself (intent_path r))))
        | inr above ↦
            not_at_root r roots q r.dkms (below_root r s roots valid q changed) (is_root r root_name.Dkms)
            (above_child q r.dkms (codes ".intent") above)
      ]

  not_same : (q : Path) → is_listed q (changed_paths s) ≡ true → intent_path r ≡ q → ⊥
  not_same q changed same = not_changed q changed (subst (λ x. is_over x (intent_path r) ≡ true) same (over_itself (intent_path r)))

  drop_changed : (q : Path) → is_listed q s.drops ≡ true → is_listed q (changed_paths s) ≡ true
  drop_changed q h = listed_left q s.drops (s.wipes ++ (s.first ++ (s.dirs ++ (targets s ++ s.second)))) h

  wipe_changed : (q : Path) → is_listed q s.wipes ≡ true → is_listed q (changed_paths s) ≡ true
  wipe_changed q h =
      listed_right q s.drops (s.wipes ++ (s.first ++ (s.dirs ++ (targets s ++ s.second))))
      (listed_left q s.wipes (s.first ++ (s.dirs ++ (targets s ++ s.second))) h)

  not_its_staged : (c : StagedPut) → intent_path r ≡ staged_at r c → ⊥
  not_its_staged c same =
      -- else the root would be above the dkms root
      let under : is_over (staging_path (root_path r c.root)) (intent_path r) ≡ true =
      subst (λ x. is_over (staging_path (root_path r c.root)) x ≡ true) (sym same) (staged_under r s roots valid c) in
      let below : is_above (root_path r c.root) r.dkms ≡ true =
      above_over_above (root_path r c.root) (staging_path (root_path r c.root)) r.dkms
      (child_above (root_path r c.root) (codes ".kb-staged"))
      (above_child (staging_path (root_path r c.root)) r.dkms (codes ".intent")
      (subst (λ x. is_above (staging_path (root_path r c.root)) x ≡ true) (sym same)
      (child_above (staging_path (root_path r c.root)) (decimal c.number)))) in
      disjoint_below (all_roots r) roots.disjoint (root_path r c.root) r.dkms (is_root r c.root) (is_root r root_name.Dkms) below

  all_miss : AllByRecursion (Misses (intent_path r)) (steps_of r s)
  unfolding MissesBy Misses
  all_miss =
      let j = intent_path r in
      let g = groups_of r s in
      let l5 = map to_drop_dir s.second in
      let l4 = map put_of g.puts ++ l5 in
      let l3 = map to_make s.dirs ++ l4 in
      let l2 = map to_drop_dir s.first ++ l3 in
      let l1 = map to_wipe s.wipes ++ l2 in
      let a5 : AllByRecursion (MissesBy j) l5 =
      all_map (MissesBy j) to_drop_dir s.second (λ p h. not_same p (in_second_changed r s roots valid p (listed p s.second h))) in
      let a4 : AllByRecursion (MissesBy j) l4 =
      all_append (MissesBy j) (map put_of g.puts) l5
      (all_map (MissesBy j) put_of g.puts
      (λ m h. let w = move_from r s roots valid s.puts m h in (
        (λ e. not_its_staged w.0 (e ∙ ap (λ k. k.0) w.2)),
        (λ e. not_same w.0.target (target_changed r s roots valid w.0 w.1) (e ∙ ap (λ k. k.1) w.2)),
      ))) a5 in
      let a3 : AllByRecursion (MissesBy j) l3 =
      all_append (MissesBy j) (map to_make s.dirs) l4
      (all_map (MissesBy j) to_make s.dirs (λ p h. not_same p (in_dirs_changed r s roots valid p (listed p s.dirs h)))) a4 in
      let a2 : AllByRecursion (MissesBy j) l2 =
      all_append (MissesBy j) (map to_drop_dir s.first) l3
      (all_map (MissesBy j) to_drop_dir s.first (λ p h. not_same p (in_first_changed r s roots valid p (listed p s.first h)))) a3 in
      let a1 : AllByRecursion (MissesBy j) l1 =
      all_append (MissesBy j) (map to_wipe s.wipes) l2
      (all_map (MissesBy j) to_wipe s.wipes (λ p h. not_changed p (wipe_changed p (listed p s.wipes h)))) a2 in
      let a0 : AllByRecursion (MissesBy j) (acts_of g) =
      all_append (MissesBy j) (map to_drop s.drops) l1
      (all_map (MissesBy j) to_drop s.drops (λ p h. not_same p (drop_changed p (listed p s.drops h)))) a1 in
      all_append (Misses j) (map act (acts_of g)) (map run s.runs) (all_mapped (Misses j) act (acts_of g) a0)
      (all_map (Misses j) run s.runs (λ c h q is. not_same q (drop_changed q (area_dropped r s roots valid c h q is))))

-- no step changes what stands at the journal's path
pub journal_stays : (f : Script) (r : Roots) (s : Lists) (front back : List Step) (t : Tree) → AreRoots r → IsValidUnder r s
    → front ++ back ≡ steps_of r s
    → node_at (do_steps f r front t) (intent_path r) ≡ node_at t (intent_path r)
journal_stays f r s front back t roots valid e =
    steps_miss (intent_path r) f r front back t (subst (AllByRecursion (Misses (intent_path r))) (sym e) (all_miss r s roots valid))
