-- What is left while the steps are done, and while what is staged goes, ends alike.
use Rattle.std.proofs.Common.{◌≡◌, ◌⊎◌, inl, inr, true, false, not, ◌||◌, List, [], ◌∷◌, ◌++◌, map, take, codes, Option, None, refl, sym, ap, ◌∙◌, subst, append_assoc}
use Rattle.std.specs.Prelude.{bytes_eq}
use Rattle.std.specs.List.{list_any, AllByRecursion}
use Rattle.std.proofs.lemmas.List.{append-nil}
use Rattle.std.proofs.lemmas.Bool.{true≢false, and_parts, and_from, or_cases, or_left, or_right}
use Rattle.kb_world.specs.Area.{lets_differ}
use Rattle.kb_world.specs.Path.{Path, child}
use Rattle.kb_world.specs.Public.{intent_path, private_places, public_tree}
use Rattle.kb_world.specs.Script.{Script}
use Rattle.kb_world.specs.Tree.{Tree, node_at, is_dir}
use Rattle.kb_world.specs.declared.child.Area.{Area}
use Rattle.kb_world.specs.declared.child.Area.TheVariants.{Nothing, Under, Names}
use Rattle.kb_world.specs.declared.child.Request.{Request}
use Rattle.kb_world.specs.declared.roots.Roots.{Roots}
use Rattle.kb_world.specs.declared.tree.Node.{Node}
use Rattle.kb_changes.specs.Valid.{new_intent_path}
use Rattle.kb_changes.specs.declared.change.RootName.TheVariants as root_name
use Rattle.kb_again.specs.Sparing.{IsSparing}
use Rattle.kb_again.proofs.Ends.{is_under_one, IsMember}
use Rattle.kb_again.specs.Within.{staging_paths}
use Rattle.kb_again.proofs.Facts.{all_roots, is_kept, is_beside, staged_at, AreRoots, Lists, groups_of, IsValidUnder}
use Rattle.kb_again.proofs.Flat.{Act, to_drop, to_wipe, to_drop_dir, to_make, to_put, do_act, do_acts, acts_of}
use Rattle.kb_again.proofs.FrontLaws.{in_turn-append}
use Rattle.kb_again.proofs.JournalLaws.{journal_stays}
use Rattle.kb_again.proofs.Kept.{IsWhole}
use Rattle.kb_again.proofs.PathLaws.{is_over, is_above, is_listed, over_over, over_cases, above_over, above_over_above, not_so}
use Rattle.kb_again.proofs.PublicLaws.{turn_map, steps_all, public_left}
use Rattle.kb_again.proofs.RootLaws.{above_child, child_above, same_front, same_last, inside_some, not_open, above_some, private_entry, disjoint_below, is_root, untouched_private}
use Rattle.kb_again.proofs.Soft.{IsLeftIn, run_areas, IsFit, IsSoftBehind}
use Rattle.kb_again.proofs.SoftLaws.{soft_behind, initrd_open}
use Rattle.kb_again.proofs.Steps.{after_runs, IsBehind, among_groups, among_runs, Step, act, run, do_step, do_steps, steps_of, IsCut}
use Rattle.kb_again.proofs.ValidLaws.{groups_valid}
use Rattle.kb_again.proofs.WithinLaws.{within_is_part}

-- ---- where the next step stands in the list

no_change : (front back : List Step) (c : Act) (rs : List Request) → front ++ act c ∷ back ≡ map run rs → ⊥
no_change [] back c [] e = absurd (cc)
no_change [] back c (x ∷ rs) e = absurd (cc)
no_change (x ∷ front) back c [] e = absurd (cc)
no_change (x ∷ front) back c (y ∷ rs) e = let tail : front ++ act c ∷ back ≡ map run rs = cc in no_change front back c rs tail

next_change : (front back : List Step) (c : Act) (cs : List Act) (rs : List Request) → front ++ act c ∷ back ≡ map act cs ++ map run rs
    → (taken : List Act) × (left : List Act) × (front ≡ map act taken) × (taken ++ c ∷ left ≡ cs)
next_change front back c [] rs e = absurd (no_change front back c rs e)
next_change [] back c (d ∷ cs) rs e = let head : c ≡ d = cc in ([], cs, refl, λ i. head i ∷ cs)
next_change (x ∷ front) back c (d ∷ cs) rs e =
    let head : x ≡ act d = cc in
    let tail : front ++ act c ∷ back ≡ map act cs ++ map run rs = cc in
    let w = next_change front back c cs rs tail in
    (d ∷ w.0, w.1, (λ i. head i ∷ w.2 i), ap (λ l. d ∷ l) w.3)

next_run : (front back : List Step) (c : Request) (cs : List Act) (rs : List Request) → front ++ run c ∷ back ≡ map act cs ++ map run rs
    → (taken : List Request) × (left : List Request) × (front ≡ map act cs ++ map run taken) × (taken ++ c ∷ left ≡ rs)
next_run [] back c [] [] e = absurd (cc)
next_run [] back c [] (x ∷ rs) e = let head : c ≡ x = cc in ([], rs, refl, λ i. head i ∷ rs)
next_run [] back c (d ∷ cs) rs e = absurd (cc)
next_run (x ∷ front) back c [] [] e = absurd (cc)
next_run (x ∷ front) back c [] (y ∷ rs) e =
    let head : x ≡ run y = cc in
    let tail : front ++ run c ∷ back ≡ map run rs = cc in
    let w = next_run front back c [] rs tail in
    (y ∷ w.0, w.1, (λ i. head i ∷ w.2 i), ap (λ l. y ∷ l) w.3)
next_run (x ∷ front) back c (d ∷ cs) rs e =
    let head : x ≡ act d = cc in
    let tail : front ++ run c ∷ back ≡ map act cs ++ map run rs = cc in
    let w = next_run front back c cs rs tail in
    (w.0, w.1, (λ i. head i ∷ w.2 i), w.3)

-- within the first of the steps that are left, or behind them all
abbrev pub IsCutNext : List Step → Tree → Tree → Type 0
IsCutNext [] w v = v ≡ w
IsCutNext (act c ∷ back) w v = IsCut c w v
IsCutNext (run c ∷ back) w v = IsLeftIn (c.area ∷ []) w v

-- ---- the runs among the steps are the intent's

abbrev pub areas_in : List Step → List Area
areas_in [] = []
areas_in (act c ∷ xs) = areas_in xs
areas_in (run c ∷ xs) = c.area ∷ areas_in xs

member_run : (c : Request) (cs : List Act) (rs : List Request) → IsMember (run c) (map act cs ++ map run rs) → IsMember c rs
member_run c [] [] h = absurd h
member_run c [] (x ∷ rs) (inl same) = let is : c ≡ x = cc in inl is
member_run c [] (x ∷ rs) (inr later) = inr (member_run c [] rs later)
member_run c (d ∷ cs) rs (inl same) = absurd (cc)
member_run c (d ∷ cs) rs (inr later) = member_run c cs rs later

member_front : (x : Step) (xs ys : List Step) → IsMember x xs → IsMember x (xs ++ ys)
member_front x [] ys h = absurd h
member_front x (y ∷ xs) ys (inl same) = inl same
member_front x (y ∷ xs) ys (inr later) = inr (member_front x xs ys later)

areas_fit : (r : Roots) (runs : List Request) (xs : List Step) → ((c : Request) → IsMember (run c) xs → IsMember c runs)
    → AllByRecursion (IsFit r runs) (areas_in xs)
areas_fit r runs [] each = tt
areas_fit r runs (act c ∷ xs) each = areas_fit r runs xs (λ d h. each d (inr h))
areas_fit r runs (run c ∷ xs) each = (inr (c, each c (inl refl), refl), areas_fit r runs xs (λ d h. each d (inr h)))

spares_fit : (r : Roots) (runs : List Request) (areas soft : List Area) → AllByRecursion (IsFit r runs) areas
    → AllByRecursion (IsSparing r (run_areas runs)) soft → AllByRecursion (IsFit r runs) (areas ++ soft)
spares_fit r runs [] [] fit spares = tt
spares_fit r runs [] (a ∷ soft) fit spares = (inl spares.0, spares_fit r runs [] soft fit spares.1)
spares_fit r runs (a ∷ areas) soft fit spares = (fit.0, spares_fit r runs areas soft fit.1 spares)

-- ---- what two crashes leave, one after another

retarget : (soft : List Area) (q : Path) (was other left : Option Node) → list_any (λ a. lets_differ a q was left) soft ≡ true
    → (list_any (λ a. lets_differ a q other left) soft ≡ true) ⊎ (is_dir left ≡ false)
retarget [] q was other left h = absurd (true≢false (sym h))
retarget (a ∷ soft) q was other left h = elim (or_cases _ _ h) [
  | inl here ↦ one a here
  | inr later ↦ elim (retarget soft q was other left later) [ inl there ↦ inl (or_right _ _ there) | inr file ↦ inr file ]
]
  where
    one : (a : Area) → lets_differ a q was left ≡ true
        → ((lets_differ a q other left || list_any (λ a. lets_differ a q other left) soft) ≡ true) ⊎ (is_dir left ≡ false)
    one Nothing h = absurd (true≢false (sym h))
    one (Under p) h = inl (or_left _ _ h)
    one (Names p ns) h = inr (not_so _ (and_parts _ _ h).1)

lets_file : (a : Area) (q : Path) (was mid left : Option Node) → lets_differ a q was mid ≡ true → is_dir left ≡ false
    → lets_differ a q was left ≡ true
lets_file Nothing q was mid left h file = h
lets_file (Under p) q was mid left h file = h
lets_file (Names p ns) q was mid left h file = and_from _ _ (and_parts _ _ h).0 (ap not file)

left_then : (a : Area) (soft : List Area) (w v u : Tree) → IsLeftIn (a ∷ []) w v → IsLeftIn soft v u → IsLeftIn (a ∷ soft) w u
left_then a soft w v u one two q = elim (two q) [
  | inl same ↦ elim (one q) [
    | inl was ↦ inl (same ∙ was)
    | inr lets ↦ inr (or_left _ _ (ap (lets_differ a q (node_at w q)) same ∙ alone lets))
  ]
  | inr more ↦ elim (one q) [
    | inl was ↦ inr (or_right _ _ (ap (λ o. list_any (λ b. lets_differ b q o (node_at u q)) soft) (sym was) ∙ more))
    | inr lets ↦ elim (retarget soft q (node_at v q) (node_at w q) (node_at u q) more) [
      | inl there ↦ inr (or_right _ _ there)
      | inr file ↦ inr (or_left _ _ (lets_file a q (node_at w q) (node_at v q) (node_at u q) (alone lets) file))
    ]
  ]
]
  where
    alone : (lets_differ a q (node_at w q) (node_at v q) || false) ≡ true → lets_differ a q (node_at w q) (node_at v q) ≡ true
    alone h = elim (or_cases _ _ h) [ inl is ↦ is | inr none ↦ absurd (true≢false (sym none)) ]

-- doing all steps gives the same public tree from both, and the journal stands in both as in one
pub record EndsAlike (f : Script) (r : Roots) (s : Lists) (t u : Tree) : Type 0 where
  pub public : public_tree r (do_steps f r (steps_of r s) u) ≡ public_tree r (do_steps f r (steps_of r s) t)
  pub journal : node_at u (intent_path r) ≡ node_at t (intent_path r)

module _ (f : Script) (r : Roots) (s : Lists) (soft : List Area) (t u : Tree) (roots : AreRoots r) (valid : IsValidUnder r s)
    (whole : IsWhole t)
    (spares : AllByRecursion (IsSparing r (run_areas s.runs)) soft) (whole_u : IsWhole u) where
  fits : (xs ys : List Step) → xs ++ ys ≡ steps_of r s → AllByRecursion (IsFit r s.runs) (areas_in xs ++ soft)
  fits xs ys e =
      spares_fit r s.runs (areas_in xs) soft
      (areas_fit r s.runs xs
      (λ c h. member_run c (acts_of (groups_of r s)) s.runs (subst (IsMember (run c)) e (member_front (run c) xs ys h)))) spares

  ends_alike : node_at u (intent_path r) ≡ node_at t (intent_path r) → IsBehind f r s t u → EndsAlike f r s t u
  ends_alike journal left = record { public = public_left f r s t u roots valid whole whole_u left; journal = journal }

  -- behind some runs
  behind_runs : (taken left : List Request) (areas : List Area) → taken ++ left ≡ s.runs → AllByRecursion (IsFit r s.runs) areas
      → IsLeftIn areas (after_runs f r s taken t) u
      → EndsAlike f r s t u
  behind_runs taken left areas e fit l =
      let b : IsSoftBehind r s (after_runs f r s taken t) u = soft_behind r s areas (after_runs f r s taken t) u roots valid fit l in
      let ran : node_at (after_runs f r s taken t) (intent_path r) ≡ node_at t (intent_path r) =
      ap (λ v. node_at v (intent_path r)) (sym (steps_all f r s taken t))
      ∙ journal_stays f r s (map act (acts_of (groups_of r s)) ++ map run taken) (map run left) t roots valid
      (append_assoc (map act (acts_of (groups_of r s))) (map run taken) (map run left)
      ∙ ap (λ l. map act (acts_of (groups_of r s)) ++ l) (sym (map_append run taken left) ∙ ap (map run) e)) in
      ends_alike (b.journal ∙ ran) (among_runs taken left e b.kept b.dirs (λ c h. inl (b.staged c h)))
    where
      map_append : {A B : Type 0} (h : A → B) (xs ys : List A) → map h (xs ++ ys) ≡ map h xs ++ map h ys
      map_append h [] ys = refl
      map_append h (x ∷ xs) ys = ap (λ l. h x ∷ l) (map_append h xs ys)

  -- within a change
  within_change : (front back : List Step) (c : Act) (v : Tree) (areas : List Area) → front ++ act c ∷ back ≡ steps_of r s → IsWhole v
      → IsCut c (do_steps f r front t) v
      → AllByRecursion (IsFit r s.runs) areas → IsLeftIn areas v u → EndsAlike f r s t u
  within_change front back c v areas e whole_v within fit l =
      let w = next_change front back c (acts_of (groups_of r s)) s.runs e in
      let is : do_steps f r front t ≡ do_acts w.0 t = ap (λ xs. do_steps f r xs t) w.2 ∙ turn_map act (do_step f r) w.0 t in
      let b : IsSoftBehind r s v u = soft_behind r s areas v u roots valid fit l in
      let before : node_at (do_steps f r front t) (intent_path r) ≡ node_at t (intent_path r) =
      journal_stays f r s front (act c ∷ back) t roots valid e in
      let after : node_at (do_act c (do_steps f r front t)) (intent_path r) ≡ node_at t (intent_path r) =
      ap (λ x. node_at x (intent_path r)) (sym (in_turn-append (do_step f r) front (act c ∷ []) t))
      ∙ journal_stays f r s (front ++ act c ∷ []) back t roots valid (append_assoc front (act c ∷ []) back ∙ e) in
      ends_alike (b.journal ∙ at_journal c within before after)
      (among_groups v (within_is_part (groups_of r s) w.0 w.1 c t v (groups_valid r s roots valid) w.3
      (subst (λ x. IsCut c x v) is within)) whole_v b.kept b.dirs b.staged)
    where
      at_journal : (c : Act) → IsCut c (do_steps f r front t) v → node_at (do_steps f r front t) (intent_path r) ≡ node_at t (intent_path r)
          → node_at (do_act c (do_steps f r front t)) (intent_path r) ≡ node_at t (intent_path r)
          → node_at v (intent_path r) ≡ node_at t (intent_path r)
      at_journal (to_drop p) (inl x) before after = ap (λ y. node_at y (intent_path r)) x ∙ before
      at_journal (to_drop p) (inr x) before after = ap (λ y. node_at y (intent_path r)) x ∙ after
      at_journal (to_wipe p) between before after = elim (between (intent_path r)) [ inl x ↦ x ∙ before | inr x ↦ x ∙ after ]
      at_journal (to_drop_dir p) (inl x) before after = ap (λ y. node_at y (intent_path r)) x ∙ before
      at_journal (to_drop_dir p) (inr x) before after = ap (λ y. node_at y (intent_path r)) x ∙ after
      at_journal (to_make p) (inl x) before after = ap (λ y. node_at y (intent_path r)) x ∙ before
      at_journal (to_make p) (inr x) before after = ap (λ y. node_at y (intent_path r)) x ∙ after
      at_journal (to_put staged target) (inl x) before after = ap (λ y. node_at y (intent_path r)) x ∙ before
      at_journal (to_put staged target) (inr x) before after = ap (λ y. node_at y (intent_path r)) x ∙ after

  pub by_back : (front back : List Step) (v : Tree) → front ++ back ≡ steps_of r s → IsWhole v → IsCutNext back (do_steps f r front t) v
      → IsLeftIn (areas_in (front ++ take 1 back) ++ soft) v u
      → EndsAlike f r s t u
  by_back front [] v e whole_v within l =
      let all : front ≡ steps_of r s = sym (append-nil front) ∙ e in
      let is : v ≡ after_runs f r s s.runs t = within ∙ ap (λ xs. do_steps f r xs t) all ∙ steps_all f r s s.runs t in
      behind_runs s.runs [] (areas_in (front ++ []) ++ soft) (append-nil s.runs) (fits (front ++ []) [] (append-nil (front ++ []) ∙ e))
      (subst (λ x. IsLeftIn (areas_in (front ++ []) ++ soft) x u) is l)
  by_back front (act c ∷ back) v e whole_v within l =
      within_change front back c v (areas_in (front ++ act c ∷ []) ++ soft) e whole_v within
      (fits (front ++ act c ∷ []) back (append_assoc front (act c ∷ []) back ∙ e)) l
  by_back front (run c ∷ back) v e whole_v within l =
      let w = next_run front back c (acts_of (groups_of r s)) s.runs e in
      let is : do_steps f r front t ≡ after_runs f r s w.0 t = ap (λ xs. do_steps f r xs t) w.2 ∙ steps_all f r s w.0 t in
      let areas = areas_in (front ++ run c ∷ []) ++ soft in
      let here : IsMember c s.runs = subst (IsMember c) w.3 (member_mid w.0 w.1) in
      behind_runs w.0 (c ∷ w.1) (c.area ∷ areas) w.3
      (inr (c, here, refl), fits (front ++ run c ∷ []) back (append_assoc front (run c ∷ []) back ∙ e))
      (left_then c.area areas (after_runs f r s w.0 t) v u (subst (λ x. IsLeftIn (c.area ∷ []) x v) is within) l)
    where
      member_mid : (xs ys : List Request) → IsMember c (xs ++ c ∷ ys)
      member_mid [] ys = inl refl
      member_mid (x ∷ xs) ys = inr (member_mid xs ys)

-- ---- once all steps are done, what is staged may go

staging_private : (r : Roots) (q : Path) → is_under_one (staging_paths r) q ≡ true → is_under_one (private_places r) q ≡ true
staging_private r q h = untouched_private r q (or_right (is_over (intent_path r) q) _ (or_right (is_over (new_intent_path r) q) _ h))

-- what is staged is neither kept nor beside, and the journal isn't staged
not_kept : (r : Roots) (q : Path) → is_under_one (staging_paths r) q ≡ true → is_kept r q ≡ true → ⊥
not_kept r q h kept = not_open r q (or_left _ _ (staging_private r q h)) (and_parts _ _ (and_parts _ _ kept).1).0

not_beside_staged : (r : Roots) → AreRoots r → (q : Path) → is_under_one (staging_paths r) q ≡ true → is_beside r q ≡ true → ⊥
not_beside_staged r roots q h beside = elim (or_cases _ _ beside) [
  | inl initrd ↦ not_open r q (or_left _ _ (staging_private r q h)) (initrd_open r roots q initrd)
  | inr above ↦
      let x = above_some r q above in
      let w = inside_some (private_places r) q (staging_private r q h) in
      let f = private_entry r w.0 w.1 in
      disjoint_below (all_roots r) roots.disjoint f.0 x.0 f.2 x.1
      (above_over_above f.0 w.0 x.0 (subst (λ y. is_above f.0 y ≡ true) (sym f.3) (child_above f.0 f.1))
      (over_over w.0 q x.0 w.2 (above_over q x.0 x.2)))
]

pub staging_keeps : (f : Script) (r : Roots) (s : Lists) (soft : List Area) (t v u : Tree) → AreRoots r → IsValidUnder r s → IsWhole t
    → AllByRecursion (IsSparing r (run_areas s.runs)) soft
    → ((q : Path) → (node_at v q ≡ node_at (do_steps f r (steps_of r s) t) q) ⊎
    ((is_under_one (staging_paths r) q ≡ true) × (node_at v q ≡ None)))
    → IsLeftIn soft v u → IsWhole u → EndsAlike f r s t u
staging_keeps f r s soft t v u roots valid whole spares unstaged left whole_u =
    let w = after_runs f r s s.runs t in
    let done_is : do_steps f r (steps_of r s) t ≡ w = steps_all f r s s.runs t in
    let gone : (q : Path) → (node_at v q ≡ node_at w q) ⊎ ((is_under_one (staging_paths r) q ≡ true) × (node_at v q ≡ None)) =
    λ q. subst (λ x. (node_at v q ≡ node_at x q) ⊎ ((is_under_one (staging_paths r) q ≡ true) × (node_at v q ≡ None))) done_is
    (unstaged q) in
    let b : IsSoftBehind r s v u = soft_behind r s soft v u roots valid (spares_fit r s.runs [] soft tt spares) left in
    let at_journal : node_at v (intent_path r) ≡ node_at t (intent_path r) = elim (unstaged (intent_path r)) [
      | inl same ↦ same ∙ journal_stays f r s (steps_of r s) [] t roots valid (append-nil (steps_of r s))
      | inr staged ↦ absurd (not_staged_journal r roots staged.0)
    ] in
    ends_alike f r s soft t u roots valid whole spares whole_u (b.journal ∙ at_journal)
    (among_runs s.runs [] (append-nil s.runs)
    (λ q kept. elim (gone q) [
      | inl same ↦
          elim (b.kept q kept) [
            | inl now ↦ inl (now ∙ same)
            | inr soft_at ↦ inr (soft_at.0, ap is_dir (sym same) ∙ soft_at.1, soft_at.2)
          ]
      | inr staged ↦ absurd (not_kept r q staged.0 kept)
    ])
    (λ q beside. elim (gone q) [
      | inl same ↦ ap is_dir (sym same) ∙ b.dirs q beside
      | inr staged ↦ absurd (not_beside_staged r roots q staged.0 beside)
    ])
    (λ c h. elim (gone (staged_at r c)) [
      | inl same ↦ inl (b.staged c h ∙ same)
      | inr staged ↦ inr (b.staged c h ∙ staged.1)
    ]))
  where
    not_staged_journal : (r : Roots) → AreRoots r → is_under_one (staging_paths r) (intent_path r) ≡ true → ⊥
    not_staged_journal r roots h = elim (or_cases _ _ h) [
      | inl d ↦ one r.dkms (is_root r root_name.Dkms) d
      | inr h1 ↦ elim (or_cases _ _ h1) [
        | inl k ↦ one r.src (is_root r root_name.Src) k
        | inr h2 ↦ elim (or_cases _ _ h2) [
          | inl l ↦ one r.modules (is_root r root_name.Modules) l
          | inr h3 ↦ elim (or_cases _ _ h3) [
            | inl b ↦ one r.boot (is_root r root_name.Boot) b
            | inr none ↦ true≢false (sym none)
          ]
        ]
      ]
    ]
      where
        names_differ : codes ".kb-staged" ≡ codes ".intent" → ⊥
        names_differ e = true≢false (ap (bytes_eq (codes ".kb-staged")) e)

        one : (x : Path) → is_listed x (all_roots r) ≡ true → is_over (child x (codes ".kb-staged")) (intent_path r) ≡ true → ⊥
        one x is under = elim (over_cases (child x (codes ".kb-staged")) (intent_path r) under) [
          | inl same ↦
              let roots_same : x ≡ r.dkms = same_front x r.dkms (codes ".kb-staged") (codes ".intent") same in
              names_differ (same_last x (codes ".kb-staged") (codes ".intent")
              (same ∙ ap (λ p. child p (codes ".intent")) (sym roots_same)))
          | inr below ↦
              disjoint_below (all_roots r) roots.disjoint x r.dkms is (is_root r root_name.Dkms)
              (above_over_above x (child x (codes ".kb-staged")) r.dkms (child_above x (codes ".kb-staged"))
              (above_child (child x (codes ".kb-staged")) r.dkms (codes ".intent") below))
        ]
