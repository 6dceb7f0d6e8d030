-- Nobody looks at the journal: trees that are alike but there stay alike but there.
use Rattle.std.proofs.Common.{◌≡◌, ◌⊎◌, inl, inr, Bool, true, false, not, cond, List, [], ◌∷◌, codes, refl, sym, ap, ◌∙◌, subst}
use Rattle.std.proofs.lemmas.Bool.{cases_Bool, true≢false, or_left, false_from_ne_true}
use Rattle.kb_world.specs.Path.{Path, parent, child}
use Rattle.kb_world.specs.Public.{staging_path}
use Rattle.kb_world.specs.Script.{Script, answer}
use Rattle.kb_world.specs.Tree.{Tree, node_at, is_dir}
use Rattle.kb_world.specs.View.{view_of}
use Rattle.kb_world.specs.declared.child.Request.{Request}
use Rattle.kb_world.specs.declared.roots.Roots.{Roots}
use Rattle.kb_changes.specs.Change.{root_path}
use Rattle.kb_again.proofs.Ends.{in_turn, is_under_one, IsMember}
use Rattle.kb_again.proofs.Facts.{untouched, AreRoots, is_open, staged_at, StagedPut, Lists, groups_of, changed_paths, IsValidUnder}
use Rattle.kb_again.proofs.FrontLaws.{listed_left}
use Rattle.kb_again.proofs.Kept.{SameOn, SameDirs, IsWhole, IsHidden}
use Rattle.kb_again.proofs.KeptLaws.{kept_same, one_above, parent_under}
use Rattle.kb_again.proofs.Parts.{groups_done}
use Rattle.kb_again.proofs.PathLaws.{is_over, is_above, is_listed, over_itself, over_cases, above_over}
use Rattle.kb_again.proofs.RootLaws.{above_child, over_or_above, inside, inside_some, private_entry, not_at_root, not_open, staging_kept_out, untouched_private}
use Rattle.kb_again.proofs.RunLaws.{base_open, seen_open}
use Rattle.kb_again.proofs.Steps.{writes, effect_in, run_request, after_all, run_replies, runs_made}
use Rattle.kb_again.proofs.ValidLaws.{below_root, groups_valid, staged_under, move_from, in_first_changed, in_dirs_changed, in_second_changed}
use Rattle.kb_again.proofs.WriteLaws.{view_alike, run_dirs, runs_dirs, effects_same, run_nothing}

-- neither the journal, nor where it is written first, nor what is staged
abbrev pub is_plain : Roots → Path → Bool
is_plain r q = not (is_under_one (untouched r) q)

not_shown : (r : Roots) (q : Path) → is_under_one (untouched r) q ≡ true → is_plain r q ≡ true → ⊥
not_shown r q out shown = true≢false (sym shown ∙ ap not out)

shown_from : (r : Roots) (q : Path) → (is_under_one (untouched r) q ≡ true → ⊥) → is_plain r q ≡ true
shown_from r q h = ap not (false_from_ne_true _ h)

hidden_is : (r : Roots) (q : Path) → is_plain r q ≡ false → is_under_one (untouched r) q ≡ true
hidden_is r q h = by (is_under_one (untouched r) q) refl
  where
    by : (b : Bool) → is_under_one (untouched r) q ≡ b → is_under_one (untouched r) q ≡ true
    by true e = e
    by false e = absurd (true≢false (sym (ap not e) ∙ h))

abbrev nowhere : Path → Bool
nowhere q = false

shown_up : (r : Roots) (q : Path) → is_plain r q ≡ true → (is_plain r (parent q) ≡ true) ⊎ (nowhere (parent q) ≡ true)
shown_up r q shown = inl (shown_from r (parent q) (λ out. not_shown r q (one_above (untouched r) (parent q) q (parent_under q) out) shown))

open_shown : (r : Roots) (q : Path) → is_open r q ≡ true → is_plain r q ≡ true
open_shown r q open_at = shown_from r q (λ out. not_open r q (or_left _ _ (untouched_private r q out)) open_at)

module _ (r : Roots) (s : Lists) (roots : AreRoots r) (valid : IsValidUnder r s) where
  cleared_listed : (q : Path) → (is_listed q s.first ≡ true) ⊎ (is_listed q s.second ≡ true) → is_listed q (changed_paths s) ≡ true
  cleared_listed q (inl h) = in_first_changed r s roots valid q h
  cleared_listed q (inr h) = in_second_changed r s roots valid q h

  shown_within : (q x : Path) → (is_listed q s.first ≡ true) ⊎ (is_listed q s.second ≡ true) → is_plain r q ≡ true → is_above q x ≡ true
      → is_plain r x ≡ false
      → (is_under_one s.wipes x ≡ true) ⊎ ((y : Path) × (is_above q y ≡ true) × (is_above y x ≡ true) × (is_plain r y ≡ true))
  shown_within q x listed shown below hidden =
      let w = inside_some (untouched r) x (hidden_is r x hidden) in
      let f = private_entry r w.0 (listed_left w.0 (untouched r) (child r.boot (codes ".kb-plugins") ∷ []) w.1) in
      let at_head : is_over w.0 q ≡ true → ⊥ =
      λ h. not_shown r q (one_above (untouched r) w.0 q h (inside (untouched r) w.0 w.0 w.1 (over_itself w.0))) shown in
      absurd (elim (over_or_above q w.0 x (above_over q x below) w.2) [
        | inr above ↦ at_head (above_over w.0 q above)
        | inl q_under ↦ elim (over_cases q w.0 q_under) [
          | inl same ↦ at_head (subst (λ y. is_over w.0 y ≡ true) (sym same) (over_itself w.0))
          | inr further ↦
              not_at_root r roots q f.0 (below_root r s roots valid q (cleared_listed q listed)) f.2
              (above_child q f.0 f.1 (subst (λ y. is_above q y ≡ true) f.3 further))
        ]
      ])

  shown_hidden : IsHidden (is_plain r) nowhere (groups_of r s)
  shown_hidden = record {
    above = shown_up r;
    spared = λ q h no. true≢false (sym no);
    staged = λ m h shown.
        let w = move_from r s roots valid s.puts m h in
        not_shown r m.0
        (wiped_staged w.0 m.0
        (subst (λ k. is_over (staging_path (root_path r w.0.root)) k ≡ true) (sym (ap (λ k. k.0) w.2))
        (staged_under r s roots valid w.0))) shown;
    within = shown_within;
  }
    where
      wiped_staged : (c : StagedPut) (q : Path) → is_over (staging_path (root_path r c.root)) q ≡ true → is_under_one (untouched r) q ≡ true
      wiped_staged c q under = inside (untouched r) (staging_path (root_path r c.root)) q (staging_kept_out r c.root) under

  run_alike : (f : Script) (c : Request) (t u : Tree) → IsMember c s.runs → SameOn (is_plain r) t u
      → SameOn (is_plain r) (run_request f r c t) (run_request f r c u)
  run_alike f c t u in_it same = elim (valid.runs c in_it) [
    | inl none ↦
        λ q is. ap (λ v. node_at v q) (run_nothing f r c t none) ∙ same q is ∙ sym (ap (λ v. node_at v q) (run_nothing f r c u none))
    | inr index ↦ λ q is.
        let at_base : is_plain r c.dir ≡ true = ap (is_plain r) index.1.dir ∙ open_shown r r.base (base_open r roots) in
        let dirs : is_dir (node_at t c.dir) ≡ is_dir (node_at u c.dir) = ap is_dir (same c.dir at_base) in
        elim (cases_Bool (is_dir (node_at t c.dir))) [
          | inl dir ↦
              ap (λ b. node_at (cond b (in_turn (effect_in c.area) (writes f c (view_of r c t)) t) t) q) dir
              ∙ effects_same (is_plain r) nowhere (shown_up r) c.area (writes f c (view_of r c t)) t u same
              (λ x no. absurd (true≢false (sym no))) q is
              ∙ ap (λ w. node_at (in_turn (effect_in c.area) (writes f c w) u) q)
              (view_alike (is_plain r) r c t u (λ x seen. open_shown r x (seen_open r s roots valid c in_it x seen)) same)
              ∙ sym (ap (λ b. node_at (cond b (in_turn (effect_in c.area) (writes f c (view_of r c u)) u) u) q) (sym dirs ∙ dir))
          | inr isnt ↦
              ap (λ b. node_at (cond b (in_turn (effect_in c.area) (writes f c (view_of r c t)) t) t) q) isnt
              ∙ same q is
              ∙ sym (ap (λ b. node_at (cond b (in_turn (effect_in c.area) (writes f c (view_of r c u)) u) u) q) (sym dirs ∙ isnt))
        ]
  ]

  runs_alike : (f : Script) (cs : List Request) (t u : Tree) → ((c : Request) → IsMember c cs → IsMember c s.runs) → SameOn (is_plain r) t u
      → SameOn (is_plain r) (in_turn (run_request f r) cs t) (in_turn (run_request f r) cs u)
  runs_alike f [] t u all same = same
  runs_alike f (c ∷ cs) t u all same = runs_alike f cs _ _ (λ d h. all d (inr h)) (run_alike f c t u (all c (inl refl)) same)

pub unseen : (f : Script) (r : Roots) (s : Lists) (t u : Tree) → AreRoots r → IsValidUnder r s → IsWhole t → IsWhole u
    → SameOn (is_plain r) t u
    → ((c : StagedPut) → IsMember c s.puts → node_at u (staged_at r c) ≡ node_at t (staged_at r c)) → SameOn (is_plain r)
    (after_all f r s t) (after_all f r s u)
unseen f r s t u roots valid whole whole_u same staged =
    let groups =
    kept_same (is_plain r) nowhere (groups_of r s) t u (groups_valid r s roots valid) (shown_hidden r s roots valid) whole whole_u
    (λ q is. inl (sym (same q is))) (λ q no. absurd (true≢false (sym no)))
    (λ m h is. let w = move_from r s roots valid s.puts m h in inl
    (subst (λ k. node_at u k.0 ≡ node_at t k.0) (sym w.2) (staged w.0 w.1))) in
    runs_alike r s roots valid f s.runs _ _ (λ c h. h) groups.0

-- ---- what the runs answer

module _ (r : Roots) (s : Lists) (roots : AreRoots r) (valid : IsValidUnder r s) where
  abbrev out : Path → Bool
  out q = not (is_plain r q)

  out_kept : (q : Path) → out q ≡ true → is_under_one (untouched r) q ≡ true
  out_kept q h = hidden_is r q (turned (is_plain r q) h)
    where
      turned : (b : Bool) → not b ≡ true → b ≡ false
      turned true e = absurd (true≢false (sym e))
      turned false e = refl

  all_hidden : IsHidden (is_plain r) out (groups_of r s)
  all_hidden =
      let h = shown_hidden r s roots valid in
      record {
        above = λ q shown. elim (shown_up r q shown) [ inl up ↦ inl up | inr none ↦ absurd (true≢false (sym none)) ];
        spared = λ q listed is. elim listed [
          | inl gone ↦ valid.not_inside q (cleared_listed r s roots valid q gone) (out_kept q is)
          | inr made ↦ valid.not_inside q (in_dirs_changed r s roots valid q made) (out_kept q is)
        ];
        staged = h.staged;
        within = h.within;
      }

  abbrev Alike : Tree → Tree → Type 0
  Alike t u = SameOn (is_plain r) t u × SameDirs out t u

  dir_alike : (t u : Tree) → Alike t u → (q : Path) → is_dir (node_at t q) ≡ is_dir (node_at u q)
  dir_alike t u same q = elim (cases_Bool (is_plain r q)) [
    | inl shown ↦ ap is_dir (same.0 q shown)
    | inr hidden ↦ same.1 q (ap not hidden)
  ]

  seen_alike : (c : Request) (f : Script) (t u : Tree) → IsMember c s.runs → Alike t u
      → answer f c (view_of r c t) ≡ answer f c (view_of r c u)
  seen_alike c f t u h same =
      ap (answer f c) (view_alike (is_plain r) r c t u (λ x seen. open_shown r x (seen_open r s roots valid c h x seen)) same.0)

  next_alike : (f : Script) (c : Request) (t u : Tree) → IsMember c s.runs → Alike t u → Alike (run_request f r c t) (run_request f r c u)
  next_alike f c t u h same =
      (run_alike r s roots valid f c t u h same.0, λ q is. run_dirs f r c t q ∙ same.1 q is ∙ sym (run_dirs f r c u q))

  replies_alike : (f : Script) (cs : List Request) (t u : Tree) → ((c : Request) → IsMember c cs → IsMember c s.runs) → Alike t u
      → (run_replies f r cs t ≡ run_replies f r cs u) × (runs_made f r cs t ≡ runs_made f r cs u)
  replies_alike f [] t u all same = (refl, refl)
  replies_alike f (c ∷ cs) t u all same =
      let rest =
      replies_alike f cs (run_request f r c t) (run_request f r c u) (λ d h. all d (inr h))
      (next_alike f c t u (all c (inl refl)) same) in
      let dirs = dir_alike t u same c.dir in (
        (λ i. cond (dirs i) ((seen_alike c f t u (all c (inl refl)) same i).reply ∷ rest.0 i) (rest.0 i)),
        (λ i. cond (dirs i) (c ∷ rest.1 i) (rest.1 i)),
      )

-- all the same, and what the runs answer
pub record AreSeenAlike (f : Script) (r : Roots) (s : Lists) (t u : Tree) : Type 0 where
  pub same : SameOn (is_plain r) (after_all f r s t) (after_all f r s u)
  pub dirs : SameDirs (λ q. not (is_plain r q)) (after_all f r s t) (after_all f r s u)
  pub replies : run_replies f r s.runs (groups_done (groups_of r s) t) ≡ run_replies f r s.runs (groups_done (groups_of r s) u)
  pub made : runs_made f r s.runs (groups_done (groups_of r s) t) ≡ runs_made f r s.runs (groups_done (groups_of r s) u)

pub seen_alike_all : (f : Script) (r : Roots) (s : Lists) (t u : Tree) → AreRoots r → IsValidUnder r s → IsWhole t → IsWhole u
    → SameOn (is_plain r) t u → SameDirs (λ q. not (is_plain r q)) t u
    → ((c : StagedPut) → IsMember c s.puts → node_at u (staged_at r c) ≡ node_at t (staged_at r c)) → AreSeenAlike f r s t u
seen_alike_all f r s t u roots valid whole whole_u same dirs staged =
    let groups =
    kept_same (is_plain r) (out r s roots valid) (groups_of r s) t u (groups_valid r s roots valid)
    (all_hidden r s roots valid) whole whole_u (λ q is. inl (sym (same q is))) dirs
    (λ m h is. let w = move_from r s roots valid s.puts m h in inl
    (subst (λ k. node_at u k.0 ≡ node_at t k.0) (sym w.2) (staged w.0 w.1))) in
    let all = replies_alike r s roots valid f s.runs _ _ (λ c h. h) groups in
    record {
      same = unseen f r s t u roots valid whole whole_u same staged;
      dirs =
          λ q is. runs_dirs f r s.runs (groups_done (groups_of r s) t) q ∙ groups.1 q is
          ∙ sym (runs_dirs f r s.runs (groups_done (groups_of r s) u) q);
      replies = all.0;
      made = all.1;
    }
