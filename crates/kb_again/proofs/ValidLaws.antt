-- Valid changes in the terms of their groups.
use Rattle.std.proofs.Common.{◌≡◌, ◌⊎◌, inl, inr, Bool, true, false, not, List, [], ◌∷◌, ◌++◌, map, codes, refl, sym, ap, ◌∙◌, subst, arith}
use Rattle.std.specs.Fmt.{decimal}
use Rattle.std.proofs.lemmas.Bool.{cases_Bool, true≢false, and_parts, and_from, or_cases, or_left, or_right, and_cases, false_from_ne_true}
use Rattle.kb_world.specs.Path.{Path, parent, child}
use Rattle.kb_world.specs.Public.{staging_path}
use Rattle.kb_world.specs.declared.roots.Roots.{Roots}
use Rattle.kb_changes.specs.Change.{root_path}
use Rattle.kb_changes.specs.Valid.{written_roots, is_initrd}
use Rattle.kb_changes.specs.declared.change.RootName.TheVariants as root_name
use Rattle.kb_again.proofs.Ends.{Move, is_under_one, IsMember, MovesApart}
use Rattle.kb_again.proofs.Facts.{all_roots, AreRoots, untouched, build_at, is_open, is_kept, is_beside, StagedPut, Lists, staged_at, move_of, groups_of, targets, changed_paths, AreDifferent, IsValidUnder}
use Rattle.kb_again.proofs.FrontLaws.{listed_left, listed_right}
use Rattle.kb_again.proofs.Kept.{IsHidden}
use Rattle.kb_again.proofs.KeptLaws.{one_above, parent_under}
use Rattle.kb_again.proofs.Parts.{IsValid}
use Rattle.kb_again.proofs.PathLaws.{is_over, is_above, is_listed, over_itself, above_over, over_cases, above_over_above, listed_first, listed_more, none_above_root}
use Rattle.kb_again.proofs.PlaceLaws.{initrd_child, build_parts, build_from}
use Rattle.kb_again.proofs.RootLaws.{above_child, child_above, over_or_above, length_over, length_child, inside, private_under, not_open, open_from, private_from, disjoint_below, IsBelowRoot, is_root, written_is_root, not_at_root, staging_kept_out, untouched_private, no_private, above_some, parent_written}

pub not_false : (b : Bool) → not b ≡ false → b ≡ true
not_false true e = refl
not_false false e = absurd (true≢false e)

-- members of the groups are changed paths
module _ (r : Roots) (s : Lists) (roots : AreRoots r) (valid : IsValidUnder r s) where
  pub below_root : (q : Path) → is_listed q (changed_paths s) ≡ true → IsBelowRoot r q
  below_root q changed = let w = valid.below_root q changed in (w.0, written_is_root r w.0 w.1, w.2)

  pub in_first_changed : (q : Path) → is_listed q s.first ≡ true → is_listed q (changed_paths s) ≡ true
  in_first_changed q h =
      listed_right q s.drops (s.wipes ++ (s.first ++ (s.dirs ++ ((targets s) ++ s.second))))
      (listed_right q s.wipes (s.first ++ (s.dirs ++ ((targets s) ++ s.second)))
      (listed_left q s.first (s.dirs ++ ((targets s) ++ s.second)) h))

  pub in_dirs_changed : (q : Path) → is_listed q s.dirs ≡ true → is_listed q (changed_paths s) ≡ true
  in_dirs_changed q h =
      listed_right q s.drops (s.wipes ++ (s.first ++ (s.dirs ++ ((targets s) ++ s.second))))
      (listed_right q s.wipes (s.first ++ (s.dirs ++ ((targets s) ++ s.second)))
      (listed_right q s.first (s.dirs ++ ((targets s) ++ s.second)) (listed_left q s.dirs ((targets s) ++ s.second) h)))

  pub in_second_changed : (q : Path) → is_listed q s.second ≡ true → is_listed q (changed_paths s) ≡ true
  in_second_changed q h =
      listed_right q s.drops (s.wipes ++ (s.first ++ (s.dirs ++ ((targets s) ++ s.second))))
      (listed_right q s.wipes (s.first ++ (s.dirs ++ ((targets s) ++ s.second)))
      (listed_right q s.first (s.dirs ++ ((targets s) ++ s.second))
      (listed_right q s.dirs ((targets s) ++ s.second) (listed_right q (targets s) s.second h))))

  has_target : (cs : List StagedPut) (c : StagedPut) → IsMember c cs → is_listed c.target (map (λ d. d.target) cs) ≡ true
  has_target [] c h = absurd h
  has_target (d ∷ cs) c (inl same) = listed_first c.target d.target (map (λ x. x.target) cs) (ap (λ x. x.target) same)
  has_target (d ∷ cs) c (inr later) = listed_more c.target d.target (map (λ x. x.target) cs) (has_target cs c later)

  pub target_changed : (c : StagedPut) → IsMember c s.puts → is_listed c.target (changed_paths s) ≡ true
  target_changed c h =
      listed_right c.target s.drops (s.wipes ++ (s.first ++ (s.dirs ++ ((targets s) ++ s.second))))
      (listed_right c.target s.wipes (s.first ++ (s.dirs ++ ((targets s) ++ s.second)))
      (listed_right c.target s.first (s.dirs ++ ((targets s) ++ s.second))
      (listed_right c.target s.dirs ((targets s) ++ s.second) (listed_left c.target (targets s) s.second (has_target s.puts c h)))))

  not_root : (ps : List Path) → ((q : Path) → is_listed q ps ≡ true → is_listed q (changed_paths s) ≡ true) → is_listed [] ps ≡ false
  not_root ps changed = false_from_ne_true _ (λ h. let w = below_root [] (changed [] h) in none_above_root w.0 w.2)

  -- nothing that is changed is staged
  pub not_staged : (q : Path) (c : StagedPut) → is_listed q (changed_paths s) ≡ true → is_over (staging_path (root_path r c.root)) q ≡ true
      → ⊥
  not_staged q c changed under =
      valid.not_inside q changed (inside (untouched r) (staging_path (root_path r c.root)) q (staging_kept_out r c.root) under)

  pub staged_under : (c : StagedPut) → is_over (staging_path (root_path r c.root)) (staged_at r c) ≡ true
  staged_under c =
      above_over (staging_path (root_path r c.root)) (staged_at r c) (child_above (staging_path (root_path r c.root)) (decimal c.number))

  pub no_staged : (c : StagedPut) (q : Path) → is_listed q (changed_paths s) ≡ true → staged_at r c ≡ q → ⊥
  no_staged c q changed same =
      not_staged q c changed (subst (λ x. is_over (staging_path (root_path r c.root)) x ≡ true) same (staged_under c))

  pub move_from : (cs : List StagedPut) (m : Move) → IsMember m (map (move_of r) cs) → (c : StagedPut) × IsMember c cs × (m ≡ move_of r c)
  move_from [] m h = absurd h
  move_from (c ∷ cs) m (inl same) = (c, inl refl, same)
  move_from (c ∷ cs) m (inr later) = let w = move_from cs m later in (w.0, inr w.1, w.2)

  different_two : (cs : List StagedPut) → AreDifferent r cs → (c d : StagedPut) → IsMember c cs → IsMember d cs
      → (c ≡ d) ⊎ ((c.target ≡ d.target → ⊥) × (staged_at r c ≡ staged_at r d → ⊥))
  different_two [] diff c d hc hd = absurd hc
  different_two (x ∷ cs) diff c d (inl c_is) (inl d_is) = inl (c_is ∙ sym d_is)
  different_two (x ∷ cs) diff c d (inl c_is) (inr d_later) =
      let w = diff.0 d d_later in inr ((λ e. w.0 (ap (λ y. y.target) (sym c_is) ∙ e)), (λ e. w.1 (ap (staged_at r) (sym c_is) ∙ e)))
  different_two (x ∷ cs) diff c d (inr c_later) (inl d_is) =
      let w = diff.0 c c_later in inr ((λ e. w.0 (ap (λ y. y.target) (sym d_is) ∙ sym e)), (λ e. w.1 (ap (staged_at r) (sym d_is) ∙ sym e)))
  different_two (x ∷ cs) diff c d (inr c_later) (inr d_later) = different_two cs diff.1 c d c_later d_later

  puts_apart : MovesApart (map (move_of r) s.puts)
  puts_apart = record {
    own = λ m h e.
        let w = move_from s.puts m h in
        no_staged w.0 w.0.target (target_changed w.0 w.1) (sym (ap (λ k. k.0) w.2) ∙ e ∙ ap (λ k. k.1) w.2);
    two = λ m n hm hn.
        let w = move_from s.puts m hm in
        let x = move_from s.puts n hn in
        elim (different_two s.puts valid.different w.0 x.0 w.1 x.1) [
          | inl one ↦ inl (w.2 ∙ ap (move_of r) one ∙ sym x.2)
          | inr two ↦ inr (record {
            sources = λ e. two.1 (sym (ap (λ k. k.0) w.2) ∙ e ∙ ap (λ k. k.0) x.2);
            source_target = λ e. no_staged w.0 x.0.target (target_changed x.0 x.1) (sym (ap (λ k. k.0) w.2) ∙ e ∙ ap (λ k. k.1) x.2);
            target_source = λ e. no_staged x.0 w.0.target (target_changed w.0 w.1) (sym (ap (λ k. k.0) x.2) ∙ sym e ∙ ap (λ k. k.1) w.2);
            targets = λ e. two.0 (sym (ap (λ k. k.1) w.2) ∙ e ∙ ap (λ k. k.1) x.2);
          })
        ];
  }

  not_above_staged : (c : StagedPut) (q : Path) → is_listed q (changed_paths s) ≡ true → is_over q (staged_at r c) ≡ true → ⊥
  not_above_staged c q changed under = elim (over_cases q (staged_at r c) under) [
    | inl same ↦ no_staged c q changed (sym same)
    | inr further ↦
        elim (over_cases q (staging_path (root_path r c.root))
        (above_child q (staging_path (root_path r c.root)) (decimal c.number) further)) [
          | inl same ↦
              not_staged q c changed
              (subst (λ x. is_over (staging_path (root_path r c.root)) x ≡ true) (sym same)
              (over_itself (staging_path (root_path r c.root))))
          | inr above ↦
              not_at_root r roots q (root_path r c.root) (below_root q changed) (is_root r c.root)
              (above_child q (root_path r c.root) (codes ".kb-staged") above)
        ]
  ]

  pub groups_valid : IsValid (groups_of r s)
  groups_valid = record {
    first_order = valid.first_order;
    second_order = valid.second_order;
    dirs_order = valid.dirs_order;
    first_root = not_root s.first in_first_changed;
    dirs_root = not_root s.dirs in_dirs_changed;
    apart = puts_apart;
    no_drop = λ m h e. let w = move_from s.puts m h in valid.target_not_dropped w.0 w.1 (subst (λ k. is_listed k.1 s.drops ≡ true) w.2 e);
    no_wipe = λ m h e. let w = move_from s.puts m h in valid.target_not_wiped w.0 w.1 (subst (λ k. is_under_one s.wipes k.1 ≡ true) w.2 e);
    no_second = λ m h e. let w = move_from s.puts m h in valid.target_not_second w.0 w.1 (subst (λ k. is_listed k.1 s.second ≡ true) w.2 e);
    wipes_no_dir = valid.dir_not_wiped;
    second_not_below = valid.second_not_below;
    staged_no_dir = λ m h e. let w = move_from s.puts m h in no_staged w.0 m.0 (in_dirs_changed m.0 e) (sym (ap (λ k. k.0) w.2));
    staged_apart =
        λ m h q listed under. let w = move_from s.puts m h in not_above_staged w.0 q (in_first_changed q listed)
        (subst (λ k. is_over q k.0 ≡ true) w.2 under);
  }

  cleared_changed : (q : Path) → (is_listed q s.first ≡ true) ⊎ (is_listed q s.second ≡ true) → is_listed q (changed_paths s) ≡ true
  cleared_changed q (inl h) = in_first_changed q h
  cleared_changed q (inr h) = in_second_changed q h

  groups_within : (q x : Path) → (is_listed q s.first ≡ true) ⊎ (is_listed q s.second ≡ true) → is_open r q ≡ true → is_above q x ≡ true
      → is_open r x ≡ false
      → (is_under_one s.wipes x ≡ true) ⊎ ((y : Path) × (is_above q y ≡ true) × (is_above y x ≡ true) × (is_open r y ≡ true))
  groups_within q x listed open_at below hidden =
      let below_root = below_root q (cleared_changed q listed) in
      elim (or_cases _ _ (private_from r x hidden)) [
        | inl head ↦ absurd (no_private r roots q x below_root open_at (above_over q x below) head)
        | inr build ↦
            let w = build_parts r x build in
            let at_build = build_at r w.0 w.1 in
            let version = child (child r.dkms w.0) w.1 in
            let q_private : is_over at_build q ≡ true → ⊥ = λ h. not_open r q (or_right _ _ (build_from r q w.0 w.1 w.2 h)) open_at in
            elim (over_or_above q at_build x (above_over q x below) w.3) [
              | inr above ↦ absurd (q_private (above_over at_build q above))
              | inl under ↦ elim (over_cases q at_build under) [
                | inl same ↦ absurd (q_private (subst (λ y. is_over at_build y ≡ true) (sym same) (over_itself at_build)))
                | inr further ↦ elim (over_cases q version (above_child q version (codes "build") further)) [
                  | inl same ↦
                      inl (inside s.wipes at_build x
                      (valid.build_wiped w.0 w.1 w.2
                      (subst (λ y. (is_listed y s.first ≡ true) ⊎ (is_listed y s.second ≡ true)) same listed)) w.3)
                  | inr above ↦
                      let q_up = above_child q (child r.dkms w.0) w.1 above in
                      elim (over_cases q (child r.dkms w.0) q_up) [
                        | inr higher ↦
                            absurd (not_at_root r roots q r.dkms below_root (is_root r root_name.Dkms) (above_child q r.dkms w.0 higher))
                        | inl same ↦ inr (
                          version,
                          above,
                          above_over_above version at_build x (child_above version (codes "build")) w.3,
                          open_from r version (λ priv. elim (or_cases _ _ priv) [
                            | inl head ↦ no_private r roots q version below_root open_at (above_over q version above) head
                            | inr deeper ↦
                                let z = build_parts r version deeper in
                                omega (
                                  arith,
                                  length_over (build_at r z.0 z.1) version z.3,
                                  length_child (child (child r.dkms z.0) z.1)
                                      (codes "build"),
                                  length_child (child r.dkms z.0) z.1,
                                  length_child r.dkms z.0,
                                  length_child
                                      (child r.dkms w.0) w.1,
                                  length_child r.dkms w.0,
                                )
                          ]),
                        )
                      ]
                ]
              ]
            ]
      ]

  not_initrd : (q x : Path) → is_listed q (changed_paths s) ≡ true → is_above q x ≡ true → is_initrd r x ≡ true → ⊥
  not_initrd q x changed below is =
      let w = initrd_child r x is in
      not_at_root r roots q r.boot (below_root q changed) (is_root r root_name.Boot)
      (above_child q r.boot w.0 (subst (λ y. is_above q y ≡ true) w.1 below))

  kept_from : (q : Path) → is_under_one (written_roots r) q ≡ true → is_open r q ≡ true → (is_initrd r q ≡ true → ⊥)
      → is_kept r q ≡ true
  kept_from q written open_at out = and_from _ _ written (and_from _ _ open_at (ap not (false_from_ne_true _ out)))

  written_down : (q x : Path) → is_under_one (written_roots r) q ≡ true → is_above q x ≡ true → is_under_one (written_roots r) x ≡ true
  written_down q x written below = one_above (written_roots r) q x (above_over q x below) written

  kept_within : (q x : Path) → (is_listed q s.first ≡ true) ⊎ (is_listed q s.second ≡ true) → is_kept r q ≡ true → is_above q x ≡ true
      → is_kept r x ≡ false
      → (is_under_one s.wipes x ≡ true) ⊎ ((y : Path) × (is_above q y ≡ true) × (is_above y x ≡ true) × (is_kept r y ≡ true))
  kept_within q x listed kept below hidden =
      let changed = cleared_changed q listed in
      let parts = and_parts _ _ kept in
      let written = written_down q x parts.0 below in
      elim (and_cases _ _ hidden) [
        | inl out ↦ absurd (true≢false (sym written ∙ out))
        | inr inner ↦ elim (and_cases _ _ inner) [
          | inr initrd ↦ absurd (not_initrd q x changed below (not_false _ initrd))
          | inl private_one ↦ elim (groups_within q x listed (and_parts _ _ parts.1).0 below private_one) [
            | inl wipes ↦ inl wipes
            | inr y ↦ inr (y.0, y.1, y.2, kept_from y.0 (written_down q y.0 parts.0 y.1) y.3 (not_initrd q y.0 changed y.1))
          ]
        ]
      ]

  not_beside : (q : Path) → is_listed q (changed_paths s) ≡ true → is_beside r q ≡ true → ⊥
  not_beside q changed is = elim (or_cases _ _ is) [
    | inl initrd ↦ valid.no_initrd q changed initrd
    | inr above ↦
        let w = above_some r q above in
        let b = below_root q changed in
        disjoint_below (all_roots r) roots.disjoint b.0 w.0 b.1 w.1 (above_over_above b.0 q w.0 b.2 (above_over q w.0 w.2))
  ]

  spared_by : (q : Path) → ((is_listed q s.first ≡ true) ⊎ (is_listed q s.second ≡ true)) ⊎ (is_listed q s.dirs ≡ true)
      → is_beside r q ≡ true → ⊥
  spared_by q (inl h) is = not_beside q (cleared_changed q h) is
  spared_by q (inr h) is = not_beside q (in_dirs_changed q h) is

  pub groups_hidden : IsHidden (is_kept r) (is_beside r) (groups_of r s)
  groups_hidden = record {
    above = λ q kept.
        let parts = and_parts _ _ kept in
        let up =
        open_from r (parent q) (λ priv. not_open r q (private_under r (parent q) q (parent_under q) priv) (and_parts _ _ parts.1).0) in
        elim (cases_Bool (is_initrd r (parent q))) [
          | inl is ↦ inr (or_left _ _ is)
          | inr out ↦ elim (parent_written r roots q parts.0) [
            | inl written ↦ inl (and_from _ _ written (and_from _ _ up (ap not out)))
            | inr over ↦ inr (or_right _ _ over)
          ]
        ];
    spared = spared_by;
    staged = λ m h kept.
        let w = move_from s.puts m h in
        not_open r m.0
        (or_left _ _ (untouched_private r m.0
        (inside (untouched r) (staging_path (root_path r w.0.root)) m.0 (staging_kept_out r w.0.root)
        (subst (λ k. is_over (staging_path (root_path r w.0.root)) k ≡ true) (sym (ap (λ k. k.0) w.2))
        (staged_under w.0))))) (and_parts _ _ (and_parts _ _ kept).1).0;
    within = kept_within;
  }
