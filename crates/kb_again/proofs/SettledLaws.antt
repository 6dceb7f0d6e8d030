-- What is soft once the areas of the runs are settled.
use Rattle.std.proofs.Common.{◌≡◌, inl, inr, ℕ, Bool, true, false, not, cond, List, [], ◌∷◌, ◌++◌, codes, refl, sym, ap, ◌∙◌, subst}
use Rattle.std.specs.Prelude.{bytes_eq, filter}
use Rattle.std.specs.List.{list_any, list_all, AllByRecursion}
use Rattle.std.proofs.lemmas.List.{append-nil, append_assoc}
use Rattle.std.proofs.lemmas.Bool.{cases_Bool, true≢false, and_parts, and_from, or_cases, or_left, or_right, false_from_ne_true}
use Rattle.kb_world.specs.Area.{is_named, is_among, is_settled_by}
use Rattle.kb_world.specs.Path.{Path, child}
use Rattle.kb_world.specs.Public.{intent_path, private_places}
use Rattle.kb_world.specs.TreeLaws.{same_path, same_path-refl}
use Rattle.kb_world.specs.View.{index_names}
use Rattle.kb_world.specs.declared.child.Area.{Area}
use Rattle.kb_world.specs.declared.child.Area.TheVariants.{Nothing, Under, Names}
use Rattle.kb_world.specs.declared.child.Request.{Request}
use Rattle.kb_world.specs.declared.roots.Roots.{Roots}
use Rattle.kb_changes.specs.Valid.{written_roots, is_initrd, is_kept_out, kept_out_paths, new_intent_path}
use Rattle.kb_changes.specs.declared.change.RootName.TheVariants as root_name
use Rattle.kb_again.specs.Sparing.{reaches, is_list_of_names, counts, IsSparing, settled}
use Rattle.kb_again.proofs.Ends.{is_under_one, IsMember}
use Rattle.kb_again.specs.Within.{staging_paths}
use Rattle.kb_again.proofs.Facts.{all_roots, AreRoots, untouched, is_open, Lists, targets, IsValidUnder}
use Rattle.kb_again.proofs.FrontLaws.{listed_left}
use Rattle.kb_again.proofs.PathLaws.{is_over, is_above, over_over, over_cases, above_over, not_so, bytes_itself, listed_cons, listed_first, listed_more}
use Rattle.kb_again.proofs.PlaceLaws.{entry_name, build_parts}
use Rattle.kb_again.proofs.RootLaws.{above_child, child_above, same_front, same_last, inside, inside_some, not_open, open_from, disjoint_below, is_root, private_entry, dkms_modules, modules_boot}
use Rattle.kb_again.proofs.RunLaws.{named, area_dropped}
use Rattle.kb_again.proofs.Soft.{run_areas, IsFit}
use Rattle.kb_again.proofs.SoftLaws.{not_in_both, build_in_dkms, initrd_in_boot, in_under, IsIndex, run_index, no_deeper, entry_open, fit_index, counted, written_more}

in_names : (n : List ℕ) (ns : List (List ℕ)) → IsMember n ns → list_any (bytes_eq n) ns ≡ true
in_names n [] h = absurd h
in_names n (m ∷ ns) (inl same) = or_left _ _ (ap (bytes_eq n) (sym same) ∙ bytes_itself n)
in_names n (m ∷ ns) (inr later) = or_right _ _ (in_names n ns later)

all_named : (test : List ℕ → Bool) (ns : List (List ℕ)) → ((n : List ℕ) → IsMember n ns → test n ≡ true) → list_all test ns ≡ true
all_named test [] each = refl
all_named test (n ∷ ns) each = and_from _ _ (each n (inl refl)) (all_named test ns (λ m h. each m (inr h)))

held_name : (d : Path) (n : List ℕ) (ns : List (List ℕ)) → IsMember n ns → is_named d ns (child d n) ≡ true
held_name d n ns h = ap (is_among ns) (entry_name d n) ∙ in_names n ns h

-- what stays was settled by none of them
pub record IsUnsettled (P : Area → Type 0) (runs : List Request) (a : Area) : Type 0 where
  pub fits : P a
  pub apart : (c : Request) → IsMember c runs → is_settled_by c.area a ≡ false

unsettled : (P : Area → Type 0) (test : Area → Bool) (soft : List Area) → AllByRecursion P soft
    → AllByRecursion (λ a. P a × (test a ≡ true)) (filter test soft)
unsettled P test [] all = tt
unsettled P test (a ∷ soft) all = by (test a) refl (unsettled P test soft all.1)
  where
    by : (b : Bool) → test a ≡ b → AllByRecursion (λ a. P a × (test a ≡ true)) (filter test soft)
        → AllByRecursion (λ a. P a × (test a ≡ true)) (cond b (a ∷ filter test soft) (filter test soft))
    by true e rest = ((all.0, e), rest)
    by false e rest = rest

each_settled : (P : Area → Type 0) (runs front : List Request) (soft : List Area) → AllByRecursion (IsUnsettled P front) soft
    → AllByRecursion (IsUnsettled P (front ++ runs)) (settled (run_areas runs) soft)
each_settled P [] front soft all = subst (λ l. AllByRecursion (IsUnsettled P l) soft) (sym (append-nil front)) all
each_settled P (c ∷ runs) front soft all =
    subst (λ l. AllByRecursion (IsUnsettled P l) (settled (run_areas runs) (filter (λ a. not (is_settled_by c.area a)) soft)))
    (append_assoc front (c ∷ []) runs)
    (each_settled P runs (front ++ c ∷ []) (filter (λ a. not (is_settled_by c.area a)) soft)
    (wider (filter (λ a. not (is_settled_by c.area a)) soft)
    (unsettled (IsUnsettled P front) (λ a. not (is_settled_by c.area a)) soft all)))
  where
    one_more : (a : Area) → (d : Request) → IsUnsettled P front a → not (is_settled_by c.area a) ≡ true → IsMember d (front ++ c ∷ [])
        → is_settled_by d.area a ≡ false
    one_more a d was isnt h = by front h was.apart
      where
        by : (xs : List Request) → IsMember d (xs ++ c ∷ []) → ((e : Request) → IsMember e xs → is_settled_by e.area a ≡ false)
            → is_settled_by d.area a ≡ false
        by [] (inl same) each = ap (λ (e : Request). is_settled_by e.area a) same ∙ not_so _ isnt
        by [] (inr later) each = absurd later
        by (x ∷ xs) (inl same) each = ap (λ (e : Request). is_settled_by e.area a) same ∙ each x (inl refl)
        by (x ∷ xs) (inr later) each = by xs later (λ e k. each e (inr k))

    wider : (l : List Area) → AllByRecursion (λ a. IsUnsettled P front a × (not (is_settled_by c.area a) ≡ true)) l
        → AllByRecursion (IsUnsettled P (front ++ c ∷ [])) l
    wider [] all = tt
    wider (a ∷ l) all = (record { fits = all.0.0.fits; apart = λ d h. one_more a d all.0.0 all.0.1 h }, wider l all.1)

module _ (r : Roots) (s : Lists) (roots : AreRoots r) (valid : IsValidUnder r s) where
  -- another entry of an index file's directory is open as the file is
  beside_open : (d : Path) (n m : List ℕ) → IsIndex r s roots valid (child d n) → is_open r (child d n) ≡ true
      → is_open r (child d m) ≡ true
  beside_open d n m x open_at =
      let d_is : d ≡ child r.modules x.kernel = same_front d (child r.modules x.kernel) n x.name x.is in
      let in_modules : is_above r.modules d ≡ true = subst (λ y. is_above r.modules y ≡ true) (sym d_is) (child_above r.modules x.kernel) in
      open_from r (child d m) (λ priv. elim (or_cases _ _ priv) [
        | inl head ↦
            let w = inside_some (private_places r) (child d m) head in
            let f = private_entry r w.0 w.1 in
            elim (over_cases w.0 (child d m) w.2) [
              | inl same ↦
                  disjoint_below (all_roots r) roots.disjoint r.modules f.0 (is_root r root_name.Modules) f.2
                  (subst (λ y. is_above r.modules y ≡ true) (same_front d f.0 m f.1 (sym same ∙ f.3)) in_modules)
              | inr below ↦
                  not_open r (child d n)
                  (or_left _ _ (inside (private_places r) w.0 (child d n) w.1
                  (over_over w.0 d (child d n) (above_child w.0 d m below) (above_over d (child d n) (child_above d n))))) open_at
            ]
        | inr build ↦
            let w = build_parts r (child d m) build in
            not_in_both r roots r.dkms r.modules (is_root r root_name.Dkms) (is_root r root_name.Modules) (dkms_modules r roots)
            (child d m) (build_in_dkms r (child d m) w.0 w.1 w.3)
            (over_over r.modules d (child d m) (above_over r.modules d in_modules) (above_over d (child d m) (child_above d m)))
      ])

  list_parts : (a : Area) (q : Path) → is_list_of_names a ≡ true → reaches a q ≡ true
      → (d : Path) × (ns : List (List ℕ)) × (n : List ℕ) × (a ≡ Names d ns) × (q ≡ child d n)
  list_parts Nothing q list held = absurd (true≢false (sym list))
  list_parts (Under p) q list held = absurd (true≢false (sym list))
  list_parts (Names d ns) q list held = let w = named d ns q held in (d, ns, w.0, refl, w.2)

  -- a sparing list of names that reaches an index file of a run is a part of that run's area
  settles_list : (d : Path) (ns : List (List ℕ)) (n : List ℕ) → IsFit r s.runs (Names d ns) → (c : Request) → IsMember c s.runs
      → reaches c.area (child d n) ≡ true
      → is_under_one (written_roots r) (child d n) ≡ true → is_open r (child d n) ≡ true → is_settled_by c.area (Names d ns) ≡ true
  settles_list d ns n fit c h held written open_at = elim (valid.runs c h) [
    | inl none ↦ absurd (true≢false (sym held ∙ ap (λ a. reaches a (child d n)) none))
    | inr index ↦
        let x = run_index r s roots valid c h (child d n) held in
        let w = named (child r.modules index.0) index_names (child d n) (ap (λ a. reaches a (child d n)) (sym index.1.area) ∙ held) in
        let d_is : d ≡ child r.modules index.0 = same_front d (child r.modules index.0) n w.0 w.2 in
        ap (λ a. is_settled_by a (Names d ns)) index.1.area
        ∙ and_from _ _ (ap (λ x. same_path x d) (sym d_is) ∙ same_path-refl d)
        (all_named (λ m. list_any (bytes_eq m) index_names) ns (λ m member.
        let m_held : reaches (Names d ns) (child d m) ≡ true = held_name d m ns member in
        let m_open = beside_open d n m x open_at in
        let in_modules : is_over r.modules (child d m) ≡ true =
        over_over r.modules d (child d m)
        (subst (λ y. is_over r.modules y ≡ true) (sym d_is)
        (above_over r.modules (child r.modules index.0) (child_above r.modules index.0))) (above_over d (child d m) (child_above d m)) in
        let m_written : is_under_one (written_roots r) (child d m) ≡ true =
        inside (written_roots r) r.modules (child d m)
        (listed_more r.modules r.dkms (r.src ∷ r.modules ∷ r.boot ∷ [])
        (listed_more r.modules r.src (r.modules ∷ r.boot ∷ []) (listed_first r.modules r.modules (r.boot ∷ []) refl))) in_modules in
        let no_initrd : is_initrd r (child d m) ≡ false =
        false_from_ne_true _
        (λ is. not_in_both r roots r.modules r.boot (is_root r root_name.Modules) (is_root r root_name.Boot) (modules_boot r roots)
        (child d m) in_modules (initrd_in_boot r (child d m) is)) in
        let run =
        fit_index r s roots valid (Names d ns) fit (child d m) m_held
        (counted r s roots valid (Names d ns) (child d m) m_written m_open (inr no_initrd)) in
        elim (valid.runs run.0 run.1) [
          | inl none ↦ absurd (true≢false (sym run.2 ∙ ap (λ a. reaches a (child d m)) none))
          | inr other ↦
              let v =
              named (child r.modules other.0) index_names (child d m) (ap (λ a. reaches a (child d m)) (sym other.1.area) ∙ run.2) in
              let same_dir : d ≡ child r.modules other.0 = same_front d (child r.modules other.0) m v.0 v.2 in
              let same_name : m ≡ v.0 = same_last d m v.0 (v.2 ∙ ap (λ p. child p v.0) (sym same_dir)) in
              in_names m index_names (subst (λ k. IsMember k index_names) (sym same_name) v.1)
        ]))
  ]

  spares_nothing : (a : Area) → IsUnsettled (IsFit r s.runs) s.runs a → IsSparing r [] a
  spares_nothing a u = record {
    kept_out = λ q held. elim u.fits [
      | inl spares ↦ spares.kept_out q held
      | inr own ↦ absurd (own_settled own.0 own.1 (ap (is_settled_by own.0.area) own.2 ∙ by_itself own.0 own.1))
    ];
    public = λ q held counting. absurd (none q held counting);
  }
    where
      by_itself : (c : Request) → IsMember c s.runs → is_settled_by c.area c.area ≡ true
      by_itself c h = elim (valid.runs c h) [
        | inl none ↦ subst (λ a. is_settled_by a a ≡ true) (sym none) refl
        | inr index ↦
            subst (λ a. is_settled_by a a ≡ true) (sym index.1.area)
            (and_from _ _ (same_path-refl (child r.modules index.0))
            (all_named (λ m. list_any (bytes_eq m) index_names) index_names (λ m h. in_names m index_names h)))
      ]

      own_settled : (c : Request) → IsMember c s.runs → is_settled_by c.area a ≡ true → ⊥
      own_settled c h is = true≢false (sym is ∙ u.apart c h)

      none : (q : Path) → reaches a q ≡ true → counts r a q ≡ true → ⊥
      none q held counting =
          let parts = and_parts _ _ counting in
          let inner = and_parts _ _ parts.1 in
          let run = fit_index r s roots valid a u.fits q held counting in
          elim (cases_Bool (is_list_of_names a)) [
            | inr other ↦
                let x = run_index r s roots valid run.0 run.1 q run.2 in
                let entry = child q (codes "x") in
                let below = above_over q entry (child_above q (codes "x")) in
                let deeper_run =
                fit_index r s roots valid a u.fits entry (in_under a q entry other held below)
                (counted r s roots valid a entry (written_more r s roots valid q entry parts.0 below)
                (entry_open r s roots valid q (codes "x") x inner.0) (inl other)) in
                no_deeper r s roots valid q (codes "x") x (run_index r s roots valid deeper_run.0 deeper_run.1 entry deeper_run.2)
            | inl list ↦
                let w = list_parts a q list held in
                own_settled run.0 run.1
                (ap (is_settled_by run.0.area) w.3
                ∙ settles_list w.0 w.1 w.2 (subst (IsFit r s.runs) w.3 u.fits) run.0 run.1 (ap (reaches run.0.area) (sym w.4) ∙ run.2)
                (ap (is_under_one (written_roots r)) (sym w.4) ∙ parts.0) (ap (is_open r) (sym w.4) ∙ inner.0))
          ]

pub all_of : (P Q : Area → Type 0) → ((a : Area) → P a → Q a) → (soft : List Area) → AllByRecursion P soft → AllByRecursion Q soft
all_of P Q f [] all = tt
all_of P Q f (a ∷ soft) all = (f a all.0, all_of P Q f soft all.1)

pub settled_spares : (r : Roots) (s : Lists) (soft : List Area) → AreRoots r → IsValidUnder r s → AllByRecursion (IsFit r s.runs) soft
    → AllByRecursion (IsSparing r []) (settled (run_areas s.runs) soft)
settled_spares r s soft roots valid fit =
    all_of (IsUnsettled (IsFit r s.runs) s.runs) (IsSparing r []) (spares_nothing r s roots valid) (settled (run_areas s.runs) soft)
    (each_settled (IsFit r s.runs) s.runs [] soft
    (all_of (IsFit r s.runs) (IsUnsettled (IsFit r s.runs) []) (λ a fits. record { fits = fits; apart = λ c h. absurd h }) soft fit))

-- ---- the areas of the runs are sparing

kept_out_untouched : (r : Roots) (q : Path) → is_kept_out r q ≡ true → is_under_one (untouched r) q ≡ true
kept_out_untouched r q h =
    let w = inside_some (kept_out_paths r) q h in
    inside (untouched r) w.0 q (elim (listed_cons w.0 (intent_path r) (staging_paths r) w.1) [
      | inl is ↦ listed_first w.0 (intent_path r) (new_intent_path r ∷ staging_paths r) is
      | inr staged ↦
          listed_more w.0 (intent_path r) (new_intent_path r ∷ staging_paths r)
          (listed_more w.0 (new_intent_path r) (staging_paths r) staged)
    ]) w.2

any_run : (q : Path) (cs : List Request) (c : Request) → IsMember c cs → reaches c.area q ≡ true
    → list_any (λ other. reaches other q) (run_areas cs) ≡ true
any_run q [] c h is = absurd h
any_run q (d ∷ cs) c (inl same) is = or_left _ _ (ap (λ (e : Request). reaches e.area q) (sym same) ∙ is)
any_run q (d ∷ cs) c (inr later) is = or_right _ _ (any_run q cs c later is)

pub own_spare : (r : Roots) (s : Lists) → AreRoots r → IsValidUnder r s → (c : Request) → IsMember c s.runs
    → IsSparing r (run_areas s.runs) c.area
own_spare r s roots valid c h = record {
  kept_out = λ q held. false_from_ne_true _ (λ out.
      valid.not_inside q
      (listed_left q s.drops (s.wipes ++ (s.first ++ (s.dirs ++ (targets s ++ s.second)))) (area_dropped r s roots valid c h q held))
      (kept_out_untouched r q out));
  public = λ q held counted. any_run q s.runs c h held;
}
