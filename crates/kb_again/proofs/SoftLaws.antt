-- What sparing soft areas leave.
use Rattle.std.proofs.Common.{◌≡◌, ◌⊎◌, inl, inr, ℕ, ◌+◌, Bool, true, false, not, ◌&&◌, ◌||◌, List, [], ◌∷◌, codes, nat_eq, length, Option, refl, sym, ap, ◌∙◌, subst, arith, length-append}
use Rattle.std.specs.List.{list_any, AllByRecursion, starts_with}
use Rattle.std.proofs.lemmas.Bool.{cases_Bool, true≢false, and_parts, and_from, or_cases}
use Rattle.kb_world.specs.Area.{lets_differ}
use Rattle.kb_world.specs.Path.{Path, child}
use Rattle.kb_world.specs.Public.{intent_path, staging_path, private_places}
use Rattle.kb_world.specs.Tree.{Tree, node_at, is_dir}
use Rattle.kb_world.specs.View.{index_names}
use Rattle.kb_world.specs.declared.child.Area.{Area}
use Rattle.kb_world.specs.declared.child.Area.TheVariants.{Nothing, Under, Names}
use Rattle.kb_world.specs.declared.child.Request.{Request}
use Rattle.kb_world.specs.declared.roots.Roots.{Roots}
use Rattle.kb_world.specs.declared.tree.Node.{Node}
use Rattle.kb_changes.specs.Change.{root_path}
use Rattle.kb_changes.specs.Valid.{written_roots, is_initrd, is_kept_out, kept_out_paths, new_intent_path}
use Rattle.kb_changes.specs.declared.change.RootName.TheVariants as root_name
use Rattle.kb_again.specs.Sparing.{reaches, is_list_of_names, counts}
use Rattle.kb_again.proofs.Ends.{is_under_one, IsMember}
use Rattle.kb_again.specs.Within.{staging_paths}
use Rattle.kb_again.proofs.Facts.{all_roots, AreRoots, untouched, build_at, is_open, is_kept, is_beside, StagedPut, staged_at, Lists, changed_paths, IsValidUnder}
use Rattle.kb_again.proofs.FrontLaws.{listed_left}
use Rattle.kb_again.proofs.KeptLaws.{one_above}
use Rattle.kb_again.proofs.PathLaws.{is_over, is_above, is_listed, over_over, over_itself, over_cases, above_over, above_over_above, not_back, not_so, listed_first, listed_more}
use Rattle.kb_again.proofs.PlaceLaws.{initrd_name, initrd_child, build_parts}
use Rattle.kb_again.proofs.RootLaws.{at_0, above_child, child_above, same_last, over_or_above, inside, inside_some, open_from, disjoint_below, is_root, private_entry, written_is_root, no_private, dkms_boot, src_boot, modules_boot, dkms_modules, is_staging}
use Rattle.kb_again.proofs.RunLaws.{named, area_dropped}
use Rattle.kb_again.proofs.Soft.{IsLeftIn, run_areas, IsFit, IsSoftBehind}
use Rattle.kb_again.proofs.ValidLaws.{not_staged, staged_under}

-- an area that lets something differ reaches the path, and as a list of names no directory is there
lets-in : (a : Area) (q : Path) (was left : Option Node) → lets_differ a q was left ≡ true → reaches a q ≡ true
lets-in Nothing q was left h = h
lets-in (Under p) q was left h = h
lets-in (Names p ns) q was left h = (and_parts _ _ (and_parts _ _ h).0).0

pub record NoDirs (before after : Option Node) : Type 0 where
  pub was : is_dir before ≡ false
  pub left : is_dir after ≡ false

lets-files : (a : Area) (q : Path) (was left : Option Node) → is_list_of_names a ≡ true → lets_differ a q was left ≡ true → NoDirs was left
lets-files Nothing q was left list h = absurd (true≢false (sym list))
lets-files (Under p) q was left list h = absurd (true≢false (sym list))
lets-files (Names p ns) q was left list h =
    let parts = and_parts _ _ h in record { was = not_so _ (and_parts _ _ parts.0).1; left = not_so _ parts.1 }

-- an area that isn't a list of names reaches what is under what it reaches
pub in_under : (a : Area) (q x : Path) → is_list_of_names a ≡ false → reaches a q ≡ true → is_over q x ≡ true → reaches a x ≡ true
in_under Nothing q x list h under = h
in_under (Under p) q x list h under = over_over p q x h under
in_under (Names p ns) q x list h under = absurd (true≢false list)

pub record Lets (P : Area → Type 0) (q : Path) (was left : Option Node) : Type 0 where
  pub area : Area
  pub fits : P area
  pub lets : lets_differ area q was left ≡ true

some_area : (P : Area → Type 0) (soft : List Area) (q : Path) (was left : Option Node) → AllByRecursion P soft
    → list_any (λ a. lets_differ a q was left) soft ≡ true → Lets P q was left
some_area P [] q was left all h = absurd (true≢false (sym h))
some_area P (a ∷ soft) q was left all h = elim (cases_Bool (lets_differ a q was left)) [
  | inl is ↦ record { area = a; fits = all.0; lets = is }
  | inr isnt ↦ some_area P soft q was left all.1 (sym (ap (λ b. b || list_any (λ a. lets_differ a q was left) soft) isnt) ∙ h)
]

some_run : (q : Path) (cs : List Request) → list_any (λ other. reaches other q) (run_areas cs) ≡ true
    → (c : Request) × IsMember c cs × (reaches c.area q ≡ true)
some_run q [] h = absurd (true≢false (sym h))
some_run q (c ∷ cs) h = elim (or_cases _ _ h) [
  | inl here ↦ (c, inl refl, here)
  | inr later ↦ let w = some_run q cs later in (w.0, inr w.1, w.2)
]

-- a root that is written is open
pub root_open : (r : Roots) → AreRoots r → (x : Path) → is_listed x (all_roots r) ≡ true → is_open r x ≡ true
root_open r roots x is = open_from r x (λ priv. elim (or_cases _ _ priv) [
  | inl head ↦
      let w = inside_some (private_places r) x head in
      let f = private_entry r w.0 w.1 in
      disjoint_below (all_roots r) roots.disjoint f.0 x f.2 is
      (above_over_above f.0 w.0 x (subst (λ h. is_above f.0 h ≡ true) (sym f.3) (child_above f.0 f.1)) w.2)
  | inr build ↦
      let w = build_parts r x build in
      let one = child r.dkms w.0 in
      disjoint_below (all_roots r) roots.disjoint r.dkms x (is_root r root_name.Dkms) is
      (above_over_above r.dkms one x (child_above r.dkms w.0)
      (over_over one (build_at r w.0 w.1) x
      (over_over one (child one w.1) (build_at r w.0 w.1) (above_over one (child one w.1) (child_above one w.1))
      (above_over (child one w.1) (build_at r w.0 w.1) (child_above (child one w.1) (codes "build")))) w.3))
])

-- nothing is at or under two roots
pub not_in_both : (r : Roots) → AreRoots r → (a b : Path) → is_listed a (all_roots r) ≡ true → is_listed b (all_roots r) ≡ true
    → (is_over a b ≡ true → ⊥) → (x : Path) → is_over a x ≡ true → is_over b x ≡ true → ⊥
not_in_both r roots a b ha hb apart x ua ub = elim (over_or_above a b x ua ub) [
  | inl under ↦ apart under
  | inr below ↦ disjoint_below (all_roots r) roots.disjoint b a hb ha below
]

-- a scratch tree is below the dkms root
pub build_in_dkms : (r : Roots) (x : Path) (m v : List ℕ) → is_over (build_at r m v) x ≡ true → is_over r.dkms x ≡ true
build_in_dkms r x m v under =
    let one = child r.dkms m in
    let two = child one v in
    over_over r.dkms (build_at r m v) x
    (over_over r.dkms two (build_at r m v)
    (over_over r.dkms one two (above_over r.dkms one (child_above r.dkms m)) (above_over one two (child_above one v)))
    (above_over two (build_at r m v) (child_above two (codes "build")))) under

-- no entry of the boot root with another name is above that of an initrd
initrd_not_under : (r : Roots) (q : Path) (m : List ℕ) → starts_with nat_eq m (codes "initrd.img-") ≡ false → is_initrd r q ≡ true
    → is_over (child r.boot m) q ≡ true → ⊥
initrd_not_under r q m other is under =
    let w = initrd_name r q is in
    elim (over_cases (child r.boot m) (child r.boot w.0) (subst (λ x. is_over (child r.boot m) x ≡ true) w.1.0 under)) [
      | inl same ↦ true≢false (sym w.1.1 ∙ ap (λ n. starts_with nat_eq n (codes "initrd.img-")) (sym (same_last r.boot m w.0 same)) ∙ other)
      | inr above ↦
          true≢false (sym (above_child (child r.boot m) r.boot w.0 above) ∙ not_back r.boot (child r.boot m) (child_above r.boot m))
    ]

pub initrd_in_boot : (r : Roots) (q : Path) → is_initrd r q ≡ true → is_over r.boot q ≡ true
initrd_in_boot r q is =
    let w = initrd_child r q is in
    subst (λ y. is_over r.boot y ≡ true) (sym w.1) (above_over r.boot (child r.boot w.0) (child_above r.boot w.0))

pub initrd_open : (r : Roots) → AreRoots r → (q : Path) → is_initrd r q ≡ true → is_open r q ≡ true
initrd_open r roots q is = open_from r q (λ priv. elim (or_cases _ _ priv) [
  | inl head ↦ by_head head
  | inr build ↦
      let w = build_parts r q build in
      not_in_both r roots r.dkms r.boot (is_root r root_name.Dkms) (is_root r root_name.Boot) (dkms_boot r roots) q
      (build_in_dkms r q w.0 w.1 w.3) boot_in
])
  where
    boot_in : is_over r.boot q ≡ true
    boot_in = initrd_in_boot r q is

    up : (x : Path) (n : List ℕ) → is_over (child x n) q ≡ true → is_over x q ≡ true
    up x n under = over_over x (child x n) q (above_over x (child x n) (child_above x n)) under

    in_dkms : is_over r.dkms q ≡ true → ⊥
    in_dkms h = not_in_both r roots r.dkms r.boot (is_root r root_name.Dkms) (is_root r root_name.Boot) (dkms_boot r roots) q h boot_in

    by_head : is_under_one (private_places r) q ≡ true → ⊥
    by_head head = elim (or_cases _ _ head) [
      | inl intent ↦ in_dkms (up r.dkms (codes ".intent") intent)
      | inr h1 ↦ elim (or_cases _ _ h1) [
        | inl new ↦ in_dkms (up r.dkms (codes ".intent.new") new)
        | inr h2 ↦ elim (or_cases _ _ h2) [
          | inl d ↦ in_dkms (up r.dkms (codes ".kb-staged") d)
          | inr h3 ↦ elim (or_cases _ _ h3) [
            | inl k ↦
                not_in_both r roots r.src r.boot (is_root r root_name.Src) (is_root r root_name.Boot) (src_boot r roots) q
                (up r.src (codes ".kb-staged") k) boot_in
            | inr h4 ↦ elim (or_cases _ _ h4) [
              | inl l ↦
                  not_in_both r roots r.modules r.boot (is_root r root_name.Modules) (is_root r root_name.Boot) (modules_boot r roots) q
                  (up r.modules (codes ".kb-staged") l) boot_in
              | inr h5 ↦ elim (or_cases _ _ h5) [
                | inl b ↦ initrd_not_under r q (codes ".kb-staged") refl is b
                | inr h6 ↦ elim (or_cases _ _ h6) [
                  | inl plugins ↦ initrd_not_under r q (codes ".kb-plugins") refl is plugins
                  | inr none ↦ true≢false (sym none)
                ]
              ]
            ]
          ]
        ]
      ]
    ]

module _ (r : Roots) (s : Lists) (roots : AreRoots r) (valid : IsValidUnder r s) where
  -- what an area of a run reaches is the path of an index file, in a directory of the modules root
  pub record IsIndex (q : Path) : Type 0 where
    pub kernel : List ℕ
    pub name : List ℕ
    pub is : q ≡ child (child r.modules kernel) name

  pub run_index : (c : Request) → IsMember c s.runs → (q : Path) → reaches c.area q ≡ true → IsIndex q
  run_index c h q is = elim (valid.runs c h) [
    | inl none ↦ absurd (true≢false (sym is ∙ ap (λ a. reaches a q) none))
    | inr index ↦
        let w = named (child r.modules index.0) index_names q (ap (λ a. reaches a q) (sym index.1.area) ∙ is) in
        record { kernel = index.0; name = w.0; is = w.2 }
  ]

  run_list : (c : Request) → IsMember c s.runs → (q : Path) → reaches c.area q ≡ true → is_list_of_names c.area ≡ true
  run_list c h q is = elim (valid.runs c h) [
    | inl none ↦ absurd (true≢false (sym is ∙ ap (λ a. reaches a q) none))
    | inr index ↦ ap is_list_of_names index.1.area
  ]

  index_below : (q : Path) → IsIndex q → is_above r.modules q ≡ true
  index_below q x =
      subst (λ y. is_above r.modules y ≡ true) (sym x.is)
      (above_over_above r.modules (child r.modules x.kernel) (child (child r.modules x.kernel) x.name) (child_above r.modules x.kernel)
      (above_over (child r.modules x.kernel) (child (child r.modules x.kernel) x.name) (child_above (child r.modules x.kernel) x.name)))

  deeper : (p : Path) (n : List ℕ) → length (child p n) ≡ length p + 1
  deeper p n = length-append p (n ∷ [])

  -- the path of an index file isn't that of an entry of one
  pub no_deeper : (q : Path) (n : List ℕ) → IsIndex q → IsIndex (child q n) → ⊥
  no_deeper q n a b = absurd (omega (
    arith,
    ap length a.is,
    deeper (child r.modules a.kernel) a.name,
    deeper r.modules a.kernel,
    ap length b.is,
    deeper (child r.modules b.kernel) b.name,
    deeper r.modules b.kernel,
    deeper q n,
  ))

  pub fit_index : (a : Area) → IsFit r s.runs a → (q : Path) → reaches a q ≡ true → counts r a q ≡ true
      → (c : Request) × IsMember c s.runs × (reaches c.area q ≡ true)
  fit_index a (inl spares) q held counted = some_run q s.runs (spares.public q held counted)
  fit_index a (inr own) q held counted = (own.0, own.1, ap (λ b. reaches b q) (sym own.2) ∙ held)

  -- no private place and no scratch tree is above an entry of an index file's path
  pub entry_open : (q : Path) (n : List ℕ) → IsIndex q → is_open r q ≡ true → is_open r (child q n) ≡ true
  entry_open q n x open_at = open_from r (child q n) (λ priv. elim (or_cases _ _ priv) [
    | inl head ↦
        no_private r roots q (child q n) (r.modules, is_root r root_name.Modules, index_below q x) open_at
        (above_over q (child q n) (child_above q n)) head
    | inr build ↦
        let w = build_parts r (child q n) build in
        not_in_both r roots r.dkms r.modules (is_root r root_name.Dkms) (is_root r root_name.Modules) (dkms_modules r roots) (child q n)
        (build_in_dkms r (child q n) w.0 w.1 w.3)
        (over_over r.modules q (child q n) (above_over r.modules q (index_below q x)) (above_over q (child q n) (child_above q n)))
  ])

  pub counted : (a : Area) (q : Path) → is_under_one (written_roots r) q ≡ true → is_open r q ≡ true
      → (is_list_of_names a ≡ false) ⊎ (is_initrd r q ≡ false) → counts r a q ≡ true
  counted a q written open_at (inl list) = and_from _ _ written (and_from _ _ open_at (ap (λ b. not (b && is_initrd r q)) list))
  counted a q written open_at (inr other) =
      and_from _ _ written (and_from _ _ open_at (ap (λ b. not (is_list_of_names a && b)) other ∙ ap not (and_no (is_list_of_names a))))
    where
      and_no : (b : Bool) → (b && false) ≡ false
      and_no true = refl
      and_no false = refl

  pub written_more : (q x : Path) → is_under_one (written_roots r) q ≡ true → is_over q x ≡ true → is_under_one (written_roots r) x ≡ true
  written_more q x h under = one_above (written_roots r) q x under h

  kept_soft : (q : Path) (was left : Option Node) → is_kept r q ≡ true → Lets (IsFit r s.runs) q was left
      → (is_listed q s.drops ≡ true) × (is_dir was ≡ false) × (is_dir left ≡ false)
  kept_soft q was left kept l =
      let parts = and_parts _ _ kept in
      let inner = and_parts _ _ parts.1 in
      let held = lets-in l.area q was left l.lets in
      let run = fit_index l.area l.fits q held (counted l.area q parts.0 inner.0 (inr (not_so _ inner.1))) in
      elim (cases_Bool (is_list_of_names l.area)) [
        | inl list ↦
            let files = lets-files l.area q was left list l.lets in
            (area_dropped r s roots valid run.0 run.1 q run.2, files.was, files.left)
        | inr other ↦
            let x = run_index run.0 run.1 q run.2 in
            let entry = child q (codes "x") in
            let below = above_over q entry (child_above q (codes "x")) in
            let deeper_run =
            fit_index l.area l.fits entry (in_under l.area q entry other held below)
            (counted l.area entry (written_more q entry parts.0 below) (entry_open q (codes "x") x inner.0) (inl other)) in
            absurd (no_deeper q (codes "x") x (run_index deeper_run.0 deeper_run.1 entry deeper_run.2))
      ]

  beside_soft : (q : Path) (was left : Option Node) → is_beside r q ≡ true → Lets (IsFit r s.runs) q was left → is_dir was ≡ is_dir left
  beside_soft q was left beside l =
      let held = lets-in l.area q was left l.lets in
      elim (cases_Bool (is_list_of_names l.area)) [
        | inl list ↦ let files = lets-files l.area q was left list l.lets in files.was ∙ sym files.left
        | inr other ↦ elim (or_cases _ _ beside) [
          | inl initrd ↦
              let boot_in = initrd_in_boot r q initrd in
              let run =
              fit_index l.area l.fits q held
              (counted l.area q (inside (written_roots r) r.boot q
              (listed_more r.boot r.dkms (r.src ∷ r.modules ∷ r.boot ∷ [])
              (listed_more r.boot r.src (r.modules ∷ r.boot ∷ [])
              (listed_more r.boot r.modules (r.boot ∷ [])
              (listed_first r.boot r.boot [] refl)))) boot_in) (initrd_open r roots q initrd) (inl other)) in
              absurd (not_in_both r roots r.modules r.boot (is_root r root_name.Modules) (is_root r root_name.Boot) (modules_boot r roots) q
              (above_over r.modules q (index_below q (run_index run.0 run.1 q run.2))) boot_in)
          | inr above ↦
              let w = written_above (written_roots r) q above in
              let is = written_is_root r w.0 w.1 in
              let run =
              fit_index l.area l.fits w.0 (in_under l.area q w.0 other held (above_over q w.0 w.2))
              (counted l.area w.0 (inside (written_roots r) w.0 w.0 w.1 (over_itself w.0)) (root_open r roots w.0 is) (inl other)) in
              absurd (disjoint_below (all_roots r) roots.disjoint r.modules w.0 (is_root r root_name.Modules) is
              (index_below w.0 (run_index run.0 run.1 w.0 run.2)))
        ]
      ]
    where
      written_above : (ps : List Path) (q : Path) → list_any (is_above q) ps ≡ true
          → (x : Path) × (is_listed x ps ≡ true) × (is_above q x ≡ true)
      written_above [] q h = absurd (true≢false (sym h))
      written_above (p ∷ ps) q h = elim (or_cases _ _ h) [
        | inl here ↦ (p, listed_first p p ps refl, here)
        | inr later ↦ let w = written_above ps q later in (w.0, listed_more w.0 p ps w.1, w.2)
      ]

  -- a path that is kept out
  out_same : (q : Path) (was left : Option Node) → is_kept_out r q ≡ true → (is_listed q (changed_paths s) ≡ true → ⊥)
      → Lets (IsFit r s.runs) q was left → ⊥
  out_same q was left out unchanged l = elim l.fits [
    | inl spares ↦ true≢false (sym out ∙ spares.kept_out q (lets-in l.area q was left l.lets))
    | inr own ↦
        unchanged (listed_left q s.drops _
        (area_dropped r s roots valid own.0 own.1 q (ap (λ b. reaches b q) (sym own.2) ∙ lets-in l.area q was left l.lets)))
  ]

  staged_out : (c : StagedPut) → is_kept_out r (staged_at r c) ≡ true
  staged_out c = inside (kept_out_paths r) (staging_path (root_path r c.root)) (staged_at r c)
      (listed_more (staging_path (root_path r c.root)) (intent_path r) (staging_paths r) (is_staging r c.root))
      (staged_under r s roots valid c)

pub soft_behind : (r : Roots) (s : Lists) (soft : List Area) (v u : Tree) → AreRoots r → IsValidUnder r s
    → AllByRecursion (IsFit r s.runs) soft → IsLeftIn soft v u → IsSoftBehind r s v u
soft_behind r s soft v u roots valid fit left = record {
  kept =
      λ q kept. elim
      (left q) [
        | inl same ↦ inl same
        | inr lets ↦ inr
            (kept_soft r s roots valid q (node_at v q) (node_at u q) kept
            (some_area (IsFit r s.runs) soft q (node_at v q) (node_at u q) fit lets))
      ];
  dirs =
      λ q beside. elim
      (left q) [
        | inl same ↦ ap is_dir (sym same)
        | inr lets ↦ beside_soft r s roots valid q (node_at v q) (node_at u q) beside
            (some_area (IsFit r s.runs) soft q (node_at v q) (node_at u q) fit lets)
      ];
  staged = λ c h. elim (left (staged_at r c)) [
    | inl same ↦ same
    | inr lets ↦
        absurd (out_same r s roots valid (staged_at r c) _ _ (staged_out r s roots valid c)
        (λ changed. not_staged r s roots valid (staged_at r c) c changed (staged_under r s roots valid c))
        (some_area (IsFit r s.runs) soft (staged_at r c) _ _ fit lets))
  ];
  journal = elim (left (intent_path r)) [
    | inl same ↦ same
    | inr lets ↦
        absurd (out_same r s roots valid (intent_path r) _ _
        (inside (kept_out_paths r) (intent_path r) (intent_path r) (at_0 (intent_path r) (staging_paths r)) (over_itself (intent_path r)))
        (λ changed. valid.not_inside (intent_path r) changed
        (inside (untouched r) (intent_path r) (intent_path r) (at_0 (intent_path r) (new_intent_path r ∷ staging_paths r))
        (over_itself (intent_path r))))
        (some_area (IsFit r s.runs) soft (intent_path r) _ _ fit lets))
  ];
}
