-- Entries of directories, and the scratch trees of versions.
use Rattle.std.proofs.Common.{◌≡◌, ℕ, Bool, true, false, cond, List, [], ◌∷◌, ◌++◌, length, drop, codes, Option, Some, None, refl, sym, ap, ◌∙◌, subst, append_assoc}
use Rattle.std.specs.List.{starts_with}
use Rattle.std.specs.Prelude.{nat_eq}
use Rattle.std.proofs.lemmas.Bool.{true≢false}
use Rattle.kb_world.specs.Path.{Path, child, is_under}
use Rattle.kb_world.specs.StorePath.{key_of, is_key, path_of, store_path, is_in_scratch}
use Rattle.kb_world.specs.Tree.{name_in, sole}
use Rattle.kb_world.specs.declared.roots.Roots.{Roots}
use Rattle.kb_world.specs.declared.store_path.StorePath.{StorePath}
use Rattle.kb_world.specs.declared.store_path.StorePath.TheVariants.{SourceLink, InScratch, Targets, InBox, KernelLink, InChest}
use Rattle.kb_world.proofs.PathLaws.{under-append, under-split, drop-front}
use Rattle.kb_world.proofs.StorePathLaws.{place_there, told_both}
use Rattle.kb_changes.specs.Valid.{is_initrd, is_initrd_name}
use Rattle.kb_again.proofs.PathLaws.{is_over}
use Rattle.kb_again.proofs.Facts.{build_at}

-- ---- entries

sole_is : (names : Path) (n : List ℕ) → sole names ≡ Some n → names ≡ n ∷ []
sole_is [] n e = absurd (cc)
sole_is (name ∷ []) n e = let same : name ≡ n = cc in ap (λ m. m ∷ []) same
sole_is (name ∷ more ∷ rest) n e = absurd (cc)

pub entry_is : (d q : Path) (n : List ℕ) → name_in d q ≡ Some n → q ≡ child d n
entry_is d q n e = by (is_under q d) refl e
  where
    by : (b : Bool) → is_under q d ≡ b → cond b (sole (drop (length d) q)) None ≡ Some n → q ≡ child d n
    by true under is = under-split q d under ∙ ap (λ l. d ++ l) (sole_is (drop (length d) q) n is)
    by false under is = absurd (cc)

pub entry_name : (d : Path) (n : List ℕ) → name_in d (child d n) ≡ Some n
entry_name d n = ap (λ b. cond b (sole (drop (length d) (child d n))) None) (under-append d (n ∷ [])) ∙ ap sole (drop-front d (n ∷ []))

abbrev pub IsInitrdOf : Roots → Path → List ℕ → Type 0
IsInitrdOf r q n = (q ≡ child r.boot n) × (starts_with nat_eq n (codes "initrd.img-") ≡ true)

-- an initrd's name begins so
pub initrd_name : (r : Roots) (q : Path) → is_initrd r q ≡ true → (n : List ℕ) × IsInitrdOf r q n
initrd_name r q is = by (name_in r.boot q) refl is
  where
    by : (o : Option (List ℕ)) → name_in r.boot q ≡ o → is_initrd_name o ≡ true → (n : List ℕ) × IsInitrdOf r q n
    by None e h = absurd (true≢false (sym h))
    by (Some n) e h = (n, (entry_is r.boot q n e, h))

pub initrd_child : (r : Roots) (q : Path) → is_initrd r q ≡ true → (n : List ℕ) × (q ≡ child r.boot n)
initrd_child r q is = let w = initrd_name r q is in (w.0, w.1.0)

-- ---- scratch trees

build_is : (r : Roots) (m v : List ℕ) (rest : Path) → path_of r (InScratch (key_of m v) rest) ≡ build_at r m v ++ rest
build_is r m v rest = sym (
    append_assoc ((r.dkms ++ m ∷ []) ++ v ∷ []) (codes "build" ∷ []) rest
    ∙ append_assoc (r.dkms ++ m ∷ []) (v ∷ []) (codes "build" ∷ rest)
    ∙ append_assoc r.dkms (m ∷ []) (v ∷ codes "build" ∷ rest))

abbrev pub IsInBuild : Roots → Path → Type 0
IsInBuild r q = (m : List ℕ) × (v : List ℕ) × (is_key (key_of m v) ≡ true) × (is_over (build_at r m v) q ≡ true)

build_place : (r : Roots) (q : Path) (place : StorePath) → store_path r q ≡ Some place → is_in_scratch (Some place) ≡ true → IsInBuild r q
build_place r q (InScratch key rest) e h =
    let told = told_both r q (InScratch key rest) e in
    let is : build_at r key.module key.version ++ rest ≡ q = sym (build_is r key.module key.version rest) ∙ told.1 in (
      key.module,
      key.version,
      told.0,
      subst (λ x. is_over (build_at r key.module key.version) x ≡ true) is
          (under-append (build_at r key.module key.version) rest),
    )
build_place r q (SourceLink key) e h = absurd (true≢false (sym h))
build_place r q (Targets key spot) e h = absurd (true≢false (sym h))
build_place r q (InBox key spot rest) e h = absurd (true≢false (sym h))
build_place r q (KernelLink word spot) e h = absurd (true≢false (sym h))
build_place r q (InChest word spot rest) e h = absurd (true≢false (sym h))

pub build_parts : (r : Roots) (q : Path) → is_in_scratch (store_path r q) ≡ true → IsInBuild r q
build_parts r q h = by (store_path r q) refl h
  where
    by : (o : Option StorePath) → store_path r q ≡ o → is_in_scratch o ≡ true → IsInBuild r q
    by None e is = absurd (true≢false (sym is))
    by (Some place) e is = build_place r q place e is

pub build_from : (r : Roots) (q : Path) (m v : List ℕ) → is_key (key_of m v) ≡ true → is_over (build_at r m v) q ≡ true
    → is_in_scratch (store_path r q) ≡ true
build_from r q m v keyed over =
    let rest : Path = drop (length (build_at r m v)) q in
    let is : q ≡ path_of r (InScratch (key_of m v) rest) = under-split q (build_at r m v) over ∙ sym (build_is r m v rest) in
    ap (λ x. is_in_scratch (store_path r x)) is ∙ ap is_in_scratch (place_there r (InScratch (key_of m v) rest) keyed)
