-- The set of the packages of a store's builds, one more at a time.
use Rattle.std.proofs.Common.{◌≡◌, ℕ, ◌+◌, ◌<◌, Bool, true, false, cond, ◌&&◌, ◌||◌, List, length, take, get_or, refl, sym, ap, ◌∙◌}
use Rattle.std.specs.List.{list_any}
use Rattle.std.specs.Ordering.{nat_cmp, is_eq}
use Rattle.std.specs.Cmp.{tied_then}
use Rattle.std.specs.Cmp.Lexicographic.{slice_cmp}
use Rattle.std.specs.BTreeSet.{BTreeSet, contains, IsEmpty}
use Rattle.std.proofs.lemmas.List.Folds.{list_any_more}
use Rattle.std.proofs.lemmas.Map.Text.{is_eq-slice_cmp}
use Rattle.kb_world.specs.Store.{same_key}
use Rattle.kb_world.specs.declared.job.Key.{Key}
use Rattle.kb_store.specs.declared.store.Build.{Build}
use Rattle.kb_status.specs.declared.built.Package.{Package}
use Rattle.kb_status.specs.Built.{package_of, package_cmp}

-- the set has the packages of these builds
abbrev pub BuiltBy : List Build → BTreeSet Package → Type 0
BuiltBy builds built = (key : Key) → contains package_cmp built (package_of key) ≡ list_any (λ build. same_key build.key key) builds

pub built_none : (built : BTreeSet Package) → IsEmpty built → (key : Key) → contains package_cmp built (package_of key) ≡ false
built_none built h key = ap (λ keys. list_any (λ k. is_eq (package_cmp (package_of key) k)) keys) h

tied_as : (a b : Key) → is_eq (package_cmp (package_of a) (package_of b)) ≡ same_key a b
tied_as a b =
    sym (tied_then (slice_cmp nat_cmp a.module b.module) (slice_cmp nat_cmp a.version b.version))
    ∙ (λ i. (is_eq-slice_cmp a.module b.module i && is_eq-slice_cmp a.version b.version i))

either_way : (a b : Bool) → cond a true b ≡ (b || a)
either_way true true = refl
either_way true false = refl
either_way false true = refl
either_way false false = refl

pub built_more : (builds : List Build) (i : ℕ) (build : Build) (p : Package) (before after : BTreeSet Package) → i < length builds → build ≡ get_or builds i build → p ≡ package_of build.key
    → ((q : Package) → contains package_cmp after q ≡ cond (is_eq (package_cmp p q)) true (contains package_cmp before q))
    → BuiltBy (take i builds) before → BuiltBy (take (i + 1) builds) after
built_more builds i build p before after l is named updates h key =
    updates (package_of key)
    ∙ ap (λ x. cond (is_eq (package_cmp x (package_of key))) true (contains package_cmp before (package_of key))) named
    ∙ (λ j. cond (tied_as build.key key j) true (h key j))
    ∙ either_way (same_key build.key key) (list_any (λ b. same_key b.key key) (take i builds))
    ∙ ap (λ b. list_any (λ b. same_key b.key key) (take i builds) || same_key b.key key) is
    ∙ sym (list_any_more (λ b. same_key b.key key) builds i build l)
