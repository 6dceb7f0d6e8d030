-- Each setting tells of a machine, or has a bad root, or a bad boot.
use Rattle.std.proofs.Common.{◌≡◌, ◌⊎◌, ℕ, Bool, true, false, eqb, eqb-true, List, [], ◌∷◌, Option, Some, None, refl, sym, ap, ◌∙◌, subst, inl, inr}
use Rattle.std.specs.Prelude.{codes, unwrap_or}
use Rattle.std.specs.List.{list_all, slice_split}
use Rattle.kb_world.specs.Names.{is_name}
use Rattle.kb_world.specs.Path.{Path, IsPath, are_apart}
use Rattle.kb_world.specs.Roots.{AreApart, roots_under, based_roots}
use Rattle.kb_world.specs.declared.roots.Roots.{Roots}
use Rattle.kb_world.specs.declared.job.Host.{Host}
use Rattle.kb_world.proofs.PathText.{path_text-slice_split, names_of_text, path_text_begins}
use Rattle.kb_top.specs.declared.setting.Setting.{Setting}
use Rattle.kb_top.specs.Setting.{IsPathOf, IsNoPath, IsBase, IsBadBase, with_boot, HasBoot, IsBadBootFor, IsHostOf, IsBadRoot, IsBadBoot}
use Rattle.kb_world.proofs.RootsLaws.{usual_apart}
use Rattle.kb_top.proofs.BootLaws.{boot_apart, boot_found_apart}

abbrev SLASH : ℕ
SLASH = 47

abbrev IsSomePath : List ℕ → Type 0
IsSomePath text = (path : Path) × IsPathOf text path

no_start : (c : ℕ) (rest : List ℕ) → eqb c SLASH ≡ false → IsNoPath (c ∷ rest)
no_start c rest other path is =
    let begins = path_text_begins path in
    let same : SLASH ∷ begins.0 ≡ c ∷ rest = sym begins.1 ∙ is.1 in
    let here : c ≡ SLASH = cc in
    let impossible : true ≡ false = sym (ap (λ d. eqb d SLASH) here) ∙ other in cc

behind_slash : (rest : List ℕ) → IsSomePath (SLASH ∷ rest) ⊎ IsNoPath (SLASH ∷ rest)
behind_slash [] = inl ([], (refl, refl))
behind_slash (d ∷ ds) = by_names (list_all is_name (slice_split (λ c. eqb c SLASH) (d ∷ ds))) refl
  where
    by_names : (named : Bool) → list_all is_name (slice_split (λ c. eqb c SLASH) (d ∷ ds)) ≡ named → IsSomePath (SLASH ∷ d ∷ ds) ⊎ IsNoPath (SLASH ∷ d ∷ ds)
    by_names true named = inl (slice_split (λ c. eqb c SLASH) (d ∷ ds), (named, path_text-slice_split (d ∷ ds)))
    by_names false named = inr (λ path is.
        let cut = names_of_text path (d ∷ ds) is.0 is.1 (λ none. let impossible : d ∷ ds ≡ [] = none in cc) in
        let impossible : true ≡ false = sym (subst IsPath (sym cut) is.0) ∙ named in cc)

path_or_none : (text : List ℕ) → IsSomePath text ⊎ IsNoPath text
path_or_none [] = inr (λ path is. let impossible : SLASH ∷ (path_text_begins path).0 ≡ [] = sym (path_text_begins path).1 ∙ is.1 in cc)
path_or_none (c ∷ rest) = by_first (eqb c SLASH) refl
  where
    by_first : (slash : Bool) → eqb c SLASH ≡ slash → IsSomePath (c ∷ rest) ⊎ IsNoPath (c ∷ rest)
    by_first true e = subst (λ d. IsSomePath (d ∷ rest) ⊎ IsNoPath (d ∷ rest)) (sym (eqb-true c SLASH e)) (behind_slash rest)
    by_first false e = inr (no_start c rest e)

base_or_bad : (root : Option (List ℕ)) → ((base : Path) × IsBase root base) ⊎ IsBadBase root
base_or_bad None = inl ([], refl)
base_or_bad (Some text) = path_or_none text

abbrev HasRoots : Option (List ℕ) → Path → Type 0
HasRoots boot base = (roots : Roots) × HasBoot boot base roots × AreApart roots

boot_or_bad : (text : List ℕ) (base : Path) → IsSomePath text ⊎ IsNoPath text → HasRoots (Some text) base ⊎ IsBadBootFor base (Some text)
boot_or_bad text base (inr none) = inr (inl none)
boot_or_bad text base (inl found) = by_apart (list_all (are_apart found.0) (based_roots (roots_under base))) refl
  where
    by_apart : (apart : Bool) → list_all (are_apart found.0) (based_roots (roots_under base)) ≡ apart → HasRoots (Some text) base ⊎ IsBadBootFor base (Some text)
    by_apart true apart = inl (with_boot found.0 (roots_under base), (found.0, found.1, refl), boot_apart base found.0 apart)
    by_apart false apart = inr (inr (found.0, found.1, λ others. let impossible : true ≡ false = sym (boot_found_apart base found.0 others) ∙ apart in cc))

roots_or_bad : (boot : Option (List ℕ)) (base : Path) → HasRoots boot base ⊎ IsBadBootFor base boot
roots_or_bad None base = inl (roots_under base, refl, usual_apart base)
roots_or_bad (Some text) base = boot_or_bad text base (path_or_none text)

abbrev pub IsOneOf : Setting → Type 0
IsOneOf setting = ((host : Host) × IsHostOf setting host) ⊎ (IsBadRoot setting ⊎ IsBadBoot setting)

with_base : (setting : Setting) (base : Path) → IsBase setting.root base → HasRoots setting.boot base ⊎ IsBadBootFor base setting.boot → IsOneOf setting
with_base setting base is (inl found) = inl (
  record { kernel = setting.release; arch = unwrap_or setting.machine (codes "unknown"); roots = found.0 },
  record { base = base; base_is = is; roots_are = found.1; apart = found.2; kernel_is = refl; arch_is = refl },
)
with_base setting base is (inr bad) = inr (inr (record { base = base; base_is = is; bad = bad }))

by_base : (setting : Setting) → ((base : Path) × IsBase setting.root base) ⊎ IsBadBase setting.root → IsOneOf setting
by_base setting (inl found) = with_base setting found.0 found.1 (roots_or_bad setting.boot found.0)
by_base setting (inr bad) = inr (inl bad)

pub good_or_bad : (setting : Setting) → IsOneOf setting
good_or_bad setting = by_base setting (base_or_bad setting.root)
