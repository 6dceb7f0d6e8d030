-- The usual roots stay apart with another boot.
use Rattle.std.proofs.Common.{◌≡◌, true, ◌∷◌}
use Rattle.std.specs.List.{list_all}
use Rattle.std.specs.Cmp.{first_so}
use Rattle.std.specs.Cmp.Derive.{both_true}
use Rattle.kb_world.specs.Path.{Path, are_apart}
use Rattle.kb_world.specs.Roots.{AreApart, roots_under, based_roots, each_apart}
use Rattle.kb_world.proofs.RootsLaws.{based_apart, based_below}
use Rattle.kb_top.specs.Setting.{with_boot}

-- another boot is as good where it is apart from the others
pub boot_apart : (base boot : Path) → list_all (are_apart boot) (based_roots (roots_under base)) ≡ true → AreApart (with_boot boot (roots_under base))
boot_apart base boot h = both_true (both_true h (based_apart base)) (based_below base)

pub boot_found_apart : (base boot : Path) → AreApart (with_boot boot (roots_under base)) → list_all (are_apart boot) (based_roots (roots_under base)) ≡ true
boot_found_apart base boot h =
    let based = based_roots (roots_under base) in
    first_so (list_all (are_apart boot) based) _ (first_so (each_apart (boot ∷ based)) _ h)
