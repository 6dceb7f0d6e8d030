-- The usual roots are apart, and stay so with a boot that is apart from the others.
use Rattle.std.proofs.Common.{sym, ap, ◌∙◌, subst}
use Rattle.std.specs.List.{list_all}
use Rattle.kb_world.specs.Path.{are_apart}
use Rattle.kb_world.specs.Roots.{AreApart, based_roots}
use Rattle.kb_top.specs.Setting.{with_boot}
use Rattle.kb_world.proofs.RootsLaws.{usual_apart}
use Rattle.kb_top.proofs.BootLaws.{boot_apart}
use Rattle.kb_top.proofs.setting.roots_of.Goals as goal

pub returns-then-is_boot_apart-clause-apart : goal.returns-then-is_boot_apart-clause-apart
returns-then-is_boot_apart-clause-apart c =
    let boot = c.in_ok-roots-in-Some.field-0 in
    let same = c.in_ok-roots.ensures in
    subst (λ r. AreApart (with_boot boot r)) (sym same) (boot_apart c.args.base.now boot
    (ap (λ r. list_all (are_apart boot) (based_roots r)) (sym same) ∙ sym c.is_boot_apart.ensures ∙ c.if-is_boot_apart.true))

pub returns-in-None-clause-apart : goal.returns-in-None-clause-apart
returns-in-None-clause-apart c = subst AreApart (sym c.in_ok-roots.ensures) (usual_apart c.args.base.now)
