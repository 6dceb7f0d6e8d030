-- A setting tells of one machine's roots, or is bad and tells of none.
use Rattle.std.proofs.Common.{rules, ◌≡◌, ◌⊎◌, inl, inr, Result, Ok, Err, ap, ◌∙◌}
use Rattle.std.specs.Prelude.{IfOk, IsErrOf}
use Rattle.kb_world.specs.declared.job.Host.{Host}
use Rattle.kb_top.specs.declared.setting.Setting.{Setting}
use Rattle.kb_top.specs.declared.setting.SettingError.{SettingError}
use Rattle.kb_top.specs.declared.setting.SettingError.TheVariants.{BadRoot, BadBoot}
use Rattle.kb_top.specs.Setting.{IsHostOf, IsBadRoot, IsBadBoot}
use Rattle.kb_top.proofs.StartLaws.{one_roots, good_or_bad_root, good_or_bad_boot}
use Rattle.scenarios.proofs.stage.machine.Goals as goal

if_any : {T E : Type 0} (P : T → Type 0) (result : Result T E) → ((value : T) → P value) → IfOk result P
if_any P (Ok value) all = all value
if_any P (Err error) all = tt

no_host : (setting : Setting) (result : Result Host SettingError) (error : SettingError) (host : Host) → result ≡ Err error → (error ≡ BadRoot) ⊎ (error ≡ BadBoot)
    → (IsErrOf result BadRoot → IsBadRoot setting) → (IsErrOf result BadBoot → IsBadBoot setting) → IsHostOf setting host → ⊥
no_host setting result error host is (inl root) bad_root bad_boot good = good_or_bad_root setting host good (bad_root (is ∙ ap Err root))
no_host setting result error host is (inr boot) bad_root bad_boot good = good_or_bad_boot setting host good (bad_boot (is ∙ ap Err boot))

pub returns-in-Ok-clause-told : goal.returns-in-Ok-clause-told
returns-in-Ok-clause-told c other is = one_roots c.args.setting.now c.in-Ok.host other c.in-Ok.ensures.host is

pub returns-in-Err-BadRoot-clause-told : goal.returns-in-Err-BadRoot-clause-told
returns-in-Err-BadRoot-clause-told c =
    if_any _ c.usual_machine.result (λ host other is.
    absurd (no_host c.args.setting.now c.host_of.result c.in-Err-BadRoot.field-0 other c.in-Err-BadRoot.is (search rules) c.host_of.ensures.bad_root c.host_of.ensures.bad_boot is))
