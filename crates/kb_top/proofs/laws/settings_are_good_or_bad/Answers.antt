-- One of the three, and only one.
use Rattle.kb_top.proofs.SettingLaws.{good_or_bad}
use Rattle.kb_top.proofs.StartLaws.{good_or_bad_root, good_or_bad_boot, bad_root_or_boot}
use Rattle.kb_top.proofs.laws.settings_are_good_or_bad.Goals as goal

pub returns-clause-one : goal.returns-clause-one
returns-clause-one c = good_or_bad

pub returns-clause-good_root : goal.returns-clause-good_root
returns-clause-good_root c = good_or_bad_root

pub returns-clause-good_boot : goal.returns-clause-good_boot
returns-clause-good_boot c = good_or_bad_boot

pub returns-clause-root_first : goal.returns-clause-root_first
returns-clause-root_first c = bad_root_or_boot
