-- The setting tells of a machine or is bad.
use Rattle.std.proofs.Common.{ap, ◌∙◌}
use Rattle.std.specs.Prelude.{Err}
use Rattle.kb_world.specs.Refusal.{no_memory_line, bad_root_line, bad_boot_line}
use Rattle.kb_top.proofs.StartLaws.{says_line, starts_good, starts_bad_root, starts_bad_boot, starts_wanting}
use Rattle.kb_top.proofs.call.start.Goals as goal

pub run-requires-clause-rooted : goal.run-requires-clause-rooted
run-requires-clause-rooted g c = c.requires c.in-Ok.host c.in-Ok.ensures.host

pub returns-in-Ok : goal.returns-in-Ok
returns-in-Ok g c = starts_good c.args.setting.now c.in-Ok.host c.args.words.now _ _ c.run.result c.in-Ok.ensures.host c.run.ensures

pub returns-in-Err-BadRoot : goal.returns-in-Err-BadRoot
returns-in-Err-BadRoot g c =
    starts_bad_root c.args.setting.now c.args.words.now _ _ _ _ (c.host_of.ensures.bad_root (c.in-Err-BadRoot.is ∙ ap Err c.in-Err-BadRoot.field-0-is))
    (says_line bad_root_line c.bad_root_line.result.now _ _ c.bad_root_line.ensures c.write_last.ensures)

pub returns-in-Err-BadBoot : goal.returns-in-Err-BadBoot
returns-in-Err-BadBoot g c =
    starts_bad_boot c.args.setting.now c.args.words.now _ _ _ _ (c.host_of.ensures.bad_boot (c.in-Err-BadBoot.is ∙ ap Err c.in-Err-BadBoot.field-0-is))
    (says_line bad_boot_line c.bad_boot_line.result.now _ _ c.bad_boot_line.ensures c.write_last-in-Err-BadBoot.ensures)

pub returns-in-Err-NoMemory : goal.returns-in-Err-NoMemory
returns-in-Err-NoMemory g c =
    starts_wanting c.args.setting.now c.args.words.now _ _ _ _ (says_line no_memory_line c.no_memory_line.result.now _ _ c.no_memory_line.ensures c.write_last-in-Err-NoMemory.ensures)
