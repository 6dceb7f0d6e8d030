-- What the program's call does: it runs the words on the machine that the setting tells of, unless the setting is bad.
-- This project's own.
use Rattle.std.specs.Prelude.{◌≡◌, ◌⊎◌, ℕ, List, IsTrue}
use Rattle.kb_world.specs.Refusal.{no_memory_line, bad_root_line, bad_boot_line}
use Rattle.kb_world.specs.declared.job.Host.{Host}
use Rattle.kb_words.specs.Words.{Word}
use Rattle.kb_top.specs.declared.setting.Setting.{Setting}
use Rattle.kb_top.specs.declared.end.End.{End}
use Rattle.kb_top.specs.declared.end.End.TheVariants as end
use Rattle.kb_top.specs.Run.{Outside, RunsCommand, WroteFront, CountsStay}
use Rattle.kb_top.specs.Setting.{IsHostOf, IsBadRoot, IsBadBoot}

-- The call ends so, and a front of the line was written to standard error; or memory ran out, and a front of its line.
-- Nothing else happened.
pub record IsSetAside (due : End) (line : List ℕ) (old new : Outside) (result : End) : Type 0 where
  pub world : new.world ≡ old.world
  pub out : new.out ≡ old.out
  pub says : ((result ≡ due) × WroteFront line old.err new.err) ⊎ ((result ≡ end.NoMemory) × WroteFront no_memory_line old.err new.err)
  pub steady : IsTrue old.err.steady → IsTrue new.err.steady
  pub counts : CountsStay old new

-- The clause of the program's call.
pub record Starts (setting : Setting) (words : List Word) (old new : Outside) (result : End) : Type 0 where
  pub good : (host : Host) → IsHostOf setting host → RunsCommand host words old new result
  pub bad_root : IsBadRoot setting → IsSetAside end.BadRoot bad_root_line old new result
  pub bad_boot : IsBadBoot setting → IsSetAside end.BadBoot bad_boot_line old new result
