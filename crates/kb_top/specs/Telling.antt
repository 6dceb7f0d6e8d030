-- What is told of a recovery, in a report. This project's own.
use Rattle.std.specs.Prelude.{Bool, true, false, List, ◌++◌, Option, option_map}
use Rattle.kb_world.specs.declared.job.Report.{Report}
use Rattle.kb_changes.specs.declared.change.Recovered.{Recovered}
use Rattle.kb_words.specs.Words.{Word}
use Rattle.kb_top.specs.Machine.{recovery_printed, recovery_warned}

-- the words of the journal that was ended
abbrev pub words_found : Option Recovered → Option (List Word)
words_found found = option_map (λ (recovered : Recovered). recovered.words) found

-- the report with what is told
abbrev pub told_to : Option (List Word) → Bool → Report → Report
told_to found true report = record { out = report.out ++ recovery_printed found; err = report.err }
told_to found false report = record { out = report.out; err = report.err ++ recovery_warned found }
