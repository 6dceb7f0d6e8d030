-- What is left decides.
use Rattle.std.proofs.Common.{◌≡◌, drop}
use Rattle.std.specs.List.{list_all}
use Rattle.kb_changes.specs.Groups.{runs_in}
use Rattle.kb_changes.specs.Valid as rule
use Rattle.kb_changes.proofs.runs.are_fit.Given as goal

abbrev pub invariant-loop-change : goal.invariant-loop-change
invariant-loop-change l =
    list_all (rule.is_fit_run l.roots l.drops) (runs_in l.changes) ≡ list_all (rule.is_fit_run l.roots l.drops) (runs_in (drop l.change-index l.changes))
