-- So many changes are read.
use Rattle.std.proofs.Common.{◌≡◌, List, ℕ, ◌∷◌, ◌++◌, All, codes, flat_map}
use Rattle.kb_changes.specs.Text as rule
use Rattle.kb_changes.specs.declared.change.Change.{Change}
use Rattle.kb_journal.proofs.LeftLaws.{AreLeft}
use Rattle.kb_journal.proofs.read_change.read_changes.Given as goal

abbrev pub invariant-loop : goal.invariant-loop
invariant-loop l =
    (changes : List Change) (more : List (List ℕ)) → All rule.IsTextChange changes → l.fn.fields ≡ flat_map rule.change_fields changes ++ codes "end" ∷ more
    → AreLeft rule.change_fields rule.IsTextChange changes l.changes (codes "end" ∷ more) l.fields l.counter
