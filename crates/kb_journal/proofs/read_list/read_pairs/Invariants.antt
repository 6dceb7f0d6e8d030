-- So many pairs are read.
use Rattle.std.proofs.Common.{◌≡◌, ◌<◌, ◌^◌, List, ℕ, ◌++◌, length}
use Rattle.kb_changes.specs.Text as rule
use Rattle.kb_journal.proofs.LeftLaws.{AreLeft, IsTextPair}
use Rattle.kb_journal.proofs.read_list.read_pairs.Given as goal

abbrev pub invariant-loop : goal.invariant-loop
invariant-loop l =
    (pairs : List (List ℕ × List ℕ)) (more : List (List ℕ)) → rule.AreTextPairs pairs → length pairs < 2 ^ 64 → l.fn.fields ≡ rule.pair_fields pairs ++ more
    → AreLeft rule.pair_field IsTextPair pairs l.pairs more l.fields l.counter
