-- The fields so far.
use Rattle.std.proofs.Common.{◌≡◌, ◌++◌, take, flat_map}
use Rattle.kb_changes.specs.Text as rule
use Rattle.kb_journal.proofs.spell.push_pairs.Given as goal

abbrev pub invariant-loop-pair : goal.invariant-loop-pair
invariant-loop-pair l = (l.fields.items ≡ l.initial.fields.items ++ flat_map rule.pair_field (take l.pair-index l.pairs)) × rule.AreTextPairs (take l.pair-index l.pairs)
