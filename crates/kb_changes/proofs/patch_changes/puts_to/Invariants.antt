-- The Puts so far, and those that are to come. Each root counts those so far.
use Rattle.std.proofs.Common.{◌≡◌, [], ◌++◌, drop, take, length}
use Rattle.kb_changes.specs.Changes as rule
use Rattle.kb_changes.specs.Counts.{count_below}
use Rattle.kb_changes.specs.PatchPaths.{some_puts}
use Rattle.kb_changes.specs.declared.change.RootName.{RootName}
use Rattle.kb_changes.proofs.patch_changes.puts_to.Given as goal

abbrev pub invariant-loop-target : goal.invariant-loop-target
invariant-loop-target l = record {
  made : l.puts.items ++ rule.numbered_puts l.roots (some_puts (take l.target-index l.targets)) (some_puts (drop l.target-index l.targets)) ≡ rule.numbered_puts l.roots [] (some_puts l.targets);
  counted : (root : RootName) → count_below l.counts root ≡ length (rule.nodes_below l.roots root (some_puts (take l.target-index l.targets)));
}
