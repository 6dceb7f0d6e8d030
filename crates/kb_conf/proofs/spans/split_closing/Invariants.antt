-- What is found in the whole text is what is found in the rest, with the bytes so far before it.
use Rattle.std.proofs.Common.{◌≡◌, ◌≤◌, ◌++◌, take, drop}
use Rattle.std.specs.Prelude.{option_map, ℕ, List}
use Rattle.kb_conf.specs.Front.{closing_at}
use Rattle.kb_conf.proofs.spans.split_closing.Given as goal

abbrev pub invariant-loop-i : goal.invariant-loop-i
invariant-loop-i l = record {
  depth : l.depth ≤ l.i;
  same : closing_at 0 l.text ≡ option_map (λ (found : List ℕ × List ℕ). (take l.i l.text ++ found.0, found.1)) (closing_at l.depth (drop l.i l.text));
}
