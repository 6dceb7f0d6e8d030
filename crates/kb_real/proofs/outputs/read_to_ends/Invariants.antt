-- What was kept so far is the front of what was read.
use Rattle.std.proofs.Common.{List, ℕ, Option}
use Rattle.kb_real.specs.Outputs.{IsReadTo}
use Rattle.kb_real.proofs.outputs.read_to_ends.Given as goal

abbrev pub invariant-loop : goal.invariant-loop
invariant-loop g l = record {
  out : (first : Option (List ℕ)) → IsReadTo first (g.O.Read.remaining l.initial.out.reader) l.initial.out.kept l.initial.out.is_at_end → IsReadTo first (g.O.Read.remaining l.out.reader) l.out.kept l.out.is_at_end;
  err : (first : Option (List ℕ)) → IsReadTo first (g.E.Read.remaining l.initial.err.reader) l.initial.err.kept l.initial.err.is_at_end → IsReadTo first (g.E.Read.remaining l.err.reader) l.err.kept l.err.is_at_end;
}
