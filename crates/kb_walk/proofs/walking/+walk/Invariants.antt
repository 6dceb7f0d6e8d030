use Rattle.std.proofs.Common.{◌+◌, ◌*◌}
use Rattle.kb_walk.proofs.VisitLaws.{HasVisited}
use Rattle.kb_walk.proofs.walking.+walk.Given as goal

abbrev pub decreases-visit : goal.decreases-visit
decreases-visit g l = 2 * l.depth + 1

abbrev pub decreases-visit_entry : goal.decreases-visit_entry
decreases-visit_entry g l = 2 * l.depth

abbrev pub invariant-visit-loop-name : goal.invariant-visit-loop-name
invariant-visit-loop-name g l =
    HasVisited (g.W.World.state l.initial.world) (g.W.World.state l.world) (g.S.Skips.skips l.skips) l.directory l.most l.depth l.initial.walk l.walk l.name-items l.name-index
