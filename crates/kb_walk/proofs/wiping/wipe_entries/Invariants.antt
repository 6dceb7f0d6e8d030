use Rattle.std.proofs.Common.{map}
use Rattle.kb_walk.proofs.WipeLoop.{HasWiped, path_of}
use Rattle.kb_walk.proofs.wiping.wipe_entries.Given as goal

abbrev pub invariant-loop-i : goal.invariant-loop-i
invariant-loop-i g l = HasWiped (g.W.World.state l.initial.world) (g.W.World.state l.world) (map path_of l.met) l.i
