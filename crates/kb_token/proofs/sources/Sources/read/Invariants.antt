use Rattle.kb_token.proofs.WorldLaws.{HasRead}
use Rattle.kb_token.proofs.sources.Sources.read.Given as goal

abbrev pub invariant-loop-source : goal.invariant-loop-source
invariant-loop-source g l = HasRead (g.W.World.state l.initial.world) (g.W.World.state l.world) l.roots l.source-items l.contents.items l.source-index
