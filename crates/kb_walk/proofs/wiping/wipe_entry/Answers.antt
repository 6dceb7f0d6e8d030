-- What was met stands.
use Rattle.kb_world.specs.Tree.{without}
use Rattle.kb_walk.proofs.WipeLoop.{never_told, absent_stands}
use Rattle.kb_walk.proofs.wiping.wipe_entry.Goals as goal

pub returns-in-Absent : goal.returns-in-Absent
returns-in-Absent g c = never_told (without c.args.met.now.path) _ (λ tree told. let can = c.requires tree told in can.stands (absent_stands _ c.args.met.now.kind c.in-Absent.is can.kind))
