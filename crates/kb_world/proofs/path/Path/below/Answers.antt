use Rattle.kb_world.proofs.PathLaws.{named_part}
use Rattle.kb_world.proofs.path.Path.below.Goals as goal

pub returns-then-is_under-clause-named : goal.returns-then-is_under-clause-named
returns-then-is_under-clause-named c = named_part c.self.inside.names.items c.deref.result.now _ c.len.result c.deref.ensures.value c.self.invariant
