-- What is behind a front of a path's names are names.
use Rattle.std.proofs.Common.{sym, subst}
use Rattle.kb_world.specs.Path.{IsPath}
use Rattle.kb_world.proofs.PathLaws.{named_part}
use Rattle.kb_walk.proofs.copying.place_copied.Goals as goal

pub join-requires : goal.join-requires
join-requires c = subst IsPath (sym c.in-Some.ensures.lookup.0.2) (named_part c.args.path.now c.names.result.now _ _ c.names.ensures.all c.names.ensures.named)
