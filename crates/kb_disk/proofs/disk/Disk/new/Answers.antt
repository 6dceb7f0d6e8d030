use Rattle.std.proofs.Common.{sym, subst}
use Rattle.kb_world.specs.Tree.{IsFormed}
use Rattle.kb_disk.proofs.EditLaws.{root_alone-formed}
use Rattle.kb_disk.proofs.disk.Disk.new.Goals as goal

pub invariant_of-result : goal.invariant_of-result
invariant_of-result c = record { formed = subst IsFormed (sym c.root_alone.ensures) root_alone-formed }
