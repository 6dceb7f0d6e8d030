use Rattle.std.proofs.Common.{◌≡◌, ap, sym, subst, ◌∙◌}
use Rattle.kb_world.specs.Area.{IsLeft}
use Rattle.kb_world.specs.Tree.{Tree}
use Rattle.kb_disk.specs.Stored.{Stored}
use Rattle.kb_memory.specs.Lost.{lost}
use Rattle.kb_memory.proofs.LostLaws.{lost_left}
use Rattle.kb_memory.proofs.world.MemoryWorld.lose.Goals as goal

pub returns-clause-image : goal.returns-clause-image
returns-clause-image c =
    let disk = c.args.self.disk in
    let left : c.restarted.result.nodes ≡ lost c.deref.result.now disk.soft c.args.choice disk.nodes = ap (λ (s : Stored). s.tree) c.restarted.ensures ∙ c.in_ok-lose_in.ensures in
    subst (IsLeft disk.soft disk.nodes) (sym left) (lost_left c.deref.result.now disk.soft c.args.choice disk.nodes disk.formed)
