use Rattle.std.proofs.Common.{ap, ◌∙◌}
use Rattle.kb_world.specs.Tree.{without}
use Rattle.kb_disk.specs.Edits.{tree_with}
use Rattle.kb_disk.proofs.NodeLaws.{remove_from}
use Rattle.kb_disk.proofs.nodes.Nodes.take.Goals as goal

pub returns-clause-ok : goal.returns-clause-ok
returns-clause-ok c =
    ap (λ alone. tree_with alone c.remove.new.self.entries) c.in_ok-spread.ensures.none
    ∙ remove_from c.spread.new.map.entries c.remove.new.self.entries c.args.path.now c.remove.ensures.updates.0
    ∙ ap (without c.args.path.now) (c.in_ok-spread.ensures.ok ∙ c.self.view_is)
