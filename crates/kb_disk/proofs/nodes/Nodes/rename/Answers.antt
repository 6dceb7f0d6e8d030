use Rattle.std.proofs.Common.{Some, sym, ap, ◌∙◌}
use Rattle.kb_world.specs.Tree.{with_node, without}
use Rattle.kb_disk.specs.Edits.{tree_from, tree_with}
use Rattle.kb_disk.proofs.MoveLaws.{moved_to_itself, moved_later, other_paths}
use Rattle.kb_disk.proofs.NodeLaws.{with_node_from, remove_from}
use Rattle.kb_disk.proofs.nodes.Nodes.rename.Goals as goal

pub returns-then-eq-clause-ok : goal.returns-then-eq-clause-ok
returns-then-eq-clause-ok c = moved_to_itself c.args.self.now c.args.from.now c.args.to.now (sym c.if-eq.ensures)

pub returns-clause-ok : goal.returns-clause-ok
returns-clause-ok c =
    ap (λ alone. tree_with alone c.remove.new.self.entries) c.in_ok-spread.ensures.none
    ∙ remove_from c.insert.new.self.entries c.remove.new.self.entries c.args.from.now c.remove.ensures.updates.0
    ∙ ap (without c.args.from.now)
    (with_node_from c.spread.new.map.entries c.insert.new.self.entries c.in_ok-key.key c.in_ok-node-in-Some.node c.in_ok-insert.ensures.updates.0
    ∙ ap (λ path. with_node path c.in_ok-node-in-Some.node (tree_from c.spread.new.map.entries)) c.in_ok-key.ensures.cases
    ∙ ap (λ tree. with_node c.args.to.now c.in_ok-node-in-Some.node tree) (c.in_ok-spread.ensures.ok ∙ c.self.view_is))
    ∙ moved_later c.args.self.now c.args.from.now c.args.to.now c.in_ok-node-in-Some.node (other_paths c.args.from.now c.args.to.now (sym c.if-eq.ensures))
    (sym c.in-Some.ensures ∙ ap (λ node. Some node) (sym c.in_ok-node-in-Some.ensures.cases))
