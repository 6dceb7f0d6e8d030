use Rattle.std.proofs.Common.{sym, ap, ◌∙◌}
use Rattle.kb_world.specs.Tree.{node_at, with_node}
use Rattle.kb_disk.specs.Edits.{tree_from, tree_with}
use Rattle.kb_disk.proofs.NodeLaws.{node_at-tree_from, with_node_from, entry_at}
use Rattle.kb_disk.proofs.nodes.Nodes.put.Goals as goal

pub returns-clause-before : goal.returns-clause-before
returns-clause-before c =
    c.in_ok-insert.ensures.old ∙ ap (entry_at c.spread.new.map.entries) c.in_ok-key.ensures.cases
    ∙ sym (node_at-tree_from c.spread.new.map.entries c.args.path.now)
    ∙ ap (λ tree. node_at tree c.args.path.now) (c.in_ok-spread.ensures.ok ∙ c.self.view_is)

pub returns-clause-ok : goal.returns-clause-ok
returns-clause-ok c =
    ap (λ alone. tree_with alone c.insert.new.self.entries) c.in_ok-spread.ensures.none
    ∙ with_node_from c.spread.new.map.entries c.insert.new.self.entries c.in_ok-key.key c.args.node c.in_ok-insert.ensures.updates.0
    ∙ ap (λ path. with_node path c.args.node (tree_from c.spread.new.map.entries)) c.in_ok-key.ensures.cases
    ∙ ap (λ tree. with_node c.args.path.now c.args.node tree) (c.in_ok-spread.ensures.ok ∙ c.self.view_is)
