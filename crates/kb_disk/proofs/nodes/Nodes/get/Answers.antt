use Rattle.std.proofs.Common.{true, false, ◌∙◌}
use Rattle.kb_disk.proofs.NodeLaws.{stands_alone, stands_in_map}
use Rattle.kb_disk.proofs.nodes.Nodes.get.Goals as goal

pub returns-in-None : goal.returns-in-None
returns-in-None c = c.get.ensures.value ∙ stands_in_map c.self.inside.alone c.self.inside.map.entries c.args.self.now c.args.path.now c.in-None.is c.self.view_is

pub returns-then-is_empty : goal.returns-then-is_empty
returns-then-is_empty c =
    stands_alone c.self.inside.alone c.self.inside.map.entries c.args.self.now c.in-Some.node c.args.path.now c.names.result.now true c.in-Some.is c.self.view_is c.names.ensures.all
    c.if-is_empty.ensures

pub returns-else-is_empty : goal.returns-else-is_empty
returns-else-is_empty c =
    stands_alone c.self.inside.alone c.self.inside.map.entries c.args.self.now c.in-Some.node c.args.path.now c.names.result.now false c.in-Some.is c.self.view_is c.names.ensures.all
    c.if-is_empty.ensures
