use Rattle.std.proofs.Common.{◌≡◌, Option, Some, None, sym, ap, refl, ◌∙◌}
use Rattle.kb_world.specs.Tree.{kind_of, link_text, node_at}
use Rattle.kb_world.specs.declared.tree.Kind.TheVariants as kind
use Rattle.kb_world.specs.declared.tree.Node.{Node}
use Rattle.kb_world.specs.declared.tree.Node.TheVariants as node
use Rattle.kb_disk.specs.Stored.{Stored}
use Rattle.kb_memory.proofs.world.MemoryWorldWorld.read_link.Goals as goal

-- a link says something
never_mute : (at : Option Node) → kind_of at ≡ kind.Link → link_text at ≡ None → ⊥
never_mute None link mute = cc
never_mute (Some node.Dir) link mute = cc
never_mute (Some (node.File bytes exec)) link mute = cc
never_mute (Some (node.Link text)) link mute = cc

pub unreachable-requires : goal.unreachable-requires
unreachable-requires c =
    never_mute (node_at c.nodes.result.now c.args.path.now)
    (ap (λ tree. kind_of (node_at tree c.args.path.now)) (c.nodes.ensures ∙ ap (λ (disk : Stored). disk.tree) c.begin.ensures.disk) ∙ c.requires _ refl)
    (sym c.in-None.ensures)
