use Rattle.std.proofs.Common.{Option, Some, None, cond, not, sym, ap, ◌∙◌}
use Rattle.kb_world.specs.declared.tree.Node.{Node}
use Rattle.kb_memory.proofs.ScriptLaws.{not_seen, seen_at}
use Rattle.kb_memory.proofs.script.seen_at.Goals as goal

pub returns-then-not-sees : goal.returns-then-not-sees
returns-then-not-sees c = sym (not_seen c.args.roots.now c.args.request.now c.args.nodes.now c.args.path.now (sym c.if-not-sees.ensures))

pub returns-then-is_dir : goal.returns-then-is_dir
returns-then-is_dir c =
    let at : Option Node = Some c.in-Some.node.now in
    sym (seen_at c.args.roots.now c.args.request.now c.args.nodes.now c.args.path.now at (sym c.if-not-sees.ensures) (sym c.in-Some.ensures)
    ∙ ap (λ b. cond (not b) at None) (sym c.if-is_dir.ensures))

pub returns-else-is_dir : goal.returns-else-is_dir
returns-else-is_dir c =
    let at : Option Node = Some c.in-Some.node.now in
    sym (seen_at c.args.roots.now c.args.request.now c.args.nodes.now c.args.path.now at (sym c.if-not-sees.ensures) (sym c.in-Some.ensures)
    ∙ ap (λ b. cond (not b) at None) (sym c.if-is_dir.ensures))

pub returns-in-None : goal.returns-in-None
returns-in-None c = sym (seen_at c.args.roots.now c.args.request.now c.args.nodes.now c.args.path.now None (sym c.if-not-sees.ensures) (sym c.in-None.ensures))
