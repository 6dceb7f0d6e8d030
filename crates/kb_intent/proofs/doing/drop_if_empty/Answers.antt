-- A directory goes exactly where its list is empty.
use Rattle.std.proofs.Common.{rules, ap, sym, ◌∙◌, length, nat_eq}
use Rattle.kb_world.specs.Steps.{tidied}
use Rattle.kb_world.specs.Tree.{without}
use Rattle.kb_intent.proofs.StepsToLaws.{steps_by_call, steps_since, steps_none, steps_stopped, told_after, no_names, tidied_empty, untidied_full}
use Rattle.kb_intent.proofs.doing.drop_if_empty.Goals as goal

pub returns-then-is_empty : goal.returns-then-is_empty
returns-then-is_empty g c =
    let old = g.W.World.state c.args.world.now in
    let mid = g.W.World.state c.list.new.self in
    steps_since (tidied c.args.path.now) old mid _ _ c.remove_dir.result c.in-Ok.ensures.same
    (steps_by_call (tidied c.args.path.now) (without c.args.path.now) mid _ c.remove_dir.result
    (told_after old mid _ c.in-Ok.ensures.same _
    (λ tree told. tidied_empty tree (g.met.W.World.formed c.args.world.now tree told) c.args.path.now (c.requires tree told)
    (sym (c.in-Ok.ensures.names tree told) ∙ no_names c.in-Ok.names.items (search rules)))) c.remove_dir.ensures.gone)

pub returns-in-Ok : goal.returns-in-Ok
returns-in-Ok g c =
    let old = g.W.World.state c.args.world.now in
    steps_none (tidied c.args.path.now) old (g.W.World.state c.list.new.self) _ c.in-Ok.ensures.same
    (λ tree told. untidied_full tree (g.met.W.World.formed c.args.world.now tree told) c.args.path.now
    (ap (λ l. nat_eq (length l) 0) (sym (c.in-Ok.ensures.names tree told)) ∙ (search rules)))

pub returns : goal.returns
returns g c = steps_stopped (tidied c.args.path.now) (g.W.World.state c.args.world.now) (g.W.World.state c.list.new.self) c.in-Err.error c.in-Err.ensures.same
