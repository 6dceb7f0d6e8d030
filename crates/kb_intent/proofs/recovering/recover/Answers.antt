-- What stands at the journal's path decides.
use Rattle.std.proofs.Common.{rules, ap, sym, ◌∙◌}
use Rattle.kb_world.specs.Tree.{node_at, kind_of}
use Rattle.kb_intent.proofs.RecoverLaws.{absent_stands, unfit_damaged, recovers_bare, recovers_damaged, recovers_since, recovers_unseen, recovers_wanting}
use Rattle.kb_intent.proofs.recovering.recover.Goals as goal

pub returns-in-Err : goal.returns-in-Err
returns-in-Err g c = recovers_wanting c.args.roots.now (g.W.World.state c.args.world.now)

pub returns-in-Ok-Absent : goal.returns-in-Ok-Absent
returns-in-Ok-Absent g c =
    recovers_since c.args.roots.now (g.W.World.state c.args.world.now) (g.W.World.state c.look.new.self) (g.W.World.state c.look.new.self) _ _ c.in-Ok-Absent.ensures.same
    (recovers_bare c.args.roots.now (g.W.World.state c.look.new.self) (λ tree told.
    ap (node_at tree) (sym c.in-Ok.ensures) ∙ absent_stands (node_at tree c.in-Ok.path) (sym c.in-Ok-Absent.field-0-is ∙ c.in-Ok-Absent.ensures.kind tree (sym c.in-Ok-Absent.ensures.same.unchanged.tree ∙ told))))

pub returns-in-Ok-File : goal.returns-in-Ok-File
returns-in-Ok-File g c =
    recovers_since c.args.roots.now (g.W.World.state c.args.world.now) (g.W.World.state c.look.new.self) (g.W.World.state c.recover_file.new.world) _ c.recover_file.result c.in-Ok-File.ensures.same c.recover_file.ensures

pub returns-in-Ok-Dir : goal.returns-in-Ok-Dir
returns-in-Ok-Dir g c =
    recovers_since c.args.roots.now (g.W.World.state c.args.world.now) (g.W.World.state c.look.new.self) (g.W.World.state c.look.new.self) _ _ c.in-Ok-Dir.ensures.same
    (recovers_damaged c.args.roots.now (g.W.World.state c.look.new.self) c.in-Ok.path c.in-Ok.ensures (λ tree told.
    unfit_damaged c.args.roots.now tree c.in-Ok-Dir.field-0 (search rules)
    (c.in-Ok-Dir.ensures.kind tree (sym c.in-Ok-Dir.ensures.same.unchanged.tree ∙ told) ∙ ap (λ path. kind_of (node_at tree path)) c.in-Ok.ensures)))

pub returns-in-Err-look : goal.returns-in-Err-look
returns-in-Err-look g c = recovers_unseen c.args.roots.now (g.W.World.state c.args.world.now) (g.W.World.state c.look.new.self) c.in-Err-look.error c.from.result c.from.ensures c.in-Err-look.ensures.same
