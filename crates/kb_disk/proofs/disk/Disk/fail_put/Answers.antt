-- Nothing stood there, and nothing does.
use Rattle.std.proofs.Common.{rules, ◌≡◌, ◌∷◌, ◌++◌, [], ap, ◌∙◌}
use Rattle.kb_disk.specs.Undo.{Now}
use Rattle.kb_disk.specs.declared.disk.Undo.TheVariants as undo
use Rattle.kb_disk.proofs.UndoLaws.{pushed, undone_failed_put}
use Rattle.kb_disk.proofs.disk.Disk.fail_put.Goals as goal

pub returns-clause-ok : goal.returns-clause-ok
returns-clause-ok c =
    let now : Now = record { tree = c.args.self.now.nodes; soft = c.args.self.now.soft } in
    let copy : c.in_ok-clone.field-0 ≡ c.args.path.now = search rules in
    pushed c.args.self.now.changes.items c.push.new.self.items (undo.Put c.args.path.now) now now
    (c.in_ok-push.ensures.items ∙ ap (λ p. c.args.self.now.changes.items ++ undo.Put p ∷ []) copy)
    (undone_failed_put c.args.path.now now c.requires)
