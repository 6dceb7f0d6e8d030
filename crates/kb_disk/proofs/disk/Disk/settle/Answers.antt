-- The areas that were soft undo it.
use Rattle.std.proofs.Common.{◌≡◌, not, refl, ap, ◌∙◌}
use Rattle.std.specs.Prelude.{filter}
use Rattle.kb_world.specs.Area.{is_settled_by}
use Rattle.kb_disk.specs.Undo.{Now}
use Rattle.kb_disk.specs.declared.disk.Undo.TheVariants as undo
use Rattle.kb_disk.proofs.UndoLaws.{changed, undone_settled}
use Rattle.kb_disk.proofs.disk.Disk.settle.Goals as goal

pub returns-clause-ok : goal.returns-clause-ok
returns-clause-ok c =
    let before : Now = record { tree = c.args.self.now.nodes; soft = c.args.self.now.soft } in
    let after : Now = record { tree = c.args.self.now.nodes; soft = c.in_ok-soft.soft } in
    let rest = filter (λ other. not (is_settled_by c.args.area.now other)) before.soft in
    let left : c.in_ok-soft.soft ≡ rest = c.in_ok-soft.ensures ∙ ap (filter (λ other. not (is_settled_by c.args.area.now other))) c.as_slice.ensures in
    changed c.args.self.now.changes.items c.push.new.self.items (undo.Settled c.in_ok-was.was') before.soft before.tree rest before after
    c.in_ok-push.ensures.items (undone_settled c.in_ok-was.was' before after refl (c.in_ok-was.ensures ∙ c.as_slice-2.ensures)) refl refl left
