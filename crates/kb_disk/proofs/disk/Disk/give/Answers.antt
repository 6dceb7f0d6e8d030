-- The areas behind the first are those of before.
use Rattle.std.proofs.Common.{◌≡◌, ◌∷◌, refl, ap, ◌∙◌}
use Rattle.kb_disk.specs.Undo.{Now}
use Rattle.kb_disk.specs.declared.disk.Undo.TheVariants as undo
use Rattle.kb_disk.proofs.UndoLaws.{changed, undone_given}
use Rattle.kb_disk.proofs.disk.Disk.give.Goals as goal

pub returns-clause-ok : goal.returns-clause-ok
returns-clause-ok c =
    let area = c.args.area.now in
    let before : Now = record { tree = c.args.self.now.nodes; soft = c.args.self.now.soft } in
    let after : Now = record { tree = c.args.self.now.nodes; soft = c.in_ok-soft.soft } in
    let given : c.in_ok-soft.soft ≡ area ∷ before.soft = c.in_ok-soft.ensures ∙ ap (λ soft. area ∷ soft) c.as_slice.ensures in
    changed c.args.self.now.changes.items c.push.new.self.items undo.Given (area ∷ before.soft) before.tree (area ∷ before.soft) before after
    c.in_ok-push.ensures.items (undone_given area before after refl given) given refl given
