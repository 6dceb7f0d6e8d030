-- Nothing stood where the file was put.
use Rattle.std.proofs.Common.{rules, ◌≡◌, ◌∷◌, ◌++◌, [], refl, sym, ap, ◌∙◌, subst, Some}
use Rattle.kb_world.specs.Tree.{IsFormed, with_node}
use Rattle.kb_world.specs.declared.tree.Node.TheVariants.{File}
use Rattle.kb_disk.specs.Undo.{Now}
use Rattle.kb_disk.specs.declared.disk.Undo.TheVariants as undo
use Rattle.kb_disk.proofs.EditLaws.{can_place, edited-formed}
use Rattle.kb_disk.proofs.UndoLaws.{changed, undone_put}
use Rattle.kb_disk.proofs.disk.Disk.put.Goals as goal

pub invariant_of-self-in-Ok : goal.invariant_of-self-in-Ok
invariant_of-self-in-Ok c =
    let tree = c.args.self.now.nodes in
    record {
      formed = subst IsFormed (sym c.in-Ok.ensures.ok)
          (edited-formed tree c.args.path.now (Some (File c.in_ok-bytes.bytes c.args.exec)) c.args.self.now.formed (can_place tree c.args.path.now c.args.self.now.formed c.requires));
    }

pub returns-in-Ok-clause-ok : goal.returns-in-Ok-clause-ok
returns-in-Ok-clause-ok c =
    let path = c.args.path.now in
    let before : Now = record { tree = c.args.self.now.nodes; soft = c.args.self.now.soft } in
    let after : Now = record { tree = c.edit.new.self; soft = c.args.self.now.soft } in
    let copy : c.in_ok-clone.field-0 ≡ path = search rules in
    let made : c.edit.new.self ≡ with_node path (File c.args.bytes.now c.args.exec) before.tree =
    c.in-Ok.ensures.ok ∙ ap (λ bytes. with_node path (File bytes c.args.exec) before.tree) c.in_ok-bytes.ensures in
    changed c.args.self.now.changes.items c.push.new.self.items (undo.Put path) before.soft (with_node path (File c.args.bytes.now c.args.exec) before.tree) before.soft before after
    (c.in_ok-push.ensures.items ∙ ap (λ p. c.args.self.now.changes.items ++ undo.Put p ∷ []) copy)
    (undone_put path (File c.args.bytes.now c.args.exec) before after made refl c.requires.free) refl made refl
