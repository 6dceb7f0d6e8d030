-- What stood there undoes the edit.
use Rattle.std.proofs.Common.{rules, ◌≡◌, ◌∷◌, ◌++◌, [], refl, sym, ap, ◌∙◌, subst}
use Rattle.kb_world.specs.Tree.{IsFormed, edited}
use Rattle.kb_disk.specs.Undo.{Now}
use Rattle.kb_disk.specs.declared.disk.Undo.TheVariants as undo
use Rattle.kb_disk.proofs.UndoLaws.{changed, undone_was}
use Rattle.kb_disk.proofs.disk.Disk.edit.Goals as goal

pub invariant_of-self-in-Ok : goal.invariant_of-self-in-Ok
invariant_of-self-in-Ok c = record { formed = subst IsFormed (sym c.in-Ok.ensures.ok) c.requires }

pub returns-in-Ok-clause-ok : goal.returns-in-Ok-clause-ok
returns-in-Ok-clause-ok c =
    let before : Now = record { tree = c.args.self.now.nodes; soft = c.args.self.now.soft } in
    let after : Now = record { tree = c.edit.new.self; soft = c.args.self.now.soft } in
    let copy : c.in_ok-clone.field-0 ≡ c.args.path.now = search rules in
    changed c.args.self.now.changes.items c.push.new.self.items (undo.Was c.args.path.now c.in_ok-was.was') before.soft (edited c.args.path.now c.args.node before.tree) before.soft before after
    (c.in_ok-push.ensures.items ∙ ap (λ p. c.args.self.now.changes.items ++ undo.Was p c.in_ok-was.was' ∷ []) copy)
    (undone_was c.args.path.now c.args.node c.in_ok-was.was' before after c.in-Ok.ensures.ok refl c.in_ok-was.ensures) refl c.in-Ok.ensures.ok refl
