-- What stood at the second path undoes the move.
use Rattle.std.proofs.Common.{rules, ◌≡◌, ◌∷◌, ◌++◌, [], refl, sym, ◌∙◌, subst}
use Rattle.kb_world.specs.Tree.{IsFormed, moved}
use Rattle.kb_disk.specs.Undo.{Now}
use Rattle.kb_disk.specs.declared.disk.Undo.TheVariants as undo
use Rattle.kb_disk.proofs.UndoLaws.{changed, undone_moved}
use Rattle.kb_disk.proofs.disk.Disk.rename.Goals as goal

pub invariant_of-self-in-Ok : goal.invariant_of-self-in-Ok
invariant_of-self-in-Ok c = record { formed = subst IsFormed (sym c.in-Ok.ensures.ok) c.requires.formed }

pub returns-in-Ok-clause-ok : goal.returns-in-Ok-clause-ok
returns-in-Ok-clause-ok c =
    let from = c.args.from.now in
    let to = c.args.to.now in
    let before : Now = record { tree = c.args.self.now.nodes; soft = c.args.self.now.soft } in
    let after : Now = record { tree = c.rename.new.self; soft = c.args.self.now.soft } in
    let from_copy : c.in_ok-clone.field-0 ≡ from = search rules in
    let to_copy : c.in_ok-clone-2.field-0 ≡ to = search rules in
    changed c.args.self.now.changes.items c.push.new.self.items (undo.Moved from to c.in_ok-was.was') before.soft (moved from to before.tree) before.soft before after
    (c.in_ok-push.ensures.items ∙ (λ i. c.args.self.now.changes.items ++ undo.Moved (from_copy i) (to_copy i) c.in_ok-was.was' ∷ []))
    (undone_moved from to c.in_ok-was.was' before after c.in-Ok.ensures.ok refl c.in_ok-was.ensures) refl c.in-Ok.ensures.ok refl
