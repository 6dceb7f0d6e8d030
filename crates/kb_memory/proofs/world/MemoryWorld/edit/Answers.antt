use Rattle.std.proofs.Common.{refl, sym, subst}
use Rattle.kb_world.specs.State.{Changes}
use Rattle.kb_world.specs.Tree.{edited}
use Rattle.kb_disk.specs.Stored.{stored_of}
use Rattle.kb_memory.specs.World.{state_of, disk_of}
use Rattle.kb_memory.proofs.CallLaws.{changes_so, changes_not, changes_early}
use Rattle.kb_memory.proofs.world.MemoryWorld.edit.Goals as goal
use Rattle.kb_memory.proofs.world.MemoryWorld.edit.Goals.{then-is_done+in_ok-edit, else-is_done}

pub returns-in_err-edit-clause-changes : goal.returns-in_err-edit-clause-changes
returns-in_err-edit-clause-changes c =
    let old = c.args.self.now in
    let next = c.next-fate in
    changes_early (edited c.args.path.now c.args.node) (state_of old) (state_of old) (disk_of old) (stored_of c.edit.new.self) old.calls next.new.self next.ensures.counted next.result next.ensures.fate refl refl refl
    c.from_residual.result c.from_residual.ensures.1 c.in_err-edit.ensures.err

pub returns-clause-changes : goal.returns-clause-changes
returns-clause-changes c =
    let old = c.args.self.now in
    let next = c.next-fate in
    let change = edited c.args.path.now c.args.node in
    elim c.if-is_done.branch [
      | then-is_done+in_ok-edit w ↦
          subst (λ world. Changes change (state_of old) (state_of world) c.end.result) (sym w.self-is)
          (changes_so change (state_of old) (state_of old) (disk_of old) (stored_of w.edit.new.self) old.calls next.new.self next.ensures.counted next.result next.ensures.fate refl refl refl
          c.end.result c.end.ensures w.in_ok-edit.ensures.ok)
      | else-is_done w ↦
          subst (λ world. Changes change (state_of old) (state_of world) c.end.result) (sym w.self-is)
          (changes_not change (state_of old) (state_of old) (disk_of old) (disk_of old) old.calls next.new.self next.ensures.counted next.result next.ensures.fate refl refl refl c.end.result c.end.ensures
          (sym w.if-is_done.ensures) refl)
    ]
