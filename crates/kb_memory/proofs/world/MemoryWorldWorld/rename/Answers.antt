use Rattle.std.proofs.Common.{refl, sym, subst}
use Rattle.kb_world.specs.State.{Changes}
use Rattle.kb_world.specs.Tree.{moved}
use Rattle.kb_disk.specs.Stored.{stored_of}
use Rattle.kb_disk.proofs.MoveLaws.{rename-formed}
use Rattle.kb_memory.specs.World.{state_of, disk_of}
use Rattle.kb_memory.proofs.CallLaws.{changes_so, changes_not, changes_early}
use Rattle.kb_memory.proofs.world.MemoryWorldWorld.rename.Goals as goal
use Rattle.kb_memory.proofs.world.MemoryWorldWorld.rename.Goals.{then-is_done+in_ok-rename, else-is_done}

pub rename-requires-clause-formed : goal.rename-requires-clause-formed
rename-requires-clause-formed c =
    let old = c.args.self.now in
    rename-formed old.roots old.disk.nodes (moved c.args.from.now c.args.to.now old.disk.nodes) c.args.from.now c.args.to.now refl old.disk.formed (c.requires _ refl)

pub returns-in_err-rename-clause-moved : goal.returns-in_err-rename-clause-moved
returns-in_err-rename-clause-moved c =
    let old = c.args.self.now in
    let next = c.next-fate in
    changes_early (moved c.args.from.now c.args.to.now) (state_of old) (state_of old) (disk_of old) (stored_of c.rename.new.self) old.calls next.new.self next.ensures.counted next.result next.ensures.fate refl refl
    refl c.from_residual.result c.from_residual.ensures.1 c.in_err-rename.ensures.err

pub returns-clause-moved : goal.returns-clause-moved
returns-clause-moved c =
    let old = c.args.self.now in
    let next = c.next-fate in
    let change = moved c.args.from.now c.args.to.now in
    elim c.if-is_done.branch [
      | then-is_done+in_ok-rename w ↦
          subst (λ world. Changes change (state_of old) (state_of world) c.end.result) (sym w.self-is)
          (changes_so change (state_of old) (state_of old) (disk_of old) (stored_of w.rename.new.self) old.calls next.new.self next.ensures.counted next.result next.ensures.fate refl refl refl
          c.end.result c.end.ensures w.in_ok-rename.ensures.ok)
      | else-is_done w ↦
          subst (λ world. Changes change (state_of old) (state_of world) c.end.result) (sym w.self-is)
          (changes_not change (state_of old) (state_of old) (disk_of old) (disk_of old) old.calls next.new.self next.ensures.counted next.result next.ensures.fate refl refl refl c.end.result c.end.ensures
          (sym w.if-is_done.ensures) refl)
    ]
