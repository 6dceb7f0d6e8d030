use Rattle.std.proofs.Common.{◌≡◌, true, refl, sym, subst, ◌∙◌}
use Rattle.kb_world.specs.State.{Settles}
use Rattle.kb_disk.specs.Stored.{stored_of}
use Rattle.kb_memory.specs.Calls.{passes}
use Rattle.kb_memory.specs.World.{state_of, disk_of}
use Rattle.kb_memory.specs.declared.calls.Fate.{Fate}
use Rattle.kb_memory.specs.declared.calls.Fate.TheVariants.{Passes}
use Rattle.kb_memory.proofs.PutLaws.{settles_so, settles_not, settles_early, passes_so}
use Rattle.kb_memory.proofs.world.MemoryWorldWorld.settle.Goals as goal
use Rattle.kb_memory.proofs.world.MemoryWorldWorld.settle.Goals.{then-passes+in_ok-settle, else-passes}

pub returns-in_err-settle-clause-settled : goal.returns-in_err-settle-clause-settled
returns-in_err-settle-clause-settled c =
    let old = c.args.self.now in
    let next = c.next-fate in
    settles_early c.args.area.now (state_of old) (state_of old) (disk_of old) (stored_of c.settle.new.self) old.calls next.new.self next.ensures.counted next.result next.ensures.fate refl refl refl
    c.from_residual.result c.from_residual.ensures.1 c.in_err-settle.ensures.err

pub returns-clause-settled : goal.returns-clause-settled
returns-clause-settled c =
    let old = c.args.self.now in
    let next = c.next-fate in
    let area = c.args.area.now in
    elim c.if-passes.branch [
      | then-passes+in_ok-settle w ↦
          subst (λ world. Settles area (state_of old) (state_of world) c.end.result) (sym w.self-is)
          (settles_so area (state_of old) (state_of old) (disk_of old) (stored_of w.settle.new.self) old.calls next.new.self next.ensures.counted next.result next.ensures.fate refl refl refl
          c.end.result c.end.ensures (passes_so next.result (sym w.if-passes.ensures)) w.in_ok-settle.ensures.ok)
      | else-passes w ↦
          subst (λ world. Settles area (state_of old) (state_of world) c.end.result) (sym w.self-is)
          (settles_not area (state_of old) (state_of old) (disk_of old) (disk_of old) old.calls next.new.self next.ensures.counted next.result next.ensures.fate refl refl refl c.end.result c.end.ensures
          (sym w.if-passes.ensures) refl)
    ]
