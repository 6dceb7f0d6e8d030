use Rattle.std.proofs.Common.{refl, sym, subst}
use Rattle.kb_world.specs.State.{Puts}
use Rattle.kb_disk.specs.Stored.{stored_of}
use Rattle.kb_memory.specs.World.{state_of, disk_of}
use Rattle.kb_memory.proofs.PutLaws.{puts_written, puts_unwritten, puts_early}
use Rattle.kb_memory.proofs.world.MemoryWorldWorld.put.Goals as goal
use Rattle.kb_memory.proofs.world.MemoryWorldWorld.put.Goals.{in-Some+in_ok-put-in-Some, in-None+in_ok-fail_put-in-None}

pub returns-in_err-put-in-Some-clause-made : goal.returns-in_err-put-in-Some-clause-made
returns-in_err-put-in-Some-clause-made c =
    let old = c.args.self.now in
    let next = c.next-fate in
    puts_early c.args.path.now c.args.bytes.now c.args.exec (state_of old) (state_of old) (disk_of old) (stored_of c.put.new.self) old.calls next.new.self next.ensures.counted next.result next.ensures.fate refl
    refl refl c.from_residual.result c.from_residual.ensures.1 c.in_err-put-in-Some.ensures.err

pub returns-in_err-fail_put-in-None-clause-made : goal.returns-in_err-fail_put-in-None-clause-made
returns-in_err-fail_put-in-None-clause-made c =
    let old = c.args.self.now in
    let next = c.next-fate in
    puts_early c.args.path.now c.args.bytes.now c.args.exec (state_of old) (state_of old) (disk_of old) (stored_of c.fail_put.new.self) old.calls next.new.self next.ensures.counted next.result next.ensures.fate
    refl refl refl c.from_residual-in_err-fail_put-in-None.result c.from_residual-in_err-fail_put-in-None.ensures.1 c.in_err-fail_put-in-None.ensures.err

pub returns-clause-made : goal.returns-clause-made
returns-clause-made c =
    let old = c.args.self.now in
    let next = c.next-fate in
    let path = c.args.path.now in
    let bytes = c.args.bytes.now in
    elim c.match-written.branch [
      | in-Some+in_ok-put-in-Some w ↦
          subst (λ world. Puts path bytes c.args.exec (state_of old) (state_of world) c.end.result) (sym w.self-is)
          (puts_written path bytes c.args.exec (state_of old) (state_of old) (disk_of old) (stored_of w.put.new.self) old.calls next.new.self next.ensures.counted next.result next.ensures.fate refl refl refl
          c.end.result w.in-Some.bytes.now c.end.ensures (sym w.in-Some.ensures) w.in_ok-put-in-Some.ensures.ok)
      | in-None+in_ok-fail_put-in-None w ↦
          subst (λ world. Puts path bytes c.args.exec (state_of old) (state_of world) c.end.result) (sym w.self-is)
          (puts_unwritten path bytes c.args.exec (state_of old) (state_of old) (disk_of old) (stored_of w.fail_put.new.self) old.calls next.new.self next.ensures.counted next.result next.ensures.fate refl refl refl
          c.end.result c.end.ensures (sym w.in-None.ensures) w.in_ok-fail_put-in-None.ensures.ok)
    ]
