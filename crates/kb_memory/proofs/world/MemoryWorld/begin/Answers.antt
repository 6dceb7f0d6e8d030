use Rattle.std.proofs.Common.{refl}
use Rattle.kb_memory.specs.World.{state_of, disk_of, tree_of, uncut}
use Rattle.kb_memory.proofs.CallLaws.{ends_so, looks, follows, left_uncut}
use Rattle.kb_memory.proofs.world.MemoryWorld.begin.Goals as goal

pub returns-clause-looks : goal.returns-clause-looks
returns-clause-looks c =
    let old = c.args.self.now in
    looks (state_of old) (state_of old) (disk_of old) (disk_of old) old.calls c.next.new.self c.next.ensures.counted c.end.result c.next.result c.next.ensures.fate
    (ends_so c.next.result c.end.result c.end.ensures) refl refl refl refl

pub returns-clause-plan : goal.returns-clause-plan
returns-clause-plan c =
    let old = c.args.self.now in
    follows uncut old (record old { calls = c.next.new.self }) c.end.result c.next.result c.next.ensures.fate (ends_so c.next.result c.end.result c.end.ensures) c.next.ensures.counted
    (λ e. left_uncut c.next.result (tree_of old) (tree_of old) refl) (λ e. refl)
