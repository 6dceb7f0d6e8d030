use Rattle.std.proofs.Common.{refl, Err}
use Rattle.kb_world.specs.declared.world.WorldError.TheVariants.{NoMemory}
use Rattle.kb_memory.specs.World.{state_of, disk_of, tree_of, uncut}
use Rattle.kb_memory.proofs.CallLaws.{ends_early, looks, follows, left_uncut}
use Rattle.kb_memory.proofs.world.MemoryWorld.give_up.Goals as goal

pub returns-clause-looks : goal.returns-clause-looks
returns-clause-looks c =
    let old = c.args.self.now in
    looks (state_of old) (state_of old) (disk_of old) (disk_of old) old.calls c.next.new.self c.next.ensures.counted (Err NoMemory) c.next.result c.next.ensures.fate
    (ends_early c.next.result (Err NoMemory) refl) refl refl refl refl

pub returns-clause-plan : goal.returns-clause-plan
returns-clause-plan c =
    let old = c.args.self.now in
    follows uncut old (record old { calls = c.next.new.self }) (Err NoMemory) c.next.result c.next.ensures.fate (ends_early c.next.result (Err NoMemory) refl) c.next.ensures.counted
    (λ e. left_uncut c.next.result (tree_of old) (tree_of old) refl) (λ e. refl)
