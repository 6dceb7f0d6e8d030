use Rattle.std.proofs.Common.{Some, Result, Ok, Err, OnOk, IsErrOf, refl}
use Rattle.kb_world.specs.Tree.{with_node}
use Rattle.kb_world.specs.declared.tree.Node.TheVariants.{Link}
use Rattle.kb_disk.proofs.EditLaws.{can_place, edited-formed}
use Rattle.kb_world.specs.declared.world.WorldError.{WorldError}
use Rattle.kb_world.specs.declared.world.WorldError.TheVariants.{NoMemory}
use Rattle.kb_memory.specs.World.{state_of}
use Rattle.kb_memory.proofs.CallLaws.{changes_none}
use Rattle.kb_memory.proofs.world.MemoryWorldWorld.put_link.Goals as goal

pub edit-requires : goal.edit-requires
edit-requires c =
    let disk = c.args.self.now.disk in
    edited-formed disk.nodes c.args.path.now (Some (Link c.in-Ok.text)) disk.formed (can_place disk.nodes c.args.path.now disk.formed (c.requires _ refl))

unanswered : {T : Type 0} (result : Result T WorldError) → IsErrOf result NoMemory → OnOk result ⊥
unanswered (Ok value) want = absurd (cc)
unanswered (Err error) want = tt

pub returns-in-Err-clause-made : goal.returns-in-Err-clause-made
returns-in-Err-clause-made c =
    changes_none (with_node c.args.path.now (Link c.args.text.now)) (state_of c.args.self.now) (state_of c.give_up.new.self) c.give_up.result (unanswered c.give_up.result c.give_up.ensures.no_memory) c.give_up.ensures.looks
