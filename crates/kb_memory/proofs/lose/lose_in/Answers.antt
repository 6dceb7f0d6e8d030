use Rattle.std.proofs.Common.{◌≡◌, true, sym, ◌∙◌}
use Rattle.kb_memory.specs.Lost.{can_lose}
use Rattle.kb_memory.proofs.LostLaws.{lost-formed}
use Rattle.kb_memory.proofs.lose.lose_in.Goals as goal

pub edit-requires : goal.edit-requires
edit-requires c =
    let disk = c.args.disk.now in
    let can : can_lose disk.soft disk.nodes c.in-Some.path.now ≡ true = (λ i. can_lose (sym c.soft.ensures i) (sym c.nodes.ensures i) c.in-Some.path.now) ∙ sym c.in_ok-can_lose.ensures ∙ c.if-branch.true in
    lost-formed disk.soft disk.nodes c.in-Some.path.now c.in_ok-left.left can disk.formed
