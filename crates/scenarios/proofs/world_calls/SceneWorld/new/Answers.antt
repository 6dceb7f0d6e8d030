-- The world is made with the roots that are kept beside it.
use Rattle.std.proofs.Common.{rules, ◌≡◌, sym, ap, ◌∙◌}
use Rattle.kb_world.specs.State.{State}
use Rattle.scenarios.proofs.world_calls.SceneWorld.new.Goals as goal

pub invariant_of-result : goal.invariant_of-result
invariant_of-result c =
    let one : c.in_ok-clone.field-0 ≡ c.args.roots.now = search rules in
    let two : c.in_ok-clone-2.field-0 ≡ c.args.roots.now = search rules in
    record { rooted = ap (λ (state : State). state.roots) c.new.ensures.state ∙ one ∙ sym two; told = λ host is. two ∙ c.requires host is }
