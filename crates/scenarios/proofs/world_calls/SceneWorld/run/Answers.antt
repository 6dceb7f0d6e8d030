-- What is planned leaves the roots.
use Rattle.std.proofs.Common.{ap, ◌∙◌}
use Rattle.kb_world.specs.State.{State}
use Rattle.scenarios.proofs.world_calls.SceneWorld.run.Goals as goal

pub play-ended-requires : goal.play-ended-requires
play-ended-requires c host is = ap (λ (state : State). state.roots) c.fail_at.ensures.state ∙ c.args.self.now.rooted ∙ c.args.self.now.told host is
