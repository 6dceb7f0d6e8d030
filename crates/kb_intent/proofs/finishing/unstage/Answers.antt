-- Two roots, and then the other two.
use Rattle.std.proofs.Common.{[], ◌∷◌}
use Rattle.kb_world.specs.Public.{staging_path}
use Rattle.kb_intent.proofs.ClearingLaws.{takes_then, takes_part}
use Rattle.kb_intent.proofs.finishing.unstage.Goals as goal

pub returns-in-Ok : goal.returns-in-Ok
returns-in-Ok g c =
    let roots = c.args.roots.now in
    takes_then (staging_path roots.dkms ∷ staging_path roots.src ∷ []) (staging_path roots.modules ∷ staging_path roots.boot ∷ []) (g.W.World.state c.args.world.now) (g.W.World.state c.unstage_both.new.world)
    (g.W.World.state c.unstage_both-in-Ok.new.world) c.in-Ok.field-0 c.unstage_both-in-Ok.result c.in-Ok.ensures c.unstage_both-in-Ok.ensures

pub returns-in-Err : goal.returns-in-Err
returns-in-Err g c =
    let roots = c.args.roots.now in
    takes_part (staging_path roots.dkms ∷ staging_path roots.src ∷ []) (staging_path roots.modules ∷ staging_path roots.boot ∷ []) (g.W.World.state c.args.world.now) (g.W.World.state c.unstage_both.new.world) c.in-Err.error c.in-Err.ensures
