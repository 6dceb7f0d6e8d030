-- One after the other.
use Rattle.std.proofs.Common.{[], ◌∷◌, Err}
use Rattle.kb_world.specs.Public.{staging_path}
use Rattle.kb_intent.proofs.ClearingLaws.{takes_one, takes_then, takes_part}
use Rattle.kb_intent.proofs.finishing.unstage_both.Goals as goal

pub returns-in-Ok : goal.returns-in-Ok
returns-in-Ok g c =
    let first = staging_path c.args.first.now in
    let second = staging_path c.args.second.now in
    let mid = g.W.World.state c.unstage_root.new.world in
    let new = g.W.World.state c.unstage_root-in-Ok.new.world in
    takes_then (first ∷ []) (second ∷ []) (g.W.World.state c.args.world.now) mid new c.in-Ok.field-0 c.unstage_root-in-Ok.result
    (takes_one first (g.W.World.state c.args.world.now) mid _ c.in-Ok.ensures) (takes_one second mid new c.unstage_root-in-Ok.result c.unstage_root-in-Ok.ensures)

pub returns-in-Err : goal.returns-in-Err
returns-in-Err g c =
    let first = staging_path c.args.first.now in
    let new = g.W.World.state c.unstage_root.new.world in
    takes_part (first ∷ []) (staging_path c.args.second.now ∷ []) (g.W.World.state c.args.world.now) new c.in-Err.error (takes_one first (g.W.World.state c.args.world.now) new (Err c.in-Err.error) c.in-Err.ensures)
