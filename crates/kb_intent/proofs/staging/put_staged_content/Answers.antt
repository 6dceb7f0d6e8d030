-- The directory is made first.
use Rattle.std.proofs.Common.{refl}
use Rattle.kb_world.specs.Path.{is_under, parent}
use Rattle.kb_world.specs.Tree.{with_node}
use Rattle.kb_intent.specs.Doing.{made_dir_at}
use Rattle.kb_intent.specs.Staging.{staged_node, put_inside}
use Rattle.kb_intent.proofs.ButLaws.{but_then, but_wider, but_steps, but_stopped, same_made, under_parent}
use Rattle.kb_intent.proofs.staging.put_staged_content.Goals as goal

pub returns-in-Ok : goal.returns-in-Ok
returns-in-Ok g c =
    let path = c.args.path.now in
    let node = staged_node c.args.content.now in
    let old = g.W.World.state c.args.world.now in
    let mid = g.W.World.state c.make_parent.new.world in
    let new = g.W.World.state c.put_content.new.world in
    but_then (λ q. is_under q (parent path)) (made_dir_at (parent path)) (with_node path node) (put_inside path node) old mid new tt c.put_content.result (λ tree. refl)
    (but_steps (λ q. is_under q (parent path)) (made_dir_at (parent path)) old mid _ (same_made (parent path)) c.in-Ok.ensures)
    (but_wider (λ q. is_under q path) (λ q. is_under q (parent path)) (with_node path node) mid new c.put_content.result (under_parent path) c.put_content.ensures)

pub returns-in-Err : goal.returns-in-Err
returns-in-Err g c =
    let path = c.args.path.now in
    let old = g.W.World.state c.args.world.now in
    let mid = g.W.World.state c.make_parent.new.world in
    but_stopped (λ q. is_under q (parent path)) (made_dir_at (parent path)) (put_inside path (staged_node c.args.content.now)) old mid c.in-Err.error
    (but_steps (λ q. is_under q (parent path)) (made_dir_at (parent path)) old mid _ (same_made (parent path)) c.in-Err.ensures)
