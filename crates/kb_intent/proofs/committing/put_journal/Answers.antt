-- The journal is put beside its place, and moved there.
use Rattle.std.proofs.Common.{sym, ◌∙◌, subst, false}
use Rattle.kb_world.specs.Moves.{CanMove}
use Rattle.kb_world.specs.Tree.{with_node}
use Rattle.kb_world.specs.declared.tree.Node.TheVariants as nodes
use Rattle.kb_world.proofs.Told.{told_before}
use Rattle.kb_changes.specs.Valid.{new_intent_path}
use Rattle.kb_intent.proofs.PutJournalLaws.{puts_wanting, puts_stopped, puts_moved, can_begin, can_move}
use Rattle.kb_intent.proofs.committing.put_journal.Goals as goal

pub returns-in-Err : goal.returns-in-Err
returns-in-Err g c = puts_wanting c.args.roots.now c.args.text.now (g.W.World.state c.args.world.now)

pub returns-in-Err-journal_path : goal.returns-in-Err-journal_path
returns-in-Err-journal_path g c = puts_wanting c.args.roots.now c.args.text.now (g.W.World.state c.args.world.now)

pub put-requires : goal.put-requires
put-requires g c tree told =
    let bare = c.requires.bare tree told in
    can_begin c.args.roots.now tree (c.requires.dkms tree told) bare.0 bare.1 c.in-Ok.begun c.in-Ok.ensures

pub rename-requires : goal.rename-requires
rename-requires g c now told =
    let roots = c.args.roots.now in
    let old = g.W.World.state c.args.world.now in
    let mid = g.W.World.state c.put.new.self in
    let was = told_before (with_node c.in-Ok.begun (nodes.File c.args.text.now false)) old.tree mid.tree now c.in-Ok-put.ensures.made.done told in
    let bare = c.requires.bare was.tree was.was in
    let rooted = c.in-Ok-put.ensures.made.ran_none.lasts.roots ∙ c.requires.rooted was.tree was.was in
    subst (λ r. CanMove r now c.in-Ok.begun c.in-Ok-journal_path.path) (sym rooted)
    (subst (λ t. CanMove roots t c.in-Ok.begun c.in-Ok-journal_path.path) (sym was.changed)
    (subst (λ b. CanMove roots (with_node b (nodes.File c.args.text.now false) was.tree) b c.in-Ok-journal_path.path) (sym c.in-Ok.ensures)
    (subst (λ p. CanMove roots (with_node (new_intent_path roots) (nodes.File c.args.text.now false) was.tree) (new_intent_path roots) p) (sym c.in-Ok-journal_path.ensures)
    (can_move roots was.tree (c.requires.dkms was.tree was.was) bare.0 bare.1 c.args.text.now))))

pub returns-in-Ok-put : goal.returns-in-Ok-put
returns-in-Ok-put g c =
    puts_moved c.args.roots.now c.args.text.now c.in-Ok.begun c.in-Ok-journal_path.path c.in-Ok.ensures c.in-Ok-journal_path.ensures (g.W.World.state c.args.world.now) (g.W.World.state c.put.new.self)
    c.in-Ok-put.ensures.made (g.W.World.state c.rename.new.self) c.rename.result c.rename.ensures.moved

pub returns : goal.returns
returns g c =
    puts_stopped c.args.roots.now c.args.text.now c.in-Ok.begun c.in-Ok-journal_path.path c.in-Ok.ensures c.in-Ok-journal_path.ensures (g.W.World.state c.args.world.now) (g.W.World.state c.put.new.self) c.in-Err-put.error
    c.in-Err-put.ensures.made
