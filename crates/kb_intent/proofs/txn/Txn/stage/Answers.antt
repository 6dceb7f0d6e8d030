-- The node comes under the next number.
use Rattle.std.proofs.Common.{sym, ap, ◌∙◌, subst, Ok}
use Rattle.kb_changes.specs.Change.{staged_path}
use Rattle.kb_intent.specs.Staging.{staged_node}
use Rattle.kb_intent.specs.Txn.{Stages}
use Rattle.kb_intent.proofs.TxnLaws.{can_stage, stages_wanting, stages_done, stages_stopped}
use Rattle.kb_intent.proofs.txn.Txn.stage.Goals as goal

pub returns-in-Err : goal.returns-in-Err
returns-in-Err g c = stages_wanting c.args.root (staged_node c.args.content.now) c.args.self.now (g.W.World.state c.args.world.now)

pub put_staged_content-requires : goal.put_staged_content-requires
put_staged_content-requires g c tree told =
    let some = c.requires.staged tree told in
    can_stage c.args.self.now c.args.root c.requires.apart c.in-Ok.path (c.in-Ok.ensures ∙ ap (staged_path c.args.self.now.roots c.args.root) c.below-number.ensures) tree (c.requires.there tree told) some.0 some.1

pub returns-in-Err-put_staged_content : goal.returns-in-Err-put_staged_content
returns-in-Err-put_staged_content g c =
    stages_stopped c.args.self.now c.args.root (staged_node c.args.content.now) c.requires.apart c.in-Ok.path (c.in-Ok.ensures ∙ ap (staged_path c.args.self.now.roots c.args.root) c.below-number.ensures)
    (g.W.World.state c.args.world.now) (g.W.World.state c.put_staged_content.new.world) c.requires.there c.in-Err-put_staged_content.error c.into.result c.into.ensures c.in-Err-put_staged_content.ensures

pub returns : goal.returns
returns g c =
    let node = staged_node c.args.content.now in
    let before = c.args.self.now in
    let after = record before { staged = c.count.new.self } in
    let old = g.W.World.state c.args.world.now in
    let new = g.W.World.state c.put_staged_content.new.world in
    subst (λ number. Stages c.args.root node before after old new (Ok number)) (sym c.below-number.ensures)
    (stages_done before c.args.root node c.requires.apart c.in-Ok.path (c.in-Ok.ensures ∙ ap (staged_path before.roots c.args.root) c.below-number.ensures) old new c.requires.there after tt c.requires.room
    (ap (λ staged. record before { staged = staged }) c.count.ensures) c.in-Ok-put_staged_content.ensures)
