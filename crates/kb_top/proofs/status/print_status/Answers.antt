-- The store is read, and then its status is printed.
use Rattle.kb_machine.specs.Outcome.{print}
use Rattle.kb_world.specs.Public.{public_tree}
use Rattle.kb_machine.proofs.EachLaws.{printed, unprinted}
use Rattle.kb_machine.proofs.LookLaws.{unread, read_on}
use Rattle.kb_status.specs.Status.{text_of_status}
use Rattle.kb_store.specs.Read.{read_of}
use Rattle.kb_store.specs.declared.store.Store.{Store}
use Rattle.kb_top.proofs.ServeLaws.{store_shown}
use Rattle.kb_top.proofs.status.print_status.Goals as goal

pub returns-in-Err : goal.returns-in-Err
returns-in-Err g c =
    let roots = c.args.roots.now in
    unread roots (λ tree. read_of roots (public_tree roots tree)) (read_of roots) (λ (read : Store). print (text_of_status read c.args.filter.now)) _ _ c.args.report.now c.in-Err.stop (store_shown roots c.requires.apart) c.in-Err.ensures

pub returns-in-Ok-push_status : goal.returns-in-Ok-push_status
returns-in-Ok-push_status g c =
    let roots = c.args.roots.now in
    let text = text_of_status c.in-Ok.store c.args.filter.now in
    read_on roots (λ tree. read_of roots (public_tree roots tree)) (read_of roots) (λ (read : Store). print (text_of_status read c.args.filter.now)) c.in-Ok.store _ _ _
    c.args.report.now c.push_status.new.report _ (store_shown roots c.requires.apart) c.in-Ok.ensures
    (printed roots text (g.W.World.state c.read.new.world) c.args.report.now c.push_status.new.report c.in-Ok-push_status.ensures.out c.in-Ok-push_status.ensures.err)

pub returns : goal.returns
returns g c =
    let roots = c.args.roots.now in
    let text = text_of_status c.in-Ok.store c.args.filter.now in
    read_on roots (λ tree. read_of roots (public_tree roots tree)) (read_of roots) (λ (read : Store). print (text_of_status read c.args.filter.now)) c.in-Ok.store _ _ _
    c.args.report.now c.push_status.new.report _ (store_shown roots c.requires.apart) c.in-Ok.ensures
    (unprinted roots (print text) (g.W.World.state c.read.new.world) c.args.report.now c.push_status.new.report)
