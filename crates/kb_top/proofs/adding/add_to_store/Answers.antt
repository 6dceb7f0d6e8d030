-- The store is read, and then the addition is made to it.
use Rattle.std.proofs.Common.{sym, ◌∙◌, subst}
use Rattle.kb_world.specs.Public.{public_tree}
use Rattle.kb_world.specs.Script.{Script}
use Rattle.kb_machine.specs.Across.{DoesAcrossCrashes}
use Rattle.kb_machine.proofs.LookLaws.{unread, read_on}
use Rattle.kb_store.specs.Read.{read_of}
use Rattle.kb_store.specs.declared.store.Store.{Store}
use Rattle.kb_store.proofs.ReadLaws.{read_is_sound}
use Rattle.kb_top.specs.Adding.{adding}
use Rattle.kb_top.proofs.ServeLaws.{store_shown}
use Rattle.kb_top.proofs.adding.add_to_store.Goals as goal

pub returns-in-Err : goal.returns-in-Err
returns-in-Err g c =
    let roots = c.args.job.now.host.roots in
    unread roots (λ tree. read_of roots (public_tree roots tree)) (read_of roots) (λ (read : Store). adding c.args.job.now.host (g.W.World.state c.args.world.now).script c.args.addition) _ _
    c.args.report.now c.in-Err.stop (store_shown roots c.requires.apart) c.in-Err.ensures

pub add-requires-clause-rooted : goal.add-requires-clause-rooted
add-requires-clause-rooted g c now told = c.in-Ok.ensures.unchanged.ran_none.lasts.roots ∙ c.requires.rooted now (sym c.in-Ok.ensures.unchanged.tree ∙ told)

pub add-requires-clause-root : goal.add-requires-clause-root
add-requires-clause-root g c now told = c.requires.root now (sym c.in-Ok.ensures.unchanged.tree ∙ told)

pub add-requires-clause-src : goal.add-requires-clause-src
add-requires-clause-src g c now told = c.requires.src now (sym c.in-Ok.ensures.unchanged.tree ∙ told)

pub add-requires-clause-bare : goal.add-requires-clause-bare
add-requires-clause-bare g c now told = c.requires.bare now (sym c.in-Ok.ensures.unchanged.tree ∙ told)

pub add-requires-clause-sound : goal.add-requires-clause-sound
add-requires-clause-sound g c now told =
    let roots = c.args.job.now.host.roots in
    read_is_sound roots (public_tree roots now) c.in-Ok.store (c.in-Ok.ensures.answers now (sym c.in-Ok.ensures.unchanged.tree ∙ told))

pub returns : goal.returns
returns g c =
    let roots = c.args.job.now.host.roots in
    let P : Script → Type 0 = λ script. DoesAcrossCrashes roots (adding c.args.job.now.host script c.args.addition) (g.W.World.state c.read.new.world) (g.W.World.state c.add.new.world) c.args.report.now c.add.new.report c.add.result in
    read_on roots (λ tree. read_of roots (public_tree roots tree)) (read_of roots) (λ (read : Store). adding c.args.job.now.host (g.W.World.state c.args.world.now).script c.args.addition) c.in-Ok.store _ _ _
    c.args.report.now _ c.add.result (store_shown roots c.requires.apart) c.in-Ok.ensures (subst P c.in-Ok.ensures.unchanged.ran_none.lasts.script c.add.ensures)
