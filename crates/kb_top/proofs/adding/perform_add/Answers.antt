-- The roots are looked at, and then the addition is made.
use Rattle.std.proofs.Common.{sym, ◌∙◌, subst}
use Rattle.kb_world.specs.Script.{Script}
use Rattle.kb_machine.specs.Across.{DoesAcrossCrashes}
use Rattle.kb_machine.proofs.LookLaws.{refused, passed}
use Rattle.kb_top.specs.Adding.{adding}
use Rattle.kb_top.specs.Machine.{no_roots_of_add, add_to_store}
use Rattle.kb_top.proofs.ServeLaws.{roots_shown, dkms_there, src_there}
use Rattle.kb_top.proofs.adding.perform_add.Goals as goal

pub returns-in-Err : goal.returns-in-Err
returns-in-Err g c =
    let roots = c.args.job.now.host.roots in
    refused roots (no_roots_of_add roots) (no_roots_of_add roots) (add_to_store roots (adding c.args.job.now.host (g.W.World.state c.args.world.now).script c.args.addition)) _ _ c.args.report.now
    c.in-Err.stop (roots_shown roots c.requires.apart) c.in-Err.ensures

pub add_to_store-requires-clause-rooted : goal.add_to_store-requires-clause-rooted
add_to_store-requires-clause-rooted g c now told = c.in-Ok.ensures.unchanged.ran_none.lasts.roots ∙ c.requires.rooted now (sym c.in-Ok.ensures.unchanged.tree ∙ told)

pub add_to_store-requires-clause-root : goal.add_to_store-requires-clause-root
add_to_store-requires-clause-root g c now told =
    dkms_there c.args.job.now.host.roots now (c.in-Ok.ensures.agrees now (sym c.in-Ok.ensures.unchanged.tree ∙ told))

pub add_to_store-requires-clause-src : goal.add_to_store-requires-clause-src
add_to_store-requires-clause-src g c now told =
    src_there c.args.job.now.host.roots now (c.in-Ok.ensures.agrees now (sym c.in-Ok.ensures.unchanged.tree ∙ told))

pub add_to_store-requires-clause-bare : goal.add_to_store-requires-clause-bare
add_to_store-requires-clause-bare g c now told = c.requires.bare now (sym c.in-Ok.ensures.unchanged.tree ∙ told)

pub returns : goal.returns
returns g c =
    let roots = c.args.job.now.host.roots in
    let host = c.args.job.now.host in
    let P : Script → Type 0 = λ script. DoesAcrossCrashes roots (add_to_store roots (adding host script c.args.addition)) (g.W.World.state c.require_roots_of_add.new.world) (g.W.World.state c.add_to_store.new.world) c.args.report.now c.add_to_store.new.report c.add_to_store.result in
    passed roots (no_roots_of_add roots) (no_roots_of_add roots) (add_to_store roots (adding host (g.W.World.state c.args.world.now).script c.args.addition)) _ _ _ c.args.report.now _ c.add_to_store.result
    (roots_shown roots c.requires.apart) c.in-Ok.ensures (subst P c.in-Ok.ensures.unchanged.ran_none.lasts.script c.add_to_store.ensures)
