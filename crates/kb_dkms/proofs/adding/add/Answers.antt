-- One look decides whether the version is added, and then its conf is read.
use Rattle.std.proofs.Common.{Some, ap, sym, ◌∙◌}
use Rattle.std.specs.Option.{option_copied}
use Rattle.kb_dkms.specs.declared.places.Places.{Places}
use Rattle.kb_world.specs.Tree.{node_at, is_dir}
use Rattle.kb_dkms.specs.Add.{add}
use Rattle.kb_dkms.specs.Places.{standing}
use Rattle.kb_dkms.proofs.DoesAdd.{kernel_named, is_unadded, loaded_dir, for_host, add_refused, add_unread, add_read}
use Rattle.kb_dkms.proofs.WantLaws.{wants_first}
use Rattle.kb_dkms.proofs.adding.add.Goals as goal

pub of-requires : goal.of-requires
of-requires g c x is = kernel_named c.args.job.now.host c.requires.known x.now (sym c.as_ref.ensures.value ∙ ap option_copied is)

pub returns-in_err-given : goal.returns-in_err-given
returns-in_err-given g c =
    let host = c.args.job.now.host in
    wants_first host.roots (add host (g.W.World.state c.args.world.now).script c.args.key.now) (g.W.World.state c.args.world.now) c.args.report.now _ c.from_residual.result c.from_residual.ensures.1

pub returns-in_err-places : goal.returns-in_err-places
returns-in_err-places g c =
    let host = c.args.job.now.host in
    wants_first host.roots (add host (g.W.World.state c.args.world.now).script c.args.key.now) (g.W.World.state c.args.world.now) c.args.report.now _ c.from_residual-in_err-places.result c.from_residual-in_err-places.ensures.1

pub returns-in-Err : goal.returns-in-Err
returns-in-Err g c =
    add_refused c.args.job.now.host c.requires.apart c.args.key.now c.requires.named (g.W.World.state c.args.world.now).script c.in_ok-places.places.link (ap (λ (p : Places). p.link) c.in_ok-places.ensures) _ _
    c.args.report.now c.in-Err.stop c.requires.sound c.in-Err.ensures

pub returns-in-Err-load_conf : goal.returns-in-Err-load_conf
returns-in-Err-load_conf g c =
    let host = c.args.job.now.host in
    let places = c.in_ok-places in
    let for = for_host host _ c.in_ok-given.given c.as_ref.ensures.value c.in_ok-given.ensures in
    add_unread host c.requires.apart c.args.key.now c.requires.named (g.W.World.state c.args.world.now).script places.places.link (ap (λ (p : Places). p.link) places.ensures) places.places.source
    (ap (λ (p : Places). p.source) places.ensures) c.in_ok-given.given for _ _ _ c.args.report.now c.in-Err-load_conf.stop c.requires.sound c.in-Ok.ensures c.in-Err-load_conf.ensures.given

pub add_with-requires-clause-unadded : goal.add_with-requires-clause-unadded
add_with-requires-clause-unadded g c now told =
    let roots = c.args.job.now.host.roots in
    let was = sym c.in-Ok.ensures.unchanged.tree ∙ sym c.in-Ok-load_conf.ensures.given.unchanged.tree ∙ told in
    let none = sym (ap (λ (p : Places). standing c.args.key.now p.link now) c.in_ok-places.ensures) ∙ c.in-Ok.ensures.agrees now was in
    let source = loaded_dir c.in_ok-places.places.source (Some c.args.key.now) c.in_ok-given.given now c.in-Ok-load_conf.conf (c.in-Ok-load_conf.ensures.given.answers now (sym c.in-Ok-load_conf.ensures.given.unchanged.tree ∙ told)) in
    is_unadded roots c.args.key.now now (c.requires.root now was) (c.requires.bare now was) none (ap (λ (p : Places). is_dir (node_at now p.source)) (sym c.in_ok-places.ensures) ∙ source)

pub returns : goal.returns
returns g c =
    let host = c.args.job.now.host in
    let places = c.in_ok-places in
    let for = for_host host _ c.in_ok-given.given c.as_ref.ensures.value c.in_ok-given.ensures in
    add_read host c.requires.apart c.args.key.now c.requires.named places.places.link (ap (λ (p : Places). p.link) places.ensures) places.places.source
    (ap (λ (p : Places). p.source) places.ensures) c.in_ok-given.given for c.in-Ok-load_conf.conf _ _ _ _ c.args.report.now _ c.add_with.result c.requires.sound c.in-Ok.ensures c.in-Ok-load_conf.ensures.given c.add_with.ensures
