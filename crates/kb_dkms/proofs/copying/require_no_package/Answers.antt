use Rattle.kb_dkms.proofs.CopyLaws.{package_stops, package_decided}
use Rattle.kb_dkms.proofs.copying.require_no_package.Goals as goal

pub returns-in-Ok : goal.returns-in-Ok
returns-in-Ok g c = package_decided c.args.source.job.now.host.roots c.requires.apart c.args.source.key.now c.requires.named c.args.source.places.now c.requires.places _ _ _ c.in-Ok.field-0 c.require_free.result
    c.requires.sound c.in-Ok.ensures c.require_free.ensures

pub returns-in-Err : goal.returns-in-Err
returns-in-Err g c = package_stops c.args.source.job.now.host.roots c.requires.apart c.args.source.key.now c.requires.named c.args.source.places.now c.requires.places _ _ c.in-Err.stop
    c.requires.sound c.in-Err.ensures
