use Rattle.kb_status.proofs.BuiltLaws.{built_more}
use Rattle.kb_status.proofs.built.built_packages.Goals as goal

pub loop-build-preserved : goal.loop-build-preserved
loop-build-preserved c =
    built_more c.builds-build-items.result.now c.loop-build.build-index c.build-item.result c.in_ok-package_of.field-0 c.loop-build.built c.insert.new.self c.loop-build-test.true c.build-item.is
    c.in_ok-package_of.ensures (c.in_ok-insert.ensures.updates.0) c.loop-build.invariant
