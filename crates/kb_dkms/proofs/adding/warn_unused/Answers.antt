-- Each name adds its line.
use Rattle.std.proofs.Common.{◌∙◌, arith}
use Rattle.kb_dkms.proofs.DoesAdd.{one_more}
use Rattle.kb_dkms.proofs.adding.warn_unused.Goals as goal

pub loop-name-preserved : goal.loop-name-preserved
loop-name-preserved c =
    one_more c.args.names.now c.loop-name.name-index c.name-item.result c.name-item.result c.args.err.now c.loop-name.err c.push_warning.new.err c.deref.result.now (omega arith) c.name-item.is
    c.loop-name.invariant (c.deref.ensures ∙ c.in_ok-text.ensures.ok) c.in_ok-push_warning.ensures
