-- What was noted of everything is the store.
use Rattle.std.proofs.Common.{◌∙◌}
use Rattle.kb_store.proofs.ReadingLaws.{whole_is_store}
use Rattle.kb_store.proofs.read.store_from.Goals as goal

pub returns : goal.returns
returns c = λ apart tree sound whole.
    c.of.ensures ∙ whole_is_store c.args.roots.now apart tree sound c.args.met.now c.args.notes whole c.in_ok-chests.chests (c.in_ok-chests.ensures apart tree whole.all)
