-- No walk passes limits that no count reaches.
use Rattle.kb_walk.proofs.LimitLaws.{unlimited}
use Rattle.kb_walk.proofs.walking.walk_all.Goals as goal

pub returns-clause-met : goal.returns-clause-met
returns-clause-met g c tree told =
    unlimited (record { entries = 18446744073709551615; depth = 18446744073709551615 }) tree (g.S.Skips.skips c.args.skips.now) c.args.start.now c.in_ok-walk.walk (c.in_ok-walk.ensures.met tree told)
    c.is_countable.ensures.met c.is_countable.ensures.over
