-- A walk begins with nothing met.
use Rattle.std.proofs.Common.{◌∙◌, ap, length, ◌+◌, None, List}
use Rattle.kb_walk.specs.Walking.{walk_on, walked, entries}
use Rattle.kb_walk.specs.declared.walking.Met.{Met}
use Rattle.kb_walk.proofs.walking.walk_below.Goals as goal

pub returns-clause-met : goal.returns-clause-met
unfolding walked
returns-clause-met g c tree told =
    c.in_ok-visit.ensures.met tree told
    ∙ ap (λ (met : List Met). walk_on tree c.args.limits.entries (length c.args.start.now + c.args.limits.depth) (record { met = met; over = None }) (entries tree (g.S.Skips.skips c.args.skips.now) c.args.start.now)) c.new.ensures
