-- The set has one path more.
use Rattle.std.proofs.Common.{◌∷◌, subst}
use Rattle.kb_changes.specs.Valid.{HoldSame}
use Rattle.kb_changes.proofs.SetLaws.{inserted}
use Rattle.kb_changes.proofs.path_set.PathSet.add.Goals as goal

pub returns-clause-added : goal.returns-clause-added
returns-clause-added c =
    subst (λ old. HoldSame c.insert.new.self.keys (c.args.path.now ∷ old)) c.self.view_is
    (inserted c.self.inside.set.keys c.insert.new.self.keys c.in_ok-key.key c.args.path.now c.in_ok-key.ensures.cases (λ q. c.in_ok-insert.ensures.updates.0 q))
