use Rattle.std.proofs.Common.{rules, sym}
use Rattle.kb_conf.specs.Targets.{same_name}
use Rattle.kb_conf.proofs.PlacedLaws.{any_number, any_place}
use Rattle.kb_conf.proofs.targets.bad_target.Goals as goal

pub returns-in-Some-3 : goal.returns-in-Some-3
returns-in-Some-3 c = rw (sym (any_number (same_name c.args.values.now c.args.target.now.number) c.args.earlier.now)) (search rules)

pub returns : goal.returns
returns c =
    rw (
      sym (any_number (same_name c.args.values.now c.args.target.now.number) c.args.earlier.now),
      sym (any_place c.args.values.now c.args.target.now.number c.args.target.now.place c.args.earlier.now c.requires.placed c.requires.earlier_placed),
    ) (search rules)
