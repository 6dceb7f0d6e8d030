use Rattle.std.proofs.Common.{◌≡◌, Some, sym, ap, ◌∙◌, arith, List}
use Rattle.kb_conf.specs.Assignment.{Assignment, last_value}
use Rattle.std.specs.Prelude.{option_copied}
use Rattle.kb_conf.specs.Table.{last_position}
use Rattle.kb_conf.proofs.TableLaws.{found_value}
use Rattle.kb_conf.proofs.table.Table.value.Goals as goal

pub index-requires : goal.index-requires
index-requires c =
    let place : last_position c.self.inside.last c.args.name.now c.args.number ≡ Some c.in_ok-index.field-0.now = sym c.get.ensures.value ∙ ap option_copied c.in_ok-index.was in
    omega (arith, c.self.invariant.within c.args.name.now c.args.number c.in_ok-index.field-0.now place, c.self.inside.list.ok.0)

pub returns : goal.returns
returns c =
    let place : last_position c.self.inside.last c.args.name.now c.args.number ≡ Some c.in_ok-index.field-0.now = sym c.get.ensures.value ∙ ap option_copied c.in_ok-index.was in
    let found = found_value c.self.inside.list.items c.self.inside.last c.args.name.now c.args.number c.in_ok-index.field-0.now c.index.result.now c.self.invariant place (c.self.invariant.within c.args.name.now c.args.number c.in_ok-index.field-0.now place) c.index.ensures in
    ap Some c.as_slice.ensures.value ∙ found ∙ ap (λ (t : List Assignment). last_value t c.args.name.now c.args.number) c.self.view_is
