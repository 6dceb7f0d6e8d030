use Rattle.std.proofs.Common.{sym, ap, ◌∙◌, arith}
use Rattle.kb_world.specs.Names.{is_name}
use Rattle.kb_world.proofs.PathText.{not_named, one_more_name}
use Rattle.kb_world.proofs.path.names_of.Goals as goal

pub returns-then-not-is_name-clause-not_a_path : goal.returns-then-not-is_name-clause-not_a_path
returns-then-not-is_name-clause-not_a_path c = λ e. not_named c.args.parts.now c.loop-part.part-index _ (omega arith) (sym c.is_name.ensures ∙ c.if-not-is_name.true)

pub loop-part-preserved : goal.loop-part-preserved
loop-part-preserved c =
    let named = ap is_name c.in_ok-of.ensures ∙ sym c.is_name.ensures ∙ c.if-not-is_name.false in
    let more = one_more_name c.args.parts.now c.loop-part.part-index _ c.loop-part.names.items c.in_ok-of.field-0 (omega arith) c.loop-part.invariant.0 c.loop-part.invariant.1 c.in_ok-of.ensures named in
    let pushed = c.in_ok-push.ensures.items in
    rw pushed more
