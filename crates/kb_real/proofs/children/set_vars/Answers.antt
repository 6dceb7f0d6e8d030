use Rattle.std.proofs.Common.{◌∙◌, arith}
use Rattle.kb_real.proofs.ChildLaws.{one_more_var}
use Rattle.kb_real.proofs.children.set_vars.Goals as goal

pub loop-name-preserved : goal.loop-name-preserved
loop-name-preserved c =
    let (program, args) = c.loop-name.invariant.call in
    let (same_program, same_args) = c.in_ok-set_var.ensures.call in
    record {
      vars = λ name. one_more_var c.loop-name.command c.set_var.new.command _ c.args.vars.now c.loop-name.name-index c.loop-name-item.result _ _ name (omega arith) c.loop-name-item.is c.as_str.ensures c.as_str-in-loop-name.ensures (c.loop-name.invariant.vars name) c.in_ok-set_var.ensures.set c.in_ok-set_var.ensures.others;
      call = (same_program ∙ program, same_args ∙ args);
      clears = c.in_ok-set_var.ensures.clears ∙ c.loop-name.invariant.clears;
    }
