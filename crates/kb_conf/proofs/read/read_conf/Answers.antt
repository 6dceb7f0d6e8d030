use Rattle.std.proofs.Common.{rules, ◌∙◌}
use Rattle.std.proofs.lemmas.Result.{err_from_is_err_and}
use Rattle.kb_world.specs.Read.{IsRead}
use Rattle.kb_conf.specs.Conf.{conf_of}
use Rattle.kb_conf.proofs.ConfLaws.{conf_stopped, conf_found, reads_conf}
use Rattle.kb_conf.proofs.read.read_conf.Goals as goal

pub returns-in_err-values : goal.returns-in_err-values
returns-in_err-values c =
    let p = err_from_is_err_and c.from_residual-in_err-values.result c.from_residual-in_err-values.ensures.1 in
    let value : IsRead c.from_residual-in_err-values.result (conf_of c.args.text.now c.args.given.now) =
    rw (p.1, p.2) (conf_stopped c.args.given.now c.args.text.now c.deref.result.now c.in_err-values.field-0.0
    (c.deref.ensures.value ∙ c.in_ok-text.ensures) c.in_err-values.ensures) in
    record { value = value; grammar = reads_conf c.args.given.now c.args.text.now c.from_residual-in_err-values.result value }

pub returns : goal.returns
returns c =
    let value = conf_found c.args.given.now c.args.text.now c.deref.result.now c.in_ok-values.values c.conf_from.result
    (c.deref.ensures.value ∙ c.in_ok-text.ensures) c.in_ok-values.ensures c.conf_from.ensures in
    record { value = value; grammar = reads_conf c.args.given.now c.args.text.now c.conf_from.result value }

pub returns-in_err-text-clause-grammar : goal.returns-in_err-text-clause-grammar
returns-in_err-text-clause-grammar c = reads_conf c.args.given.now c.args.text.now c.from_residual.result (search rules)
