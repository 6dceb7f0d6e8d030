use Rattle.std.proofs.Common.{ℕ, List, subst}
use Rattle.std.specs.Option.{option_copied}
use Rattle.std.proofs.lemmas.Result.{err_from_is_err_and}
use Rattle.kb_conf.specs.Conf.{conf_of}
use Rattle.kb_conf.specs.Load.{matched}
use Rattle.kb_world.specs.Read.{IsRead}
use Rattle.kb_conf.proofs.KeyLaws.{answer_is_named}
use Rattle.kb_conf.proofs.LoadLaws.{gives_refused, gives_read}
use Rattle.kb_conf.proofs.load.load_conf.Goals as goal

pub returns-in_err-require_source-clause-given : goal.returns-in_err-require_source-clause-given
returns-in_err-require_source-clause-given g c =
    let p = err_from_is_err_and c.from_residual-in_err-require_source.result c.from_residual-in_err-require_source.ensures.1 in
    rw (p.1, p.2) (gives_refused c.args.dir.now (option_copied c.args.key) c.args.given.now c.in_ok-path.path c.in_ok-path.ensures _ _
    c.in_err-require_source.field-0.0 c.in_err-require_source.ensures)

pub returns-clause-given : goal.returns-clause-given
returns-clause-given g c =
    let P : List ℕ → Type 0 = λ bytes. IsRead c.read_for.result (matched (option_copied c.args.key) (conf_of bytes c.args.given.now)) in
    gives_read c.args.dir.now (option_copied c.args.key) c.args.given.now c.in_ok-path.path c.in_ok-path.ensures _ _ _ c.in_ok-require_source.field-0 c.in_ok-bytes.bytes c.read_for.result
    c.in_ok-require_source.ensures c.in_ok-bytes.ensures (subst P c.as_slice-2.ensures c.read_for.ensures)

pub returns-clause-named : goal.returns-clause-named
returns-clause-named g c = answer_is_named _ (option_copied c.args.key) c.args.given.now c.read_for.result c.read_for.ensures
