-- A code that isn't 0 gives the definition's line.
use Rattle.std.proofs.Common.{◌≡◌, ℕ, List, ◌++◌, ◌∙◌, subst}
use Rattle.std.specs.Prelude.{OnOk}
use Rattle.kb_dkms.proofs.ScriptLaws.{ended}
use Rattle.kb_dkms.proofs.scripts.push_ended.Goals as goal

pub returns : goal.returns
returns c =
    let P : List ℕ → Type 0 = λ line. OnOk c.push_warning.result (c.push_warning.new.err ≡ c.args.err.now ++ line) in
    subst P (ended c.args.which.now c.args.code c.deref.result.now (c.deref.ensures ∙ c.in_ok-text.ensures.ok) c.if-code-eq0.false) c.push_warning.ensures
