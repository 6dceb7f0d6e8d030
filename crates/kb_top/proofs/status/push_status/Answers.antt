-- What is added is the store's one status.
use Rattle.std.proofs.Common.{◌≡◌, ◌++◌, List, ℕ, OnOk, ◌∙◌, subst}
use Rattle.kb_status.proofs.StatusLaws.{is_computed}
use Rattle.kb_top.proofs.status.push_status.Goals as goal

pub returns-clause-out : goal.returns-clause-out
returns-clause-out c =
    let P : List ℕ → Type 0 = λ text. OnOk c.push.result (c.push.new.self ≡ c.args.report.now.out ++ text) in
    subst P (c.as_bytes.ensures.value ∙ c.as_str.ensures ∙ is_computed c.args.store.now c.args.filter.now c.in_ok-text.text c.in_ok-text.ensures) c.push.ensures.ok
