-- The version stands before the ending.
use Rattle.std.proofs.Common.{◌++◌, Some, None, cond, sym, ap, ◌∙◌}
use Rattle.kb_store.proofs.PartLaws.{tail_is, version_before, no_version}
use Rattle.kb_store.proofs.entries.version_of.Goals as goal

pub returns-then-is_version-clause-told : goal.returns-then-is_version-clause-told
returns-then-is_version-clause-told c =
    let version = c.in-Some.version.now in
    ap (λ v. Some v) c.in_ok-of-in-Some.ensures ∙ sym (version_before c.args.spot.now c.args.text.now version (c.in-Some.ensures ∙ ap (λ t. version ++ t) (c.deref.ensures ∙ c.in_ok-tail.ensures.ok ∙ tail_is c.args.spot.now))
    ∙ ap (λ b. cond b (Some version) None) (sym c.is_version.ensures ∙ c.if-is_version.true))

pub returns-in-Some-clause-told : goal.returns-in-Some-clause-told
returns-in-Some-clause-told c =
    let version = c.in-Some.version.now in
    sym (version_before c.args.spot.now c.args.text.now version (c.in-Some.ensures ∙ ap (λ t. version ++ t) (c.deref.ensures ∙ c.in_ok-tail.ensures.ok ∙ tail_is c.args.spot.now))
    ∙ ap (λ b. cond b (Some version) None) (sym c.is_version.ensures ∙ c.if-is_version.false))

pub returns-clause-told : goal.returns-clause-told
returns-clause-told c =
    sym (no_version c.args.spot.now c.args.text.now (λ front is. c.in-None.ensures front (is ∙ ap (λ t. front ++ t) (sym (c.deref.ensures ∙ c.in_ok-tail.ensures.ok ∙ tail_is c.args.spot.now)))))
