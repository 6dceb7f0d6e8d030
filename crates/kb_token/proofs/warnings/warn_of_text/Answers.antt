use Rattle.std.proofs.Common.{◌≡◌, ◌++◌, ◌∷◌, [], List, ℕ, sym, ap, ◌∙◌, subst}
use Rattle.std.specs.Prelude.{OnOk}
use Rattle.kb_token.specs.Facts.{text_warnings, tries_warnings}
use Rattle.kb_token.proofs.warnings.warn_of_text.Goals as goal

pub returns-in_ok-of-in-None : goal.returns-in_ok-of-in-None
returns-in_ok-of-in-None c =
    let due = ap (λ s. text_warnings s c.args.text.now) c.in-Tries.is ∙ ap tries_warnings (sym c.tries_of.ensures ∙ c.in-None.is) in
    let P : List (List ℕ) → Type 0 = λ more. OnOk c.push.result (c.push.new.self ≡ c.args.warnings.now ++ more) in
    subst P (ap (λ x. x ∷ []) c.in_ok-of-in-None.ensures ∙ sym due) c.push.ensures.ok
