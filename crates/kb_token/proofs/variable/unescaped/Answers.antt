use Rattle.std.proofs.Common.{◌++◌, ◌∷◌, length, sym, ap, ◌∙◌, subst, arith, lit<, length-append, length-drop, false, refl}
use Rattle.std.specs.Str.{IsUtf8}
use Rattle.kb_token.specs.Variable.{BACKSLASH, unescaped}
use Rattle.kb_token.proofs.VariableLaws.{unescaped_more, unescaped_whole, utf8_behind, utf8_after}
use Rattle.kb_token.proofs.variable.unescaped.Goals as goal

pub pieces-smaller : goal.pieces-smaller
pieces-smaller c =
    let cut = ap length c.in-Some.ensures.0 ∙ length-append c.in-Some.plain.now (BACKSLASH ∷ c.in-Some.behind.now) in
    let rest = ap length c.behind_backslash.ensures.rest ∙ length-drop _ c.in-Some.behind.now in
    omega (arith, cut, rest)

pub pieces-preserved : goal.pieces-preserved
pieces-preserved c = (
  subst IsUtf8 (sym c.behind_backslash.ensures.rest)
      (utf8_after c.in-Some.behind.now _ refl (utf8_behind BACKSLASH c.pieces.rest.now c.in-Some.plain.now c.in-Some.behind.now (lit< tt) c.in-Some.ensures.0 c.pieces.invariant.0)),
  c.pieces.invariant.1
      ∙ unescaped_more c.pieces.rest.now c.in-Some.plain.now c.in-Some.behind.now c.behind_backslash.result.0.now c.behind_backslash.result.1.now c.pieces.value c.in-Some.ensures.0
      c.in-Some.ensures.1 c.behind_backslash.ensures.gives
      ∙ ap (λ t. t ++ unescaped false c.behind_backslash.result.1.now) (ap (λ v. v ++ c.behind_backslash.result.0.now) (sym c.in_ok-push_str.ensures.ok) ∙ sym c.in_ok-push_str-2.ensures.ok),
)

pub returns : goal.returns
returns c = c.in_ok-push_str-3.ensures.ok ∙ ap (λ t. c.pieces.value ++ t) (sym (unescaped_whole c.pieces.rest.now c.in_default.ensures)) ∙ sym c.pieces.invariant.1
