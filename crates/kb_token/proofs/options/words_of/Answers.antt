use Rattle.std.proofs.Common.{◌++◌, ◌∷◌, [], map, length, nat_eq, sym, ap, ◌∙◌, subst}
use Rattle.std.specs.Str.{IsUtf8}
use Rattle.std.proofs.lemmas.List.{append-nil, map-append}
use Rattle.std.specs.List.{before_first}
use Rattle.kb_token.specs.Options.{words_of, is_separator}
use Rattle.kb_token.proofs.OptionsLaws.{words_more, words_last, words_none, word_added, utf8_next}
use Rattle.kb_token.proofs.options.words_of.Goals as goal
use Rattle.kb_token.proofs.options.words_of.Goals.{then-not-is_empty-2+in_ok-push-2, else-not-is_empty-2}

pub words-preserved-in_ok-push : goal.words-preserved-in_ok-push
words-preserved-in_ok-push c =
    let e = c.in-Some.ensures in
    let given = ap (λ w. nat_eq (length w) 0) (sym e.1) ∙ sym c.is_empty.ensures ∙ c.if-not-is_empty.true in (
      subst IsUtf8 (sym e.2) (utf8_next c.words.rest.now e.0 c.words.invariant.0),
      c.words.invariant.1
          ∙ ap (λ t. map (λ word. word.now) c.words.words.items ++ t) (words_more c.words.rest.now e.0 given ∙ ap (λ t. before_first is_separator c.words.rest.now ∷ words_of t) (sym e.2))
          ∙ word_added c.words.words.items c.in-Some.word (before_first is_separator c.words.rest.now) (words_of c.in-Some.behind.now) (sym e.1)
          ∙ ap (λ t. map (λ word. word.now) t ++ words_of c.in-Some.behind.now) (sym c.in_ok-push.ensures.items),
    )

pub returns : goal.returns
returns c =
    sym (
    c.words.invariant.1
    ∙ elim c.if-not-is_empty-2.branch [
      | then-not-is_empty-2+in_ok-push-2 w ↦
          ap (λ t. map (λ word. word.now) c.words.words.items ++ t) (words_last c.words.rest.now c.in_default.ensures (sym c.is_empty-2.ensures ∙ w.if-not-is_empty-2.true))
          ∙ sym (map-append (λ word. word.now) c.words.words.items (c.words.rest ∷ [])) ∙ ap (map (λ word. word.now)) (sym w.in_ok-push-2.ensures.items ∙ ap (λ v. v.items) (sym w.words-is))
      | else-not-is_empty-2 w ↦
          ap (λ t. map (λ word. word.now) c.words.words.items ++ t) (words_none c.words.rest.now c.in_default.ensures (sym c.is_empty-2.ensures ∙ w.if-not-is_empty-2.false))
          ∙ append-nil _ ∙ ap (λ v. map (λ word. word.now) v.items) (sym w.words-is)
    ]
    )
