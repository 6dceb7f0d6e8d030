-- Behind the first word each adds a space and itself.
use Rattle.std.proofs.Common.{◌≡◌, ℕ, ◌≤◌, List, ◌∷◌, ◌++◌, length, take, flat_map, codes, sym, ap, ◌∙◌, append_assoc, arith}
use Rattle.std.specs.List.{join_by}
use Rattle.std.proofs.Math.Seq.{take_all}
use Rattle.kb_journal.proofs.SpellLaws.{flat_more}
use Rattle.kb_top.proofs.recovery.push_words.Goals as goal

all_behind : (start now begun first front : List ℕ) (words rest : List (List ℕ)) (i : ℕ) → words ≡ first ∷ rest → front ≡ first → begun ≡ start ++ front
    → now ≡ begun ++ flat_map (λ word. codes " " ++ word) (take i rest) → length rest ≤ i → now ≡ start ++ join_by (λ word. word) (codes " ") words
all_behind start now begun first front words rest i are is once more far =
    more ∙ (λ k. (once ∙ ap (λ t. start ++ t) is) k ++ flat_map (λ word. codes " " ++ word) (take_all i rest far k))
    ∙ append_assoc start first (flat_map (λ word. codes " " ++ word) rest) ∙ ap (λ ws. start ++ join_by (λ word. word) (codes " ") ws) (sym are)

pub loop-word-preserved : goal.loop-word-preserved
loop-word-preserved c =
    flat_more (λ word. codes " " ++ word) c.in-Some.rest.now c.loop-word.word-index c.word-item.result c.push.new.self c.loop-word.text c.push_behind.new.text (omega arith) c.word-item.is
    c.loop-word.invariant c.in_ok-push_behind.ensures

pub returns : goal.returns
returns c =
    all_behind c.args.text.now c.loop-word.text c.push.new.self c.in-Some.first.now c.as_bytes.result.now c.args.words.now c.in-Some.rest.now c.loop-word.word-index c.in-Some.ensures.cases.0
    (c.as_bytes.ensures.value ∙ c.as_str.ensures) c.in_ok-push.ensures.ok c.loop-word.invariant c.loop-word-test.false
