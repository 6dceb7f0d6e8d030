-- The words stand between the front and the line's end.
use Rattle.std.proofs.Common.{◌≡◌, ℕ, List, ◌++◌, codes, ap, ◌∙◌, append_assoc}
use Rattle.std.specs.Prelude.{Result, Ok, Err, OnOk}
use Rattle.std.specs.List.{join_by}
use Rattle.kb_top.specs.Machine.{recovered_line}
use Rattle.kb_top.proofs.recovery.push_line.Goals as goal

-- the three pieces in a row
in_line : (start once twice all front end : List ℕ) (words : List (List ℕ)) {E : Type 0} (result : Result (Unit {0}) E) → front ≡ codes "recovered: " → end ≡ codes "\n" → once ≡ start ++ front
    → twice ≡ once ++ join_by (λ word. word) (codes " ") words → OnOk result (all ≡ twice ++ end) → OnOk result (all ≡ start ++ recovered_line words)
in_line start once twice all front end words (Err error) is_front is_end a b c = tt
in_line start once twice all front end words (Ok u) is_front is_end a b c =
    let inner = join_by (λ word. word) (codes " ") words in
    c ∙ (λ i. (b ∙ ap (λ t. t ++ inner) (a ∙ ap (λ t. start ++ t) is_front)) i ++ is_end i) ∙ append_assoc (start ++ codes "recovered: ") inner (codes "\n")
    ∙ append_assoc start (codes "recovered: ") (inner ++ codes "\n")

pub returns : goal.returns
returns c =
    in_line c.args.text.now c.push.new.self c.push_words.new.text c.push-2.new.self c.as_bytes.result.now c.as_bytes-2.result.now c.args.words.now c.push-2.result
    c.as_bytes.ensures.value c.as_bytes-2.ensures.value c.in_ok-push.ensures.ok c.in_ok-push_words.ensures c.push-2.ensures.ok
