use Rattle.std.proofs.Common.{◌++◌, ◌∷◌, [], get_or, Bor, List, ℕ, ap, ◌∙◌, arith, append_assoc}
use Rattle.kb_token.proofs.OptionsLaws.{joined_next, joined_first}
use Rattle.kb_token.proofs.options.joined.Goals as goal
use Rattle.kb_token.proofs.options.joined.Goals.{then-number-gt0+in_ok-push_str, else-number-gt0}

pub loop-number-preserved : goal.loop-number-preserved
loop-number-preserved c =
    let words = c.args.words.now in
    let n = c.loop-number.number in
    let d : Bor (List ℕ) = record { ref_ptr = (0, 0); now = [] } in
    c.in_ok-push_str-2.ensures.ok
    ∙ elim c.if-number-gt0.branch [
      | then-number-gt0+in_ok-push_str w ↦
          ap (λ t. t ++ (get_or words n d).now) (w.text-is ∙ w.in_ok-push_str.ensures.ok ∙ ap (λ t. t ++ 32 ∷ []) c.loop-number.invariant) ∙ append_assoc _ (32 ∷ []) (get_or words n d).now
          ∙ joined_next words n d (omega arith) (omega arith)
      | else-number-gt0 w ↦ ap (λ t. t ++ (get_or words n d).now) (w.text-is ∙ c.loop-number.invariant) ∙ joined_first words n d (omega arith) (omega arith)
    ]
