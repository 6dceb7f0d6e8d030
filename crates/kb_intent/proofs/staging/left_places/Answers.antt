-- Each is an entry of a root.
use Rattle.std.proofs.Common.{[], ◌∷◌, ◌∙◌}
use Rattle.kb_intent.proofs.staging.left_places.Goals as goal

pub returns : goal.returns
returns c =
    c.in_ok-vec.ensures.items
    ∙ (λ i. c.in_ok-child.ensures i ∷ c.in_ok-child-2.ensures i ∷ c.in_ok-child-3.ensures i ∷ c.in_ok-child-4.ensures i ∷ c.in_ok-child-5.ensures i ∷ [])
