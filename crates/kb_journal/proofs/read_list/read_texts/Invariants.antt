-- So many texts are read.
use Rattle.std.proofs.Common.{◌≡◌, ◌<◌, ◌^◌, List, ℕ, [], ◌∷◌, ◌++◌, All, length, map}
use Rattle.std.specs.Str.{IsUtf8}
use Rattle.kb_changes.specs.Text as rule
use Rattle.kb_journal.proofs.LeftLaws.{AreLeft}
use Rattle.kb_journal.proofs.read_list.read_texts.Given as goal

abbrev pub invariant-loop : goal.invariant-loop
invariant-loop l =
    (texts more : List (List ℕ)) → All IsUtf8 texts → length texts < 2 ^ 64 → l.fn.fields ≡ rule.counted_fields (map rule.text_field texts) ++ more
    → AreLeft (λ text. rule.text_field text ∷ []) IsUtf8 texts l.texts more l.fields l.counter
