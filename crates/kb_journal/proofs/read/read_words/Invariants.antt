-- So many words are read.
use Rattle.std.proofs.Common.{◌≡◌, List, ℕ, ◌∷◌, ◌++◌, All, map}
use Rattle.std.specs.Str.{IsUtf8}
use Rattle.kb_changes.specs.Text as rule
use Rattle.kb_journal.specs.Reads.{IsNoText}
use Rattle.kb_journal.proofs.EndLaws.{spelled}
use Rattle.kb_journal.proofs.LeftLaws.{AreLeft}
use Rattle.kb_journal.proofs.read.read_words.Given as goal

abbrev pub invariant-loop : goal.invariant-loop
invariant-loop l =
    (words : List (List ℕ)) (end : List ℕ) (more : List (List ℕ)) → All IsUtf8 words → IsNoText end → l.fn.fields ≡ map rule.text_field words ++ end ∷ more
    → AreLeft spelled IsUtf8 words l.words (end ∷ more) l.fields l.counter
