-- The walk over the words, a word at a time.
use Rattle.std.proofs.Common.{◌≡◌, ℕ, ◌+◌, ◌-◌, ◌≤◌, List, [], ◌∷◌, length, Some, None, Err, refl, sym, ap, ◌∙◌, arith}
use Rattle.kb_world.specs.declared.refusal.Refusal.TheVariants as refusal
use Rattle.kb_words.specs.declared.progress.Progress.{Progress}
use Rattle.kb_words.specs.declared.progress.Progress.TheVariants.{Start}
use Rattle.kb_words.specs.Words.{Word}
use Rattle.kb_words.specs.Reading.{after_word, ended, line_behind, line_from, known_behind, known, read_line, reading}

pub line_step : (state next : Progress) (word : Word) (rest : List Word) → after_word state word ≡ Some next → line_from state (word ∷ rest) ≡ line_from next rest
unfolding line_from
line_step state next word rest e = ap (line_behind (λ s. line_from s rest)) e

pub known_step : (state next : Progress) (word : Word) (rest : List Word) → after_word state word ≡ Some next → known state (word ∷ rest) ≡ 1 + known next rest
unfolding known
known_step state next word rest e = ap (known_behind (λ s. known s rest)) e

pub line_stop : (state : Progress) (word : Word) (rest : List Word) → after_word state word ≡ None → line_from state (word ∷ rest) ≡ None
unfolding line_from
line_stop state word rest e = ap (line_behind (λ s. line_from s rest)) e

pub known_stop : (state : Progress) (word : Word) (rest : List Word) → after_word state word ≡ None → known state (word ∷ rest) ≡ 0
unfolding known
known_stop state word rest e = ap (known_behind (λ s. known s rest)) e

pub line_end : (state : Progress) → line_from state [] ≡ ended state
unfolding line_from
line_end state = refl

pub known_end : (state : Progress) → known state [] ≡ 0
unfolding known
known_end state = refl

-- Behind the words before the rest stands this state.
pub record Walked (words rest : List Word) (state : Progress) : Type 0 where
  pub within : length rest ≤ length words
  pub line : line_from Start words ≡ line_from state rest
  pub count : known Start words ≡ (length words - length rest) + known state rest

pub walked_on : (words rest behind : List Word) (word read : Word) (state next : Progress) → Walked words rest state → rest ≡ word ∷ behind → read ≡ word → after_word state read ≡ Some next → Walked words behind next
walked_on words rest behind word read state next w split same is =
    let goes : after_word state word ≡ Some next = ap (after_word state) (sym same) ∙ is in
    let longer : length rest ≡ length (word ∷ behind) = ap length split in
    let counted : known state rest ≡ 1 + known next behind = ap (known state) split ∙ known_step state next word behind goes in
    let within = w.within in
    let count = w.count in
    record {
      within = omega arith;
      line = w.line ∙ ap (line_from state) split ∙ line_step state next word behind goes;
      count = omega arith;
    }

pub walked_stop : (words rest behind : List Word) (word read : Word) (state : Progress) (place : ℕ) → Walked words rest state → rest ≡ word ∷ behind → read ≡ word → after_word state read ≡ None
    → place ≡ length words - length rest + 1 → reading words ≡ Err (refusal.Usage place)
walked_stop words rest behind word read state place w split same is at =
    let stops : after_word state word ≡ None = ap (after_word state) (sym same) ∙ is in
    let count = w.count in
    let counted : known state rest ≡ 0 = ap (known state) split ∙ known_stop state word behind stops in
    let here : known Start words + 1 ≡ place = omega arith in
    (λ i. read_line (here i) ((w.line ∙ ap (line_from state) split ∙ line_stop state word behind stops) i))

no_words : (rest : List Word) → length rest ≡ 0 → rest ≡ []
no_words [] h = refl
no_words (word ∷ rest) h = absurd (omega arith)

pub walked_end : (words rest : List Word) (state : Progress) (place : ℕ) → Walked words rest state → length rest ≡ 0 → place ≡ length words - length rest + 1 → read_line place (ended state) ≡ reading words
walked_end words rest state place w none at =
    let over = no_words rest none in
    let count = w.count in
    let counted : known state rest ≡ 0 = ap (known state) over ∙ known_end state in
    let here : place ≡ known Start words + 1 = omega arith in
    (λ i. read_line (here i) (sym (w.line ∙ ap (line_from state) over ∙ line_end state) i))
