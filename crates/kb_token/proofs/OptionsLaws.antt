-- The words of a command line, and how they are joined.
use Rattle.std.proofs.Common.{◌≡◌, ◌≢◌, ℕ, ◌+◌, ◌<◌, Bool, true, false, cond, not, List, [], ◌∷◌, ◌++◌, length, take, get_or, refl, sym, ap, ◌∙◌, arith, nat_eq, append_assoc, map, Bor}
use Rattle.std.specs.Prelude.{filter}
use Rattle.std.specs.List.{slice_split, position_or_len, before_first, after_first, join_with_byte}
use Rattle.std.specs.Str.{IsUtf8}
use Rattle.std.proofs.lemmas.List.{map-append, take_more, length-map, length-take-le}
use Rattle.std.proofs.lemmas.Str.{IsCharBoundary-after_ascii, IsUtf8-drop}
use Rattle.std.proofs.lemmas.List.Sums.{prefix_len-le-length, prefix_len_stops, prefix_len_passes}
use Rattle.std.proofs.lemmas.List.Elements.{All-from_get_or}
use Rattle.std.proofs.lemmas.List.Splits.{slice_split_first, slice_split_none}
use Rattle.std.proofs.lemmas.Bool.Decides.{nat_tests}
use Rattle.kb_token.specs.Options.{is_separator, words_of}

separator_is_ascii : (c : ℕ) → is_separator c ≡ true → c < 128
separator_is_ascii c e = grind (arith, nat_tests)

not_false : (b : Bool) → not b ≡ false → b ≡ true
not_false true e = refl
not_false false e = let impossible : true ≡ false = e in cc

-- where there is a separator, it is ASCII
pub separator_at : (text : List ℕ) (n : ℕ) → n ≡ position_or_len is_separator text → n ≢ length text → (n < length text) × (get_or text n 0 < 128)
separator_at text n is other =
    let within : n < length text = omega (arith, prefix_len-le-length (λ c. not (is_separator c)) text, is) in
    let same : position_or_len is_separator text < length text = omega (arith, is) in
    (within, separator_is_ascii _ (ap (λ i. is_separator (get_or text i 0)) is ∙ not_false _ (prefix_len_stops (λ c. not (is_separator c)) text 0 same)))

-- one more word is joined
pub joined_more : (c : ℕ) (words : List (List ℕ)) (word : List ℕ) → 0 < length words → join_with_byte c (words ++ word ∷ []) ≡ join_with_byte c words ++ c ∷ word
joined_more c [] word some = absurd (omega arith)
joined_more c (first ∷ []) word some = refl
joined_more c (first ∷ next ∷ rest) word some =
    ap (λ t. first ++ c ∷ t) (joined_more c (next ∷ rest) word (omega arith)) ∙ sym (append_assoc first (c ∷ join_with_byte c (next ∷ rest)) (c ∷ word))

-- ---- words

next : (text : List ℕ) → position_or_len is_separator text < length text → words_of text ≡ filter (λ word. not (nat_eq (length word) 0)) (before_first is_separator text ∷ slice_split is_separator (after_first is_separator text))
next text l = ap (filter (λ word. not (nat_eq (length word) 0))) (slice_split_first is_separator text 0 l)

-- a word that isn't empty, and one that is
pub words_more : (text : List ℕ) → position_or_len is_separator text < length text → nat_eq (length (before_first is_separator text)) 0 ≡ false
    → words_of text ≡ before_first is_separator text ∷ words_of (after_first is_separator text)
words_more text l e =
    next text l ∙ ap (λ b. cond (not b) (before_first is_separator text ∷ words_of (after_first is_separator text)) (words_of (after_first is_separator text))) e

pub words_same : (text : List ℕ) → position_or_len is_separator text < length text → nat_eq (length (before_first is_separator text)) 0 ≡ true → words_of text ≡ words_of (after_first is_separator text)
words_same text l e =
    next text l ∙ ap (λ b. cond (not b) (before_first is_separator text ∷ words_of (after_first is_separator text)) (words_of (after_first is_separator text))) e

not_true : (b : Bool) → not b ≡ true → b ≡ false
not_true true e = let impossible : false ≡ true = e in cc
not_true false e = refl

whole : (text : List ℕ) → position_or_len is_separator text ≡ length text → slice_split is_separator text ≡ text ∷ []
whole text is =
    slice_split_none is_separator text (All-from_get_or (λ c. is_separator c ≡ false) text 0 (λ i l. not_true _ (prefix_len_passes (λ c. not (is_separator c)) text i 0 (omega (arith, is)))))

-- the last word, which may be empty
pub words_last : (text : List ℕ) → position_or_len is_separator text ≡ length text → nat_eq (length text) 0 ≡ false → words_of text ≡ text ∷ []
words_last text is e = ap (filter (λ word. not (nat_eq (length word) 0))) (whole text is) ∙ ap (λ b. cond (not b) (text ∷ []) []) e

pub words_none : (text : List ℕ) → position_or_len is_separator text ≡ length text → nat_eq (length text) 0 ≡ true → words_of text ≡ []
words_none text is e = ap (filter (λ word. not (nat_eq (length word) 0))) (whole text is) ∙ ap (λ b. cond (not b) (text ∷ []) []) e

pub utf8_next : (text : List ℕ) → position_or_len is_separator text < length text → IsUtf8 text → IsUtf8 (after_first is_separator text)
utf8_next text l u =
    let n = position_or_len is_separator text in
    let ascii = separator_is_ascii _ (not_false _ (prefix_len_stops (λ c. not (is_separator c)) text 0 l)) in IsUtf8-drop text (n + 1) u (IsCharBoundary-after_ascii text n u l ascii)

-- one word more was found
pub word_added : (words : List (Bor (List ℕ))) (word : Bor (List ℕ)) (before : List ℕ) (rest : List (List ℕ)) → before ≡ word.now
    → map (λ w. w.now) words ++ before ∷ rest ≡ map (λ w. w.now) (words ++ word ∷ []) ++ rest
word_added words word before rest is =
    ap (λ b. map (λ w. w.now) words ++ b ∷ rest) is ∙ sym (append_assoc (map (λ w. w.now) words) (word.now ∷ []) rest)
    ∙ ap (λ t. t ++ rest) (sym (map-append (λ (w : Bor (List ℕ)). w.now) words (word ∷ [])))

-- ---- the words are joined

pub joined_next : (words : List (Bor (List ℕ))) (n : ℕ) (d : Bor (List ℕ)) → n < length words → 0 < n
    → join_with_byte 32 (map (λ w. w.now) (take n words)) ++ 32 ∷ (get_or words n d).now ≡ join_with_byte 32 (map (λ w. w.now) (take (n + 1) words))
joined_next words n d l some =
    let now : Bor (List ℕ) → List ℕ = λ w. w.now in
    let fewer : length (map now (take n words)) ≡ n = length-map (take n words) now ∙ length-take-le n words (omega arith) in
    let more = ap (map now) (take_more words n d l) ∙ map-append now (take n words) (get_or words n d ∷ []) in
    sym (ap (join_with_byte 32) more ∙ joined_more 32 (map now (take n words)) (get_or words n d).now (omega (arith, fewer)))

pub joined_first : (words : List (Bor (List ℕ))) (n : ℕ) (d : Bor (List ℕ)) → n < length words → n ≡ 0
    → join_with_byte 32 (map (λ w. w.now) (take n words)) ++ (get_or words n d).now ≡ join_with_byte 32 (map (λ w. w.now) (take (n + 1) words))
joined_first [] n d l none = absurd (omega arith)
joined_first (first ∷ words) n d l none = rw none refl
