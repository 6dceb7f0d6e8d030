-- A text may be cut where its spaces end or begin.
use Rattle.std.proofs.Common.{◌≡◌, ℕ, zero, suc, ◌+◌, ◌-◌, ◌<◌, true, List, length, reverse, get_or, sym, ap, ◌∙◌, arith, add-one, map, take, Bor, ◌++◌, ◌∷◌, []}
use Rattle.std.specs.List.{prefix_len, suffix_len}
use Rattle.std.specs.Str.{IsUtf8, IsCharBoundary}
use Rattle.std.proofs.lemmas.List.{get_or-reverse, take_more, map-append}
use Rattle.std.proofs.lemmas.Str.{IsCharBoundary-start, IsCharBoundary-end, IsCharBoundary-after_ascii, IsCharBoundary-before_ascii}
use Rattle.std.proofs.lemmas.List.Sums.{prefix_len-le-length, prefix_len_passes, suffix_len-le-length}
use Rattle.std.proofs.lemmas.Bool.Decides.{nat_tests}
use Rattle.kb_token.specs.Lines.{is_space}

pub space_is_ascii : (c : ℕ) → is_space c ≡ true → c < 128
space_is_ascii c e = grind (arith, nat_tests)

-- behind the spaces at its front
pub cut_start : (text : List ℕ) → IsUtf8 text → (n : ℕ) → n ≡ prefix_len is_space text → IsCharBoundary text n
cut_start text u zero is = IsCharBoundary-start text u
cut_start text u (suc m) is =
    let fits : m < prefix_len is_space text = omega (arith, is) in
    let within : m < length text = omega (arith, prefix_len-le-length is_space text) in
    rw (← add-one) (IsCharBoundary-after_ascii text m u within (space_is_ascii _ (prefix_len_passes is_space text m 0 fits)))

-- before the spaces at its end
pub cut_end : (text : List ℕ) (n : ℕ) → n ≡ suffix_len is_space text → IsCharBoundary text (length text - n)
cut_end text zero is = let whole : length text - 0 ≡ length text = omega arith in rw whole (IsCharBoundary-end text)
cut_end text (suc m) is =
    let fits : m < prefix_len is_space (reverse text) = omega (arith, is) in
    let within : m < length text = omega (arith, suffix_len-le-length is_space text, is) in
    let at : length text - 1 - m ≡ length text - suc m = omega arith in
    let read = get_or-reverse text m 0 within ∙ ap (λ i. get_or text i 0) at in
    let ascii = ap is_space (sym read) ∙ prefix_len_passes is_space (reverse text) m 0 fits in
    IsCharBoundary-before_ascii text (length text - suc m) (omega arith) (space_is_ascii _ ascii)

-- one line more
pub texts_more : (texts : List (Bor (List ℕ))) (i : ℕ) (d : Bor (List ℕ)) → i < length texts → map (λ t. t.now) (take (i + 1) texts) ≡ map (λ t. t.now) (take i texts) ++ (get_or texts i d).now ∷ []
texts_more texts i d l = ap (map (λ (t : Bor (List ℕ)). t.now)) (take_more texts i d l) ∙ map-append (λ (t : Bor (List ℕ)). t.now) (take i texts) (get_or texts i d ∷ [])
