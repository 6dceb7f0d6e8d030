-- The names of spots' links, and their cut at the last dash.
use Rattle.std.proofs.Common.{◌≡◌, ◌≢◌, ℕ, suc, ◌+◌, ◌<◌, false, cond, List, [], ◌∷◌, ◌++◌, length, take, drop, get_or, nat_eq, Option, Some, None, codes, refl, sym, ap, ◌∙◌, subst, arith, lit<, Bor, ◌≤◌}
use Rattle.std.proofs.lemmas.Bool.{eqb-true}
use Rattle.std.proofs.lemmas.List.{take-append-drop}
use Rattle.std.proofs.lemmas.Str.Pattern.{NoCharPasses-char, drop_at_char}
use Rattle.std.specs.Str.{NoCharPasses}
use Rattle.std.specs.Str.Pattern.{RFindsChar}
use Rattle.std.specs.Prelude.{◌==◌, option_and_then, MatchOption}
use Rattle.std.specs.List.{starts_with}
use Rattle.std.specs.Str.{byte}
use Rattle.std.specs.Cmp.Lexicographic.{bytes_decides}
use Rattle.kb_world.specs.StorePath.{cut_with, cut_at_dash, spot_if, spot_of_link}
use Rattle.kb_world.proofs.PathLaws.{by_test}

abbrev DASH : ℕ
DASH = byte "-"

-- a text without a dash isn't cut
pub uncut : (text : List ℕ) → ((i : ℕ) → i < length text → get_or text i 0 ≢ 45) → cut_at_dash text ≡ None
uncut [] none = refl
uncut (c ∷ rest) none =
    let later = uncut rest (λ i h. none (suc i) (omega arith)) in
    let here : nat_eq c DASH ≡ false = by_test (nat_eq c DASH) (λ e. none 0 (omega arith) (eqb-true c DASH e)) in
    ap (cut_with c rest) later ∙ ap (λ b. cond b (Some ([], rest)) None) here

cut_there : (front back : List ℕ) → cut_at_dash back ≡ None → cut_at_dash (front ++ DASH ∷ back) ≡ Some (front, back)
cut_there [] back none = ap (cut_with DASH back) none
cut_there (c ∷ front) back none = ap (cut_with c (front ++ DASH ∷ back)) (cut_there front back none)

-- a text is cut at a dash behind which there is none
pub cut_last : (text front back : List ℕ) → text ≡ front ++ DASH ∷ back → ((i : ℕ) → i < length back → get_or back i 0 ≢ 45) → cut_at_dash text ≡ Some (front, back)
cut_last text front back is none = ap cut_at_dash is ∙ cut_there front back (uncut back none)

-- ---- the name

pub link_behind : (name rest : List ℕ) → name ≡ codes "kernel-" ++ rest → spot_of_link name ≡ option_and_then spot_if (cut_at_dash rest)
link_behind name rest is = ap spot_of_link is

pub no_link : (name : List ℕ) → ((rest : List ℕ) → name ≡ codes "kernel-" ++ rest → ⊥) → spot_of_link name ≡ None
no_link name none =
    let other : starts_with nat_eq name (codes "kernel-") ≡ false = by_test (starts_with nat_eq name (codes "kernel-")) (λ e.
    none (drop 7 name) (sym (take-append-drop 7 name) ∙ ap (λ f. f ++ drop 7 name) (sym ((bytes_decides (codes "kernel-") (take 7 name)).0 e)))) in
    ap (λ b. cond b (option_and_then spot_if (cut_at_dash (drop 7 name))) None) other

-- what the search for the last dash answers
pub cut_found : (text : List ℕ) (found : Option (Bor (List ℕ) × Bor (List ℕ)))
    → MatchOption found (NoCharPasses (λ d. d == 45) text) (λ x. (i : ℕ) × (j : ℕ) × RFindsChar 45 text (Some (i, j)) × (x.0.now ≡ take i text) × (x.1.now ≡ drop j text) × (i ≤ j) × (length x.0.now ≡ i) × (length x.1.now + j ≡ length text))
    → MatchOption found (cut_at_dash text ≡ None) (λ cut. cut_at_dash text ≡ Some (cut.0.now, cut.1.now))
cut_found text None h = uncut text (λ i within. NoCharPasses-char 45 text i h (lit< tt) within)
cut_found text (Some x) (i, j, found, front, back, more, short, long) =
    let there : drop i text ≡ 45 ∷ drop j text = drop_at_char 45 text i j found.1 (lit< tt) in
    cut_last text x.0.now x.1.now (sym (take-append-drop i text) ∙ ap (λ t. take i text ++ t) there ∙ ap (λ f. f ++ (45 ∷ drop j text)) (sym front) ∙ ap (λ b. x.0.now ++ (45 ∷ b)) (sym back))
    (λ k within e. NoCharPasses-char 45 (drop j text) k found.0 (lit< tt) (subst (λ b. k < length b) back within) (sym (ap (λ b. get_or b k 0) back) ∙ e))
