-- One item more is spelled.
use Rattle.std.proofs.Common.{◌≡◌, ℕ, ◌+◌, ◌<◌, List, [], ◌∷◌, ◌++◌, length, take, get_or, map, flat_map, codes, sym, ap, ◌∙◌, append_assoc, append-nil}
use Rattle.std.proofs.lemmas.List.{take_more, map-append}
use Rattle.std.proofs.lemmas.Grind.{flat_map-append}
use Rattle.kb_changes.specs.Text.{line_of_fields}

pub mapped_more : {A B : Type 0} (f : A → B) (xs : List A) (i : ℕ) (x : A) (start now after : List B) (y : B) → i < length xs → x ≡ get_or xs i x →
    now ≡ start ++ map f (take i xs) → after ≡ now ++ y ∷ [] → y ≡ f x → after ≡ start ++ map f (take (i + 1) xs)
mapped_more f xs i x start now after y within is so pushed spelled =
    pushed ∙ (λ k. so k ++ spelled k ∷ []) ∙ append_assoc start (map f (take i xs)) (f x ∷ [])
    ∙ ap (λ ys. start ++ ys) (sym (ap (map f) (take_more xs i x within ∙ ap (λ z. take i xs ++ z ∷ []) (sym is)) ∙ map-append f (take i xs) (x ∷ [])))

pub flat_more : {A B : Type 0} (f : A → List B) (xs : List A) (i : ℕ) (x : A) (start now after : List B) → i < length xs → x ≡ get_or xs i x →
    now ≡ start ++ flat_map f (take i xs) → after ≡ now ++ f x → after ≡ start ++ flat_map f (take (i + 1) xs)
flat_more f xs i x start now after within is so pushed =
    pushed ∙ ap (λ ys. ys ++ f x) so ∙ append_assoc start (flat_map f (take i xs)) (f x)
    ∙ ap (λ ys. start ++ ys) (sym (ap (flat_map f) (take_more xs i x within ∙ ap (λ z. take i xs ++ z ∷ []) (sym is)) ∙ flat_map-append f (take i xs) (x ∷ [])
    ∙ ap (λ ys. flat_map f (take i xs) ++ ys) (append-nil (f x))))

-- the digest behind what it is of
pub ended : (body first second text digest is : List ℕ) → first ≡ body ++ codes "end " → second ≡ first ++ digest → text ≡ second ++ codes "\n" → digest ≡ is →
    text ≡ body ++ line_of_fields (codes "end" ∷ is ∷ [])
ended body first second text digest is a b c e =
    c ∙ ap (λ t. t ++ codes "\n") (b ∙ (λ k. a k ++ e k)) ∙ append_assoc (body ++ codes "end ") is (codes "\n") ∙ append_assoc body (codes "end ") (is ++ codes "\n")
    ∙ ap (λ t. body ++ (codes "end " ++ (t ++ codes "\n"))) (sym (append-nil is))

pub two_more : {A : Type 0} (now once after : List A) (x y p q : A) → once ≡ now ++ x ∷ [] → after ≡ once ++ y ∷ [] → x ≡ p → y ≡ q → after ≡ now ++ p ∷ q ∷ []
two_more now once after x y p q a b e f = b ∙ (λ k. a k ++ f k ∷ []) ∙ append_assoc now (x ∷ []) (q ∷ []) ∙ ap (λ z. now ++ z ∷ q ∷ []) e
