-- How texts begin and end.
use Rattle.std.proofs.Common.{◌≡◌, ℕ, Bool, true, false, List, [], ◌∷◌, ◌++◌, reverse, refl, sym, ap, ◌∙◌}
use Rattle.std.proofs.lemmas.List.{reverse-append, reverse-reverse}
use Rattle.kb_bls.specs.Fields.{begins_so, ends_with}

pub by_test : (b : Bool) → (b ≡ true → ⊥) → b ≡ false
by_test true never = absurd (never refl)
by_test false never = refl

pub not_both : (b : Bool) → b ≡ true → b ≡ false → ⊥
not_both b h k = let q : true ≡ false = sym h ∙ k in cc

reverse_cons : (x : ℕ) (rest : List ℕ) → reverse (x ∷ rest) ≡ reverse rest ++ (x ∷ [])
reverse_cons x rest = reverse-append (x ∷ []) rest

pub begins_at : (test : ℕ → Bool) (text rest : List ℕ) (x : ℕ) → begins_so test text ≡ false → text ≡ x ∷ rest → test x ≡ false
begins_at test text rest x h e = sym (ap (begins_so test) e) ∙ h

-- a text of which each first byte fails a test doesn't begin with one that passes it
pub begins_unless : (test : ℕ → Bool) (text : List ℕ) → ((x : ℕ) (rest : List ℕ) → text ≡ x ∷ rest → test x ≡ false) → begins_so test text ≡ false
begins_unless test [] fails = refl
begins_unless test (x ∷ rest) fails = fails x rest refl

pub ends_unless : (test : ℕ → Bool) (text : List ℕ) → ((x : ℕ) (front : List ℕ) → text ≡ front ++ (x ∷ []) → test x ≡ false) → ends_with test text ≡ false
ends_unless test text fails =
    begins_unless test (reverse text) (λ x rest e. fails x (reverse rest) (sym (reverse-reverse text) ∙ ap reverse e ∙ reverse_cons x rest))

pub ends_at : (test : ℕ → Bool) (text front : List ℕ) (x : ℕ) → ends_with test text ≡ false → text ≡ front ++ (x ∷ []) → test x ≡ false
ends_at test text front x h e = begins_at test (reverse text) (reverse front) x h (ap reverse e ∙ reverse-append front (x ∷ []))
