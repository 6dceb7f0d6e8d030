-- What a loop over a list has added, where it adds what a test passes.
use Rattle.std.proofs.Common.{◌≡◌, ℕ, ◌+◌, ◌<◌, Bool, cond, true, false, List, [], ◌∷◌, ◌++◌, length, take, get_or, map, sym, ap, ◌∙◌, append_assoc}
use Rattle.std.specs.List.{filter}
use Rattle.std.proofs.lemmas.List.{map-append, append-nil}
use Rattle.std.proofs.lemmas.List.Elements.{filter_more}

module _ {X Y : Type 0} (made : X → Y) (wanted : X → Bool) where
  -- what is made of those of a list that are wanted
  abbrev pub made_of : List X → List Y
  made_of xs = map made (filter wanted xs)

  made_more : (xs : List X) (i : ℕ) (d : X) → i < length xs → (b : Bool) → wanted (get_or xs i d) ≡ b → made_of (take (i + 1) xs) ≡ made_of (take i xs) ++ map made (cond b (get_or xs i d ∷ []) [])
  made_more xs i d row b is =
      ap (map made) (filter_more wanted xs i d row ∙ ap (λ t. filter wanted (take i xs) ++ cond t (get_or xs i d ∷ []) []) is)
      ∙ map-append made (filter wanted (take i xs)) (cond b (get_or xs i d ∷ []) [])

  -- one more is wanted
  pub one_more : (start : List Y) (xs : List X) (i : ℕ) (x : X) → i < length xs → x ≡ get_or xs i x → wanted x ≡ true → (start ++ made_of (take i xs)) ++ made x ∷ [] ≡ start ++ made_of (take (i + 1) xs)
  one_more start xs i x row is so =
      append_assoc start (made_of (take i xs)) (made x ∷ [])
      ∙ ap (λ l. start ++ l) (ap (λ y. made_of (take i xs) ++ made y ∷ []) is ∙ sym (made_more xs i x row true (ap wanted (sym is) ∙ so)))

  -- one more is not
  pub none_more : (start : List Y) (xs : List X) (i : ℕ) (x : X) → i < length xs → x ≡ get_or xs i x → wanted x ≡ false → start ++ made_of (take i xs) ≡ start ++ made_of (take (i + 1) xs)
  none_more start xs i x row is so =
      ap (λ l. start ++ l) (sym (made_more xs i x row false (ap wanted (sym is) ∙ so) ∙ append-nil (made_of (take i xs))))
