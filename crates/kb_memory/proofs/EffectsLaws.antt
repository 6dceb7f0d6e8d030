-- Effects of rows, found by their number among all.
use Rattle.std.proofs.Common.{◌≡◌, ◌+◌, ◌-◌, ◌<◌, ◌≤◌, ◌^◌, ℕ, zero, suc, length, take, drop, get_or, List, [], ◌∷◌, ◌++◌, refl, sym, ap, ◌∙◌, arith, add-one, drop-cons, length-append, append-nil, nat_eq, cond, true, false, Option, Some, None}
use Rattle.std.specs.Prelude.{◌/◌, ◌%◌, option_map}
use Rattle.std.proofs.lemmas.Bool.Decides.{nat_tests}
use Rattle.std.specs.List.{slice_get}
use Rattle.std.specs.Option.{option_copied, IfSome, IsSome}
use Rattle.std.proofs.lemmas.Option.{slice_get-get_or}
use Rattle.std.proofs.lemmas.List.{take_more}
use denote.Bor.{Bor}
use Rattle.std.proofs.lemmas.Grind.{flat_map-append}
use Rattle.kb_world.specs.Script.{Script}
use Rattle.kb_world.specs.declared.child.EffectRow.{EffectRow}
use Rattle.kb_world.specs.declared.child.Effect.{Effect}
use Rattle.kb_memory.specs.Lost.{effects_of, changed_path, copied_path, named_path}

got_left : {X : Type 0} (xs ys : List X) (i : ℕ) → i < length xs → slice_get (xs ++ ys) i ≡ slice_get xs i
got_left [] ys i less = absurd (omega arith)
got_left (x ∷ xs) ys zero less = refl
got_left (x ∷ xs) ys (suc i) less = got_left xs ys i (omega arith)

got_right : {X : Type 0} (xs ys : List X) (i j : ℕ) → i ≡ length xs + j → slice_get (xs ++ ys) i ≡ slice_get ys j
got_right [] ys i j is = let e : i ≡ j = omega arith in ap (slice_get ys) e
got_right (x ∷ xs) ys zero j is = absurd (omega arith)
got_right (x ∷ xs) ys (suc i) j is = got_right xs ys i j (omega arith)

module _ (rows : Script) (i : ℕ) (row : EffectRow) (within : i < length rows) (is : row ≡ get_or rows i row) where
  dropped : drop i rows ≡ row ∷ drop (i + 1) rows
  dropped = rw (add-one, drop-cons rows i row, ← is) refl

  -- it is one of this row's
  pub effect_here : (left : ℕ) → left < length row.effects → slice_get (effects_of (drop i rows)) left ≡ slice_get row.effects left
  effect_here left less = ap (λ l. slice_get (effects_of l) left) dropped ∙ got_left row.effects (effects_of (drop (i + 1) rows)) left less

  -- it is one of a later row's
  pub effect_later : (left rest : ℕ) → left ≡ length row.effects + rest → slice_get (effects_of (drop (i + 1) rows)) rest ≡ slice_get (effects_of (drop i rows)) left
  effect_later left rest is = sym (ap (λ l. slice_get (effects_of l) left) dropped ∙ got_right row.effects (effects_of (drop (i + 1) rows)) left rest is)

  -- so many are those of the rows up to this one
  pub effects_more : length (effects_of (take (i + 1) rows)) ≡ length (effects_of (take i rows)) + length row.effects
  effects_more =
      ap (λ l. length (effects_of l)) (take_more rows i row within ∙ ap (λ r. take i rows ++ r ∷ []) (sym is))
      ∙ ap length (flat_map-append (λ (r : EffectRow). r.effects) (take i rows) (row ∷ []))
      ∙ length-append (effects_of (take i rows)) (row.effects ++ [])
      ∙ ap (λ n. length (effects_of (take i rows)) + n) (ap length (append-nil row.effects))

-- what a slice gives at an index within it
pub got : {X : Type 0} (result : Option (Bor X)) (xs : List X) (i : ℕ) → i < length xs → IfSome result (λ x. x.now ≡ get_or xs i x.now) → IsSome result → option_copied result ≡ slice_get xs i
got None xs i less is some = let q : false ≡ true = some in cc
got (Some x) xs i less is some = ap Some is ∙ sym (slice_get-get_or xs i x.now less)

-- ---- the path that a number names

pub named_even : (rows : Script) (number : ℕ) (effect : Effect) → slice_get (effects_of rows) (number / 2) ≡ Some effect → number % 2 ≡ 0 → named_path rows number ≡ Some (changed_path effect)
named_even rows number effect is even = λ i. option_map (cond (nat_eq (even i) 0) changed_path copied_path) (is i)

pub named_odd : (rows : Script) (number : ℕ) (effect : Effect) → slice_get (effects_of rows) (number / 2) ≡ Some effect → (number % 2 ≡ 0 → ⊥) → named_path rows number ≡ Some (copied_path effect)
named_odd rows number effect is odd =
    let test : nat_eq (number % 2) 0 ≡ false = grind (arith, nat_tests) in
    λ i. option_map (cond (test i) changed_path copied_path) (is i)
