-- Laws of the rows: how often a number stands in one.
use Rattle.std.proofs.Common.{◌≡◌, ℕ, zero, suc, ◌+◌, ◌<◌, ◌≤◌, Bool, true, cond, List, [], ◌∷◌, ◌++◌, length, get_or, take, refl, ap, arith, nat_eq, ◌⊎◌, inl, inr}
use Rattle.std.proofs.lemmas.Bool.{eq-eqb, cases_lt}
use Rattle.std.proofs.lemmas.List.Sums.{sum_by_more_le, sum_by_push}
use Rattle.kb_auto.specs.declared.Listed.{Listed}
use Rattle.kb_auto.specs.Queue.{occurs, module_at}

counts : (b : Bool) → b ≡ true → ◌≡◌ {A = ℕ} (cond b 1 0) 1
counts b e = ap (λ c. cond {A = ℕ} c 1 0) e

pub occurs_more : (row : List ℕ) (i : ℕ) → i < length row → occurs (get_or row i 0) (take i row) + 1 ≤ occurs (get_or row i 0) row
occurs_more row i l =
    let more = sum_by_more_le (λ n. cond (nat_eq n (get_or row i 0)) 1 0) row i 0 l in
    let one = counts (nat_eq (get_or row i 0) (get_or row i 0)) (eq-eqb (get_or row i 0) (get_or row i 0) refl) in
    omega (arith, more, one)

pub occurs_push : (k n : ℕ) (row : List ℕ) → occurs k (row ++ n ∷ []) ≡ occurs k row + cond (nat_eq n k) 1 0
occurs_push k n row = sum_by_push (λ m. cond (nat_eq m k) 1 0) row n

-- a number that stands in the row is of the list
pub in_list : (size : ℕ) (row : List ℕ) (i : ℕ) → i < length row → ((k : ℕ) → size ≤ k → occurs k row ≡ 0) → get_or row i 0 < size
in_list size row i l none = by_test (cases_lt (get_or row i 0) size)
  where
    by_test : (get_or row i 0 < size) ⊎ (size ≤ get_or row i 0) → get_or row i 0 < size
    by_test (inl h) = h
    by_test (inr h) = absurd (let some = occurs_more row i l in let zero_times = none (get_or row i 0) h in omega (arith, some, zero_times))

-- a module that a list has at a place is the one there
pub is_module : (list : List Listed) (k : ℕ) (m : Listed) → k < length list → m ≡ get_or list k m → m ≡ module_at list k
is_module [] k m l e = absurd (omega arith)
is_module (x ∷ list) zero m l e = e
is_module (x ∷ list) (suc k) m l e = is_module list k m (omega arith) e
