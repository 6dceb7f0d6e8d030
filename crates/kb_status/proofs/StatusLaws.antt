-- The status that is computed is one.
use Rattle.std.proofs.Common.{◌≡◌, ℕ, suc, zero, ◌+◌, ◌<◌, Bool, true, false, cond, not, List, [], ◌∷◌, length, get_or, refl, sym, ap, ◌∙◌, subst, arith, add-one}
use Rattle.std.specs.List.{filter as keep}
use Rattle.std.specs.List.Sorted.{IsPermutation, IsSortedBy, IsStableBy, ties}
use Rattle.std.proofs.lemmas.Bool.{true≢false, and_parts}
use Rattle.std.proofs.lemmas.List.Sorted.{IsPermutation-refl, IsPermutation-sym, IsPermutation-cons, IsPermutation-trans, IsPermutation-middle}
use Rattle.kb_world.specs.declared.job.Filter.{Filter}
use Rattle.kb_store.specs.declared.store.Store.{Store}
use Rattle.kb_status.specs.declared.line.Line.{Line}
use Rattle.kb_status.specs.Lines.{status_lines}
use Rattle.kb_status.specs.Status.{IsStatus, placed_line, sorted_lines, text_of_status}
use Rattle.kb_status.proofs.OrderLaws.{before, line_order_ranks}
use Rattle.kb_status.proofs.LineLaws.{one_status}
use Rattle.kb_status.proofs.SortLaws.{sorted_rest}

-- ---- each line once

placed_each : (line : Line) (lines : List Line) → IsPermutation (line ∷ lines) (placed_line line lines)
placed_each line [] = IsPermutation-refl (line ∷ [])
placed_each line (next ∷ rest) = by (before next line) (placed_each line rest)
  where
    by : (b : Bool) → IsPermutation (line ∷ rest) (placed_line line rest) → IsPermutation (line ∷ next ∷ rest) (cond b (next ∷ placed_line line rest) (line ∷ next ∷ rest))
    by true p =
        IsPermutation-trans (line ∷ next ∷ rest) (next ∷ line ∷ rest) (next ∷ placed_line line rest)
        (IsPermutation-sym (next ∷ line ∷ rest) (line ∷ next ∷ rest) (IsPermutation-middle (next ∷ []) line rest)) (IsPermutation-cons next (line ∷ rest) (placed_line line rest) p)
    by false p = IsPermutation-refl (line ∷ next ∷ rest)

each_once : (lines : List Line) → IsPermutation lines (sorted_lines lines)
each_once [] = IsPermutation-refl []
each_once (line ∷ rest) =
    IsPermutation-trans (line ∷ rest) (line ∷ sorted_lines rest) (placed_line line (sorted_lines rest))
    (IsPermutation-cons line rest (sorted_lines rest) (each_once rest)) (placed_each line (sorted_lines rest))

-- ---- in order

-- the first of the lines, if any, doesn't come before this one
abbrev IsAbove : Line → List Line → Type 0
IsAbove line [] = Unit {0}
IsAbove line (next ∷ rest) = before next line ≡ false

one_more : (line : Line) (lines : List Line) → IsAbove line lines → IsSortedBy before lines → IsSortedBy before (line ∷ lines)
one_more line [] above up = λ k d low row. absurd (omega (arith, row))
one_more line (next ∷ rest) above up = λ k d low row. by k d row
  where
    by : (k : ℕ) (d : Line) → k + 1 < length (line ∷ next ∷ rest) → before (get_or (line ∷ next ∷ rest) (k + 1) d) (get_or (line ∷ next ∷ rest) k d) ≡ false
    by zero d row = above
    by (suc k) d row =
        let at = up k d (omega arith) (omega (arith, row)) in
        let next_at = subst (λ n. before (get_or (next ∷ rest) n d) (get_or (next ∷ rest) k d) ≡ false) (add-one k) at in
        subst (λ n. before (get_or (line ∷ next ∷ rest) n d) (get_or (next ∷ rest) k d) ≡ false) (sym (add-one (suc k))) next_at

first_above : (line : Line) (lines : List Line) → IsSortedBy before (line ∷ lines) → IsAbove line lines
first_above line [] up = tt
first_above line (next ∷ rest) up = up 0 line (omega arith) (omega arith)

-- what stands before a line stands before it behind the place of another that comes later
above_placed : (first line : Line) (lines : List Line) → before first line ≡ true → IsAbove first lines → IsAbove first (placed_line line lines)
above_placed first line [] less above = line_order_ranks.one_way first line less
above_placed first line (next ∷ rest) less above = by (before next line)
  where
    by : (b : Bool) → IsAbove first (cond b (next ∷ placed_line line rest) (line ∷ next ∷ rest))
    by true = above
    by false = line_order_ranks.one_way first line less

placed_sorted : (line : Line) (lines : List Line) → IsSortedBy before lines → IsSortedBy before (placed_line line lines)
placed_sorted line [] up = one_more line [] tt up
placed_sorted line (next ∷ rest) up = by (before next line) refl (placed_sorted line rest (sorted_rest before line_order_ranks next rest up))
  where
    by : (b : Bool) → before next line ≡ b → IsSortedBy before (placed_line line rest) → IsSortedBy before (cond b (next ∷ placed_line line rest) (line ∷ next ∷ rest))
    by true less below = one_more next (placed_line line rest) (above_placed next line rest less (first_above next rest up)) below
    by false apart below = one_more line (next ∷ rest) apart up

sorted : (lines : List Line) → IsSortedBy before (sorted_lines lines)
sorted [] = λ k d low row. absurd (omega (arith, row))
sorted (line ∷ rest) = placed_sorted line (sorted_lines rest) (sorted rest)

-- ---- lines that the order calls equal keep their order

-- of two that don't tie, one at most ties with another
one_ties : (other next line : Line) → before next line ≡ true → ties before other next ≡ true → ties before other line ≡ true → ⊥
one_ties other next line less a b =
    let first = and_parts (not (before other next)) (not (before next other)) a in
    let second = and_parts (not (before other line)) (not (before line other)) b in
    true≢false (sym less ∙ line_order_ranks.chain next other line (not_true (before next other) first.1) (not_true (before other line) second.0))
  where
    not_true : (b : Bool) → not b ≡ true → b ≡ false
    not_true true h = cc
    not_true false h = refl

placed_stable : (other line : Line) (lines : List Line) → keep (ties before other) (placed_line line lines) ≡ keep (ties before other) (line ∷ lines)
placed_stable other line [] = refl
placed_stable other line (next ∷ rest) = by (before next line) refl (placed_stable other line rest)
  where
    -- whether each of the two is kept before the others
    kept : (a b : Bool) (others : List Line) → (a ≡ true → b ≡ true → ⊥) → cond a (next ∷ cond b (line ∷ others) others) (cond b (line ∷ others) others) ≡ cond b (line ∷ cond a (next ∷ others) others) (cond a (next ∷ others) others)
    kept true true others apart = absurd (apart refl refl)
    kept true false others apart = refl
    kept false b others apart = refl

    by : (b : Bool) → before next line ≡ b → keep (ties before other) (placed_line line rest) ≡ keep (ties before other) (line ∷ rest)
        → keep (ties before other) (cond b (next ∷ placed_line line rest) (line ∷ next ∷ rest)) ≡ keep (ties before other) (line ∷ next ∷ rest)
    by false apart same = refl
    by true less same =
        ap (λ others. cond (ties before other next) (next ∷ others) others) same
        ∙ kept (ties before other next) (ties before other line) (keep (ties before other) rest) (one_ties other next line less)

stable : (lines : List Line) → IsStableBy before lines (sorted_lines lines)
stable [] = λ other. refl
stable (line ∷ rest) = λ other.
    placed_stable other line (sorted_lines rest) ∙ ap (λ others. cond (ties before other line) (line ∷ others) others) (stable rest other)

-- ---- the status

pub computed : (store : Store) (filter : Filter) → IsStatus store filter (text_of_status store filter)
computed store filter =
    let lines = status_lines store filter in
    record { lines = sorted_lines lines; each_once = each_once lines; sorted = sorted lines; stable = stable lines; is = refl }

pub is_computed : (store : Store) (filter : Filter) (text : List ℕ) → IsStatus store filter text → text ≡ text_of_status store filter
is_computed store filter text is = one_status store filter text (text_of_status store filter) is (computed store filter)
