-- What is kept of a reader after one more read.
use Rattle.std.proofs.Common.{◌≡◌, ℕ, zero, suc, ◌-◌, Bool, true, false, List, [], ◌∷◌, ◌++◌, length, take, Option, None, Some, refl, sym, ap, ◌∙◌, subst, append-nil, arith}
use Rattle.std.proofs.KnownBytes.{Consumes-trans, Consumes-kept}
use Rattle.std.specs.Io.KnownBytes.{Consumes}
use Rattle.kb_real.specs.Pieces.{ReadsPiece}
use Rattle.kb_real.specs.Outputs.{most_kept, IsReadTo, KeepsFront}

-- the front of more is the front so far and what there is room for of the rest
front_more : (most : ℕ) (read piece : List ℕ) → take most read ++ take (most - length (take most read)) piece ≡ take most (read ++ piece)
front_more zero read piece = refl
front_more (suc most) [] piece = let room : suc most - 0 ≡ suc most = omega arith in ap (λ n. take n piece) room
front_more (suc most) (x ∷ read) piece =
    let room : suc most - length (take (suc most) (x ∷ read)) ≡ most - length (take most read) = omega arith in
    ap (λ n. take (suc most) (x ∷ read) ++ take n piece) room ∙ ap (λ rest. x ∷ rest) (front_more most read piece)

-- the reader told its end
pub told_end : (first old new : Option (List ℕ)) (kept buffer : List ℕ) (is_at_end : Bool) (given : Option ℕ) (count : ℕ) → ReadsPiece old new buffer given → given ≡ Some count → count ≡ 0
    → IsReadTo first old kept is_at_end → IsReadTo first new kept true
told_end first old new kept buffer is_at_end given count step is none so_far =
    let (within, gone, end) = subst (ReadsPiece old new buffer) is step in
    let nothing = ap (λ n. take n buffer) none in
    record {
      read = so_far.read;
      consumed = subst (Consumes first new) (append-nil so_far.read) (Consumes-trans first old new so_far.read [] so_far.consumed (subst (Consumes old new) nothing gone));
      front = so_far.front;
      end = λ _. end none;
    }

-- it gave more
pub more_kept : (first old new : Option (List ℕ)) (kept now buffer : List ℕ) (is_at_end : Bool) (given : Option ℕ) (count : ℕ) → ReadsPiece old new buffer given → given ≡ Some count → is_at_end ≡ false
    → now ≡ kept ++ take (most_kept - length kept) (take count buffer) → IsReadTo first old kept is_at_end → IsReadTo first new now is_at_end
more_kept first old new kept now buffer is_at_end given count step is before sum so_far =
    let (within, gone, end) = subst (ReadsPiece old new buffer) is step in
    let piece = take count buffer in
    record {
      read = so_far.read ++ piece;
      consumed = Consumes-trans first old new so_far.read piece so_far.consumed gone;
      front = sum ∙ ap (λ front. front ++ take (most_kept - length front) piece) so_far.front ∙ front_more most_kept so_far.read piece;
      end = λ told. cc;
    }

-- it was interrupted
pub none_kept : (first old new : Option (List ℕ)) (kept buffer : List ℕ) (is_at_end : Bool) (given : Option ℕ) → ReadsPiece old new buffer given → given ≡ None → is_at_end ≡ false
    → IsReadTo first old kept is_at_end → IsReadTo first new kept is_at_end
none_kept first old new kept buffer is_at_end given step is before so_far = record {
  read = so_far.read;
  consumed = Consumes-kept first old new so_far.read so_far.consumed (subst (ReadsPiece old new buffer) is step);
  front = so_far.front;
  end = λ told. cc;
}

-- a reader that was read to its end gave all
pub all_read : (first left : Option (List ℕ)) (kept : List ℕ) → IsReadTo first left kept true → KeepsFront first kept
all_read None left kept so_far = tt
all_read (Some bytes) None kept so_far = absurd so_far.consumed
all_read (Some bytes) (Some rest) kept so_far =
    let whole = so_far.consumed ∙ ap (λ l. so_far.read ++ l) (so_far.end refl) ∙ append-nil so_far.read in
    so_far.front ∙ ap (take most_kept) (sym whole)
