-- What was read of a reader and written of a piece, after one more call.
use Rattle.std.proofs.Common.{◌≡◌, ℕ, ◌+◌, ◌-◌, ◌^◌, min, List, ◌++◌, length, take, drop, sym, ap, ◌∙◌, subst, Option, Some, None, Result, Ok, Err, OnErr, arith, length-append, length-take, append_assoc, take-append-drop}
use Rattle.std.proofs.Math.Seq.{take-append_seam}
use Rattle.std.proofs.lemmas.List.{take_rest}
use Rattle.std.proofs.KnownBytes.{Appends-trans, Consumes-trans, Consumes-kept}
use Rattle.std.specs.Io.Iter.{u64_saturate}
use Rattle.std.specs.Io.KnownBytes.{Appends, Consumes, WriteAppends}
use Rattle.kb_real.specs.Pieces.{ReadsPiece}

-- what one more read gave is counted too
pub more_counted : (old mid new : Option (List ℕ)) (read buffer : List ℕ) (given : Option ℕ) (len count total : ℕ) → len ≡ u64_saturate (length read) → Consumes old mid read
    → ReadsPiece mid new buffer given → given ≡ Some count → total ≡ min (len + count) (2 ^ 64 - 1)
    → (all : List ℕ) × (total ≡ u64_saturate (length all)) × Consumes old new all
more_counted old mid new read buffer given len count total counted consumed step is sum =
    let (within, gone, end) = subst (ReadsPiece mid new buffer) is step in
    (read ++ take count buffer, omega (arith, length-append read (take count buffer), length-take count buffer, within, counted, sum), Consumes-trans _ _ _ _ _ consumed gone)

-- what one more read gave is behind what was read before
pub more_read : (old mid new : Option (List ℕ)) (read buffer all : List ℕ) (given : Option ℕ) (count : ℕ) → Consumes old mid read
    → ReadsPiece mid new buffer given → given ≡ Some count → all ≡ read ++ take count buffer → Consumes old new all
more_read old mid new read buffer all given count consumed step is sum =
    let (within, gone, end) = subst (ReadsPiece mid new buffer) is step in subst (Consumes old new) (sym sum) (Consumes-trans _ _ _ _ _ consumed gone)

-- a read that was interrupted gave nothing
pub none_read : (old mid new : Option (List ℕ)) (read buffer : List ℕ) (given : Option ℕ) → Consumes old mid read → ReadsPiece mid new buffer given → given ≡ None
    → Consumes old new read
none_read old mid new read buffer given consumed step is = Consumes-kept old mid new read consumed (subst (ReadsPiece mid new buffer) is step)

-- what was written of a piece is a front of it
pub front_written : (whole done rest : List ℕ) (old new : Option (List ℕ)) → whole ≡ done ++ rest → Appends old new done
    → (n : ℕ) × Appends old new (take n whole)
front_written whole done rest old new split written =
    (length done, subst (Appends old new) (sym (ap (take (length done)) split ∙ take-append_seam done rest)) written)

-- what one more write took is behind what was written before
pub more_split : (whole done rest left : List ℕ) (n : ℕ) → whole ≡ done ++ rest → left ≡ take (length rest - n) (drop n rest)
    → whole ≡ (done ++ take n rest) ++ left
more_split whole done rest left n split is =
    split ∙ ap (λ l. done ++ l) (sym (take-append-drop n rest)) ∙ sym (append_assoc done (take n rest) (drop n rest))
    ∙ ap (λ l. (done ++ take n rest) ++ l) (sym (is ∙ take_rest rest n))

pub more_written : {E : Type 0} (old mid new : Option (List ℕ)) (done rest : List ℕ) (result : Result ℕ E) (n : ℕ) → Appends old mid done
    → WriteAppends mid new result rest → result ≡ Ok n → Appends old new (done ++ take n rest)
more_written old mid new done rest result n written step is =
    Appends-trans _ _ _ _ _ written (subst (λ r. WriteAppends mid new r rest) is step)

pub on_err : {T E : Type 0} (result : Result T E) (P : Type 0) → P → OnErr result P
on_err (Ok value) P holds = tt
on_err (Err error) P holds = holds
