-- What writes to the two sinks come to.
use Rattle.std.proofs.Common.{◌≡◌, ℕ, List, [], length, Option, Some, None, refl, sym, ap, ◌∙◌, subst, inl, inr}
use Rattle.std.specs.Prelude.{Result, Ok, Err}
use Rattle.std.proofs.Math.Seq.{take-length}
use Rattle.std.proofs.lemmas.List.{append-nil}
use Rattle.kb_world.specs.SinkState.{SinkState, Writes, grown}
use Rattle.kb_world.specs.declared.job.Report.{Report}
use Rattle.kb_world.specs.declared.sink.SinkError.{SinkError}
use Rattle.kb_world.specs.declared.sink.SinkError.TheVariants.{Failed, NoMemory}
use Rattle.kb_top.specs.Run.{WroteFront, Wrote, WroteNothing}
use Rattle.kb_top.specs.Tell.{Delivers, SaysFront}

pub grown-nothing : (written : Option (List ℕ)) → grown [] written ≡ written
grown-nothing None = refl
grown-nothing (Some w) = ap Some (append-nil w)

-- nothing is a front, and so is the whole
pub nothing_is_front : (text : List ℕ) (old new : SinkState) → WroteNothing old new → WroteFront text old new
nothing_is_front text old new same = (0, same ∙ sym (grown-nothing old.written))

pub whole_is_front : (text : List ℕ) (old new : SinkState) → Wrote text old new → WroteFront text old new
whole_is_front text old new whole = (length text, whole ∙ ap (λ t. grown t old.written) (sym (take-length text)))

pub says_front : (line : List ℕ) (old new : SinkState) (result : Result (Unit {0}) SinkError) → Writes line old new result → SaysFront line old new
says_front line old new (Ok u) w = record { front = whole_is_front line old new w.done; later = w.later; steady = w.steady }
says_front line old new (Err Failed) w = record { front = w.failed refl; later = w.later; steady = w.steady }
says_front line old new (Err NoMemory) w = record { front = nothing_is_front line old new (w.no_memory refl); later = w.later; steady = w.steady }

-- the first text was written, and then the second call ended so
pub delivers_second : (report : Report) (old_out new_out old_err new_err : SinkState) (result : Result (Unit {0}) SinkError)
    → Writes report.out {T = Unit {0}} old_out new_out (Ok tt) → Writes report.err old_err new_err result
    → Delivers report (record { out = old_out; err = old_err }) (record { out = new_out; err = new_err }) result
delivers_second report old_out new_out old_err new_err (Ok u) a b = record {
  texts = record { out = a.done; err = b.done };
  go_on = record { out_later = a.later; err_later = b.later; out_steady = a.steady; err_steady = b.steady };
}
delivers_second report old_out new_out old_err new_err (Err Failed) a b = record {
  texts = record {
    out = whole_is_front report.out old_out new_out a.done;
    err = b.failed refl;
    in_order = inl a.done;
    failed = record { rose = inr (b.rose refl); unsteady = λ out_is err_is. b.never err_is refl };
  };
  go_on = record { out_later = a.later; err_later = b.later; out_steady = a.steady; err_steady = b.steady };
}
delivers_second report old_out new_out old_err new_err (Err NoMemory) a b = record {
  texts = record { out = inr a.done; err = b.no_memory refl };
  go_on = record { out_later = a.later; err_later = b.later; out_steady = a.steady; err_steady = b.steady };
}

-- the same, where what was handed over is known to be the text
pub says_front_of : (line piece : List ℕ) (old new : SinkState) (result : Result (Unit {0}) SinkError) → piece ≡ line → Writes piece old new result → SaysFront line old new
says_front_of line piece old new result same w = says_front line old new result (subst (λ p. Writes p old new result) same w)

pub delivers : (report : Report) (out_piece err_piece : List ℕ) (old_out new_out old_err new_err : SinkState) (result : Result (Unit {0}) SinkError)
    → out_piece ≡ report.out → err_piece ≡ report.err → Writes out_piece {T = Unit {0}} old_out new_out (Ok tt) → Writes err_piece old_err new_err result
    → Delivers report (record { out = old_out; err = old_err }) (record { out = new_out; err = new_err }) result
delivers report out_piece err_piece old_out new_out old_err new_err result same_out same_err a b =
    delivers_second report old_out new_out old_err new_err result (subst (λ p. Writes p {T = Unit {0}} old_out new_out (Ok tt)) same_out a) (subst (λ p. Writes p old_err new_err result) same_err b)
