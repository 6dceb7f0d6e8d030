-- Moments that were added one after another.
use Rattle.std.proofs.Common.{◌≡◌, ◌⊎◌, List, [], ◌∷◌, ◌++◌, length, drop, sym, ap, ◌∙◌, inl, inr, append_assoc}
use Rattle.std.proofs.lemmas.List.{append-nil}
use Rattle.std.proofs.Math.Seq.{drop-append_seam}
use Rattle.kb_world.specs.Tree.{Tree}
use Rattle.kb_world.specs.Crash.{Moment, History, IsImageOfOne, moments_since, Adds, Turns}

pub image-append : (xs ys : List Moment) (image : Tree) → IsImageOfOne (xs ++ ys) image → IsImageOfOne xs image ⊎ IsImageOfOne ys image
image-append [] ys image left = inr left
image-append (x ∷ xs) ys image (inl here) = inl (inl here)
image-append (x ∷ xs) ys image (inr later) = elim (image-append xs ys image later) [ inl front ↦ inl (inr front) | inr behind ↦ inr behind ]

-- what was added is what came since
pub moments_since-added : (old new : History) (moments : List Moment) → new.past ≡ old.past ++ moments → moments_since old new ≡ moments
moments_since-added old new moments added = ap (drop (length old.past)) added ∙ drop-append_seam old.past moments

pub adds_then : (Has : Tree → Type 0) (old mid new : History) → Adds Has old mid → Adds Has mid new → Adds Has old new
adds_then Has old mid new a b = record {
  moments = a.moments ++ b.moments;
  added = b.added ∙ ap (λ past. past ++ b.moments) a.added ∙ append_assoc old.past a.moments b.moments;
  only = λ image left. elim (image-append a.moments b.moments image left) [ inl front ↦ a.only image front | inr behind ↦ b.only image behind ];
}

pub adds_wider : (One Other : Tree → Type 0) (old new : History) → ((image : Tree) → One image → Other image) → Adds One old new → Adds Other old new
adds_wider One Other old new wider a = record { moments = a.moments; added = a.added; only = λ image left. wider image (a.only image left) }

pub adds_none : (Has : Tree → Type 0) (old new : History) → new.past ≡ old.past → Adds Has old new
adds_none Has old new same = record { moments = []; added = same ∙ sym (append-nil old.past); only = λ image left. absurd left }

pub turns_adds : (Early Late : Tree → Type 0) (old new : History) → Turns Early Late old new → Adds (λ image. Early image ⊎ Late image) old new
turns_adds Early Late old new t = record {
  moments = t.early ++ t.late;
  added = t.added;
  only = λ image left. elim (image-append t.early t.late image left) [ inl early ↦ inl (t.early_only image early) | inr late ↦ inr (t.late_only image late) ];
}

pub turns_wider : (Early Late One Other : Tree → Type 0) (old new : History) → ((image : Tree) → Early image → One image) → ((image : Tree) → Late image → Other image) → Turns Early Late old new → Turns One Other old new
turns_wider Early Late One Other old new one other t = record {
  early = t.early;
  late = t.late;
  added = t.added;
  early_only = λ image left. one image (t.early_only image left);
  late_only = λ image left. other image (t.late_only image left);
}

-- more of the first kind before
pub adds_turns : (Early Late : Tree → Type 0) (old mid new : History) → Adds Early old mid → Turns Early Late mid new → Turns Early Late old new
adds_turns Early Late old mid new a t = record {
  early = a.moments ++ t.early;
  late = t.late;
  added = t.added ∙ ap (λ past. past ++ (t.early ++ t.late)) a.added ∙ append_assoc old.past a.moments (t.early ++ t.late) ∙ ap (λ l. old.past ++ l) (sym (append_assoc a.moments t.early t.late));
  early_only = λ image left. elim (image-append a.moments t.early image left) [ inl front ↦ a.only image front | inr behind ↦ t.early_only image behind ];
  late_only = t.late_only;
}

-- and more of the second kind behind
pub turns_adds_more : (Early Late : Tree → Type 0) (old mid new : History) → Turns Early Late old mid → Adds Late mid new → Turns Early Late old new
turns_adds_more Early Late old mid new t a = record {
  early = t.early;
  late = t.late ++ a.moments;
  added = a.added ∙ ap (λ past. past ++ a.moments) t.added ∙ append_assoc old.past (t.early ++ t.late) a.moments ∙ ap (λ l. old.past ++ l) (append_assoc t.early t.late a.moments);
  early_only = t.early_only;
  late_only = λ image left. elim (image-append t.late a.moments image left) [ inl front ↦ t.late_only image front | inr behind ↦ a.only image behind ];
}

pub turns_none : (Early Late : Tree → Type 0) (old new : History) → new.past ≡ old.past → Turns Early Late old new
turns_none Early Late old new same = record { early = []; late = []; added = same ∙ sym (append-nil old.past); early_only = λ image left. absurd left; late_only = λ image left. absurd left }
