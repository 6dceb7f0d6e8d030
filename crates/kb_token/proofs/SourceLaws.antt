-- What stands at a source.
use Rattle.std.proofs.Common.{◌≡◌, ℕ, ◌≤◌, Bool, true, false, cond, List, length, Some, refl, ap, ◌∙◌, arith, nat_le}
use Rattle.std.specs.Str.{IsUtf8, is_utf8}
use Rattle.std.proofs.lemmas.Str.{is_utf8-from_IsUtf8, IsUtf8-from_is_utf8}
use Rattle.std.proofs.lemmas.Bool.Decides.{nat_tests}
use Rattle.kb_token.specs.Sources.{content_of}
use Rattle.kb_token.specs.declared.sources.Content.TheVariants.{NotText, Text, TooLarge}

pub fits_is : (n : ℕ) → n ≤ 65536 → nat_le n 65536 ≡ true
fits_is n le = grind (arith, nat_tests)

within : (bytes : List ℕ) (b : Bool) → is_utf8 bytes ≡ b → length bytes ≤ 65536 → content_of (Some bytes) ≡ cond b (Text bytes) NotText
within bytes b is le =
    ap (λ t. cond t (cond (is_utf8 bytes) (Text bytes) NotText) TooLarge) (fits_is (length bytes) le) ∙ ap (λ t. cond t (Text bytes) NotText) is

pub content_text : (bytes : List ℕ) → length bytes ≤ 65536 → IsUtf8 bytes → content_of (Some bytes) ≡ Text bytes
content_text bytes le u = within bytes true (is_utf8-from_IsUtf8 bytes u) le

pub content_not_text : (bytes : List ℕ) → length bytes ≤ 65536 → (IsUtf8 bytes → ⊥) → content_of (Some bytes) ≡ NotText
content_not_text bytes le bad = by_cases (is_utf8 bytes) refl
  where
    by_cases : (b : Bool) → is_utf8 bytes ≡ b → content_of (Some bytes) ≡ NotText
    by_cases true is = absurd (bad (IsUtf8-from_is_utf8 bytes is))
    by_cases false is = within bytes false is le
