-- Texts, numbers and paths that were spelled are read back.
use Rattle.std.proofs.Common.{◌≡◌, ℕ, zero, suc, ◌+◌, ◌/◌, ◌%◌, ◌<◌, Bool, true, false, cond, ltb, List, [], ◌∷◌, ◌++◌, length, Ok, Err, codes, arith, ◌⊎◌, inl, inr, refl, sym, ap, ◌∙◌, subst}
use Rattle.std.specs.Prelude.{bytes_eq}
use Rattle.std.specs.Cmp.Lexicographic.{bytes_decides}
use Rattle.std.specs.Str.{IsUtf8}
use Rattle.std.proofs.lemmas.Bool.{and_parts}
use Rattle.std.proofs.lemmas.Bool.Decides.{Decides-ltb}
use lib.Utf8.{encode, encodes, scalar, scalars, scalar_cases}
use Rattle.hex.specs.Hex.{IsBytes, decode_of, encode_lower, lower_digits}
use Rattle.hex.specs.declared.error.FromHexError.{FromHexError}
use Rattle.hex.specs.declared.error.FromHexError.TheVariants.{OutOfMemory}
use Rattle.hex.proofs.HexLemmas.{decode_of-encode_lower, length-encode_with}
use Rattle.kb_changes.specs.Text.{text_field}

-- ---- the bytes of a text are bytes

bytes_none : IsBytes []
bytes_none i = omega arith

bytes_cons : (b : ℕ) (bs : List ℕ) → b < 256 → IsBytes bs → IsBytes (b ∷ bs)
bytes_cons b bs small rest zero = small
bytes_cons b bs small rest (suc i) = rest i

bytes_append : (xs ys : List ℕ) → IsBytes xs → IsBytes ys → IsBytes (xs ++ ys)
bytes_append [] ys p q = q
bytes_append (x ∷ xs) ys p q = bytes_cons x (xs ++ ys) (p 0) (bytes_append xs ys (λ i. p (suc i)) q)

below_last : (c : ℕ) → scalar c ≡ true → c < 1114112
below_last c ok = elim (scalar_cases c ok) [ inl low ↦ omega arith | inr high ↦ high.1 ]

-- the one to four bytes of a character
bytes_two : (a b : ℕ) → a < 256 → b < 256 → IsBytes (a ∷ b ∷ [])
bytes_two a b p q = bytes_cons a (b ∷ []) p (bytes_cons b [] q bytes_none)

encode_by : (c : ℕ) (a b d : Bool) → ltb c 128 ≡ a → ltb c 2048 ≡ b → ltb c 65536 ≡ d → c < 1114112
    → IsBytes (cond a (c ∷ []) (cond b ((192 + c / 64) ∷ (128 + c % 64) ∷ [])
    (cond d ((224 + c / 4096) ∷ (128 + c / 64 % 64) ∷ (128 + c % 64) ∷ []) ((240 + c / 262144) ∷ (128 + c / 4096 % 64) ∷ (128 + c / 64 % 64) ∷ (128 + c % 64) ∷ []))))
encode_by c true b d p q r last =
    let small : c < 128 = (Decides-ltb c 128).0 p in
    bytes_cons c [] (omega arith) bytes_none
encode_by c false true d p q r last =
    let small : c < 2048 = (Decides-ltb c 2048).0 q in
    bytes_two (192 + c / 64) (128 + c % 64) (omega arith) (omega arith)
encode_by c false false true p q r last =
    let small : c < 65536 = (Decides-ltb c 65536).0 r in
    bytes_cons (224 + c / 4096) ((128 + c / 64 % 64) ∷ (128 + c % 64) ∷ []) (omega arith) (bytes_two (128 + c / 64 % 64) (128 + c % 64) (omega arith) (omega arith))
encode_by c false false false p q r last =
    bytes_cons (240 + c / 262144) ((128 + c / 4096 % 64) ∷ (128 + c / 64 % 64) ∷ (128 + c % 64) ∷ []) (omega arith)
    (bytes_cons (128 + c / 4096 % 64) ((128 + c / 64 % 64) ∷ (128 + c % 64) ∷ []) (omega arith) (bytes_two (128 + c / 64 % 64) (128 + c % 64) (omega arith) (omega arith)))

encode_bytes : (c : ℕ) → scalar c ≡ true → IsBytes (encode c)
unfolding encode
encode_bytes c ok = encode_by c (ltb c 128) (ltb c 2048) (ltb c 65536) refl refl refl (below_last c ok)

encodes_bytes : (cs : List ℕ) → scalars cs ≡ true → IsBytes (encodes cs)
encodes_bytes [] ok = bytes_none
encodes_bytes (c ∷ cs) ok =
    let parts = and_parts (scalar c) (scalars cs) ok in
    bytes_append (encode c) (encodes cs) (encode_bytes c parts.0) (encodes_bytes cs parts.1)

pub utf8_bytes : (text : List ℕ) → IsUtf8 text → IsBytes text
utf8_bytes text utf8 = subst IsBytes utf8.1.1 (encodes_bytes utf8.0 utf8.1.0)

-- ---- texts

-- whether the field is a dash
pub tested : (field dash : List ℕ) (test is : Bool) → dash ≡ codes "-" → test ≡ bytes_eq field dash → test ≡ is → bytes_eq field (codes "-") ≡ is
tested field dash test is dash_is told told_is = ap (bytes_eq field) (sym dash_is) ∙ sym told ∙ told_is

-- a dash is the empty text alone
pub dash_is_none : (text field : List ℕ) → field ≡ text_field text → bytes_eq field (codes "-") ≡ true → [] ≡ text
dash_is_none [] field is dash = refl
dash_is_none (c ∷ rest) field is dash =
    let same : encode_lower (c ∷ rest) ≡ codes "-" = sym is ∙ (bytes_decides field (codes "-")).0 dash in
    absurd (omega (arith, sym (length-encode_with lower_digits (c ∷ rest)) ∙ ap length same))

-- any other field of a text is decoded to it
pub decoded : (text field : List ℕ) → IsUtf8 text → field ≡ text_field text → bytes_eq field (codes "-") ≡ false → decode_of field ≡ Ok text
decoded [] field utf8 is other = let dash : bytes_eq field (codes "-") ≡ true = (bytes_decides field (codes "-")).1 is in cc
decoded (c ∷ rest) field utf8 is other = ap decode_of is ∙ decode_of-encode_lower (c ∷ rest) (utf8_bytes (c ∷ rest) utf8)

-- it isn't refused
pub refused : (text field : List ℕ) (error : FromHexError) → IsUtf8 text → field ≡ text_field text → bytes_eq field (codes "-") ≡ false
    → (error ≡ OutOfMemory) ⊎ (decode_of field ≡ Err error) → (error ≡ OutOfMemory → ⊥) → ⊥
refused text field error utf8 is other told memory = elim told as (λ _. ⊥) [
  | inl none ↦ memory none
  | inr err ↦ let ok = decoded text field utf8 is other in cc
]
