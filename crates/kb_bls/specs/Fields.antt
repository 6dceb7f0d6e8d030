-- What a line of a Type #1 entry says. Boot Loader Specification, "Type #1 Boot Loader Specification Entries"; that a
-- carriage return at a line's end doesn't count is this project's own.
use Rattle.std.specs.Prelude.{◌≡◌, ◌≢◌, ℕ, Bool, true, false, not, ◌||◌, List, [], ◌∷◌, ◌++◌, reverse, nat_eq}
use Rattle.std.specs.List.{list_all}
use Rattle.std.specs.Str.{byte}
use Rattle.std.proofs.Common.{◌⊎◌}

-- that a key has a value
pub record Field : Type 0 where
  pub key : List ℕ
  pub value : List ℕ

abbrev pub TAB : ℕ
TAB = 9

abbrev pub CARRIAGE_RETURN : ℕ
CARRIAGE_RETURN = 13

-- a space or a tab
abbrev pub is_entry_blank : ℕ → Bool
is_entry_blank c = nat_eq (byte " ") c || nat_eq TAB c

abbrev pub are_blanks : List ℕ → Bool
are_blanks text = list_all is_entry_blank text

abbrev pub has_no_blank : List ℕ → Bool
has_no_blank text = list_all (λ c. not (is_entry_blank c)) text

abbrev pub begins_so : (ℕ → Bool) → List ℕ → Bool
begins_so test [] = false
begins_so test (c ∷ rest) = test c

abbrev pub ends_with : (ℕ → Bool) → List ℕ → Bool
ends_with test text = begins_so test (reverse text)

-- the line without one carriage return at its end
abbrev pub IsWithoutReturn : List ℕ → List ℕ → Type 0
IsWithoutReturn line text =
    (line ≡ text ++ CARRIAGE_RETURN ∷ []) ⊎ ((line ≡ text) × (ends_with (nat_eq CARRIAGE_RETURN) line ≡ false))

-- the line without one carriage return at its end, and then without the blanks at both ends
pub record IsTrimmed (line text : List ℕ) : Type 0 where
  pub between : List ℕ
  pub before : List ℕ
  pub after : List ℕ
  pub ended : IsWithoutReturn line between
  pub is : between ≡ before ++ (text ++ after)
  pub before_blank : are_blanks before ≡ true
  pub after_blank : are_blanks after ≡ true
  pub begins : begins_so is_entry_blank text ≡ false
  pub ends : ends_with is_entry_blank text ≡ false

-- The line, trimmed, is the key, one or more blanks and the value. An empty line says nothing. A comment's first word
-- begins with `#`, so it is no key.
pub record Says (line : List ℕ) (field : Field) : Type 0 where
  pub text : List ℕ
  pub blank : ℕ
  pub more : List ℕ
  pub trimmed : IsTrimmed line text
  pub is : text ≡ field.key ++ blank ∷ (more ++ field.value)
  pub key : has_no_blank field.key ≡ true
  pub first_blank : is_entry_blank blank ≡ true
  pub more_blank : are_blanks more ≡ true
  pub value : begins_so is_entry_blank field.value ≡ false
  pub some : field.value ≢ []

abbrev pub SaysNothing : List ℕ → Type 0
SaysNothing line = (field : Field) → ¬ Says line field

-- what the lines say, in their order: each line a field or nothing
abbrev pub Say : List (List ℕ) → List Field → Type 0
Say [] said = said ≡ []
Say (line ∷ lines) said =
    (SaysNothing line × Say lines said)
    ⊎ ((field : Field) × (rest : List Field) × Says line field × Say lines rest × (said ≡ field ∷ rest))
