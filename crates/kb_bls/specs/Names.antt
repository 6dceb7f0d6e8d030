-- The names of entries' files and the tries that they count. Boot Loader Specification, "Boot counting"; that a number
-- has one to nine digits is this project's own.
use Rattle.std.specs.Prelude.{◌≡◌, ℕ, ◌+◌, ◌<◌, ◌==◌, Bool, true, false, ◌&&◌, nat_lt, nat_le, if◌then◌else◌, List, [], ◌∷◌, ◌++◌, length, codes}
use Rattle.std.specs.List.{list_all}
use Rattle.std.specs.Fmt.{decimal}
use Rattle.std.specs.Char.{is_ascii_digit}
use Rattle.std.specs.Str.{byte}
use Rattle.std.specs.Str.Parse.{digits_value}
use Rattle.std.proofs.Common.{◌⊎◌}
use Rattle.kb_world.specs.Names.{is_one_of}
use Rattle.kb_bls.specs.declared.name.Counter.{Counter}
use Rattle.kb_bls.specs.declared.name.Counter.TheVariants.{Good, Left}

-- one to nine digits
abbrev pub is_count : List ℕ → Bool
is_count text = nat_lt 0 (length text) && nat_le (length text) 9 && list_all is_ascii_digit text

-- they write this number
pub record WritesNumber (digits : List ℕ) (number : ℕ) : Type 0 where
  pub few : is_count digits ≡ true
  pub value : number ≡ digits_value 10 digits

-- `+LEFT`, which says that none was done
pub record IsCounted (ending : List ℕ) (left done : ℕ) : Type 0 where
  pub digits : List ℕ
  pub writes : WritesNumber digits left
  pub none_done : done ≡ 0
  pub is : ending ≡ byte "+" ∷ digits

-- `+LEFT-DONE`
pub record IsLeftDone (ending : List ℕ) (left done : ℕ) : Type 0 where
  pub digits : List ℕ
  pub more : List ℕ
  pub writes : WritesNumber digits left
  pub writes_more : WritesNumber more done
  pub is : ending ≡ byte "+" ∷ (digits ++ byte "-" ∷ more)

-- how a base goes on
abbrev pub IsEnding : List ℕ → Counter → Type 0
IsEnding ending Good = ending ≡ []
IsEnding ending (Left left done) = IsCounted ending left done ⊎ IsLeftDone ending left done

-- the characters of an entry's file name
abbrev pub has_name_bytes : List ℕ → Bool
has_name_bytes text = list_all (is_one_of (codes "+-_.")) text

-- the base can stand with this counter: where tries aren't counted it has no ending that counts them
pub record IsEntryBase (base : List ℕ) (counter : Counter) : Type 0 where
  pub some : 0 < length base
  pub plain : has_name_bytes base ≡ true
  pub whole : counter ≡ Good → (front ending : List ℕ) (left done : ℕ) → base ≡ front ++ ending → ¬ IsEnding ending (Left left done)

pub record IsEntryName (name base : List ℕ) (counter : Counter) : Type 0 where
  pub ending : List ℕ
  pub is : name ≡ base ++ (ending ++ codes ".conf")
  pub counts : IsEnding ending counter
  pub based : IsEntryBase base counter

-- the numbers that nine digits can write
abbrev pub IsCountable : Counter → Type 0
IsCountable Good = Unit {0}
IsCountable (Left left done) = (left < 1000000000) × (done < 1000000000)

-- what is written of a counter
abbrev pub counter_text : Counter → List ℕ
counter_text Good = []
counter_text (Left left done) = codes "+" ++ (decimal left ++ (if done == 0 then [] else codes "-" ++ decimal done))

abbrev pub name_of : List ℕ → Counter → List ℕ
name_of base counter = base ++ (counter_text counter ++ codes ".conf")

-- no try is left
abbrev pub is_out_of_tries : Counter → Bool
is_out_of_tries Good = false
is_out_of_tries (Left left done) = left == 0

-- one try more, where tries are counted and one is left, as long as the name can hold how many were made
abbrev pub IsTriedOnce : Counter → Counter → Type 0
IsTriedOnce (Left left done) (Left left_after done_after) = (left ≡ left_after + 1) × (done_after ≡ done + 1)
IsTriedOnce before after = ⊥

abbrev pub CanBeTried : Counter → Type 0
CanBeTried Good = ⊥
CanBeTried (Left left done) = (0 < left) × (done < 999999999)
