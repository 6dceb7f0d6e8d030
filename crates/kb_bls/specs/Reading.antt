-- The base and the counter that a name has, computed. A law ties it to `IsEntryName`.
use Rattle.std.specs.Prelude.{ℕ, ◌-◌, if◌then◌else◌, List, [], ◌∷◌, length, take, drop, nat_eq, nat_lt, Option, Some, None, option_map, option_and_then, unwrap_or, codes, bytes_eq}
use Rattle.std.specs.Str.{byte}
use Rattle.std.specs.Str.Parse.{digits_value}
use Rattle.kb_bls.specs.declared.name.Counter.{Counter}
use Rattle.kb_bls.specs.declared.name.Counter.TheVariants.{Good, Left}
use Rattle.kb_bls.specs.Names.{is_count, has_name_bytes}

-- two parts of a text, in its order
abbrev pub Cut : Type 0
Cut = List ℕ × List ℕ

abbrev pub with_front : ℕ → Cut → Cut
with_front x cut = (x ∷ cut.0, cut.1)

-- what stands before and after the first such byte
abbrev pub cut_first : ℕ → List ℕ → Option Cut
cut_first c [] = None
cut_first c (x ∷ rest) = if nat_eq x c then Some ([], rest) else option_map (with_front x) (cut_first c rest)

-- what a cut of the rest, or this byte, gives
abbrev pub cut_here : ℕ → ℕ → List ℕ → Option Cut → Option Cut
cut_here c x rest (Some cut) = Some (with_front x cut)
cut_here c x rest None = if nat_eq x c then Some ([], rest) else None

-- what stands before and after the last such byte
abbrev pub cut_last : ℕ → List ℕ → Option Cut
cut_last c [] = None
cut_last c (x ∷ rest) = cut_here c x rest (cut_last c rest)

-- the number that one to nine digits write
abbrev pub count_in : List ℕ → Option ℕ
count_in text = if is_count text then Some (digits_value 10 text) else None

abbrev pub left_with : Option ℕ → Option ℕ → Option Counter
left_with (Some left) (Some done) = Some (Left left done)
left_with _ _ = None

-- LEFT or LEFT-DONE
abbrev pub counter_of_parts : List ℕ → Option Cut → Option Counter
counter_of_parts text None = left_with (count_in text) (Some 0)
counter_of_parts text (Some parts) = left_with (count_in parts.0) (count_in parts.1)

abbrev pub counter_in : List ℕ → Option Counter
counter_in text = counter_of_parts text (cut_first (byte "-") text)

-- a base with its counter
abbrev pub Reading : Type 0
Reading = List ℕ × Counter

-- where the stem of a name ends in a counter
abbrev pub counted_at : Cut → Option Reading
counted_at cut = option_map (λ counter. (cut.0, counter)) (counter_in cut.1)

abbrev pub counted : List ℕ → Option Reading
counted stem = option_and_then counted_at (cut_last (byte "+") stem)

-- a base that isn't empty
abbrev pub if_based : Reading → Option Reading
if_based reading = if nat_lt 0 (length reading.0) then Some reading else None

abbrev pub stem_reading : List ℕ → Option Reading
stem_reading stem = if has_name_bytes stem then if_based (unwrap_or (counted stem) (stem, Good)) else None

abbrev pub name_reading : List ℕ → Option Reading
name_reading name = if bytes_eq (drop (length name - 5) name) (codes ".conf") then stem_reading (take (length name - 5) name) else None
