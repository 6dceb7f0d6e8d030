-- Planned failures of calls. This project's own.
use Rattle.std.specs.Prelude.{ℕ, ◌+◌, ◌-◌, ◌^◌, ◌==◌, min, Bool, List, map, if◌then◌else◌}
use Rattle.std.specs.List.{list_any, list_all}

-- The numbers of the calls that are to fail, counted from 1 from the next call on. A 0 is a call that is over.
abbrev pub Plan : Type 0
Plan = List ℕ

-- the next call is to fail
abbrev pub is_due : Plan → Bool
is_due plan = list_any (λ number. number == 1) plan

-- no call that is still to come is to fail
abbrev pub is_over : Plan → Bool
is_over plan = list_all (λ number. number == 0) plan

-- the plan as it counts once the next call is over
abbrev pub after_call : Plan → Plan
after_call plan = map (λ number. number - 1) plan

-- the count of faults after a call; it stays at its end
abbrev pub risen : Bool → ℕ → ℕ
risen failed faults = if failed then min (faults + 1) (2 ^ 64 - 1) else faults
