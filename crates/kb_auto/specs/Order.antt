-- The order in which modules are built and installed. This project's own, after the dependencies of dkms(8)'s BUILD_DEPENDS.
use Rattle.std.specs.Prelude.{◌≡◌, ◌≢◌, ◌<◌, ◌&&◌, not, Bool, ℕ, zero, suc, List, [], ◌∷◌, ◌++◌, length, slice_index_or, Option, Some, None, if◌then◌else◌, nat_lt}
use Rattle.std.specs.List.{list_any, count_by}
use Rattle.std.specs.Ordering.{ordering_then, bool_cmp, nat_cmp, is_gt}
use Rattle.std.specs.Cmp.Lexicographic.{slice_cmp}
use Rattle.std.specs.Str.{bytes_eq}
use Rattle.std.specs.declared.cmp.Ordering.{Ordering}
use Rattle.kb_auto.specs.declared.Listed.{Listed}
use Rattle.kb_auto.specs.declared.Placed.{Placed}

-- whether a module of the list has this name
abbrev pub is_module_listed : List Listed → List ℕ → Bool
is_module_listed list name = list_any (λ m. bytes_eq name m.name) list

-- whether a module of this name is placed
abbrev pub is_placed : List Placed → List ℕ → Bool
is_placed done name = list_any (λ p. bytes_eq name p.name) done

-- whether a module waits for this dependency: it is another one, of the list, and not yet placed
abbrev pub is_open : List Listed → List Placed → Listed → List ℕ → Bool
is_open list done m name = not (bytes_eq name m.name) && (is_module_listed list name && not (is_placed done name))

-- how many of its dependencies a module waits for
abbrev pub waits_for : List Listed → List Placed → Listed → ℕ
waits_for list done m = count_by (is_open list done m) m.depends

-- a module as it would be placed now: cyclic if it waits
abbrev pub turn_of : List Listed → List Placed → Listed → Placed
turn_of list done m = record { name = m.name; cyclic = nat_lt 0 (waits_for list done m) }

-- those that don't wait come first, and then the names decide, by bytes
abbrev pub place_order : Placed → Placed → Ordering
place_order a b = ordering_then (bool_cmp a.cyclic b.cyclic) (slice_cmp nat_cmp a.name b.name)

abbrev pub sooner : Placed → Option Placed → Placed
sooner a None = a
sooner a (Some b) = if is_gt (place_order a b) then b else a

-- the least of these modules that aren't placed
abbrev pub next_among : List Listed → List Placed → List Listed → Option Placed
next_among list done [] = None
next_among list done (m ∷ ms) = if is_placed done m.name then next_among list done ms else Some (sooner (turn_of list done m) (next_among list done ms))

abbrev pub with_next : List Placed → (Placed → List Placed) → Option Placed → List Placed
with_next done go None = done
with_next done go (Some p) = go p

-- what is placed behind `done` in so many steps
abbrev pub placed : ℕ → List Listed → List Placed → List Placed
placed zero list done = done
placed (suc n) list done = with_next done (λ p. placed n list (done ++ p ∷ [])) (next_among list done list)

-- the modules of the list in their order
abbrev pub modules_in_order : List Listed → List Placed
modules_in_order list = placed (length list) list []

-- no two modules have one name
abbrev pub NamesDiffer : List Listed → Type 0
NamesDiffer list = (i j : ℕ) (d : Listed) → i < length list → j < length list → (slice_index_or list i d).name ≡ (slice_index_or list j d).name → i ≡ j

-- the first place whose name stands at an earlier one too
pub record IsFirstDoubled (list : List Listed) (k : ℕ) : Type 0 where
  pub within : k < length list
  pub at : ℕ
  pub before : at < k
  pub same : (slice_index_or list at (record { name = []; depends = [] })).name ≡ (slice_index_or list k (record { name = []; depends = [] })).name
  pub first : (i j : ℕ) → i < j → j < k → (slice_index_or list i (record { name = []; depends = [] })).name ≢ (slice_index_or list j (record { name = []; depends = [] })).name
