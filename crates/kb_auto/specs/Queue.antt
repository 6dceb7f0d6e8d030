-- What stands in the tables while modules are put in order.
use Rattle.std.specs.Prelude.{◌≡◌, ◌<◌, ◌+◌, ◌&&◌, not, Bool, true, ℕ, List, [], length, slice_index, slice_index_or, Some, map, if◌then◌else◌, nat_lt, ◌==◌}
use Rattle.std.specs.List.{count_by}
use Rattle.std.specs.Ordering.{ordering_then, bool_cmp, nat_cmp}
use Rattle.std.specs.Cmp.Lexicographic.{slice_cmp}
use Rattle.std.specs.Str.{bytes_eq}
use Rattle.std.specs.BTreeMap.{BTreeMap, get}
use Rattle.std.specs.BTreeSet.{BTreeSet, contains}
use Rattle.std.specs.Global.{Vec}
use Rattle.std.specs.declared.cmp.Ordering.{Ordering}
use Rattle.kb_auto.specs.declared.Listed.{Listed}
use Rattle.kb_auto.specs.declared.turns.Turn.{Turn}

abbrev pub module_at : List Listed → ℕ → Listed
module_at list k = slice_index_or list k (record { name = []; depends = [] })

-- the order of turns, as they are derived
abbrev pub turn_cmp : Turn → Turn → Ordering
turn_cmp a b = ordering_then (bool_cmp a.cyclic b.cyclic) (ordering_then (slice_cmp nat_cmp a.name b.name) (nat_cmp a.place b.place))

abbrev pub turn_at : List Listed → List ℕ → ℕ → Turn
turn_at list waits k = record { cyclic = nat_lt 0 (slice_index waits k); name = (module_at list k).name; place = k }

-- the queue has the turns of the modules that are left, and no others
pub record Queues (list : List Listed) (waits : List ℕ) (among : ℕ → Bool) (queue : BTreeSet Turn) : Type 0 where
  pub within : (t : Turn) → contains turn_cmp queue t ≡ true → t.place < length list
  pub left : (t : Turn) → contains turn_cmp queue t ≡ true → among t.place ≡ true
  pub turns : (t : Turn) → contains turn_cmp queue t ≡ true → t ≡ turn_at list waits t.place
  pub all : (k : ℕ) → k < length list → among k ≡ true → contains turn_cmp queue (turn_at list waits k) ≡ true

-- how often a number stands in a row
abbrev pub occurs : ℕ → List ℕ → ℕ
occurs k row = count_by (λ n. n == k) row

-- the first modules of the list stand in the map at their places
pub record ArePlaces (list : List Listed) (n : ℕ) (places : BTreeMap (List ℕ) ℕ) : Type 0 where
  pub within : (name : List ℕ) (k : ℕ) → get (slice_cmp nat_cmp) places name ≡ Some k → k < n
  pub named : (name : List ℕ) (k : ℕ) → get (slice_cmp nat_cmp) places name ≡ Some k → (module_at list k).name ≡ name
  pub all : (k : ℕ) → k < n → get (slice_cmp nat_cmp) places (module_at list k).name ≡ Some k

abbrev pub row_at : Vec (Vec ℕ) → ℕ → List ℕ
row_at rows k = slice_index_or (map (λ row. row.items) rows.items) k []

-- whether this dependency of a module is the other one
abbrev pub is_link : Listed → Listed → List ℕ → Bool
is_link other m name = not (bytes_eq name m.name) && bytes_eq name other.name

-- how often the module at one place waits for the one at the other
abbrev pub links : List Listed → ℕ → ℕ → ℕ
links list at k = count_by (is_link (module_at list at) (module_at list k)) (module_at list k).depends

-- the rows tell the first modules of the list
abbrev pub AreLinked : List Listed → ℕ → Vec (Vec ℕ) → Type 0
AreLinked list n rows = (at k : ℕ) → at < length list → occurs k (row_at rows at) ≡ (if nat_lt k n then links list at k else 0)

-- the rows tell these dependencies of one module more
abbrev pub LinksSome : List Listed → ℕ → Listed → List (List ℕ) → Vec (Vec ℕ) → Vec (Vec ℕ) → Type 0
LinksSome list place m names before after = (at k : ℕ) → at < length list → occurs k (row_at after at) ≡ occurs k (row_at before at) + (if k == place then count_by (is_link (module_at list at) m) names else 0)

-- the rows tell one module more
abbrev pub LinksMore : List Listed → ℕ → Vec (Vec ℕ) → Vec (Vec ℕ) → Type 0
LinksMore list place before after = LinksSome list place (module_at list place) (module_at list place).depends before after
