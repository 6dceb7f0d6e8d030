-- The order of versions, after the UAPI version format specification. That equal items are then ordered by bytes is this project's own: only equal texts are equal.
use Rattle.std.specs.Prelude.{ℕ, List}
use Rattle.std.specs.declared.cmp.Ordering.{Ordering}
use Rattle.std.specs.Ordering.{nat_cmp, ordering_then}
use Rattle.std.specs.Cmp.Lexicographic.{slice_cmp}
use Rattle.kb_version.specs.Items.{Item, Tilde, End, Dash, Caret, Dot, Letters, Number, items}

-- the kinds of items from the least to the greatest
abbrev pub rank : Item → ℕ
rank Tilde = 0
rank End = 1
rank Dash = 2
rank Caret = 3
rank Dot = 4
rank (Letters bytes) = 5
rank (Number n) = 6

-- letters go by bytes, so that a proper prefix is less; digits as numbers; different kinds by rank
abbrev pub item_order : Item → Item → Ordering
item_order (Letters v) (Letters w) = slice_cmp nat_cmp v w
item_order (Number m) (Number n) = nat_cmp m n
item_order x y = nat_cmp (rank x) (rank y)

-- the first items that differ decide
abbrev pub items_order : List ℕ → List ℕ → Ordering
items_order a b = slice_cmp item_order (items a) (items b)

-- item by item, and then by bytes
abbrev pub version_order : List ℕ → List ℕ → Ordering
version_order a b = ordering_then (items_order a b) (slice_cmp nat_cmp a b)
