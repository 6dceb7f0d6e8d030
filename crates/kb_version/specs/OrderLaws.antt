-- The order of versions is a total order that tells different texts apart.
use Rattle.std.specs.Prelude.{◌≡◌, ℕ, List, [], refl}
use Rattle.std.proofs.Common.{sym, subst}
use Rattle.std.specs.declared.cmp.Ordering.{Ordering}
use Rattle.std.specs.declared.cmp.Ordering.TheVariants.{Less, Equal, Greater}
use Rattle.std.specs.Ordering.{nat_cmp, ordering_then, then_cmp, on}
use Rattle.std.specs.Cmp.{IsTotalOrder}
use Rattle.std.specs.Cmp.Lexicographic.{slice_cmp}
use Rattle.std.proofs.lemmas.Cmp.{nat_cmp_total, nat_list_cmp_total, lists_total, on_total, then_total}
use Rattle.std.proofs.lemmas.Map.Lookups.{CmpEqualImpliesEq, exact_bytes}
use Rattle.kb_version.specs.Items.{Item, Letters, Number, items}
use Rattle.kb_version.specs.Order.{rank, item_order, items_order, version_order}

-- the bytes of a run of letters, and of other items none
abbrev word : Item → List ℕ
word (Letters bytes) = bytes
word item = []

-- the number that a run of digits writes, and of other items 0
abbrev number : Item → ℕ
number (Number n) = n
number item = 0

-- by rank, then by letters, then by numbers
abbrev by_keys : Item → Item → Ordering
by_keys = then_cmp (on rank nat_cmp) (then_cmp (on word (slice_cmp nat_cmp)) (on number nat_cmp))

then-Equal : (o : Ordering) → o ≡ ordering_then o Equal
then-Equal Less = refl
then-Equal Equal = refl
then-Equal Greater = refl

item_order-by_keys : (x y : Item) → item_order x y ≡ by_keys x y
item_order-by_keys (Letters v) (Letters w) = then-Equal (slice_cmp nat_cmp v w)
item_order-by_keys (Number m) (Number n) = refl
item_order-by_keys x (Letters w) = refl
item_order-by_keys x y = refl

pub item_order_total : IsTotalOrder item_order
item_order_total = subst IsTotalOrder (λ i x y. sym (item_order-by_keys x y) i) (then_total (on_total rank nat_cmp_total) (then_total (on_total word nat_list_cmp_total) (on_total number nat_cmp_total)))

pub version_order_total : IsTotalOrder version_order
version_order_total = then_total (on_total items (lists_total item_order_total)) nat_list_cmp_total

second_equal : (first second : Ordering) → ordering_then first second ≡ Equal → second ≡ Equal
second_equal Equal second e = e
second_equal Less second e = cc
second_equal Greater second e = cc

-- versions that compare alike are one text
pub version_order_exact : CmpEqualImpliesEq version_order
version_order_exact a b e = exact_bytes a b (second_equal (items_order a b) (slice_cmp nat_cmp a b) e)
