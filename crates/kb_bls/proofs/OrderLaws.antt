-- The order of entries is total.
use Rattle.std.proofs.Common.{◌≡◌, ℕ, Bool, List, ◌++◌, length, take, Option, Some, None, refl, sym, ap, ◌∙◌}
use Rattle.std.proofs.Math.Seq.{take-append_seam}
use Rattle.std.specs.declared.cmp.Ordering.{Ordering}
use Rattle.std.specs.declared.cmp.Ordering.TheVariants.{Less, Equal}
use Rattle.std.specs.Cmp.{IsTotalOrder, IsStrictWeakOrder, bool_cmp_total}
use Rattle.std.specs.Cmp.Lexicographic.{options_total}
use Rattle.std.specs.Ordering.{ordering_reverse, is_lt}
use Rattle.std.proofs.lemmas.Cmp.{nat_list_cmp_total, on_total, then_total, back_total}
use Rattle.std.proofs.lemmas.List.Sorted.{ranks_by}
use Rattle.kb_version.specs.OrderLaws.{version_order_total}
use Rattle.kb_bls.specs.declared.order.Named.{Named}
use Rattle.kb_bls.specs.Order.{newest_first, none_last, base_of, has_no_try, sort_fields, sort_fields_order, entry_order}

module _ {T : Type 0} (order : T → T → Ordering) (total : IsTotalOrder order) where
  reversed : (x y : Option T) → none_last order x y ≡ ordering_reverse (none_last order y x)
  reversed None None = refl
  reversed None (Some y) = refl
  reversed (Some x) None = refl
  reversed (Some x) (Some y) = total.antisymm x y

  chained : (x y z : Option T) → none_last order x y ≡ Less → none_last order y z ≡ Less → none_last order x z ≡ Less
  chained None None z h k = cc
  chained None (Some y) z h k = cc
  chained (Some x) None None h k = cc
  chained (Some x) None (Some z) h k = cc
  chained (Some x) (Some y) None h k = refl
  chained (Some x) (Some y) (Some z) h k = total.trans x y z h k

  alike : (x y z : Option T) → none_last order x y ≡ Equal → none_last order x z ≡ none_last order y z
  alike None None z h = refl
  alike None (Some y) z h = cc
  alike (Some x) None z h = cc
  alike (Some x) (Some y) None h = refl
  alike (Some x) (Some y) (Some z) h = total.congr x y z h

  none_last_total : IsTotalOrder (none_last order)
  none_last_total = record { antisymm = reversed; trans = chained; congr = alike }

newest_first_total : IsTotalOrder newest_first
newest_first_total = back_total version_order_total

sort_fields_total : IsTotalOrder sort_fields_order
sort_fields_total =
    then_total (on_total (λ f. f.sort_key) nat_list_cmp_total)
    (then_total (on_total (λ f. f.machine_id) (options_total nat_list_cmp_total)) (on_total (λ f. f.version) (none_last_total newest_first newest_first_total)))

pub entry_order_total : IsTotalOrder entry_order
entry_order_total =
    then_total (on_total has_no_try bool_cmp_total)
    (then_total (on_total (λ n. sort_fields n.entry) (none_last_total sort_fields_order sort_fields_total))
    (then_total (on_total base_of newest_first_total) (on_total (λ n. n.name) nat_list_cmp_total)))

-- the test that a sort by the order asks of its closure
abbrev pub before : Named → Named → Bool
before x y = is_lt (entry_order x y)

pub entry_order_ranks : IsStrictWeakOrder before
entry_order_ranks = ranks_by entry_order_total (λ n. n)

-- a list that was put back whole
pub put_back : (n : ℕ) (whole rest : List Named) → length whole ≡ n → take n (whole ++ rest) ≡ whole
put_back n whole rest e = ap (λ k. take k (whole ++ rest)) (sym e) ∙ take-append_seam whole rest
