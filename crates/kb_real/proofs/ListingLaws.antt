-- A test that all items pass, whatever their order.
use Rattle.std.proofs.Common.{◌≡◌, Bool, true, List, IsPermutation, IsTrue}
use Rattle.std.specs.List.{list_all}
use Rattle.std.proofs.lemmas.List.Sums.{AllPass-from_list_all, list_all-from_AllPass}
use Rattle.std.proofs.lemmas.List.Sorted.{All-permutation}

pub all_in_any_order : {X : Type 0} (test : X → Bool) (before after : List X) → IsPermutation before after → IsTrue (list_all test before) → IsTrue (list_all test after)
all_in_any_order test before after same all =
    list_all-from_AllPass test after (All-permutation (λ x. test x ≡ true) before after same (AllPass-from_list_all test before all))
