use Rattle.std.proofs.Common.{◌≡◌, ◌<◌, List, ℕ, ap, sym, ◌∙◌, subst, length, map, take, drop, get_or, arith}
use Rattle.std.proofs.lemmas.List.{drop_all, length-map}
use Rattle.kb_conf.specs.declared.targets.Placed.{Placed}
use Rattle.kb_conf.specs.Placed.{target_number}
use Rattle.kb_conf.proofs.ChecksLaws.{target_passes, target_found, targets_end}
use Rattle.kb_conf.proofs.PlacedLaws.{bad_at_index}
use Rattle.kb_conf.proofs.targets.bad_targets.Goals as goal

same_length : (targets : List Placed) (numbers : List ℕ) → map target_number targets ≡ numbers → length numbers ≡ length targets
same_length targets numbers same = ap length (sym same) ∙ length-map targets target_number

within : (targets seen : List Placed) (k : ℕ) → seen ≡ targets → k < length seen → k < length targets
within targets seen k same lt = subst (λ (l : List Placed). k < length l) same lt

at : (targets seen : List Placed) (target : Placed) (k : ℕ) → seen ≡ targets → target ≡ get_or seen k target → target ≡ get_or targets k target
at targets seen target k same is = is ∙ ap (λ (l : List Placed). get_or l k target) same

pub returns-in-Some : goal.returns-in-Some
returns-in-Some c =
    let targets = c.in_ok-targets.targets.items in
    let numbers = c.args.numbers.now in
    let k = c.loop-index.index in
    let same = c.in_ok-targets.ensures.numbers in
    let lt = within targets _ k c.deref-target-items.ensures.value c.loop-index-test.true in
    sym (c.loop-index.invariant ∙ target_found c.args.values.now numbers k c.in-Some.bad (omega (arith, lt, same_length targets numbers same))
    (sym (bad_at_index c.args.values.now targets _ numbers c.target-item.result k same lt (c.split_at.ensures.front ∙ ap (take k) c.deref.ensures.value)
    (at targets _ c.target-item.result k c.deref-target-items.ensures.value c.target-item.is)) ∙ sym c.in_ok-bad.ensures ∙ c.in-Some.is))

pub loop-index-preserved : goal.loop-index-preserved
loop-index-preserved c =
    let targets = c.in_ok-targets.targets.items in
    let numbers = c.args.numbers.now in
    let k = c.loop-index.index in
    let same = c.in_ok-targets.ensures.numbers in
    let lt = within targets _ k c.deref-target-items.ensures.value c.loop-index-test.true in
    c.loop-index.invariant ∙ target_passes c.args.values.now numbers k (omega (arith, lt, same_length targets numbers same))
    (sym (bad_at_index c.args.values.now targets _ numbers c.target-item.result k same lt (c.split_at.ensures.front ∙ ap (take k) c.deref.ensures.value)
    (at targets _ c.target-item.result k c.deref-target-items.ensures.value c.target-item.is)) ∙ sym c.in_ok-bad.ensures ∙ c.in_default.is)

pub returns : goal.returns
returns c =
    let targets = c.in_ok-targets.targets.items in
    let numbers = c.args.numbers.now in
    let k = c.loop-index.index in
    sym (c.loop-index.invariant ∙ targets_end c.args.values.now _ (drop k numbers)
    (drop_all k numbers (omega (arith, same_length targets numbers c.in_ok-targets.ensures.numbers, ap length c.deref-target-items.ensures.value))))
