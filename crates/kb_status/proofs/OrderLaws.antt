-- The order of lines is total, and what it calls equal is of one version and one spot.
use Rattle.std.proofs.Common.{◌≡◌, ℕ, Bool, List, ◌++◌, length, take, Option, Some, None, refl, sym, ap, ◌∙◌}
use Rattle.std.proofs.Math.Seq.{take-append_seam}
use Rattle.std.specs.declared.cmp.Ordering.{Ordering}
use Rattle.std.specs.declared.cmp.Ordering.TheVariants.{Less, Equal, Greater}
use Rattle.std.specs.Cmp.{IsTotalOrder, IsStrictWeakOrder}
use Rattle.std.specs.Cmp.Lexicographic.{options_total}
use Rattle.std.specs.Option.{option_cmp}
use Rattle.std.specs.Ordering.{ordering_then, is_lt}
use Rattle.std.proofs.lemmas.Cmp.{nat_list_cmp_total, on_total, then_total}
use Rattle.std.proofs.lemmas.List.Sorted.{ranks_by}
use Rattle.std.proofs.lemmas.Map.Lookups.{exact_bytes}
use Rattle.kb_version.specs.Order.{version_order}
use Rattle.kb_version.specs.OrderLaws.{version_order_total, version_order_exact}
use Rattle.kb_world.specs.declared.job.Key.{Key}
use Rattle.kb_world.specs.declared.job.Spot.{Spot}
use Rattle.kb_status.specs.declared.line.Line.{Line}
use Rattle.kb_status.specs.Order.{bytes_order, key_order, spot_order, line_order}

key_order_total : IsTotalOrder key_order
key_order_total = then_total (on_total (λ key. key.module) nat_list_cmp_total) (on_total (λ key. key.version) version_order_total)

spot_order_total : IsTotalOrder spot_order
spot_order_total = then_total (on_total (λ spot. spot.kernel) version_order_total) (on_total (λ spot. spot.arch) nat_list_cmp_total)

pub line_order_total : IsTotalOrder line_order
line_order_total = then_total (on_total (λ line. line.key) key_order_total) (on_total (λ line. line.spot) (options_total spot_order_total))

-- the test that a sort by the order asks of its closure
abbrev pub before : Line → Line → Bool
before x y = is_lt (line_order x y)

pub line_order_ranks : IsStrictWeakOrder before
line_order_ranks = ranks_by line_order_total (λ line. line)

-- a list that was put back whole
pub put_back : (n : ℕ) (whole rest : List Line) → length whole ≡ n → take n (whole ++ rest) ≡ whole
put_back n whole rest e = ap (λ k. take k (whole ++ rest)) (sym e) ∙ take-append_seam whole rest

-- ---- what is called equal

both_equal : (first second : Ordering) → ordering_then first second ≡ Equal → (first ≡ Equal) × (second ≡ Equal)
both_equal Equal second e = (refl, e)
both_equal Less second e = cc
both_equal Greater second e = cc

key_order_exact : (a b : Key) → key_order a b ≡ Equal → a ≡ b
key_order_exact a b e =
    let both = both_equal (bytes_order a.module b.module) (version_order a.version b.version) e in
    let word = exact_bytes a.module b.module both.0 in
    let version = version_order_exact a.version b.version both.1 in
    λ i. record { «module» = word i; version = version i }

spot_order_exact : (a b : Spot) → spot_order a b ≡ Equal → a ≡ b
spot_order_exact a b e =
    let both = both_equal (version_order a.kernel b.kernel) (bytes_order a.arch b.arch) e in
    let kernel = version_order_exact a.kernel b.kernel both.0 in
    let arch = exact_bytes a.arch b.arch both.1 in
    λ i. record { kernel = kernel i; arch = arch i }

option_exact : (a b : Option Spot) → option_cmp spot_order a b ≡ Equal → a ≡ b
option_exact None None e = refl
option_exact None (Some b) e = cc
option_exact (Some a) None e = cc
option_exact (Some a) (Some b) e = ap Some (spot_order_exact a b e)

pub line_order_exact : (a b : Line) → line_order a b ≡ Equal → (a.key ≡ b.key) × (a.spot ≡ b.spot)
line_order_exact a b e =
    let both = both_equal (key_order a.key b.key) (option_cmp spot_order a.spot b.spot) e in
    (key_order_exact a.key b.key both.0, option_exact a.spot b.spot both.1)
