use Rattle.std.proofs.Common.{◌≡◌, length, rules}
use Rattle.std.specs.Ordering.{nat_cmp, ordering_then}
use Rattle.std.specs.Cmp.Lexicographic.{slice_cmp}
use Rattle.kb_version.proofs.Numbers.{number_order}
use Rattle.kb_version.proofs.piece.number_cmp.Goals as goal

pub returns : goal.returns
returns c =
    let x = c.without_zeros-x.result.now in
    let y = c.without_zeros-y.result.now in
    let answer : c.then_with.result ≡ ordering_then (nat_cmp (length x) (length y)) (slice_cmp nat_cmp x y) = search rules in
    cc (c.without_zeros-x.ensures, c.without_zeros-y.ensures, number_order c.args.m.now c.args.n.now c.requires.m_digits c.requires.n_digits)
