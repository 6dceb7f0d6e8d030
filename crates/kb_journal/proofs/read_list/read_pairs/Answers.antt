-- One pair more.
use Rattle.std.proofs.Common.{◌<◌, ◌++◌, length, flat_map, arith}
use Rattle.kb_changes.specs.Text as rule
use Rattle.kb_journal.proofs.LeftLaws.{IsTextPair, all_left, first_left, next_left, none_left}
use Rattle.kb_journal.proofs.read_list.read_pairs.Goals as goal

pub loop-init : goal.loop-init
loop-init c pairs more good small front =
    let count = c.in-Ok.ensures (length pairs) (flat_map rule.pair_field pairs ++ more) small front in
    all_left rule.pair_field IsTextPair pairs c.new-pairs.result more c.read_number.new.fields good c.new-pairs.ensures count.1

pub loop-preserved : goal.loop-preserved
loop-preserved c pairs more good small front =
    let count = c.in-Ok.ensures (length pairs) (flat_map rule.pair_field pairs ++ more) small front in
    let below : c.loop.counter < length pairs = omega (arith, count.0, c.loop-test.true) in
    next_left rule.pair_field IsTextPair pairs c.loop.pairs c.push.new.self more c.loop.fields c.read_pair.new.fields c.loop.counter c.in-Ok-read_pair.pair
    (c.loop.invariant pairs more good small front) below (λ pair behind utf8 is. c.in-Ok-read_pair.ensures pair behind utf8.0 utf8.1 is) c.in_ok-push-in-Ok-read_pair.ensures.ok

pub returns-in-Err-read_pair : goal.returns-in-Err-read_pair
returns-in-Err-read_pair c pairs more good small front =
    let count = c.in-Ok.ensures (length pairs) (flat_map rule.pair_field pairs ++ more) small front in
    let first = first_left rule.pair_field IsTextPair pairs c.loop.pairs more c.loop.fields c.loop.counter (c.loop.invariant pairs more good small front) (omega (arith, count.0, c.loop-test.true)) in
    c.in-Err-read_pair.ensures first.0 first.1 first.2.0 first.2.1 first.3

pub returns : goal.returns
returns c pairs more good small front =
    let count = c.in-Ok.ensures (length pairs) (flat_map rule.pair_field pairs ++ more) small front in
    none_left rule.pair_field IsTextPair pairs c.loop.pairs more c.loop.fields c.loop.counter (c.loop.invariant pairs more good small front) (omega (arith, count.0, c.loop-test.false))
