-- One path more.
use Rattle.std.proofs.Common.{◌^◌, [], ◌∷◌, ◌++◌, length, map}
use Rattle.kb_changes.specs.Text as rule
use Rattle.kb_journal.proofs.LeftLaws.{as_many, counted_below, counted_over, first_left, next_left, none_left, singles_left}
use Rattle.kb_journal.proofs.read_list.read_paths.Goals as goal

pub loop-init : goal.loop-init
loop-init c paths more good small front =
    let count = c.in-Ok.ensures (length (map rule.path_field paths)) (map rule.path_field paths ++ more) (as_many rule.path_field paths (2 ^ 64) small) front in
    singles_left rule.path_field rule.IsTextPath paths c.new-paths.result more c.read_number.new.fields good c.new-paths.ensures count.1

pub loop-preserved : goal.loop-preserved
loop-preserved c paths more good small front =
    let count = c.in-Ok.ensures (length (map rule.path_field paths)) (map rule.path_field paths ++ more) (as_many rule.path_field paths (2 ^ 64) small) front in
    next_left (λ path. rule.path_field path ∷ []) rule.IsTextPath paths c.loop.paths c.push.new.self more c.loop.fields c.read_path.new.fields c.loop.counter c.in-Ok-read_path.path
    (c.loop.invariant paths more good small front) (counted_below rule.path_field paths c.loop.counter c.in-Ok.count count.0 c.loop-test.true) c.in-Ok-read_path.ensures c.in_ok-push-in-Ok-read_path.ensures.ok

pub returns-in-Err-read_path : goal.returns-in-Err-read_path
returns-in-Err-read_path c paths more good small front =
    let count = c.in-Ok.ensures (length (map rule.path_field paths)) (map rule.path_field paths ++ more) (as_many rule.path_field paths (2 ^ 64) small) front in
    let first = first_left (λ path. rule.path_field path ∷ []) rule.IsTextPath paths c.loop.paths more c.loop.fields c.loop.counter (c.loop.invariant paths more good small front)
    (counted_below rule.path_field paths c.loop.counter c.in-Ok.count count.0 c.loop-test.true) in
    c.in-Err-read_path.ensures first.0 first.1 first.2 first.3

pub returns : goal.returns
returns c paths more good small front =
    let count = c.in-Ok.ensures (length (map rule.path_field paths)) (map rule.path_field paths ++ more) (as_many rule.path_field paths (2 ^ 64) small) front in
    none_left (λ path. rule.path_field path ∷ []) rule.IsTextPath paths c.loop.paths more c.loop.fields c.loop.counter (c.loop.invariant paths more good small front)
    (counted_over rule.path_field paths c.loop.counter c.in-Ok.count count.0 c.loop-test.false)
