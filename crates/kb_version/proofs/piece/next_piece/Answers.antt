use Rattle.std.proofs.Common.{◌≡◌, ◌<◌, true, length, get_or, subst, arith}
use Rattle.std.proofs.lemmas.Bool.Decides.{nat_tests}
use Rattle.std.specs.List.{take_while}
use Rattle.std.specs.Char.{is_ascii_alphabetic, is_ascii_digit}
use Rattle.std.specs.Str.Parse.{AllDigits}
use Rattle.kb_version.proofs.Runs.{items-letters, items-digits, AllDigits-take_while}
use Rattle.kb_version.proofs.piece.next_piece.Goals as goal
use Rattle.kb_version.proofs.piece.next_piece.Goals.{then-first-lt91, else-first-lt91+else-first-lt97+then-first-lt123}

pub returns-in-48-to-57-clause-items : goal.returns-in-48-to-57-clause-items
returns-in-48-to-57-clause-items c =
    let text = c.loop-rest.rest.now in
    let some : 0 < length text = omega arith in
    let first : is_ascii_digit (get_or text 0 0) ≡ true = grind (arith, nat_tests) in
    cc (items-digits text some first)

pub returns-in-48-to-57-clause-formed : goal.returns-in-48-to-57-clause-formed
returns-in-48-to-57-clause-formed c =
    let text = c.loop-rest.rest.now in
    let is : take_while is_ascii_digit text ≡ c.split_at.result.0.now = cc in
    subst (AllDigits 10) is (AllDigits-take_while text)

pub returns-in-65-to-90-clause-items : goal.returns-in-65-to-90-clause-items
returns-in-65-to-90-clause-items c =
    let text = c.loop-rest.rest.now in
    let some : 0 < length text = omega arith in
    let first : is_ascii_alphabetic (get_or text 0 0) ≡ true =
    elim c.in-65-to-90-1.branch [ then-first-lt91 w ↦ grind (arith, nat_tests) | else-first-lt91+else-first-lt97+then-first-lt123 w ↦ grind (arith, nat_tests) ] in
    cc (items-letters text some first)
