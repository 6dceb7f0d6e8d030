-- What is below a path that a walk of a version skips is skipped.
use Rattle.std.proofs.Common.{◌≡◌, true, ◌++◌, length, drop, nat_lt, ap, ◌∙◌, append_assoc, arith, length-append}
use Rattle.std.specs.Cmp.{first_so, second_so}
use Rattle.std.specs.Cmp.Derive.{both_true}
use Rattle.std.proofs.lemmas.Bool.{leb-true, le-leb}
use Rattle.kb_world.specs.Path.{Path, is_under}
use Rattle.kb_world.specs.Public.{is_private}
use Rattle.kb_world.specs.declared.roots.Roots.{Roots}
use Rattle.kb_world.proofs.PathLaws.{under-split, drop-front}
use Rattle.kb_walk.specs.PrivateLaws.{under_more, either_more, private_below}
use Rattle.kb_store.specs.Notes.{is_deep, is_far}

deep_more : (directory path more : Path) → is_deep directory path ≡ true → is_deep directory (path ++ more) ≡ true
deep_more directory path more h =
    let under = first_so (is_under path directory) (nat_lt 3 (length (drop (length directory) path))) h in
    let long = leb-true 4 (length (drop (length directory) path)) (second_so (is_under path directory) (nat_lt 3 (length (drop (length directory) path))) h) in
    let rest = drop (length directory) path in
    let tail : drop (length directory) (path ++ more) ≡ rest ++ more =
    ap (λ p. drop (length directory) (p ++ more)) (under-split path directory under) ∙ ap (drop (length directory)) (append_assoc directory rest more) ∙ drop-front directory (rest ++ more) in
    both_true (under_more path directory more under) (le-leb 4 (length (drop (length directory) (path ++ more))) (omega (arith, ap length tail, length-append rest more, long)))

pub far_below : (roots : Roots) (directory path more : Path) → is_far roots directory path ≡ true → is_far roots directory (path ++ more) ≡ true
far_below roots directory path more =
    either_more (is_private roots path) (is_deep directory path) (is_private roots (path ++ more)) (is_deep directory (path ++ more)) (private_below roots path more) (deep_more directory path more)
