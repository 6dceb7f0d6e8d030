-- A set's paths are sorted.
use Rattle.std.proofs.Common.{rules, ◌≡◌, IfOk, List, subst}
use Rattle.kb_world.specs.Path.{Path}
use Rattle.kb_changes.proofs.RisingLaws.{in_order-sorted}
use Rattle.kb_changes.proofs.path_set.PathSet.in_order.Goals as goal

pub returns : goal.returns
returns c =
    let all : IfOk c.collect.result (λ paths. paths.items ≡ c.args.self) = search rules in
    let P : List Path → Type 0 = λ items. IfOk c.collect.result (λ paths. paths.items ≡ items) in
    subst P (in_order-sorted c.args.self (search rules)) all
