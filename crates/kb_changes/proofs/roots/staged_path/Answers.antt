-- A number can name an entry.
use Rattle.std.proofs.Common.{ap, ◌∙◌}
use Rattle.std.specs.Prelude.{codes}
use Rattle.kb_world.specs.Path.{child}
use Rattle.kb_world.proofs.PartLaws.{named_as, ok_is}
use Rattle.kb_changes.proofs.NumberLaws.{number_named}
use Rattle.kb_changes.proofs.roots.staged_path.Goals as goal

pub child-requires-2 : goal.child-requires-2
child-requires-2 c = named_as _ _ (c.as_str.ensures ∙ c.in_ok-name.ensures) (number_named c.args.number c.ranges.number.fits)

pub returns : goal.returns
returns c =
    ok_is _ _ _ c.child-3.ensures
    (λ i. child ((c.in_ok-child.ensures ∙ ap (λ root. child root (codes ".kb-staged")) c.root_path.ensures) i) ((c.as_str.ensures ∙ c.in_ok-name.ensures) i))
