use Rattle.std.proofs.Common.{sym, subst}
use Rattle.std.specs.List.{AllByRecursion}
use Rattle.std.specs.Str.{IsUtf8}
use Rattle.kb_conf.specs.TextOf.{IsTextAssignment}
use Rattle.kb_conf.specs.declared.table.Assignment as code
use Rattle.kb_conf.proofs.ValuesLaws.{name_is_text}
use Rattle.kb_conf.proofs.values.Values.names.Goals as goal

pub text_of-requires : goal.text_of-requires
text_of-requires c =
    let items = c.assignments-assignment-items.result.now in
    let all = subst (AllByRecursion IsTextAssignment) (sym c.assignments-assignment-items.ensures) c.self.invariant in
    subst (λ (a : code.Assignment). IsUtf8 a.name.now) (sym c.assignment-item.is)
    (name_is_text items all c.loop-assignment.assignment-index c.assignment-item.result c.loop-assignment-test.true)
