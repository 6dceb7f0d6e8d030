-- A line more, and all of them.
use Rattle.std.proofs.Common.{lit<, ap, ◌∙◌}
use Rattle.std.specs.Str.Iter.{split_text, split_has_more, split_pattern}
use Rattle.std.proofs.lemmas.Iterator.Consumers.{YieldsList-end}
use Rattle.std.proofs.lemmas.Iterator.Splits.{YieldsList-from_str_split}
use Rattle.kb_bls.proofs.ReadLaws.{line_passed, line_taken, all_read}
use Rattle.kb_bls.proofs.parse.parse_text.Goals as goal

pub loop-line-preserved-in_ok-take : goal.loop-line-preserved-in_ok-take
loop-line-preserved-in_ok-take c =
    line_taken c.loop-line.yielded c.in-Some.line c.in-Some-field_of.key.now c.in-Some-field_of.value.now c.in_ok-of.field-0 c.loop-line.entry c.take.new.self
    c.loop-line.invariant c.in-Some-field_of.ensures c.in_ok-of.ensures c.in_ok-take.ensures

pub loop-line-preserved : goal.loop-line-preserved
loop-line-preserved c = line_passed c.loop-line.yielded c.in-Some.line c.loop-line.entry c.loop-line.invariant c.in_default.ensures

pub returns : goal.returns
returns c =
    let it = c.split-line-items.ensures in
    let same = c.into_iter-line-iterator.ensures.into_iter_gives in
    let split = YieldsList-from_str_split {s = c.into_iter-line-iterator.result} 10 c.args.text.now (lit< tt) (ap split_text same ∙ it.text) (ap split_has_more same ∙ it.has_more) (ap split_pattern same ∙ it.pattern) in
    let all = YieldsList-end split c.loop-line.yielded _ c.loop-line.yielded_by _ _ c.in-None.is c.next.ensures.steps in
    all_read c.args.text.now c.loop-line.yielded c.loop-line.entry c.utf8.text all.0 c.loop-line.invariant
