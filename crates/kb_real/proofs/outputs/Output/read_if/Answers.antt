use Rattle.kb_real.proofs.OutputLaws.{told_end, more_kept, none_kept}
use Rattle.kb_real.proofs.outputs.Output.read_if.Goals as goal

pub returns-in-Some-eq0 : goal.returns-in-Some-eq0
returns-in-Some-eq0 g c = λ first so_far. told_end first _ _ _ _ _ _ c.in-Some-eq0.field-0 c.in_ok-read_once.ensures c.in-Some-eq0.is c.in-Some-eq0.field-0-test so_far

pub returns-in_ok-keep-in-Some : goal.returns-in_ok-keep-in-Some
returns-in_ok-keep-in-Some g c = λ first so_far. more_kept first _ _ _ _ _ _ _ c.in-Some.count c.in_ok-read_once.ensures c.in-Some.is c.if-self.false c.in_ok-keep-in-Some.ensures so_far

pub returns-in-None : goal.returns-in-None
returns-in-None g c = λ first so_far. none_kept first _ _ _ _ _ _ c.in_ok-read_once.ensures c.in-None.is c.if-self.false so_far
