-- The walk stops where no command line goes on, or at the last word.
use Rattle.std.proofs.Common.{sym, ◌∙◌, subst}
use Rattle.kb_world.specs.Read.{IsRead}
use Rattle.kb_words.specs.declared.command.Command.{Command}
use Rattle.kb_words.proofs.WalkLaws.{walked_on, walked_stop, walked_end}
use Rattle.kb_words.proofs.read.read_words.Goals as goal

pub returns-in_default-2 : goal.returns-in_default-2
returns-in_default-2 c =
    rw c.usage.ensures (walked_stop c.args.words.now c.loop-word.rest.now c.in-Some.behind.now c.in-Some.word.now c.as_str.result.now c.loop-word.state c.place_of.result
    c.loop-word.invariant c.in-Some.ensures.cases.0 c.as_str.ensures (sym c.in_ok-next.ensures ∙ c.in_default-2.is) c.place_of.ensures)

pub loop-word-preserved : goal.loop-word-preserved
loop-word-preserved c =
    walked_on c.args.words.now c.loop-word.rest.now c.in-Some.behind.now c.in-Some.word.now c.as_str.result.now c.loop-word.state c.in-Some-2.next
    c.loop-word.invariant c.in-Some.ensures.cases.0 c.as_str.ensures (sym c.in_ok-next.ensures ∙ c.in-Some-2.is)

pub returns : goal.returns
returns c =
    subst (IsRead {T = Command} c.end.result) (walked_end c.args.words.now c.loop-word.rest.now c.loop-word.state c.place_of-2.result
    c.loop-word.invariant c.in_default.ensures.cases c.place_of-2.ensures) c.end.ensures
