-- Its words and its changes are texts.
use Rattle.std.proofs.Common.{All, subst}
use Rattle.std.specs.Str.{IsUtf8}
use Rattle.kb_changes.specs.Text as rule
use Rattle.kb_journal.proofs.write.body.Goals as goal

pub returns-clause-texts : goal.returns-clause-texts
returns-clause-texts c = record {
  words = subst (All IsUtf8) c.as_slice.ensures c.in_ok-push_words.ensures.words;
  changes = subst (All rule.IsTextChange) c.as_slice-2.ensures c.in_ok-push_changes.ensures.changes;
}
