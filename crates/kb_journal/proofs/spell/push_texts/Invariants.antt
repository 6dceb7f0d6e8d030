-- The fields so far.
use Rattle.std.proofs.Common.{◌≡◌, ◌++◌, take, map, All}
use Rattle.std.specs.Str.{IsUtf8}
use Rattle.kb_changes.specs.Text as rule
use Rattle.kb_journal.proofs.spell.push_texts.Given as goal

abbrev pub invariant-loop-text : goal.invariant-loop-text
invariant-loop-text l = (l.fields.items ≡ l.initial.fields.items ++ map rule.text_field (take l.text-index l.texts)) × All IsUtf8 (take l.text-index l.texts)
