-- The directory and the names are texts.
use Rattle.std.proofs.Common.{◌<◌, ◌^◌, All, length, sym, subst}
use Rattle.std.specs.Str.{IsUtf8}
use Rattle.kb_changes.specs.Text as rule
use Rattle.kb_journal.proofs.spell_change.push_area.Goals as goal

pub returns-in_ok-push_counted_texts-in-Names-clause-area : goal.returns-in_ok-push_counted_texts-in-Names-clause-area
returns-in_ok-push_counted_texts-in-Names-clause-area c =
    let counted = c.in_ok-push_counted_texts-in-Names.ensures in
    subst rule.IsTextArea (sym c.in-Names.is)
    (c.in_ok-path_field-in-Names.ensures.path, subst (All IsUtf8) c.as_slice.ensures counted.texts, subst (λ names. length names < 2 ^ 64) c.as_slice.ensures counted.counted)
