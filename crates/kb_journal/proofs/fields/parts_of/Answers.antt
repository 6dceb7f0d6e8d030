-- The text is cut at each space and line feed.
use Rattle.std.proofs.Common.{rules}
use Rattle.std.proofs.lemmas.Iterator.Consumers.{map_from_collect}
use Rattle.std.proofs.lemmas.Iterator.Splits.{YieldsList-from_slice_split}
use Rattle.kb_journal.specs.Reads.{is_field_end}
use Rattle.kb_journal.proofs.fields.parts_of.Goals as goal

pub returns : goal.returns
returns c =
    map_from_collect _ c.collect.ensures.ran
    (YieldsList-from_slice_split _ is_field_end c.args.text.now c.split.ensures.rest c.split.ensures.done c.split.ensures.closure (λ x b q called. search rules))
