-- The names before the last count as words.
use Rattle.kb_store.proofs.PlaceLaws.{leads_then, leads_else}
use Rattle.kb_store.proofs.place.leads_to_module.Goals as goal

pub returns-then-are_all_words : goal.returns-then-are_all_words
returns-then-are_all_words c =
    leads_then c.args.names.now _ c.are_all_words.result c.is_module_file.result c.in-len1-up.len_at_least c.are_all_words.ensures c.if-are_all_words.true c.is_module_file.ensures

pub returns-else-are_all_words : goal.returns-else-are_all_words
returns-else-are_all_words c = leads_else c.args.names.now c.are_all_words.result c.in-len1-up.len_at_least c.are_all_words.ensures c.if-are_all_words.false
