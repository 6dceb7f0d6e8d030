use Rattle.kb_top.proofs.RepeatLaws.{comes_to_same_store}
use Rattle.kb_top.proofs.laws.repeating_comes_to_the_same_store.Goals as goal

pub returns : goal.returns
returns c = comes_to_same_store
