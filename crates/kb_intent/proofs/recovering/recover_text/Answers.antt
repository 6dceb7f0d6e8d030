-- The intent is the journal's, or none has this text.
use Rattle.std.proofs.Common.{Err, ap}
use Rattle.kb_intent.proofs.RecoverLaws.{text_journal, text_only, text_damaged, recovers_damaged, recovers_wanting}
use Rattle.kb_intent.proofs.recovering.recover_text.Goals as goal

pub recover_intent-requires-clause-journal : goal.recover_intent-requires-clause-journal
recover_intent-requires-clause-journal g c tree told = text_journal c.args.roots.now tree c.args.text.now c.in-Ok.intent (c.requires.text tree told) c.in-Ok.ensures.intent

pub recover_intent-requires-clause-only : goal.recover_intent-requires-clause-only
recover_intent-requires-clause-only g c tree told = text_only c.args.roots.now tree c.args.text.now c.in-Ok.intent (c.requires.text tree told) c.in-Ok.ensures.only

pub returns-in-Err-Damaged : goal.returns-in-Err-Damaged
returns-in-Err-Damaged g c =
    recovers_damaged c.args.roots.now (g.W.World.state c.args.world.now) c.args.path c.requires.path (λ tree told. text_damaged c.args.roots.now tree c.args.text.now (c.requires.text tree told) (c.in-Err-Damaged.ensures.damaged (ap Err c.in-Err-Damaged.field-0-is)))

pub returns-in-Err-NoMemory : goal.returns-in-Err-NoMemory
returns-in-Err-NoMemory g c = recovers_wanting c.args.roots.now (g.W.World.state c.args.world.now)
