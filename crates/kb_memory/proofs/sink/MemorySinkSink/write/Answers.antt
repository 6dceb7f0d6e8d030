use Rattle.std.proofs.Common.{Some, refl, sym, ap, ◌∙◌}
use Rattle.kb_memory.specs.Plan.{is_over, risen}
use Rattle.kb_memory.proofs.PlanLaws.{writes}
use Rattle.kb_memory.proofs.sink.MemorySinkSink.write.Goals as goal

pub returns-then-next_fails-clause-written : goal.returns-then-next_fails-clause-written
returns-then-next_fails-clause-written c =
    writes c.args.bytes.now _ _ _ c.args.self.now.failures.due.items tt refl c.next_fails.ensures.later
    (c.next_fails.ensures.faults ∙ ap (λ due. risen due c.args.self.now.failures.faults) c.next_fails.ensures.fails)
    refl (ap is_over c.next_fails.ensures.due) (λ _. sym c.next_fails.ensures.fails ∙ c.if-next_fails.true)

pub returns-in-Ok-clause-written : goal.returns-in-Ok-clause-written
returns-in-Ok-clause-written c =
    writes c.args.bytes.now _ _ _ c.args.self.now.failures.due.items (ap (λ bytes. Some bytes) c.in-Ok.ensures.ok) tt c.next_fails.ensures.later
    (c.next_fails.ensures.faults ∙ ap (λ due. risen due c.args.self.now.failures.faults) c.next_fails.ensures.fails)
    refl (ap is_over c.next_fails.ensures.due) (λ e. cc)

pub returns-in-Err-clause-written : goal.returns-in-Err-clause-written
returns-in-Err-clause-written c =
    writes c.args.bytes.now _ _ _ c.args.self.now.failures.due.items tt (ap (λ bytes. Some bytes) c.in-Err.ensures.err) c.next_fails.ensures.later
    (c.next_fails.ensures.faults ∙ ap (λ due. risen due c.args.self.now.failures.faults) c.next_fails.ensures.fails)
    refl (ap is_over c.next_fails.ensures.due) (λ e. cc)
