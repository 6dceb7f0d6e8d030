use Rattle.std.proofs.Common.{refl, ap, sym, ◌∙◌, ◌++◌, ◌∷◌, []}
use Rattle.kb_memory.proofs.world.MemoryWorld.begin_run.Goals as goal

pub returns-clause-begins : goal.returns-clause-begins
returns-clause-begins c = record {
  begun = (c.in_ok-give.ensures.ok, c.in_ok-push.ensures.items ∙ ap (λ request. c.args.self.now.ran.items ++ request ∷ []) c.in_ok-clone.ensures.cases);
  roots = refl;
  script = refl;
  counted = c.next-fate.ensures.counted;
}
