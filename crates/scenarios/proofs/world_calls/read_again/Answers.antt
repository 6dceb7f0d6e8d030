-- What was read without a refusal has no damaged path.
use Rattle.std.proofs.Common.{sym, ◌∙◌}
use Rattle.kb_world.specs.Public.{public_tree}
use Rattle.kb_store.proofs.ReadLaws.{read_is_sound}
use Rattle.scenarios.proofs.world_calls.read_again.Goals as goal

pub reread-requires-clause-root : goal.reread-requires-clause-root
reread-requires-clause-root c now told = c.requires.root now (sym c.in_ok-_first.ensures.unchanged.tree ∙ told)

pub reread-requires-clause-sound : goal.reread-requires-clause-sound
reread-requires-clause-sound c now told =
    let roots = c.args.roots.now in
    read_is_sound roots (public_tree roots now) c.in_ok-_first._first (c.in_ok-_first.ensures.answers now (sym c.in_ok-_first.ensures.unchanged.tree ∙ told))
