-- What may be read again.
use Rattle.std.proofs.Common.{◌≡◌, None, Ok, sym, ◌∙◌}
use Rattle.std.specs.Option.{ForSome}
use Rattle.kb_world.specs.Read.{Gives}
use Rattle.kb_world.specs.Public.{public_tree}
use Rattle.kb_world.specs.State.{State}
use Rattle.kb_world.specs.Damage.{hurt}
use Rattle.kb_world.specs.declared.roots.Roots.{Roots}
use Rattle.kb_store.specs.Read.{read_of}
use Rattle.kb_store.specs.declared.store.Store.{Store}
use Rattle.kb_store.proofs.ReadLaws.{read_is_sound}

-- after a store was read, nothing is damaged
pub sound_after_read : (roots : Roots) (old new : State) (store : Store) → Gives (λ tree. read_of roots (public_tree roots tree)) old new (Ok store)
    → ForSome new.tree (λ tree. hurt roots (public_tree roots tree) ≡ None)
sound_after_read roots old new store gives tree told = read_is_sound roots (public_tree roots tree) store (gives.answers tree (sym gives.unchanged.tree ∙ told))
