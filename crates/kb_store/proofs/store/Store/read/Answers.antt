-- The answer is that of the public tree.
use Rattle.std.proofs.Common.{sym, subst}
use Rattle.std.specs.Prelude.{Result}
use Rattle.kb_world.specs.Public.{public_tree}
use Rattle.kb_world.specs.Read.{IsRead}
use Rattle.kb_world.specs.declared.refusal.Refusal.{Refusal}
use Rattle.kb_store.specs.Read.{read_of}
use Rattle.kb_store.specs.declared.store.Store.{Store}
use Rattle.kb_store.proofs.PublicNotes.{read_public}
use Rattle.kb_store.proofs.ReadingLaws.{gives_read, read_answers}
use Rattle.kb_store.proofs.store.Store.read.Goals as goal

pub returns : goal.returns
returns g c =
    let roots = c.args.roots.now in
    gives_read (λ tree. read_of roots (public_tree roots tree)) _ _ _ c.answer.result c.in_ok-reading.ensures.same
    (λ tree told. read_answers c.answer.result (read_of roots (public_tree roots tree))
    (subst (λ (right : Result Store Refusal). IsRead c.answer.result right) (sym (read_public roots c.requires.apart tree)) (c.answer.ensures.read tree (c.in_ok-reading.ensures.read tree told))))
    c.answer.ensures.faultless
