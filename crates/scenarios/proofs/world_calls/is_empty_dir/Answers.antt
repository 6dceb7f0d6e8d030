use Rattle.std.proofs.Common.{◌≡◌, ℕ, List, [], Some, IsTrue, refl, sym, subst, ◌∙◌, arith, vec_len}
use Rattle.std.proofs.lemmas.Bool.{eqb-true}
use Rattle.std.proofs.lemmas.List.{nil_from_length}
use Rattle.kb_memory.specs.World.{tree_of}
use Rattle.kb_world.specs.Path.{Path}
use Rattle.kb_world.specs.Tree.{Tree, IsEmptyDir, node_at, is_dir, children}
use Rattle.scenarios.proofs.world_calls.is_empty_dir.Goals as goal

-- a directory whose list is empty has no entries, and the list changed nothing
listed_empty : (before after : Tree) (path : Path) (names : List (List ℕ)) → Some after ≡ Some before → names ≡ children before path → names ≡ []
    → IsTrue (is_dir (node_at before path)) → IsEmptyDir after path
listed_empty before after path names same listed none directory =
    let kept : after ≡ before = cc in
    subst (λ tree. IsEmptyDir tree path) (sym kept) (record { directory = directory; empty = sym listed ∙ none })

pub returns-clause-empty : goal.returns-clause-empty
returns-clause-empty c empty =
    let names = c.in_ok-list.field-0 in
    let none : vec_len names ≡ 0 = eqb-true (vec_len names) 0 (sym c.is_empty.ensures ∙ empty) in
    let listed = c.in_ok-list.ensures in
    listed_empty (tree_of c.args.world.now) (tree_of c.list.new.self) c.args.path.now names.items listed.same.unchanged.tree (listed.names _ refl)
    (nil_from_length names.items (omega arith)) (sym c.if-not-is_dir.ensures)
