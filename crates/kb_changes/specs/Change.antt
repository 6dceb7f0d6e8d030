-- What doing the changes of a transaction makes of a tree. This project's own.
use Rattle.std.specs.Prelude.{ℕ, ◌&&◌, not, cond, List, [], ◌∷◌, ◌++◌, map, is_some}
use Rattle.std.specs.List.{fold}
use Rattle.std.specs.Fmt.{decimal}
use Rattle.kb_world.specs.Path.{Path, child, parent, is_under}
use Rattle.kb_world.specs.Public.{staging_path}
use Rattle.kb_world.specs.Script.{Script, answer_in, tree_after}
use Rattle.kb_world.specs.Steps.{cleared, tidied}
use Rattle.kb_world.specs.Tree.{Tree, node_at, with_node, without, moved, is_dir, is_leaf}
use Rattle.kb_world.specs.declared.child.Reply.{Reply}
use Rattle.kb_world.specs.declared.child.Request.{Request}
use Rattle.kb_world.specs.declared.roots.Roots.{Roots}
use Rattle.kb_world.specs.declared.tree.Node.TheVariants as node
use Rattle.kb_changes.specs.declared.change.Change.{Change}
use Rattle.kb_changes.specs.declared.change.Change.TheVariants.{Dir, Put, Drop, DropDir, Wipe, Run}
use Rattle.kb_changes.specs.declared.change.RootName.{RootName}
use Rattle.kb_changes.specs.declared.change.RootName.TheVariants as root_name

-- the root of this name
abbrev pub root_path : Roots → RootName → Path
root_path roots root_name.Dkms = roots.dkms
root_path roots root_name.Src = roots.src
root_path roots root_name.Modules = roots.modules
root_path roots root_name.Boot = roots.boot

-- where a root's staged file or link of this number stands until it is put
abbrev pub staged_path : Roots → RootName → ℕ → Path
staged_path roots root number = child (staging_path (root_path roots root)) (decimal number)

-- A change is done, and does nothing where the condition of the world's call that makes it isn't met.
abbrev pub do_change : Roots → Script → Change → Tree → Tree
do_change roots script (Dir path) tree = cond (not (is_some (node_at tree path)) && is_dir (node_at tree (parent path))) (with_node path node.Dir tree) tree
do_change roots script (Put root number target) tree =
    let staged = staged_path roots root number in
    cond (is_leaf (node_at tree staged) && not (is_dir (node_at tree target)) && is_dir (node_at tree (parent target))) (moved staged target tree) tree
do_change roots script (Drop path) tree = cond (is_leaf (node_at tree path)) (without path tree) tree
do_change roots script (DropDir path) tree = tidied path tree
do_change roots script (Wipe path) tree = cleared (λ other. is_under other path) tree
do_change roots script (Run request) tree = cond (is_dir (node_at tree request.dir)) (tree_after roots script request tree) tree

-- the tree once all changes are done, in their order
abbrev pub done : Roots → Script → List Change → Tree → Tree
done roots script changes tree = fold (λ now change. do_change roots script change now) tree changes

-- the request that a change makes
abbrev pub request_at : Change → Tree → List Request
request_at (Run request) tree = cond (is_dir (node_at tree request.dir)) (request ∷ []) []
request_at (Dir path) tree = []
request_at (Put _ number target) tree = []
request_at (Drop path) tree = []
request_at (DropDir path) tree = []
request_at (Wipe path) tree = []

-- the requests that are made while the changes are done
abbrev pub requests_of : Roots → Script → List Change → Tree → List Request
requests_of roots script [] tree = []
requests_of roots script (change ∷ changes) tree = request_at change tree ++ requests_of roots script changes (do_change roots script change tree)

-- and the replies to them
abbrev pub replies_of : Roots → Script → List Change → Tree → List Reply
replies_of roots script [] tree = []
replies_of roots script (change ∷ changes) tree =
    map (λ request. (answer_in roots script request tree).reply) (request_at change tree) ++ replies_of roots script changes (do_change roots script change tree)
