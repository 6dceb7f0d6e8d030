-- What a request sees of a tree, path by path, and what effects put.
use Rattle.std.proofs.Common.{◌≡◌, ℕ, zero, suc, Bool, true, false, cond, ◌&&◌, not, List, [], ◌∷◌, map, take, Option, Some, None, refl, sym, ap, ◌∙◌}
use Rattle.std.specs.List.{list_all}
use Rattle.std.specs.Cmp.{first_so, second_so}
use Rattle.std.specs.Cmp.Derive.{both_true}
use Rattle.std.proofs.Math.Seq.{take-nil}
use Rattle.kb_world.specs.Path.{Path}
use Rattle.kb_world.specs.Script.{edit_of, copied}
use Rattle.kb_world.specs.Tree.{Tree, node_at, is_dir}
use Rattle.kb_world.specs.TreeLaws.{node_at-retain}
use Rattle.kb_world.specs.View.{sees, view_of}
use Rattle.kb_world.specs.declared.roots.Roots.{Roots}
use Rattle.kb_world.specs.declared.child.Effect.{Effect}
use Rattle.kb_world.specs.declared.child.Effect.TheVariants as effects
use Rattle.kb_world.specs.declared.child.Request.{Request}
use Rattle.kb_world.specs.declared.tree.Edit.{Edit}
use Rattle.kb_world.specs.declared.tree.Node.{Node}
use Rattle.kb_world.specs.declared.tree.Node.TheVariants as node
use Rattle.kb_disk.proofs.EffectLaws.{is_plain}

node_at-view : (roots : Roots) (request : Request) (tree : Tree) (path : Path)
    → node_at (view_of roots request tree) path ≡ cond (sees roots request path && not (is_dir (node_at tree path))) (node_at tree path) None
unfolding view_of
node_at-view roots request tree path = node_at-retain tree (λ path. sees roots request path && not (is_dir (node_at tree path))) path

pub not_seen : (roots : Roots) (request : Request) (tree : Tree) (path : Path) → sees roots request path ≡ false → node_at (view_of roots request tree) path ≡ None
not_seen roots request tree path h = node_at-view roots request tree path ∙ ap (λ b. cond (b && not (is_dir (node_at tree path))) (node_at tree path) None) h

pub seen : (roots : Roots) (request : Request) (tree : Tree) (path : Path) → sees roots request path ≡ true
    → node_at (view_of roots request tree) path ≡ cond (not (is_dir (node_at tree path))) (node_at tree path) None
seen roots request tree path h = node_at-view roots request tree path ∙ ap (λ b. cond (b && not (is_dir (node_at tree path))) (node_at tree path) None) h

-- what stands at a path that it sees
pub seen_at : (roots : Roots) (request : Request) (tree : Tree) (path : Path) (at : Option Node) → sees roots request path ≡ true → node_at tree path ≡ at
    → node_at (view_of roots request tree) path ≡ cond (not (is_dir at)) at None
seen_at roots request tree path at h is = seen roots request tree path h ∙ ap (λ at. cond (not (is_dir at)) at None) is

-- ---- what effects put

copied_plain : (at : Option Node) (to : Path) → is_plain (copied at to) ≡ true
copied_plain None to = refl
copied_plain (Some node.Dir) to = refl
copied_plain (Some (node.File bytes exec)) to = refl
copied_plain (Some (node.Link text)) to = refl

-- an effect puts no directory
effect_plain : (view : Tree) (effect : Effect) → is_plain (edit_of view effect) ≡ true
effect_plain view (effects.Write path bytes exec) = refl
effect_plain view (effects.Copy from to) = copied_plain (node_at view from) to
effect_plain view (effects.Remove path) = refl

pub all_plain : (view : Tree) (effects : List Effect) → list_all is_plain (map (edit_of view) effects) ≡ true
all_plain view [] = refl
all_plain view (effect ∷ effects) = both_true (effect_plain view effect) (all_plain view effects)

pub some_plain : (edits : List (Option Edit)) (n : ℕ) → list_all is_plain edits ≡ true → list_all is_plain (take n edits) ≡ true
some_plain [] n plain = ap (list_all is_plain) (take-nil n)
some_plain (edit ∷ edits) zero plain = refl
some_plain (edit ∷ edits) (suc n) plain = both_true (first_so (is_plain edit) _ plain) (some_plain edits n (second_so (is_plain edit) _ plain))
