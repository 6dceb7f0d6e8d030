-- In a formed tree what stands, stands in directories all the way up.
use Rattle.std.proofs.Common.{◌≡◌, ℕ, true, List, [], ◌∷◌, ◌++◌, Option, Some, None, is_some, refl, sym, ap, ◌∙◌, append_assoc}
use Rattle.kb_world.specs.Path.{Path, child}
use Rattle.kb_world.specs.Tree.{Tree, node_at, is_dir, IsFormed}
use Rattle.kb_world.specs.declared.tree.Node.{Node}
use Rattle.kb_world.proofs.StepLaws.{parent-child}

pub dir_stands : (at : Option Node) → is_dir at ≡ true → is_some at ≡ true
dir_stands None h = h
dir_stands (Some at) h = refl

pub dir_above : (tree : Tree) → IsFormed tree → (directory : Path) (name : List ℕ) (rest : Path) → is_some (node_at tree (directory ++ name ∷ rest)) ≡ true → is_dir (node_at tree directory) ≡ true
dir_above tree formed directory name [] h = ap (λ p. is_dir (node_at tree p)) (sym (parent-child directory name)) ∙ formed (child directory name) h
dir_above tree formed directory name (next ∷ rest) h =
    let inner = dir_above tree formed (child directory name) next rest (ap (λ p. is_some (node_at tree p)) (append_assoc directory (name ∷ []) (next ∷ rest)) ∙ h) in
    ap (λ p. is_dir (node_at tree p)) (sym (parent-child directory name)) ∙ formed (child directory name) (dir_stands (node_at tree (child directory name)) inner)
