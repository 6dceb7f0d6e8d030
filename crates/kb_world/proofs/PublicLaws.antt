-- Which paths are public whatever stands there, and how the public tree goes with the tree.
use Rattle.std.proofs.Common.{◌≡◌, ℕ, ◌+◌, Bool, true, false, cond, ◌&&◌, ◌||◌, not, List, [], ◌∷◌, ◌++◌, length, drop, nat_eq, Option, Some, None, refl, sym, ap, ◌∙◌}
use Rattle.std.specs.Prelude.{bytes_eq, codes}
use Rattle.std.specs.List.{list_all}
use Rattle.std.specs.Cmp.{first_so, second_so}
use Rattle.std.specs.Cmp.Lexicographic.{bytes_decides}
use Rattle.std.specs.FinMap.{get-retain_keys}
use Rattle.kb_world.specs.Names.{begins_alphanumeric}
use Rattle.kb_world.specs.Path.{Path, is_under, are_apart, child}
use Rattle.kb_world.specs.Roots.{AreApart, based_roots, each_apart}
use Rattle.kb_world.specs.Tree.{Tree, node_at, with_node, is_dir}
use Rattle.kb_world.specs.TreeLaws.{paths_exact, same_path, same_path-true, node_at-with_node, same_tree}
pub use Rattle.kb_world.specs.Public.{IsAlwaysPublic}
use Rattle.kb_world.specs.Public.{is_foreign, is_public, is_private, is_loose, public_tree, foreign_tree}
use Rattle.kb_world.specs.StorePath.{told_by, is_in_scratch}
use Rattle.kb_world.specs.declared.roots.Roots.{Roots}
use Rattle.kb_world.specs.declared.tree.Node.{Node}
use Rattle.kb_world.proofs.PathLaws.{under-append, under-beside, elsewhere, elsewhere-below, apart-back, by_test}
use Rattle.kb_world.proofs.StorePathLaws.{place_below}

-- the roots that are written, and which of them are apart
pub record WrittenApart (roots : Roots) : Type 0 where
  pub dkms_src : are_apart roots.dkms roots.src ≡ true
  pub dkms_modules : are_apart roots.dkms roots.modules ≡ true
  pub dkms_boot : are_apart roots.dkms roots.boot ≡ true
  pub src_modules : are_apart roots.src roots.modules ≡ true
  pub src_boot : are_apart roots.src roots.boot ≡ true

pub written_apart : (roots : Roots) → AreApart roots → WrittenApart roots
written_apart roots h =
    let apart = first_so (each_apart (roots.boot ∷ based_roots roots)) _ h in
    let boot = first_so (list_all (are_apart roots.boot) (based_roots roots)) _ apart in
    let others = second_so (list_all (are_apart roots.boot) (based_roots roots)) _ apart in
    let dkms = first_so (list_all (are_apart roots.dkms) (roots.src ∷ roots.modules ∷ roots.etc ∷ roots.lib ∷ roots.proc ∷ [])) _ others in
    let after_dkms = second_so (list_all (are_apart roots.dkms) (roots.src ∷ roots.modules ∷ roots.etc ∷ roots.lib ∷ roots.proc ∷ [])) _ others in
    let src = first_so (list_all (are_apart roots.src) (roots.modules ∷ roots.etc ∷ roots.lib ∷ roots.proc ∷ [])) _ after_dkms in
    record {
      dkms_src = first_so (are_apart roots.dkms roots.src) _ dkms;
      dkms_modules = first_so (are_apart roots.dkms roots.modules) _ (second_so (are_apart roots.dkms roots.src) _ dkms);
      dkms_boot = apart-back roots.boot roots.dkms (first_so (are_apart roots.boot roots.dkms) _ boot);
      src_modules = first_so (are_apart roots.src roots.modules) _ src;
      src_boot = apart-back roots.boot roots.src (first_so (are_apart roots.boot roots.src) _ (second_so (are_apart roots.boot roots.dkms) _ boot));
    }

-- names below a root that aren't the tool's own begin with a letter or digit
abbrev pub begins_plainly : Path → Bool
begins_plainly [] = true
begins_plainly (name ∷ rest) = begins_alphanumeric name

unlike : (name dotted : List ℕ) → begins_alphanumeric name ≡ true → begins_alphanumeric dotted ≡ false → bytes_eq dotted name ≡ false
unlike name dotted plain none = by_test (bytes_eq dotted name) (λ same. let q : true ≡ false = sym plain ∙ ap begins_alphanumeric (sym ((bytes_decides dotted name).0 same)) ∙ none in cc)

plainly : (rest : Path) (dotted : List ℕ) → begins_plainly rest ≡ true → begins_alphanumeric dotted ≡ false → is_under rest (dotted ∷ []) ≡ false
plainly [] dotted plain none = refl
plainly (name ∷ rest) dotted plain none = ap (λ b. b && true) (unlike name dotted plain none)

-- a path is none of those that lie outside the root, nor the root's own private ones
own_place : (root rest : Path) (dotted : List ℕ) → begins_plainly rest ≡ true → begins_alphanumeric dotted ≡ false → is_under (root ++ rest) (child root dotted) ≡ false
own_place root rest dotted plain none = under-beside root rest (dotted ∷ []) ∙ plainly rest dotted plain none

all_false : (a b c d e f g s : Bool) → a ≡ false → b ≡ false → c ≡ false → d ≡ false → e ≡ false → f ≡ false → g ≡ false → s ≡ false
    → ((a || (b || (c || (d || (e || (f || (g || false))))))) || s) ≡ false
all_false a b c d e f g s ha hb hc hd he hf hg hs = cc

is_all : (u v w : Bool) → u ≡ true → v ≡ false → w ≡ false → (u && not v && not w) ≡ true
is_all u v w hu hv hw = cc

or_left : (a b : Bool) → a ≡ true → (a || b) ≡ true
or_left a b h = ap (λ x. x || b) h

-- below the dkms root, but for what is the tool's own
pub in_dkms : (roots : Roots) → AreApart roots → (rest : Path) → begins_plainly rest ≡ true → is_in_scratch (told_by rest) ≡ false → IsAlwaysPublic roots (roots.dkms ++ rest)
in_dkms roots h rest plain unscratched at =
    let apart = written_apart roots h in
    let path : Path = roots.dkms ++ rest in
    let below = under-append roots.dkms rest in
    let no_boot = elsewhere path roots.dkms roots.boot apart.dkms_boot below in
    is_all _ (is_private roots path) (is_loose roots path at) (or_left (is_under path roots.dkms) _ below)
    (all_false _ _ _ _ _ _ _ _ (own_place roots.dkms rest (codes ".intent") plain refl) (own_place roots.dkms rest (codes ".intent.new") plain refl)
    (own_place roots.dkms rest (codes ".kb-staged") plain refl) (elsewhere-below path roots.dkms roots.src (codes ".kb-staged" ∷ []) apart.dkms_src below)
    (elsewhere-below path roots.dkms roots.modules (codes ".kb-staged" ∷ []) apart.dkms_modules below)
    (elsewhere-below path roots.dkms roots.boot (codes ".kb-staged" ∷ []) apart.dkms_boot below)
    (elsewhere-below path roots.dkms roots.boot (codes ".kb-plugins" ∷ []) apart.dkms_boot below)
    (ap is_in_scratch (place_below roots rest) ∙ unscratched))
    (ap (λ b. b && nat_eq (length path) (length roots.boot + 1) && not (is_dir at)) no_boot)

-- below the root of sources, but for what is the tool's own
pub in_src : (roots : Roots) → AreApart roots → (rest : Path) → begins_plainly rest ≡ true → IsAlwaysPublic roots (roots.src ++ rest)
in_src roots h rest plain at =
    let apart = written_apart roots h in
    let path : Path = roots.src ++ rest in
    let below = under-append roots.src rest in
    let dkms_src = apart-back roots.dkms roots.src apart.dkms_src in
    let no_boot = elsewhere path roots.src roots.boot apart.src_boot below in
    let no_dkms = elsewhere path roots.src roots.dkms dkms_src below in
    is_all _ (is_private roots path) (is_loose roots path at) (second_or (is_under path roots.dkms) (is_under path roots.src) _ below)
    (all_false _ _ _ _ _ _ _ _ (elsewhere-below path roots.src roots.dkms (codes ".intent" ∷ []) dkms_src below)
    (elsewhere-below path roots.src roots.dkms (codes ".intent.new" ∷ []) dkms_src below)
    (elsewhere-below path roots.src roots.dkms (codes ".kb-staged" ∷ []) dkms_src below)
    (own_place roots.src rest (codes ".kb-staged") plain refl) (elsewhere-below path roots.src roots.modules (codes ".kb-staged" ∷ []) apart.src_modules below)
    (elsewhere-below path roots.src roots.boot (codes ".kb-staged" ∷ []) apart.src_boot below)
    (elsewhere-below path roots.src roots.boot (codes ".kb-plugins" ∷ []) apart.src_boot below)
    (ap (λ b. is_in_scratch (cond b (told_by (drop (length roots.dkms) path)) None)) no_dkms))
    (ap (λ b. b && nat_eq (length path) (length roots.boot + 1) && not (is_dir at)) no_boot)
  where
    second_or : (a b c : Bool) → b ≡ true → (a || (b || c)) ≡ true
    second_or true b c e = refl
    second_or false b c e = ap (λ x. x || c) e

-- ---- the public and the foreign tree, path by path

pub node_at-public_tree : (roots : Roots) (tree : Tree) (q : Path) → node_at (public_tree roots tree) q ≡ cond (is_public roots q (node_at tree q)) (node_at tree q) None
unfolding public_tree
node_at-public_tree roots tree q = get-retain_keys tree (λ path. is_public roots path (node_at tree path)) q (λ x tied. ap (λ path. is_public roots path (node_at tree path)) (sym (paths_exact q x tied)))

pub node_at-foreign_tree : (roots : Roots) (tree : Tree) (q : Path) → node_at (foreign_tree roots tree) q ≡ cond (is_foreign roots q (node_at tree q)) (node_at tree q) None
unfolding foreign_tree
node_at-foreign_tree roots tree q = get-retain_keys tree (λ path. is_foreign roots path (node_at tree path)) q (λ x tied. ap (λ path. is_foreign roots path (node_at tree path)) (sym (paths_exact q x tied)))

-- at a path that is always public the public tree has what the tree has
pub shown : (roots : Roots) (tree : Tree) (q : Path) → IsAlwaysPublic roots q → node_at (public_tree roots tree) q ≡ node_at tree q
shown roots tree q always = node_at-public_tree roots tree q ∙ ap (λ b. cond b (node_at tree q) None) (always (node_at tree q))

-- a node that is put there comes to stand in the public tree, and the foreign tree stays
pub public_tree-with_node : (roots : Roots) (tree : Tree) (path : Path) (node : Node) → IsAlwaysPublic roots path
    → public_tree roots (with_node path node tree) ≡ with_node path node (public_tree roots tree)
public_tree-with_node roots tree path node always = same_tree _ _ (λ q.
    node_at-public_tree roots (with_node path node tree) q ∙ at_path q (same_path q path) refl
    ∙ sym (node_at-with_node (public_tree roots tree) path node q ∙ ap (cond (same_path q path) (Some node)) (node_at-public_tree roots tree q)))
  where
    at_path : (q : Path) (same : Bool) → same_path q path ≡ same
        → cond (is_public roots q (node_at (with_node path node tree) q)) (node_at (with_node path node tree) q) None
        ≡ cond (same_path q path) (Some node) (cond (is_public roots q (node_at tree q)) (node_at tree q) None)
    at_path q true e =
        let stands = node_at-with_node tree path node q ∙ ap (λ b. cond b (Some node) (node_at tree q)) e in
        let open_to : is_public roots q (node_at (with_node path node tree) q) ≡ true =
        ap (λ p. is_public roots p (node_at (with_node path node tree) q)) (same_path-true q path e) ∙ always (node_at (with_node path node tree) q) in
        ap (λ b. cond b (node_at (with_node path node tree) q) None) open_to ∙ stands
        ∙ sym (ap (λ b. cond b (Some node) (cond (is_public roots q (node_at tree q)) (node_at tree q) None)) e)
    at_path q false e =
        let stands = node_at-with_node tree path node q ∙ ap (λ b. cond b (Some node) (node_at tree q)) e in
        ap (λ at. cond (is_public roots q at) at None) stands
        ∙ sym (ap (λ b. cond b (Some node) (cond (is_public roots q (node_at tree q)) (node_at tree q) None)) e)

pub foreign_tree-with_node : (roots : Roots) (tree : Tree) (path : Path) (node : Node) → IsAlwaysPublic roots path
    → foreign_tree roots (with_node path node tree) ≡ foreign_tree roots tree
foreign_tree-with_node roots tree path node always = same_tree _ _ (λ q.
    node_at-foreign_tree roots (with_node path node tree) q ∙ at_path q (same_path q path) refl ∙ sym (node_at-foreign_tree roots tree q))
  where
    hidden : (q : Path) → q ≡ path → (at : Option Node) → is_foreign roots q at ≡ false
    hidden q same at = ap (λ b. not b && not (is_private roots q)) (ap (λ p. is_public roots p at) same ∙ always at)

    at_path : (q : Path) (same : Bool) → same_path q path ≡ same
        → cond (is_foreign roots q (node_at (with_node path node tree) q)) (node_at (with_node path node tree) q) None
        ≡ cond (is_foreign roots q (node_at tree q)) (node_at tree q) None
    at_path q true e =
        let is_here = same_path-true q path e in
        ap (λ b. cond b (node_at (with_node path node tree) q) None) (hidden q is_here (node_at (with_node path node tree) q))
        ∙ sym (ap (λ b. cond b (node_at tree q) None) (hidden q is_here (node_at tree q)))
    at_path q false e =
        let stands = node_at-with_node tree path node q ∙ ap (λ b. cond b (Some node) (node_at tree q)) e in
        ap (λ at. cond (is_foreign roots q at) at None) stands
