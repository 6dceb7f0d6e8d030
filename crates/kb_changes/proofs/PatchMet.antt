-- What the laws of patches ask for is met.
use Rattle.std.proofs.Common.{◌≡◌, ◌⊎◌, zero, suc, Bool, true, false, cond, ◌&&◌, ◌||◌, not, List, [], ◌∷◌, ◌++◌, length, Option, Some, None, is_some, codes, refl, sym, ap, ◌∙◌, inl, inr, arith, length-append, append_assoc, append-nil}
use Rattle.std.specs.List.{list_any}
use Rattle.std.specs.Option.{option_or}
use Rattle.std.specs.FinMap.{empty}
use Rattle.std.specs.Cmp.Derive.{both_true}
use Rattle.kb_world.specs.Path.{Path, parent}
use Rattle.kb_world.specs.Patch.{Patch, above, dirs_of, in_order, is_listed}
use Rattle.kb_world.specs.Public.{IsAlwaysPublic, staging_path}
use Rattle.kb_world.specs.Roots.{AreApart, is_below, roots_under}
use Rattle.kb_world.specs.Steps.{blocking, add_patch, add_blocked}
use Rattle.kb_world.specs.Store.{is_key, module_path, version_path, link_path, source_text}
use Rattle.kb_world.specs.StorePath.{key_of}
use Rattle.kb_world.specs.Tree.{Tree, node_at, with_node, is_dir, is_leaf, IsFormed}
use Rattle.kb_world.specs.TreeLaws.{same_path, same_path-true, node_at-with_node, with_node-here, with_node-apart, node_at-empty}
use Rattle.kb_world.specs.declared.job.Key.{Key}
use Rattle.kb_world.specs.declared.roots.Roots.{Roots}
use Rattle.kb_world.specs.declared.store_path.StorePath.TheVariants.{SourceLink}
use Rattle.kb_world.specs.declared.tree.Node.{Node}
use Rattle.kb_world.specs.declared.tree.Node.TheVariants as node
use Rattle.kb_world.proofs.PathLaws.{by_test}
use Rattle.kb_world.proofs.PublicPlaces.{public_place}
use Rattle.kb_world.proofs.ListedLaws.{listed-reverse, listed-in_order}
use Rattle.kb_world.proofs.AboveLaws.{above-dkms}
use Rattle.kb_world.proofs.OrderLaws.{any-found}
use Rattle.kb_changes.specs.Change.{staged_path}
use Rattle.kb_changes.specs.Changes.{HasStaged, nodes_of}
use Rattle.kb_changes.specs.Fit.{IsInOwnRoot, IsFit, MayStand}
use Rattle.kb_changes.specs.Valid.{is_initrd}
use Rattle.kb_changes.specs.declared.change.RootName.TheVariants as root_name
use Rattle.kb_changes.proofs.PatchParents.{either, below-append}
use Rattle.kb_changes.proofs.PatchOwn.{own_placed, own_no_initrd, dirs_own}

untrue : false ≡ true → ⊥
untrue e = cc

-- ---- Add

module _ (roots : Roots) (apart : AreApart roots) (key : Key) (named : is_key key ≡ true) where
  abbrev patch : Patch
  patch = add_patch roots key

  link_open : IsAlwaysPublic roots (link_path roots key)
  link_open = public_place roots apart (SourceLink key) named refl

  pub link_below : is_below (link_path roots key) roots.dkms ≡ true
  link_below = below-append roots.dkms key.module (key.version ∷ codes "source" ∷ [])

  pub link_own : IsInOwnRoot roots (link_path roots key)
  link_own = record { opens = link_open; placed = ap (λ b. b || list_any (is_below (link_path roots key)) (roots.src ∷ roots.modules ∷ [])) link_below }

  -- the two directories above the link
  abbrev pub IsAboveLink : Path → Type 0
  IsAboveLink q = (q ≡ module_path roots key) ⊎ (q ≡ version_path roots key)

  pub above_link : (q : Path) → is_listed q (above roots (link_path roots key)) ≡ true → IsAboveLink q
  above_link q listed = by (either (same_path q (module_path roots key)) _ (ap (is_listed q) (sym are_two) ∙ listed))
    where
      are_two : above roots (link_path roots key) ≡ module_path roots key ∷ version_path roots key ∷ []
      are_two =
          above-dkms roots (key.module ∷ key.version ∷ codes "source" ∷ [])
          ∙ ap (λ p. module_path roots key ∷ p ∷ []) (append_assoc roots.dkms (key.module ∷ []) (key.version ∷ []))

      by : (same_path q (module_path roots key) ≡ true) ⊎ (is_listed q (version_path roots key ∷ []) ≡ true) → IsAboveLink q
      by (inl s) = inl (same_path-true q (module_path roots key) s)
      by (inr more) = inr (same_path-true q (version_path roots key) (elim (either (same_path q (version_path roots key)) false more) [ inl s ↦ s | inr none ↦ absurd (untrue none) ]))

  pub link_longer : IsAboveLink (link_path roots key) → ⊥
  link_longer (inl e) = absurd (omega (arith, ap length e, length-append roots.dkms (key.module ∷ []), length-append roots.dkms (key.module ∷ key.version ∷ codes "source" ∷ [])))
  link_longer (inr e) = absurd (omega (arith, ap length e, length-append roots.dkms (key.module ∷ key.version ∷ []), length-append roots.dkms (key.module ∷ key.version ∷ codes "source" ∷ [])))

  -- where Add isn't blocked, no file or link stands at these
  pub unblocked_leafless : (tree : Tree) → add_blocked roots key tree ≡ None → (q : Path) → IsAboveLink q → is_leaf (node_at tree q) ≡ false
  unblocked_leafless tree free q over = by over
    where
      leafless : (path : Path) (at : Option Node) → cond (is_some at) (cond (is_dir at) None (Some path)) None ≡ None → is_leaf at ≡ false
      leafless path None e = refl
      leafless path (Some node.Dir) e = refl
      leafless path (Some (node.File bytes exec)) e = let impossible : Some path ≡ None = e in absurd (cc)
      leafless path (Some (node.Link text)) e = let impossible : Some path ≡ None = e in absurd (cc)

      first_none : (a b : Option Path) → option_or a b ≡ None → (a ≡ None) × (b ≡ None)
      first_none None b e = (refl, e)
      first_none (Some x) b e = let impossible : Some x ≡ None = e in absurd (cc)

      both : (blocking (module_path roots key) tree ≡ None) × (blocking (version_path roots key) tree ≡ None)
      both = first_none (blocking (module_path roots key) tree) (blocking (version_path roots key) tree) free

      by : IsAboveLink q → is_leaf (node_at tree q) ≡ false
      by (inl is) = ap (λ p. is_leaf (node_at tree p)) is ∙ leafless (module_path roots key) (node_at tree (module_path roots key)) both.0
      by (inr is) = ap (λ p. is_leaf (node_at tree p)) is ∙ leafless (version_path roots key) (node_at tree (version_path roots key)) both.1

  -- no other directory is made
  made : (q : Path) → is_listed q (dirs_of roots patch) ≡ true → IsAboveLink q
  made q listed = above_link q (no_more (above roots (link_path roots key)) (sym (listed-in_order q ((above roots (link_path roots key) ++ []) ++ [])) ∙ listed))
    where
      no_more : (paths : List Path) → is_listed q ((paths ++ []) ++ []) ≡ true → is_listed q paths ≡ true
      no_more paths e = sym (ap (is_listed q) (append-nil (paths ++ []) ∙ append-nil paths)) ∙ e

  made_own : (q : Path) → is_listed q (dirs_of roots patch) ≡ true → IsInOwnRoot roots q
  made_own q listed = dirs_own roots apart patch (link_own, tt) q listed

  pub add_stands : MayStand roots (add_patch roots key)
  add_stands = record {
    drops = tt;
    wipes = tt;
    comes = (own_placed roots apart (link_path roots key) link_own, tt);
    dirs = by_test (list_any (is_initrd roots) (dirs_of roots patch)) (λ e.
        let found = any-found (is_initrd roots) (dirs_of roots patch) e in
        untrue (sym (own_no_initrd roots apart found.0 (made_own found.0 found.2)) ∙ found.1));
    unwiped = refl;
    differ = refl;
    kept = both_true (ap not (listed-reverse (link_path roots key) (in_order []) ∙ listed-in_order (link_path roots key) [])) refl;
    counted = omega arith;
  }

  pub add_fits : (tree : Tree) → IsFormed tree → is_dir (node_at tree roots.dkms) ≡ true → add_blocked roots key tree ≡ None → is_dir (node_at tree (link_path roots key)) ≡ false → IsFit roots (add_patch roots key) tree
  add_fits tree formed dkms free no_dir = record {
    formed = formed;
    drops = tt;
    wipes = tt;
    dirs = λ q listed. record { opens = (made_own q listed).opens; free = unblocked_leafless tree free q (made q listed) };
    puts = (record { opens = link_open; leaf = refl; free = no_dir; no_dir = by_test (is_listed (link_path roots key) (dirs_of roots patch)) (λ listed. link_longer (made (link_path roots key) listed)) }, tt);
    rooted = (ap (λ b. b || list_any (λ root. is_below (link_path roots key) root && is_dir (node_at tree root)) (roots.src ∷ roots.modules ∷ roots.boot ∷ [])) (both_true link_below dkms), tt);
    counted = omega arith;
  }

-- ---- a tree that it fits

formed_dir : (tree : Tree) (path : Path) → IsFormed tree → is_dir (node_at tree (parent path)) ≡ true → IsFormed (with_node path node.Dir tree)
formed_dir tree path formed stands q some = still (parent q) (by (same_path q path) refl)
  where
    still : (p : Path) → is_dir (node_at tree p) ≡ true → is_dir (node_at (with_node path node.Dir tree) p) ≡ true
    still p d = ap is_dir (node_at-with_node tree path node.Dir p) ∙ either_dir (same_path p path)
      where
        either_dir : (b : Bool) → is_dir (cond b (Some node.Dir) (node_at tree p)) ≡ true
        either_dir true = refl
        either_dir false = d

    by : (b : Bool) → same_path q path ≡ b → is_dir (node_at tree (parent q)) ≡ true
    by true s = ap (λ p. is_dir (node_at tree (parent p))) (same_path-true q path s) ∙ stands
    by false s = formed q (sym (ap is_some (node_at-with_node tree path node.Dir q ∙ ap (λ b. cond b (Some node.Dir) (node_at tree q)) s)) ∙ some)

formed_leaf : (tree : Tree) (path : Path) (at : Node) → IsFormed tree → is_dir (node_at tree (parent path)) ≡ true → is_dir (node_at tree path) ≡ false → IsFormed (with_node path at tree)
formed_leaf tree path at formed stands none q some = still (parent q) (by (same_path q path) refl)
  where
    still : (p : Path) → is_dir (node_at tree p) ≡ true → is_dir (node_at (with_node path at tree) p) ≡ true
    still p d = ap is_dir (with_node-apart tree path at p (λ e. untrue (sym none ∙ ap (λ x. is_dir (node_at tree x)) (sym e) ∙ d))) ∙ d

    by : (b : Bool) → same_path q path ≡ b → is_dir (node_at tree (parent q)) ≡ true
    by true s = ap (λ p. is_dir (node_at tree (parent p))) (same_path-true q path s) ∙ stands
    by false s = formed q (sym (ap is_some (node_at-with_node tree path at q ∙ ap (λ b. cond b (Some at) (node_at tree q)) s)) ∙ some)

abbrev sample_roots : Roots
sample_roots = roots_under []

abbrev sample_key : Key
sample_key = key_of (codes "hello") (codes "1.0")

abbrev var : Path
var = codes "var" ∷ []

abbrev lib : Path
lib = codes "var" ∷ codes "lib" ∷ []

abbrev staged_link : Node
staged_link = node.Link (source_text sample_roots sample_key)

abbrev t0 : Tree
t0 = with_node [] node.Dir empty

abbrev t1 : Tree
t1 = with_node var node.Dir t0

abbrev t2 : Tree
t2 = with_node lib node.Dir t1

abbrev t3 : Tree
t3 = with_node sample_roots.dkms node.Dir t2

abbrev t4 : Tree
t4 = with_node (staging_path sample_roots.dkms) node.Dir t3

abbrev sample : Tree
sample = with_node (staged_path sample_roots root_name.Dkms 0) staged_link t4

formed_root : IsFormed t0
formed_root q some = by (same_path q []) refl
  where
    by : (b : Bool) → same_path q [] ≡ b → is_dir (node_at t0 (parent q)) ≡ true
    by true s = ap (λ p. is_dir (node_at t0 (parent p))) (same_path-true q [] s) ∙ ap is_dir (with_node-here empty [] node.Dir)
    by false s = absurd (untrue (sym (ap is_some (node_at-with_node empty [] node.Dir q ∙ ap (λ b. cond b (Some node.Dir) (node_at empty q)) s ∙ node_at-empty q)) ∙ some))

formed_four : IsFormed t4
formed_four =
    formed_dir t3 (staging_path sample_roots.dkms) (formed_dir t2 sample_roots.dkms (formed_dir t1 lib (formed_dir t0 var formed_root (ap is_dir (with_node-here empty [] node.Dir))) (ap is_dir (with_node-here t0 var node.Dir)))
    (ap is_dir (with_node-here t1 lib node.Dir))) (ap is_dir (with_node-here t2 sample_roots.dkms node.Dir))

-- what stands at a path that is none of these
four_at : (q : Path) → node_at t4 q ≡ cond (same_path q (staging_path sample_roots.dkms)) (Some node.Dir) (cond (same_path q sample_roots.dkms) (Some node.Dir)
    (cond (same_path q lib) (Some node.Dir) (cond (same_path q var) (Some node.Dir) (cond (same_path q []) (Some node.Dir) None))))
four_at q =
    node_at-with_node t3 (staging_path sample_roots.dkms) node.Dir q
    ∙ ap (cond (same_path q (staging_path sample_roots.dkms)) (Some node.Dir)) (node_at-with_node t2 sample_roots.dkms node.Dir q
    ∙ ap (cond (same_path q sample_roots.dkms) (Some node.Dir)) (node_at-with_node t1 lib node.Dir q
    ∙ ap (cond (same_path q lib) (Some node.Dir)) (node_at-with_node t0 var node.Dir q
    ∙ ap (cond (same_path q var) (Some node.Dir)) (node_at-with_node empty [] node.Dir q ∙ ap (cond (same_path q []) (Some node.Dir)) (node_at-empty q)))))

sample_at : (q : Path) → node_at sample q ≡ cond (same_path q (staged_path sample_roots root_name.Dkms 0)) (Some staged_link) (node_at t4 q)
sample_at q = node_at-with_node t4 (staged_path sample_roots root_name.Dkms 0) staged_link q

sample_formed : IsFormed sample
sample_formed = formed_leaf t4 (staged_path sample_roots root_name.Dkms 0) staged_link formed_four (ap is_dir (with_node-here t3 (staging_path sample_roots.dkms) node.Dir)) (ap is_dir (four_at (staged_path sample_roots root_name.Dkms 0)))

sample_apart : AreApart sample_roots
sample_apart = refl

module_free : node_at sample (module_path sample_roots sample_key) ≡ None
module_free = sample_at (module_path sample_roots sample_key) ∙ four_at (module_path sample_roots sample_key)

version_free : node_at sample (version_path sample_roots sample_key) ≡ None
version_free = sample_at (version_path sample_roots sample_key) ∙ four_at (version_path sample_roots sample_key)

link_free : node_at sample (link_path sample_roots sample_key) ≡ None
link_free = sample_at (link_path sample_roots sample_key) ∙ four_at (link_path sample_roots sample_key)

unblocked : add_blocked sample_roots sample_key sample ≡ None
unblocked =
    ap (λ at. option_or (cond (is_some at) (cond (is_dir at) None (Some (module_path sample_roots sample_key))) None) (blocking (version_path sample_roots sample_key) sample)) module_free
    ∙ ap (λ at. cond (is_some at) (cond (is_dir at) None (Some (version_path sample_roots sample_key))) None) version_free

no_node : (node : Node) → None ≡ Some node → ⊥
no_node node e = cc

sample_staged : HasStaged sample_roots (nodes_of sample_roots (add_patch sample_roots sample_key)) sample
sample_staged root_name.Dkms zero at e = with_node-here t4 (staged_path sample_roots root_name.Dkms 0) staged_link ∙ e
sample_staged root_name.Dkms (suc n) at e = absurd (no_node at e)
sample_staged root_name.Src n at e = absurd (no_node at e)
sample_staged root_name.Modules n at e = absurd (no_node at e)
sample_staged root_name.Boot n at e = absurd (no_node at e)

pub met : (roots : Roots) × (patch : Patch) × (tree : Tree) × AreApart roots × IsFit roots patch tree × HasStaged roots (nodes_of roots patch) tree × MayStand roots patch
met = (
  sample_roots,
  add_patch sample_roots sample_key,
  sample,
  sample_apart,
  add_fits sample_roots sample_apart sample_key refl sample sample_formed
      (ap is_dir (sample_at sample_roots.dkms ∙ four_at sample_roots.dkms)) unblocked (ap is_dir link_free),
  sample_staged,
  add_stands sample_roots sample_apart sample_key refl,
)
