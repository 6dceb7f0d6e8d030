-- No change of a valid intent reaches the path at which a journal is begun, nor what is below it.
use Rattle.std.proofs.Common.{◌≡◌, ℕ, Bool, true, false, cond, ◌&&◌, not, List, [], ◌∷◌, length, drop, map, None, codes, refl, sym, ap, ◌∙◌, inl, inr}
use Rattle.std.specs.List.{list_all, list_any}
use Rattle.std.specs.Cmp.{first_so, second_so}
use Rattle.std.proofs.lemmas.Bool.{true≢false, or_cases}
use Rattle.kb_world.specs.Area.{holds, is_among}
use Rattle.kb_world.specs.Path.{Path, child, is_under, are_apart}
use Rattle.kb_world.specs.Public.{staging_path}
use Rattle.kb_world.specs.Roots.{AreApart, is_below}
use Rattle.kb_world.specs.Script.{Script, tree_after, answer_in, edit_of}
use Rattle.kb_world.specs.Tree.{Tree, node_at, with_node, without, moved, is_dir, name_in, sole}
use Rattle.kb_world.specs.TreeLaws.{same_path-false, with_node-apart, remove-apart}
use Rattle.kb_world.specs.View.{view_of}
use Rattle.kb_world.specs.declared.child.Area.{Area}
use Rattle.kb_world.specs.declared.child.Area.TheVariants as areas
use Rattle.kb_world.specs.declared.child.Request.{Request}
use Rattle.kb_world.specs.declared.roots.Roots.{Roots}
use Rattle.kb_world.specs.declared.tree.Node.TheVariants as nodes
use Rattle.kb_world.proofs.PatchLaws.{tidied-apart}
use Rattle.kb_world.proofs.PathLaws.{by_test, comparable, elsewhere, apart-back, under-self, under-above}
use Rattle.kb_world.proofs.PublicLaws.{WrittenApart, written_apart}
use Rattle.kb_changes.specs.Change.{do_change, done, root_path, staged_path}
use Rattle.kb_changes.specs.Groups.{drops_in, runs_in, staged_in}
use Rattle.kb_changes.specs.Valid.{written_roots, new_intent_path, is_kept_out, is_changeable, is_well_placed, are_well_placed, is_fit_area, is_fit_run, is_kernel_name, are_fit_runs, is_valid}
use Rattle.kb_changes.specs.declared.change.Change.{Change}
use Rattle.kb_changes.specs.declared.change.Change.TheVariants.{Dir, Put, Drop, DropDir, Wipe, Run}
use Rattle.kb_changes.specs.declared.change.RootName.{RootName}
use Rattle.kb_changes.specs.declared.change.RootName.TheVariants as root_name
use Rattle.kb_again.proofs.PathLaws.{is_listed, listed_cons, listed_first, listed_more, over_cases, over_over}
use Rattle.kb_again.proofs.RootLaws.{above_child, are_roots, is_root, not_at_root, written_is_root}
use Rattle.kb_again.proofs.WriteLaws.{edited-apart}
use Rattle.kb_machine.proofs.AsideThenLaws.{edits_outside}
use Rattle.kb_walk.proofs.WipeLaws.{cleared_at}
use Rattle.kb_intent.proofs.PlaceLaws.{apart_one, apart_two, staged_under}

not_so : (b : Bool) → not b ≡ true → b ≡ true → ⊥
not_so b h k = true≢false (sym h ∙ ap not k)

-- ---- where nothing is staged

some_staged : (roots : Roots) (changes : List Change) (q : Path) → is_listed q (staged_in roots changes) ≡ true → (root : RootName) × (number : ℕ) × (q ≡ staged_path roots root number)
some_staged roots [] q listed = absurd (true≢false (sym listed))
some_staged roots (Put root number target ∷ changes) q listed = elim (listed_cons q (staged_path roots root number) (staged_in roots changes) listed) [
  | inl is ↦ (root, number, is)
  | inr later ↦ some_staged roots changes q later
]
some_staged roots (Dir path ∷ changes) q listed = some_staged roots changes q listed
some_staged roots (Drop path ∷ changes) q listed = some_staged roots changes q listed
some_staged roots (DropDir path ∷ changes) q listed = some_staged roots changes q listed
some_staged roots (Wipe path ∷ changes) q listed = some_staged roots changes q listed
some_staged roots (Run request ∷ changes) q listed = some_staged roots changes q listed

-- the paths of valid changes may be changed
pub valid_placed : (roots : Roots) (changes : List Change) → is_valid roots changes ≡ true → are_well_placed roots changes ≡ true
valid_placed roots changes valid = second_so _ (are_well_placed roots changes) (first_so _ (are_fit_runs roots changes) valid)

module _ (roots : Roots) (apart : AreApart roots) where
  w : WrittenApart roots
  w = written_apart roots apart

  -- an entry of the dkms root with another name is apart from what is staged
  entry_apart : (name : List ℕ) → are_apart (child roots.dkms (codes ".kb-staged")) (child roots.dkms name) ≡ true → (root : RootName) → are_apart (staging_path (root_path roots root)) (child roots.dkms name) ≡ true
  entry_apart name own root_name.Dkms = own
  entry_apart name own root_name.Src = apart_two roots.src roots.dkms (codes ".kb-staged") name (apart-back roots.dkms roots.src w.dkms_src)
  entry_apart name own root_name.Modules = apart_two roots.modules roots.dkms (codes ".kb-staged") name (apart-back roots.dkms roots.modules w.dkms_modules)
  entry_apart name own root_name.Boot = apart_two roots.boot roots.dkms (codes ".kb-staged") name (apart-back roots.dkms roots.boot w.dkms_boot)

  pub begun_apart : (root : RootName) → are_apart (staging_path (root_path roots root)) (new_intent_path roots) ≡ true
  begun_apart = entry_apart (codes ".intent.new") (apart_one roots.dkms (codes ".kb-staged") (codes ".intent.new") refl refl)

  -- neither of the two is a staged path
  pub not_staged : (changes : List Change) (q : Path) (name : List ℕ) → are_apart (child roots.dkms (codes ".kb-staged")) (child roots.dkms name) ≡ true → q ≡ child roots.dkms name
      → is_listed q (staged_in roots changes) ≡ true → ⊥
  not_staged changes q name own is listed =
      let s = some_staged roots changes q listed in
      true≢false (sym (under-self (child roots.dkms name))
      ∙ ap (λ p. is_under p (child roots.dkms name)) (sym is ∙ s.2)
      ∙ elsewhere (staged_path roots s.0 s.1) (staging_path (root_path roots s.0)) (child roots.dkms name) (entry_apart name own s.0) (staged_under roots s.0 s.1))

  module _ (q : Path) (under : is_under q (new_intent_path roots) ≡ true) where
    -- ---- the path of a change is elsewhere

    module _ (p : Path) (changeable : is_changeable roots p ≡ true) where
      not_begun : is_under p (new_intent_path roots) ≡ true → ⊥
      not_begun =
          not_so (is_under p (new_intent_path roots))
          (second_so (list_any (is_below p) (written_roots roots) && not (is_kept_out roots p)) _ (first_so (list_any (is_below p) (written_roots roots) && not (is_kept_out roots p) && not (is_under p (new_intent_path roots))) _ changeable))

      below_some : (ps : List Path) → list_any (is_below p) ps ≡ true → (x : Path) × (is_listed x ps ≡ true) × (is_below p x ≡ true)
      below_some [] h = absurd (true≢false (sym h))
      below_some (x ∷ ps) h = elim (or_cases _ _ h) [
        | inl here ↦ (x, listed_first x x ps refl, here)
        | inr there ↦ let found = below_some ps there in (found.0, listed_more found.0 x ps found.1, found.2)
      ]

      not_above : is_under (new_intent_path roots) p ≡ true → ⊥
      not_above above = elim (over_cases p (new_intent_path roots) above) [
        | inl same ↦ not_begun (ap (λ x. is_under x (new_intent_path roots)) same ∙ under-self (new_intent_path roots))
        | inr further ↦
            let root = below_some (written_roots roots) (first_so (list_any (is_below p) (written_roots roots)) _
            (first_so (list_any (is_below p) (written_roots roots) && not (is_kept_out roots p)) _ (first_so (list_any (is_below p) (written_roots roots) && not (is_kept_out roots p) && not (is_under p (new_intent_path roots))) _ changeable))) in
            not_at_root roots (are_roots roots apart) p roots.dkms (root.0, written_is_root roots root.0 root.1, root.2) (is_root roots root_name.Dkms) (above_child p roots.dkms (codes ".intent.new") further)
      ]

      not_over : is_under q p ≡ false
      not_over = by_test (is_under q p) (λ over. elim (comparable q p (new_intent_path roots) over under) as (λ _. ⊥) [ inl begun ↦ not_begun begun | inr above ↦ not_above above ])

      not_it : q ≡ p → ⊥
      not_it same = not_begun (ap (λ x. is_under x (new_intent_path roots)) (sym same) ∙ under)

    -- ---- what is moved and what a child may change is elsewhere

    not_moved : (root : RootName) (number : ℕ) → q ≡ staged_path roots root number → ⊥
    not_moved root number same =
        true≢false (sym (ap (λ x. is_under x (new_intent_path roots)) (sym same) ∙ under)
        ∙ elsewhere (staged_path roots root number) (staging_path (root_path roots root)) (new_intent_path roots) (begun_apart root) (staged_under roots root number))

    in_modules : (directory : Path) → is_kernel_name (name_in roots.modules directory) ≡ true → is_under directory roots.modules ≡ true
    in_modules directory named = by (is_under directory roots.modules) refl
      where
        by : (b : Bool) → is_under directory roots.modules ≡ b → b ≡ true
        by true e = refl
        by false e = sym (ap (λ b. is_kernel_name (cond b (sole (drop (length roots.modules) directory)) None)) e) ∙ named

    not_held : (drops : List Path) (request : Request) (area : Area) → is_fit_area roots drops request area ≡ true → (tree : Tree) → holds area tree q ≡ false
    not_held drops request areas.Nothing fit tree = refl
    not_held drops request (areas.Under directory) fit tree = absurd (true≢false (sym fit))
    not_held drops request (areas.Names directory names) fit tree =
        ap (λ b. is_among names (cond b (sole (drop (length directory) q)) None) && not (is_dir (node_at tree q))) no_entry
      where
        kernel : is_kernel_name (name_in roots.modules directory) ≡ true
        kernel = first_so _ _ (first_so _ _ (first_so _ _ (first_so _ _ fit)))

        no_entry : is_under q directory ≡ false
        no_entry = by_test (is_under q directory) (λ inside.
            true≢false (sym (over_over roots.modules directory q (in_modules directory kernel) inside) ∙ elsewhere q roots.dkms roots.modules w.dkms_modules (under-above q roots.dkms (codes ".intent.new" ∷ []) under)))

    -- ---- a change

    unless : (b : Bool) (then_it else_it : Tree) → node_at then_it q ≡ node_at else_it q → node_at (cond b then_it else_it) q ≡ node_at else_it q
    unless true then_it else_it e = e
    unless false then_it else_it e = refl

    module _ (script : Script) (drops : List Path) where
      run_unreached : (request : Request) → is_fit_run roots drops request ≡ true → (tree : Tree) → node_at (tree_after roots script request tree) q ≡ node_at tree q
      unfolding tree_after
      run_unreached request fit tree = edits_outside request.area tree (map (edit_of (view_of roots request tree)) (answer_in roots script request tree).effects) q (not_held drops request request.area fit)

      all_unreached : (changes : List Change) → list_all (is_well_placed roots) changes ≡ true → list_all (is_fit_run roots drops) (runs_in changes) ≡ true → (tree : Tree)
          → node_at (done roots script changes tree) q ≡ node_at tree q
      all_unreached [] placed fit tree = refl
      all_unreached (Dir path ∷ changes) placed fit tree =
          all_unreached changes (second_so (is_changeable roots path) _ placed) fit (do_change roots script (Dir path) tree)
          ∙ unless _ (with_node path nodes.Dir tree) tree (with_node-apart tree path nodes.Dir q (not_it path (first_so (is_changeable roots path) _ placed)))
      all_unreached (Put root number target ∷ changes) placed fit tree =
          let changeable = first_so (is_changeable roots target) _ (first_so (is_well_placed roots (Put root number target)) _ placed) in
          let staged = staged_path roots root number in
          all_unreached changes (second_so (is_well_placed roots (Put root number target)) _ placed) fit (do_change roots script (Put root number target) tree)
          ∙ unless _ (moved staged target tree) tree (edited-apart target (node_at tree staged) (without staged tree) q (not_it target changeable) ∙ remove-apart tree staged q (not_moved root number))
      all_unreached (Drop path ∷ changes) placed fit tree =
          all_unreached changes (second_so (is_changeable roots path) _ placed) fit (do_change roots script (Drop path) tree)
          ∙ unless _ (without path tree) tree (remove-apart tree path q (not_it path (first_so (is_changeable roots path) _ placed)))
      all_unreached (DropDir path ∷ changes) placed fit tree =
          all_unreached changes (second_so (is_changeable roots path) _ placed) fit (do_change roots script (DropDir path) tree)
          ∙ tidied-apart path tree q (same_path-false q path (not_it path (first_so (is_changeable roots path) _ placed)))
      all_unreached (Wipe path ∷ changes) placed fit tree =
          all_unreached changes (second_so (is_changeable roots path) _ placed) fit (do_change roots script (Wipe path) tree)
          ∙ cleared_at (λ other. is_under other path) tree q ∙ ap (λ b. cond b None (node_at tree q)) (not_over path (first_so (is_changeable roots path) _ placed))
      all_unreached (Run request ∷ changes) placed fit tree =
          all_unreached changes placed (second_so (is_fit_run roots drops request) _ fit) (do_change roots script (Run request) tree)
          ∙ unless _ (tree_after roots script request tree) tree (run_unreached request (first_so (is_fit_run roots drops request) _ fit) tree)

  pub unreached : (script : Script) (changes : List Change) (tree : Tree) (q : Path) → is_valid roots changes ≡ true → is_under q (new_intent_path roots) ≡ true → node_at (done roots script changes tree) q ≡ node_at tree q
  unreached script changes tree q valid under =
      let fit = second_so _ (are_fit_runs roots changes) valid in
      all_unreached q under script (drops_in changes) changes (valid_placed roots changes valid) fit tree
