-- A journal is put beside its place, and moved there.
use Rattle.std.proofs.Common.{◌≡◌, ℕ, Bool, true, false, ◌&&◌, not, List, [], Option, Some, None, is_some, Result, Ok, Err, refl, sym, ap, ◌∙◌, subst, inl, inr, codes}
use Rattle.std.specs.Prelude.{option_map, OnOk}
use Rattle.std.specs.Cmp.Derive.{both_true}
use Rattle.std.proofs.lemmas.Bool.{true≢false, or_left, or_right}
use Rattle.kb_world.specs.Area.{IsLeft}
use Rattle.kb_world.specs.Crash.{LeftOf}
use Rattle.kb_world.specs.Moves.{CanMove}
use Rattle.kb_world.specs.Path.{Path, parent}
use Rattle.kb_world.specs.Public.{intent_path}
use Rattle.kb_world.specs.Roots.{is_below, share_root}
use Rattle.kb_world.specs.State.{State, Changes, Puts}
use Rattle.kb_world.specs.Tree.{Tree, node_at, with_node, without, edited, moved, is_dir, is_leaf, IsFormed, CanMake}
use Rattle.kb_world.specs.TreeLaws.{same_path, same_path-true, same_path-refl, with_node-here, with_node-apart, remove-here, remove-apart}
use Rattle.kb_world.specs.declared.roots.Roots.{Roots}
use Rattle.kb_world.specs.declared.tree.Node.{Node}
use Rattle.kb_world.specs.declared.tree.Node.TheVariants as nodes
use Rattle.kb_world.specs.declared.world.WorldError.{WorldError}
use Rattle.kb_world.specs.declared.world.WorldError.TheVariants.{Failed, NoMemory}
use Rattle.kb_world.proofs.CrashLaws.{adds_turns, turns_none, turns_wider}
use Rattle.kb_world.proofs.CallLaws.{cause_then, ran_none_then, unchanged_none}
use Rattle.kb_world.proofs.StepLaws.{parent-child, child-other}
use Rattle.kb_changes.specs.Valid.{new_intent_path}
use Rattle.kb_again.proofs.RootLaws.{same_last}
use Rattle.kb_walk.proofs.WalkLaws.{below_more}
use Rattle.kb_intent.specs.Journaling.{with_journal, is_begun_at, IsJournaling, PutsJournal}
use Rattle.kb_intent.specs.Staging.{LeftBut, ChangesBut}
use Rattle.kb_intent.proofs.ButLaws.{but_put, same_with}
use Rattle.kb_intent.proofs.StopLaws.{wanting_cause}

abbrev file_of : List ℕ → Node
file_of text = nodes.File text false

-- the two paths differ
two_paths : (roots : Roots) → intent_path roots ≡ new_intent_path roots → ⊥
two_paths roots same = let impossible : codes ".intent" ≡ codes ".intent.new" = same_last roots.dkms (codes ".intent") (codes ".intent.new") same in cc

-- ---- nothing was begun, for want of memory

pub puts_wanting : (roots : Roots) (text : List ℕ) (state : State) → PutsJournal roots text {T = Unit {0}} state state (Err NoMemory)
puts_wanting roots text state = record {
  done = tt;
  now = λ tree told. (tree, told, inl (λ q none. refl));
  soft = refl;
  moments = λ tree told. turns_none _ _ state.history state.history refl;
  ran_none = (unchanged_none state).ran_none;
  cause = wanting_cause state;
}

-- ---- what the two calls do

module _ (roots : Roots) (text : List ℕ) (begun path : Path) (begun_is : begun ≡ new_intent_path roots) (path_is : path ≡ intent_path roots) (old mid : State) where
  put_there : {T : Type 0} (result : Result T WorldError) → Puts begun text false old mid result → ChangesBut (is_begun_at roots) (with_node (new_intent_path roots) (file_of text)) old mid result
  put_there result p = but_put (new_intent_path roots) text false old mid result (subst (λ b. Puts b text false old mid result) begun_is p)

  pub puts_stopped : (error : WorldError) → Puts begun text false {T = Unit {0}} old mid (Err error) → PutsJournal roots text {T = Unit {0}} old mid (Err error)
  puts_stopped error p =
      let c = put_there {T = Unit {0}} (Err error) p in
      record {
        done = tt;
        now = λ tree told. let n = c.now tree told in (n.0, n.1, inl n.2);
        soft = c.soft;
        moments = λ tree told. adds_turns (LeftBut (is_begun_at roots) old.history.soft tree) _ old.history mid.history mid.history (c.moments tree told) (turns_none _ _ mid.history mid.history refl);
        ran_none = c.ran_none;
        cause = c.cause;
      }

  module _ (put : Puts begun text false {T = Unit {0}} old mid (Ok tt)) where
    p : ChangesBut (is_begun_at roots) (with_node (new_intent_path roots) (file_of text)) {T = Unit {0}} old mid (Ok tt)
    p = put_there {T = Unit {0}} (Ok tt) put

    abbrev begun_tree : Tree → Tree
    begun_tree tree = with_node (new_intent_path roots) (file_of text) tree

    mid_told : (tree : Tree) → old.tree ≡ Some tree → mid.tree ≡ Some (begun_tree tree)
    mid_told tree told = p.done ∙ ap (option_map (with_node (new_intent_path roots) (file_of text))) told

    -- it is moved, where it may be
    module _ (new : State) {T : Type 0} (result : Result T WorldError) (c : Changes (moved begun path) mid new result) where
      c_there : Changes (moved (new_intent_path roots) (intent_path roots)) mid new result
      c_there = subst (λ b. Changes (moved b (intent_path roots)) mid new result) begun_is (subst (λ t. Changes (moved begun t) mid new result) path_is c)

      abbrev move : Tree → Tree
      move tree = moved (new_intent_path roots) (intent_path roots) tree

      after : (tree : Tree) → old.tree ≡ Some tree → option_map move mid.tree ≡ Some (with_journal roots text tree)
      after tree told = ap (option_map move) (mid_told tree told)

      both : (o : Option Tree) → option_map move (option_map (with_node (new_intent_path roots) (file_of text)) o) ≡ option_map (with_journal roots text) o
      both None = refl
      both (Some tree) = refl

      on_ok : (r : Result T WorldError) → OnOk r (new.tree ≡ option_map move mid.tree) → OnOk r (new.tree ≡ option_map (with_journal roots text) old.tree)
      on_ok (Ok value) done = done ∙ ap (option_map move) p.done ∙ both old.tree
      on_ok (Err error) done = tt

      begun_now : (tree : Tree) → old.tree ≡ Some tree → new.tree ≡ mid.tree → IsJournaling roots text new.tree tree
      begun_now tree told same = (begun_tree tree, same ∙ mid_told tree told, inl (same_with (new_intent_path roots) (file_of text) tree))

      now : (tree : Tree) → old.tree ≡ Some tree → (r : Result T WorldError) → Changes move mid new r → IsJournaling roots text new.tree tree
      now tree told (Ok value) c = (with_journal roots text tree, c.done ∙ after tree told, inr refl)
      now tree told (Err Failed) c = elim (c.failed refl) [ inl same ↦ begun_now tree told same | inr done ↦ (with_journal roots text tree, done ∙ after tree told, inr refl) ]
      now tree told (Err NoMemory) c = begun_now tree told (c.no_memory refl)

      early : (tree : Tree) → old.tree ≡ Some tree → (image : Tree) → LeftOf mid.history.soft mid.tree image → LeftBut (is_begun_at roots) old.history.soft tree image
      early tree told image left = record {
        mid = begun_tree tree;
        same = same_with (new_intent_path roots) (file_of text) tree;
        left = subst (λ soft. IsLeft soft (begun_tree tree) image) p.soft (subst (λ o. LeftOf mid.history.soft o image) (mid_told tree told) left);
      }

      late : (tree : Tree) → old.tree ≡ Some tree → (image : Tree) → LeftOf mid.history.soft (option_map move mid.tree) image → IsLeft old.history.soft (with_journal roots text tree) image
      late tree told image left = subst (λ soft. IsLeft soft (with_journal roots text tree) image) p.soft (subst (λ o. LeftOf mid.history.soft o image) (after tree told) left)

      pub puts_moved : PutsJournal roots text old new result
      puts_moved = record {
        done = on_ok result c_there.done;
        now = λ tree told. now tree told result c_there;
        soft = c_there.soft ∙ p.soft;
        moments = λ tree told. adds_turns (LeftBut (is_begun_at roots) old.history.soft tree) (IsLeft old.history.soft (with_journal roots text tree)) old.history mid.history new.history (p.moments tree told)
            (turns_wider _ _ (LeftBut (is_begun_at roots) old.history.soft tree) (IsLeft old.history.soft (with_journal roots text tree)) mid.history new.history (early tree told) (late tree told) c_there.moments);
        ran_none = ran_none_then old mid new p.ran_none c_there.ran_none;
        cause = cause_then Failed old mid new (Ok tt) result p.ran_none.lasts.told p.cause c_there.cause;
      }

-- ---- what the two calls ask for

module _ (roots : Roots) (tree : Tree) (home : is_dir (node_at tree roots.dkms) ≡ true) (bare : node_at tree (intent_path roots) ≡ None) (free : node_at tree (new_intent_path roots) ≡ None) where
  pub can_begin : (begun : Path) → begun ≡ new_intent_path roots → CanMake tree begun
  can_begin begun is = subst (CanMake tree) (sym is) (record { free = free; in_directory = ap (λ d. is_dir (node_at tree d)) (parent-child roots.dkms (codes ".intent.new")) ∙ home })

  -- once it is begun
  module _ (text : List ℕ) where
    abbrev begun_tree_of : Tree
    begun_tree_of = with_node (new_intent_path roots) (file_of text) tree

    at_begun : node_at begun_tree_of (new_intent_path roots) ≡ Some (file_of text)
    at_begun = with_node-here tree (new_intent_path roots) (file_of text)

    at_other : (q : Path) → (q ≡ new_intent_path roots → ⊥) → node_at begun_tree_of q ≡ node_at tree q
    at_other q other = with_node-apart tree (new_intent_path roots) (file_of text) q other

    home_other : roots.dkms ≡ new_intent_path roots → ⊥
    home_other same = child-other roots.dkms (codes ".intent.new") (sym same)

    one_root : share_root roots (new_intent_path roots) (intent_path roots) ≡ true
    one_root =
        or_right (is_below (new_intent_path roots) roots.boot && is_below (intent_path roots) roots.boot) _
        (or_left (is_below (new_intent_path roots) roots.dkms && is_below (intent_path roots) roots.dkms) _
        (both_true (below_more roots.dkms (codes ".intent.new") []) (below_more roots.dkms (codes ".intent") [])))

    pub can_move : CanMove roots begun_tree_of (new_intent_path roots) (intent_path roots)
    can_move = record {
      source = ap is_leaf at_begun;
      no_directory = ap (λ at. not (is_dir at)) (at_other (intent_path roots) (two_paths roots) ∙ bare);
      in_directory = ap (λ d. is_dir (node_at begun_tree_of d)) (parent-child roots.dkms (codes ".intent")) ∙ ap is_dir (at_other roots.dkms home_other) ∙ home;
      in_one_root = one_root;
    }

    -- ---- the tree with the journal

    abbrev journaled : Tree
    journaled = with_journal roots text tree

    abbrev gone : Tree
    gone = without (new_intent_path roots) begun_tree_of

    journaled_is : journaled ≡ with_node (intent_path roots) (file_of text) gone
    journaled_is = ap (λ at. edited (intent_path roots) at gone) at_begun

    pub journal_here : node_at journaled (intent_path roots) ≡ Some (file_of text)
    journal_here = ap (λ t. node_at t (intent_path roots)) journaled_is ∙ with_node-here gone (intent_path roots) (file_of text)

    pub journal_apart : (q : Path) → (q ≡ intent_path roots → ⊥) → node_at journaled q ≡ node_at tree q
    journal_apart q other = ap (λ t. node_at t q) journaled_is ∙ with_node-apart gone (intent_path roots) (file_of text) q other ∙ by (same_path q (new_intent_path roots)) refl
      where
        by : (b : Bool) → same_path q (new_intent_path roots) ≡ b → node_at gone q ≡ node_at tree q
        by true e =
            let here : q ≡ new_intent_path roots = same_path-true q (new_intent_path roots) e in
            ap (node_at gone) here ∙ remove-here begun_tree_of (new_intent_path roots) ∙ sym (ap (node_at tree) here ∙ free)
        by false e =
            let apart : q ≡ new_intent_path roots → ⊥ = λ same. true≢false (sym (same_path-refl q) ∙ ap (same_path q) same ∙ e) in
            remove-apart begun_tree_of (new_intent_path roots) q apart ∙ at_other q apart

    pub journal_dirs : (q : Path) → is_dir (node_at journaled q) ≡ is_dir (node_at tree q)
    journal_dirs q = by (same_path q (intent_path roots)) refl
      where
        by : (b : Bool) → same_path q (intent_path roots) ≡ b → is_dir (node_at journaled q) ≡ is_dir (node_at tree q)
        by true e =
            let here : q ≡ intent_path roots = same_path-true q (intent_path roots) e in
            ap (λ p. is_dir (node_at journaled p)) here ∙ ap is_dir journal_here ∙ sym (ap (λ p. is_dir (node_at tree p)) here ∙ ap is_dir bare)
        by false e = ap is_dir (journal_apart q (λ same. true≢false (sym (same_path-refl q) ∙ ap (same_path q) same ∙ e)))

    pub journal_formed : IsFormed tree → IsFormed journaled
    journal_formed formed q stands = by (same_path q (intent_path roots)) refl
      where
        by : (b : Bool) → same_path q (intent_path roots) ≡ b → is_dir (node_at journaled (parent q)) ≡ true
        by true e =
            ap (λ p. is_dir (node_at journaled (parent p))) (same_path-true q (intent_path roots) e) ∙ ap (λ p. is_dir (node_at journaled p)) (parent-child roots.dkms (codes ".intent")) ∙ journal_dirs roots.dkms ∙ home
        by false e =
            journal_dirs (parent q) ∙ formed q (ap is_some (sym (journal_apart q (λ same. true≢false (sym (same_path-refl q) ∙ ap (same_path q) same ∙ e)))) ∙ stands)
