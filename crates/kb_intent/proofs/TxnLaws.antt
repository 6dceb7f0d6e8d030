-- A transaction is begun, and nodes are staged for it.
use Rattle.std.proofs.Common.{◌≡◌, ◌⊎◌, ℕ, zero, suc, ◌+◌, ◌^◌, ◌<◌, ◌≤◌, Bool, true, false, cond, not, ◌&&◌, List, [], ◌∷◌, ◌++◌, length, Option, Some, None, is_some, Result, Ok, Err, refl, sym, ap, ◌∙◌, subst, inl, inr, arith, length-append, codes}
use Rattle.std.specs.Prelude.{option_map}
use Rattle.std.specs.List.{list_any, slice_get}
use Rattle.std.specs.Cmp.Derive.{both_true}
use Rattle.std.specs.Fmt.{decimal}
use Rattle.std.specs.Option.{ForSome}
use Rattle.kb_world.specs.Patch.{all_wiped}
use Rattle.kb_world.specs.Path.{Path, parent, is_under}
use Rattle.kb_world.specs.Public.{staging_path}
use Rattle.kb_world.specs.Roots.{AreApart}
use Rattle.kb_world.specs.State.{State}
use Rattle.kb_world.specs.Stop.{stop_for}
use Rattle.kb_world.specs.Tree.{Tree, node_at, with_node, is_dir, is_leaf, CanMake}
use Rattle.kb_world.specs.TreeLaws.{with_node-here, with_node-apart}
use Rattle.kb_world.specs.declared.job.Job.{Job}
use Rattle.kb_world.specs.declared.stop.Stop.{Stop}
use Rattle.kb_world.specs.declared.stop.Stop.TheVariants as stops
use Rattle.kb_world.specs.declared.tree.Node.{Node}
use Rattle.kb_world.specs.declared.tree.Node.TheVariants as nodes
use Rattle.kb_world.specs.declared.world.WorldError.{WorldError}
use Rattle.kb_world.proofs.PatchLaws.{all_wiped-at}
use Rattle.kb_world.proofs.PathLaws.{elsewhere, under-self}
use Rattle.kb_world.proofs.StepLaws.{parent-child, child-other}
use Rattle.kb_changes.specs.Change.{root_path, staged_path}
use Rattle.kb_changes.specs.Changes.{Staged, staged_below}
use Rattle.kb_changes.specs.Counts.{count_below, none_counted}
use Rattle.kb_changes.specs.declared.change.RootName.{RootName}
use Rattle.kb_changes.specs.declared.change.RootName.TheVariants as root_name
use Rattle.kb_changes.proofs.PathsLaws.{none_counted_below}
use Rattle.kb_again.proofs.RootLaws.{same_last}
use Rattle.std.proofs.lemmas.Bool.{or_left}
use Rattle.kb_machine.specs.Aside.{WorksAside}
use Rattle.kb_intent.specs.Doing.{made_dir_at}
use Rattle.kb_intent.specs.Staging.{ChangesBut, put_inside}
use Rattle.kb_intent.specs.Txn.{HoldsBelow, AreStagedFor, IsNewTransaction, IsCleared, BeginsTransaction, Stages, with_staged, none_staged, with_count, left_places}
use Rattle.kb_intent.specs.declared.txn.Txn.{Txn}
use Rattle.kb_intent.proofs.ButLaws.{same_wider, same_with, same_made, under_parent, aside_but, stays_done, stays_stopped, stays_wanting}
use Rattle.kb_intent.proofs.DecimalLaws.{decimal_alone}
use Rattle.kb_intent.proofs.PlaceLaws.{left_aside, staging_left, staging_aside, apart_two, IsOther, by_root, staged_under}

-- ---- it is begun

pub begins_wanting : (job : Job) (state : State) → BeginsTransaction job state state (Err stops.NoMemory)
begins_wanting job state = record { begun = tt; cleared = λ tree told. tt; aside = stays_wanting job.host.roots state }

none_below : (root : RootName) → staged_below none_staged root ≡ []
none_below root_name.Dkms = refl
none_below root_name.Src = refl
none_below root_name.Modules = refl
none_below root_name.Boot = refl

-- what is taken away isn't there
module _ (txn : Txn) (apart : AreApart txn.roots) (empty : txn.staged ≡ none_counted) (tree : Tree) where
  abbrev wiped_tree : Tree
  wiped_tree = all_wiped (left_places txn.roots) tree

  gone : (q : Path) → list_any (is_under q) (left_places txn.roots) ≡ true → node_at wiped_tree q ≡ None
  gone q under = all_wiped-at (left_places txn.roots) tree q ∙ ap (λ b. cond b None (node_at tree q)) under

  bare_below : (root : RootName) → HoldsBelow txn.roots root [] wiped_tree
  bare_below root = record {
    held = λ number node e. let impossible : None ≡ Some node = e in absurd (cc);
    free = λ number more. gone (staged_path txn.roots root number) (staging_left txn.roots apart root (staged_path txn.roots root number) (staged_under txn.roots root number));
    directory = ap is_leaf (gone (staging_path (root_path txn.roots root)) (staging_left txn.roots apart root (staging_path (root_path txn.roots root)) (under-self (staging_path (root_path txn.roots root)))));
  }

  is_cleared : IsCleared txn tree wiped_tree
  is_cleared = record {
    staged = record {
      counts = λ root. ap (λ counts. count_below counts root) empty ∙ none_counted_below root ∙ sym (ap length (none_below root));
      held = λ root. subst (λ below. HoldsBelow txn.roots root below wiped_tree) (sym (none_below root)) (bare_below root);
    };
    unbegun = λ q under. gone q (or_left _ _ under);
    same = λ q none. all_wiped-at (left_places txn.roots) tree q ∙ ap (λ b. cond b None (node_at tree q)) none;
  }

module _ (job : Job) (txn : Txn) (begun : IsNewTransaction job txn) (apart : AreApart job.host.roots) (places : List Path) (are : places ≡ left_places txn.roots) (old new : State) where
  own_apart : AreApart txn.roots
  own_apart = subst AreApart (sym begun.roots) apart

  of_left : {T : Type 0} (result : Result T WorldError) → ChangesBut (λ q. list_any (is_under q) places) (all_wiped places) old new result
      → ChangesBut (λ q. list_any (is_under q) (left_places txn.roots)) (all_wiped (left_places txn.roots)) old new result
  of_left result c = subst (λ p. ChangesBut (λ q. list_any (is_under q) p) (all_wiped p) old new result) are c

  works : {T : Type 0} (result : Result T WorldError) → ChangesBut (λ q. list_any (is_under q) places) (all_wiped places) old new result → WorksAside job.host.roots old new
  works result c = subst (λ roots. WorksAside roots old new) begun.roots
      (aside_but txn.roots (λ q. list_any (is_under q) (left_places txn.roots)) (all_wiped (left_places txn.roots)) old new result (left_aside txn.roots own_apart) (of_left result c))

  pub begins_done : (u : Unit {0}) → ChangesBut (λ q. list_any (is_under q) places) (all_wiped places) {T = Unit {0}} old new (Ok u) → BeginsTransaction job old new (Ok txn)
  begins_done u c = record {
    begun = begun;
    cleared = λ tree told. (
      all_wiped (left_places txn.roots) tree,
      (of_left (Ok u) c).done ∙ ap (option_map (all_wiped (left_places txn.roots))) told,
      is_cleared txn own_apart begun.counts tree,
    );
    aside = stays_done job.host.roots old new u txn (works (Ok u) c) c.ran_none c.cause;
  }

  pub begins_stopped : (error : WorldError) (stop : Stop) → stop ≡ stop_for error → ChangesBut (λ q. list_any (is_under q) places) (all_wiped places) {T = Unit {0}} old new (Err error) → BeginsTransaction job old new (Err stop)
  begins_stopped error stop is c = record { begun = tt; cleared = λ tree told. tt; aside = stays_stopped job.host.roots old new error stop is (works {T = Unit {0}} (Err error) c) c.ran_none c.cause }

-- ---- a node is staged

pub stages_wanting : (base : RootName) (node : Node) (txn : Txn) (state : State) → Stages base node txn txn state state (Err stops.NoMemory)
stages_wanting base node txn state = record { number = tt; counted = tt; uncounted = refl; staged = λ tree told. tt; aside = stays_wanting txn.roots state }

-- the directory, once it is made
dir_no_leaf : (at : Option Node) → is_dir at ≡ true → is_leaf at ≡ false
dir_no_leaf None e = refl
dir_no_leaf (Some nodes.Dir) e = refl
dir_no_leaf (Some (nodes.File bytes exec)) e = let impossible : false ≡ true = e in absurd (cc)
dir_no_leaf (Some (nodes.Link text)) e = let impossible : false ≡ true = e in absurd (cc)

made_there : (dir : Path) (tree : Tree) → is_leaf (node_at tree dir) ≡ false → is_dir (node_at tree (parent dir)) ≡ true → is_dir (node_at (made_dir_at dir tree) dir) ≡ true
made_there dir tree no_leaf homed = by (node_at tree dir) refl (sym no_leaf)
  where
    at_test : (b : Bool) → (not (is_some (node_at tree dir)) && is_dir (node_at tree (parent dir))) ≡ b → node_at (made_dir_at dir tree) dir ≡ node_at (cond b (with_node dir nodes.Dir tree) tree) dir
    at_test b e = ap (λ t. node_at (cond t (with_node dir nodes.Dir tree) tree) dir) e

    by : (at : Option Node) → node_at tree dir ≡ at → false ≡ is_leaf (node_at tree dir) → is_dir (node_at (made_dir_at dir tree) dir) ≡ true
    by None e free = ap is_dir (at_test true (both_true (ap (λ a. not (is_some a)) e) homed) ∙ with_node-here tree dir nodes.Dir)
    by (Some nodes.Dir) e free = ap is_dir (at_test false (ap (λ a. not (is_some a) && is_dir (node_at tree (parent dir))) e) ∙ e)
    by (Some (nodes.File bytes exec)) e free = let impossible : false ≡ true = free ∙ ap is_leaf e in absurd (cc)
    by (Some (nodes.Link text)) e free = let impossible : false ≡ true = free ∙ ap is_leaf e in absurd (cc)

made_apart : (dir : Path) (tree : Tree) (q : Path) → (q ≡ dir → ⊥) → node_at (made_dir_at dir tree) q ≡ node_at tree q
made_apart dir tree q other = by (not (is_some (node_at tree dir)) && is_dir (node_at tree (parent dir)))
  where
    by : (b : Bool) → node_at (cond b (with_node dir nodes.Dir tree) tree) q ≡ node_at tree q
    by true = with_node-apart tree dir nodes.Dir q other
    by false = refl

-- one item more at the end
end_cases : (xs : List Node) (x : Node) (i : ℕ) (y : Node) → slice_get (xs ++ x ∷ []) i ≡ Some y → ((i < length xs) × (slice_get xs i ≡ Some y)) ⊎ ((i ≡ length xs) × (x ≡ y))
end_cases [] x zero y e = let same : x ≡ y = cc in inr (refl, same)
end_cases [] x (suc i) y e = let impossible : None ≡ Some y = e in absurd (cc)
end_cases (z ∷ xs) x zero y e = inl (omega arith, e)
end_cases (z ∷ xs) x (suc i) y e = elim (end_cases xs x i y e) [ inl before ↦ inl (omega (arith, before.0), before.1) | inr last ↦ inr (omega (arith, last.0), last.1) ]

module _ (txn : Txn) (root : RootName) (apart : AreApart txn.roots) (path : Path) (is : path ≡ staged_path txn.roots root (count_below txn.staged root)) (tree : Tree)
    (there : is_dir (node_at tree (root_path txn.roots root)) ≡ true) where
  abbrev dir : Path
  dir = staging_path (root_path txn.roots root)

  abbrev count : ℕ
  count = count_below txn.staged root

  in_dir : parent path ≡ dir
  in_dir = ap parent is ∙ parent-child dir (decimal count)

  not_dir : (number : ℕ) → staged_path txn.roots root number ≡ dir → ⊥
  not_dir number = child-other dir (decimal number)

  module _ (staged : Staged) (a : AreStagedFor txn staged tree) where
    made_dir : is_dir (node_at (made_dir_at dir tree) dir) ≡ true
    made_dir = made_there dir tree (a.held root).directory (ap (λ p. is_dir (node_at tree p)) (parent-child (root_path txn.roots root) (codes ".kb-staged")) ∙ there)

    pub can_stage : CanMake (made_dir_at (parent path) tree) path
    can_stage = record {
      free = ap (λ d. node_at (made_dir_at d tree) path) in_dir ∙ ap (node_at (made_dir_at dir tree)) is ∙ made_apart dir tree (staged_path txn.roots root count) (not_dir count)
          ∙ (a.held root).free count (omega (arith, a.counts root));
      in_directory = ap (λ d. is_dir (node_at (made_dir_at d tree) d)) in_dir ∙ made_dir;
    }

    module _ (room : count + 1 < 2 ^ 64) (node : Node) where
      abbrev now : Tree
      now = put_inside path node tree

      -- in the directory, but at the new path
      kept : (q : Path) → (q ≡ dir → ⊥) → (q ≡ path → ⊥) → node_at now q ≡ node_at tree q
      kept q no_dir no_path = with_node-apart (made_dir_at (parent path) tree) path node q no_path ∙ ap (λ d. node_at (made_dir_at d tree) q) in_dir ∙ made_apart dir tree q no_dir

      other_number : (number : ℕ) → (count ≡ number → ⊥) → staged_path txn.roots root number ≡ path → ⊥
      other_number number other same = other (decimal_alone count number (omega (arith, room)) (sym (same_last dir (decimal number) (decimal count) (same ∙ is))))

      own_below : HoldsBelow txn.roots root (staged_below staged root ++ node ∷ []) now
      own_below = record {
        held = λ number at e. elim (end_cases (staged_below staged root) node number at e) [
          | inl before ↦
              kept (staged_path txn.roots root number) (not_dir number) (other_number number (λ same. absurd (omega (arith, before.0, same, a.counts root)))) ∙ (a.held root).held number at before.1
          | inr last ↦
              ap (λ n. node_at now (staged_path txn.roots root n)) (last.0 ∙ sym (a.counts root)) ∙ ap (node_at now) (sym is) ∙ with_node-here (made_dir_at (parent path) tree) path node ∙ ap Some last.1
        ];
        free = λ number more.
            let longer : length (staged_below staged root) + 1 ≤ number = omega (arith, more, length-append (staged_below staged root) (node ∷ [])) in
            kept (staged_path txn.roots root number) (not_dir number) (other_number number (λ same. absurd (omega (arith, longer, same, a.counts root)))) ∙ (a.held root).free number (omega (arith, longer));
        directory =
            ap is_leaf (with_node-apart (made_dir_at (parent path) tree) path node dir (λ same. not_dir count (sym (same ∙ is))) ∙ ap (λ d. node_at (made_dir_at d tree) dir) in_dir)
            ∙ dir_no_leaf (node_at (made_dir_at dir tree) dir) made_dir;
      }

      frame : (q : Path) → is_under q dir ≡ false → node_at now q ≡ node_at tree q
      frame q none =
          same_wider (λ p. is_under p path) (λ p. is_under p (parent path)) (under_parent path) (made_dir_at (parent path) tree) now (same_with path node (made_dir_at (parent path) tree)) q none_up
          ∙ same_made (parent path) tree q none_up
        where
          none_up : is_under q (parent path) ≡ false
          none_up = ap (is_under q) in_dir ∙ none

      other_below : (other : RootName) → IsOther txn.roots root other node staged txn.staged → HoldsBelow txn.roots other (staged_below staged other) now
      other_below other o =
          let far : (q : Path) → is_under q (staging_path (root_path txn.roots other)) ≡ true → node_at now q ≡ node_at tree q =
          λ q under. frame q (elsewhere q (staging_path (root_path txn.roots other)) dir (apart_two (root_path txn.roots other) (root_path txn.roots root) (codes ".kb-staged") (codes ".kb-staged") o.apart) under) in
          record {
            held = λ number at e. far (staged_path txn.roots other number) (staged_under txn.roots other number) ∙ (a.held other).held number at e;
            free = λ number more. far (staged_path txn.roots other number) (staged_under txn.roots other number) ∙ (a.held other).free number more;
            directory = ap is_leaf (far (staging_path (root_path txn.roots other)) (under-self (staging_path (root_path txn.roots other)))) ∙ (a.held other).directory;
          }

      pub staged_more : AreStagedFor (with_count root txn) (with_staged root node staged) now
      staged_more = record {
        counts = λ other. elim (by_root txn.roots apart node staged txn.staged root other) [
          | inl own ↦ own.count ∙ ap (λ n. n + 1) (a.counts other) ∙ sym (ap length own.nodes ∙ length-append (staged_below staged other) (node ∷ []))
          | inr o ↦ o.count ∙ a.counts other ∙ sym (ap length o.nodes)
        ];
        held = λ other. elim (by_root txn.roots apart node staged txn.staged root other) [
          | inl own ↦
              subst (λ below. HoldsBelow txn.roots other below now) (sym own.nodes) (subst (λ r. HoldsBelow txn.roots r (staged_below staged r ++ node ∷ []) now) (sym own.same) own_below)
          | inr o ↦ subst (λ below. HoldsBelow txn.roots other below now) (sym o.nodes) (other_below other o)
        ];
      }

module _ (txn : Txn) (root : RootName) (node : Node) (apart : AreApart txn.roots) (path : Path) (is : path ≡ staged_path txn.roots root (count_below txn.staged root)) (old new : State)
    (there : ForSome old.tree (λ tree. is_dir (node_at tree (root_path txn.roots root)) ≡ true)) where
  beside : {T : Type 0} (result : Result T WorldError) → ChangesBut (λ q. is_under q (parent path)) (put_inside path node) old new result → WorksAside txn.roots old new
  beside result c =
      aside_but txn.roots (λ q. is_under q (parent path)) (put_inside path node) old new result
      (λ q under. staging_aside txn.roots apart root q (ap (is_under q) (sym (ap parent is ∙ parent-child (staging_path (root_path txn.roots root)) (decimal (count_below txn.staged root)))) ∙ under)) c

  pub stages_done : (after : Txn) (u : Unit {0}) → count_below txn.staged root + 1 < 2 ^ 64 → after ≡ with_count root txn → ChangesBut (λ q. is_under q (parent path)) (put_inside path node) {T = Unit {0}} old new (Ok u)
      → Stages root node txn after old new (Ok (count_below txn.staged root))
  stages_done after u room counted c = record {
    number = refl;
    counted = counted;
    uncounted = tt;
    staged = λ tree told. (
      put_inside path node tree,
      c.done ∙ ap (option_map (put_inside path node)) told,
      record {
        staged = λ staged a. staged_more txn root apart path is tree (there tree told) staged a room node;
        same = λ q none.
            let up : is_under q (parent path) ≡ false = ap (is_under q) (ap parent is ∙ parent-child (staging_path (root_path txn.roots root)) (decimal (count_below txn.staged root))) ∙ none in
            same_wider (λ p. is_under p path) (λ p. is_under p (parent path)) (under_parent path) (made_dir_at (parent path) tree) (put_inside path node tree) (same_with path node (made_dir_at (parent path) tree)) q up
            ∙ same_made (parent path) tree q up;
      },
    );
    aside = stays_done txn.roots old new u (count_below txn.staged root) (beside (Ok u) c) c.ran_none c.cause;
  }

  pub stages_stopped : (error : WorldError) (stop : Stop) → stop ≡ stop_for error → ChangesBut (λ q. is_under q (parent path)) (put_inside path node) {T = Unit {0}} old new (Err error)
      → Stages root node txn txn old new (Err stop)
  stages_stopped error stop stopped c = record {
    number = tt;
    counted = tt;
    uncounted = refl;
    staged = λ tree told. tt;
    aside = stays_stopped txn.roots old new error stop stopped (beside {T = Unit {0}} (Err error) c) c.ran_none c.cause;
  }
