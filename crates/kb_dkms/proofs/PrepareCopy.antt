-- The transaction of an add that copies a directory is put together aside from all that counts.
use Rattle.std.proofs.Common.{◌≡◌, ℕ, true, false, List, [], ◌∷◌, ◌++◌, Option, Some, None, refl, sym, ap, ◌∙◌, subst}
use Rattle.std.proofs.lemmas.List.Elements.{All-from_recursion}
use Rattle.std.specs.Prelude.{Result, Ok, Err, codes}
use Rattle.std.specs.List.{All, AllByRecursion}
use Rattle.std.specs.Option.{ForSome, option_map}
use Rattle.kb_world.specs.Layout.{whole_tree}
use Rattle.kb_world.specs.Patch.{Patch}
use Rattle.kb_world.specs.Path.{Path, is_under}
use Rattle.kb_world.specs.Public.{is_private, staging_path}
use Rattle.kb_world.specs.Roots.{AreApart}
use Rattle.kb_world.specs.State.{State}
use Rattle.kb_world.specs.Steps.{add_tree_patch}
use Rattle.kb_world.specs.Store.{source_text}
use Rattle.kb_world.specs.Tree.{Tree, node_at, kind_of, is_dir}
use Rattle.kb_world.specs.declared.child.Request.{Request}
use Rattle.kb_world.specs.declared.job.Job.{Job}
use Rattle.kb_world.specs.declared.job.Key.{Key}
use Rattle.kb_world.specs.declared.refusal.Refusal.{Refusal}
use Rattle.kb_world.specs.declared.refusal.Refusal.TheVariants as refusal
use Rattle.kb_world.specs.declared.roots.Roots.{Roots}
use Rattle.kb_world.specs.declared.stop.Stop.{Stop}
use Rattle.kb_world.specs.declared.stop.Stop.TheVariants.{NoMemory}
use Rattle.kb_world.specs.declared.tree.Node.{Node}
use Rattle.kb_world.specs.declared.tree.Node.TheVariants as node
use Rattle.kb_world.proofs.AboveLaws.{all-map, all-all, AreAll}
use Rattle.kb_world.proofs.LayoutLaws.{whole_at}
use Rattle.kb_world.proofs.PathLaws.{under-self, under-beside, elsewhere}
use Rattle.kb_world.proofs.PublicLaws.{written_apart}
use Rattle.kb_walk.specs.Walking.{LIMITS, met_at, walked}
use Rattle.kb_walk.specs.declared.walking.Met.{Met}
use Rattle.kb_walk.specs.declared.walking.Walk.{Walk}
use Rattle.kb_walk.proofs.WholeLaws.{walked_whole}
use Rattle.kb_changes.specs.Changes.{Staged, nodes_of, HasStaged}
use Rattle.kb_changes.specs.PatchPaths.{ArePathsOf}
use Rattle.kb_changes.specs.Valid.{new_intent_path}
use Rattle.kb_changes.specs.declared.change.RootName.TheVariants as root_name
use Rattle.kb_changes.specs.declared.patch_paths.PatchPaths.{PatchPaths}
use Rattle.kb_changes.proofs.TreePatch.{copied_paths}
use Rattle.kb_again.proofs.RootLaws.{at_0}
use Rattle.kb_machine.specs.Aside.{is_aside, IsSameBut}
use Rattle.kb_machine.proofs.FitLaws.{root_aside}
use Rattle.kb_intent.specs.Txn.{StaysAside, BeginsTransaction, Stages, IsStagedFor, AreStagedFor, none_staged, with_staged}
use Rattle.kb_intent.specs.declared.txn.Txn.{Txn}
use Rattle.kb_intent.proofs.PlaceLaws.{apart_two}
use Rattle.kb_dkms.specs.Commit.{changes_with, Prepares}
use Rattle.kb_dkms.specs.Copying.{IsAllMet, StandsAsMet, nodes_met, with_sources, StagesSources, StagesMet, paths_copied}
use Rattle.kb_dkms.specs.Places.{package_places}
use Rattle.kb_dkms.specs.declared.places.Places.{Places}
use Rattle.kb_dkms.proofs.PrepareLaws.{ToldBefore, before_aside, stays_then, stays_as, stays_stop}
use Rattle.kb_dkms.proofs.StageLaws.{nodes_agree, own_aside, src_kept}
use Rattle.kb_dkms.proofs.TreeLaws.{met_is, met_open, tree_dirs, tree_targets, tree_nodes}

abbrev right : {T : Type 0} → T → Result T Stop
right value = Ok value

abbrev stopped : {T : Type 0} → Stop → Result T Stop
stopped stop = Err stop

some_same : (x y : Tree) → Some x ≡ Some y → x ≡ y
some_same x y e = cc

-- ---- a transaction without changes yet

-- these nodes are staged for it in the tree that is told now, and no journal is begun
pub record HoldsNow (roots : Roots) (staged : Staged) (txn : Txn) (new : Option Tree) : Type 0 where
  pub now : Tree
  pub told : new ≡ Some now
  pub held : AreStagedFor txn staged now
  pub unbegun : node_at now (new_intent_path roots) ≡ None

pub record IsUnderWay (roots : Roots) (staged : Tree → Staged) (old new : State) (txn : Txn) : Type 0 where
  pub roots_are : txn.roots ≡ roots
  pub unchanged : txn.intent.changes ≡ []
  pub holds : ForSome old.tree (λ tree. HoldsNow roots (staged tree) txn new.tree)
  pub aside : StaysAside roots old new (right txn)

pub begun_under_way : (job : Job) (old new : State) (txn : Txn) → BeginsTransaction job old new (Ok txn) → IsUnderWay job.host.roots (λ tree. none_staged) old new txn
begun_under_way job old new txn b = record {
  roots_are = b.begun.roots;
  unchanged = b.begun.changes;
  holds = λ tree told.
      let cleared = b.cleared tree told in
      record {
        now = cleared.0;
        told = cleared.1;
        held = cleared.2.staged;
        unbegun = ap (λ (r : Roots). node_at cleared.0 (new_intent_path r)) (sym b.begun.roots) ∙ cleared.2.unbegun (new_intent_path txn.roots) (under-self (new_intent_path txn.roots));
      };
  aside = b.aside;
}

-- what is staged for it isn't where a journal is begun
begun_elsewhere : (roots : Roots) → AreApart roots → is_under (new_intent_path roots) (staging_path roots.src) ≡ false
begun_elsewhere roots apart =
    elsewhere (new_intent_path roots) (new_intent_path roots) (staging_path roots.src) (apart_two roots.dkms roots.src (codes ".intent.new") (codes ".kb-staged") (written_apart roots apart).dkms_src)
    (under-self (new_intent_path roots))

module _ (roots : Roots) (staged : Tree → Staged) (old mid : State) (txn : Txn) (w : IsUnderWay roots staged old mid txn) where
  was : (now : Tree) → mid.tree ≡ Some now → ToldBefore roots old now
  was now told = before_aside roots old mid now told w.aside.ran_none.lasts.told w.aside.aside

  -- the tree that is told then, which is the same but for what is aside
  same_now : (tree : Tree) (told : old.tree ≡ Some tree) → IsSameBut (is_aside roots) tree (w.holds tree told).now
  same_now tree told =
      let changed = w.aside.aside.tree tree told in
      subst (IsSameBut (is_aside roots) tree) (some_same changed.0 (w.holds tree told).now (sym changed.1 ∙ (w.holds tree told).told)) changed.2

  -- a root is still there
  pub still_dir : (root : Roots → Path) → is_aside roots (root roots) ≡ false → ForSome old.tree (λ tree. is_dir (node_at tree (root roots)) ≡ true) → ForSome mid.tree (λ tree. is_dir (node_at tree (root txn.roots)) ≡ true)
  still_dir root kept there now told =
      ap (λ (r : Roots). is_dir (node_at now (root r))) w.roots_are ∙ ap is_dir ((was now told).same (root roots) kept) ∙ there (was now told).tree (was now told).told

  pub still_held : ForSome mid.tree (IsStagedFor txn)
  still_held now told =
      let h = w.holds (was now told).tree (was now told).told in
      (staged (was now told).tree, subst (AreStagedFor txn (staged (was now told).tree)) (some_same h.now now (sym h.told ∙ told)) h.held)

  module _ (apart : AreApart roots) (after : Txn) (new : State) where
    pub sources_under_way : (nodes : Tree → List Node) (count : ℕ) (u : Unit {0}) → StagesSources nodes count txn after mid new (right u)
        → ((tree now : Tree) → old.tree ≡ Some tree → IsSameBut (is_aside roots) tree now → nodes now ≡ nodes tree) → IsUnderWay roots (λ tree. with_sources (nodes tree) (staged tree)) old new after
    sources_under_way nodes count u s kept = record {
      roots_are = s.roots ∙ w.roots_are;
      unchanged = ap (λ (t : Txn). t.intent.changes) s.counted ∙ w.unchanged;
      holds = λ tree told.
          let h = w.holds tree told in
          let next = s.staged h.now h.told in
          record {
            now = next.0;
            told = next.1;
            held = subst (λ ns. AreStagedFor after (with_sources ns (staged tree)) next.0) (kept tree h.now told (same_now tree told)) (next.2.staged (staged tree) h.held);
            unbegun = next.2.same (new_intent_path roots) (ap (λ (r : Roots). is_under (new_intent_path roots) (staging_path r.src)) w.roots_are ∙ begun_elsewhere roots apart) ∙ h.unbegun;
          };
      aside = stays_as roots old new u (right after) (λ why failed. let impossible : right after ≡ stopped why = failed in cc)
          (stays_then roots old mid new (right txn) (right u) w.aside (subst (λ r. StaysAside r mid new (right u)) w.roots_are s.aside));
    }

    pub link_under_way : (at : Node) (number : ℕ) → Stages root_name.Dkms at txn after mid new (Ok number) → IsUnderWay roots (λ tree. with_staged root_name.Dkms at (staged tree)) old new after
    link_under_way at number s = record {
      roots_are = ap (λ (t : Txn). t.roots) s.counted ∙ w.roots_are;
      unchanged = ap (λ (t : Txn). t.intent.changes) s.counted ∙ w.unchanged;
      holds = λ tree told.
          let h = w.holds tree told in
          let next = s.staged h.now h.told in
          record {
            now = next.0;
            told = next.1;
            held = subst (λ (t : Txn). AreStagedFor t (with_staged root_name.Dkms at (staged tree)) next.0) (sym s.counted) (next.2.staged (staged tree) h.held);
            unbegun = next.2.same (new_intent_path roots) (ap (λ (r : Roots). is_under (new_intent_path roots) (staging_path r.dkms)) w.roots_are ∙ under-beside roots.dkms (codes ".intent.new" ∷ []) (codes ".kb-staged" ∷ []))
                ∙ h.unbegun;
          };
      aside = stays_as roots old new number (right after) (λ why failed. let impossible : right after ≡ stopped why = failed in cc)
          (stays_then roots old mid new (right txn) (right number) w.aside (subst (λ r. StaysAside r mid new (right number)) w.roots_are s.aside));
    }

  -- ---- it stopped, or has its changes

  module _ (patch : Tree → Patch) (request : Option Request) where
    -- a call that stayed aside stopped
    pub stopped_under_way : {A : Type 0} (new : State) (stop : Stop) → StaysAside txn.roots mid new (stopped {T = A} stop) → Prepares roots patch request old new (Err stop)
    stopped_under_way {A = A} new stop s = record {
      roots_are = tt;
      prepared = λ tree told. tt;
      aside = stays_stop {A = A} roots old new stop (stays_then roots old mid new (right txn) (stopped {T = A} stop) w.aside (subst (λ r. StaysAside r mid new (stopped {T = A} stop)) w.roots_are s));
    }

    pub wanting_under_way : Prepares roots patch request old mid (Err NoMemory)
    wanting_under_way = record {
      roots_are = tt;
      prepared = λ tree told. tt;
      aside = stays_as roots old mid txn (stopped {T = Txn} NoMemory) (λ why failed. let same : NoMemory ≡ why = cc in sym same) w.aside;
    }

    pub prepared_under_way : ForSome old.tree (λ tree. staged tree ≡ nodes_of roots (patch tree)) → (done : Txn) → done.roots ≡ txn.roots
        → ForSome old.tree (λ tree. done.intent.changes ≡ txn.intent.changes ++ changes_with txn.roots (patch tree) request) → Prepares roots patch request old mid (Ok done)
    prepared_under_way all done same changes = record {
      roots_are = same ∙ w.roots_are;
      prepared = λ tree told.
          let h = w.holds tree told in
          record {
            now = h.now;
            told = h.told;
            changes = changes tree told ∙ (λ i. w.unchanged i ++ changes_with (w.roots_are i) (patch tree) request);
            staged = subst (λ nodes. HasStaged roots nodes h.now) (all tree told) (subst (λ r. HasStaged r (staged tree) h.now) w.roots_are (λ root number at got. (h.held.held root).held number at got));
            unbegun = h.unbegun;
          };
      aside = stays_as roots old mid txn (right done) (λ why failed. let impossible : right done ≡ stopped why = failed in cc) w.aside;
    }

-- ---- all that was met below a directory

no_first : {A : Type 0} (f : A → Refusal) (o : Option A) → option_map f o ≡ None → o ≡ None
no_first f None e = refl
no_first f (Some x) e = let impossible : Some (f x) ≡ None = e in cc

module _ (roots : Roots) (from : Path) (tree : Tree) (met : List Met) (all : IsAllMet from (whole_tree roots tree) met) where
  abbrev whole : Tree
  whole = whole_tree roots tree

  same_walk : walked LIMITS tree (is_private roots) from ≡ walked LIMITS (whole_tree roots tree) (λ path. false) from
  same_walk = walked_whole roots LIMITS tree from

  pub walk_all_met : (walked LIMITS tree (is_private roots) from).over ≡ None
  walk_all_met = ap (λ (w : Walk). w.over) same_walk ∙ no_first refusal.TooMany _ all.all

  met_are : met ≡ (walked LIMITS tree (is_private roots) from).met
  met_are = all.is ∙ ap (λ (w : Walk). w.met) (sym same_walk)

  own : AllByRecursion (λ (e : Met). is_private roots e.path ≡ false) met
  own = subst (AllByRecursion (λ (e : Met). is_private roots e.path ≡ false)) (sym met_are) (met_open roots tree from walk_all_met)

  kinds : AllByRecursion (λ (e : Met). e.kind ≡ kind_of (node_at whole e.path)) met
  kinds = subst (AllByRecursion (λ (e : Met). e.kind ≡ kind_of (node_at whole e.path))) (sym (met_are ∙ met_is roots tree from walk_all_met))
      (all-map (λ (e : Met). e.kind ≡ kind_of (node_at whole e.path)) (met_at whole) (copied_paths from whole) (all-all (λ path. kind_of (node_at whole path) ≡ kind_of (node_at whole path)) (λ path. refl) (copied_paths from whole)))

  stand_now : (now : Tree) → IsSameBut (is_aside roots) tree now → All (StandsAsMet roots now) met
  stand_now now same k d within =
      let kind = All-from_recursion (λ (e : Met). e.kind ≡ kind_of (node_at whole e.path)) met kinds k d within in
      let open_path = All-from_recursion (λ (e : Met). is_private roots e.path ≡ false) met own k d within in
      record {
        kind = kind ∙ ap kind_of (whole_at roots tree _ open_path ∙ sym (same _ (own_aside roots _ open_path)));
        own = open_path;
      }

  nodes_kept : (now : Tree) → IsSameBut (is_aside roots) tree now → nodes_met met now ≡ nodes_met met tree
  nodes_kept now same =
      nodes_agree now tree met (AreAll (λ (e : Met). is_private roots e.path ≡ false) (λ (e : Met). node_at now e.path ≡ node_at tree e.path) (λ e open_path. same e.path (own_aside roots e.path open_path)) met own)

  module _ (apart : AreApart roots) (key : Key) where
    -- what is staged is what the patch puts
    copied_nodes : with_staged root_name.Dkms (node.Link (source_text roots key)) (with_sources (nodes_met met tree) none_staged) ≡ nodes_of roots (add_tree_patch roots key from (whole_tree roots tree))
    copied_nodes =
        (λ i. record { dkms = node.Link (source_text roots key) ∷ []; src = in_whole i; «modules» = []; boot = [] }) ∙ sym (tree_nodes roots tree from walk_all_met key apart)
      where
        in_whole : nodes_met met tree ≡ nodes_met (walked LIMITS tree (is_private roots) from).met whole
        in_whole =
            nodes_agree tree whole met (AreAll (λ (e : Met). is_private roots e.path ≡ false) (λ (e : Met). node_at tree e.path ≡ node_at whole e.path) (λ e open_path. sym (whole_at roots tree e.path open_path)) met own)
            ∙ ap (λ m. nodes_met m whole) met_are

    -- and its paths are those that the code has
    pub copy_paths_are : (places : Places) → places ≡ package_places roots key → (paths : PatchPaths) → paths ≡ paths_copied places from met → ArePathsOf (add_tree_patch roots key from (whole_tree roots tree)) paths
    copy_paths_are places are paths is = record {
      drops = ap (λ (p : PatchPaths). p.drops) is;
      wipes = ap (λ (p : PatchPaths). p.wipes) is;
      dirs = ap (λ (p : PatchPaths). p.dirs) same ∙ sym (tree_dirs roots tree from walk_all_met key);
      puts = ap (λ (p : PatchPaths). p.puts) same ∙ sym (tree_targets roots tree from walk_all_met key);
    }
      where
        same : paths ≡ paths_copied (package_places roots key) from (walked LIMITS tree (is_private roots) from).met
        same = is ∙ (λ i. paths_copied (are i) from (met_are i))

-- ---- its transaction

module _ (job : Job) (apart : AreApart job.host.roots) (key : Key) (from : Path) (met : List Met) (old mid : State) (all : ForSome old.tree (λ tree. IsAllMet from (whole_tree job.host.roots tree) met))
    (begun : Txn) (b : BeginsTransaction job old mid (Ok begun)) where
  abbrev roots : Roots
  roots = job.host.roots

  abbrev patch : Tree → Patch
  patch tree = add_tree_patch roots key from (whole_tree roots tree)

  first : IsUnderWay roots (λ tree. none_staged) old mid begun
  first = begun_under_way job old mid begun b

  pub begun_src : ForSome old.tree (λ tree. is_dir (node_at tree roots.src) ≡ true) → ForSome mid.tree (λ tree. is_dir (node_at tree begun.roots.src) ≡ true)
  begun_src = still_dir roots (λ tree. none_staged) old mid begun first (λ (r : Roots). r.src) (src_kept roots apart)

  pub begun_held : ForSome mid.tree (IsStagedFor begun)
  begun_held = still_held roots (λ tree. none_staged) old mid begun first

  pub begun_met : ForSome mid.tree (λ tree. All (StandsAsMet begun.roots tree) met)
  begun_met now told =
      let before = was roots (λ tree. none_staged) old mid begun first now told in
      subst (λ r. All (StandsAsMet r now) met) (sym b.begun.roots) (stand_now roots from before.tree met (all before.tree before.told) now before.same)

  module _ (request : Option Request) where
    pub copy_unstaged : (after : Txn) (new : State) (stop : Stop) → StagesMet met begun after {T = Unit {0}} mid new (Err stop) → Prepares roots patch request old new (Err stop)
    copy_unstaged after new stop s = stopped_under_way roots (λ tree. none_staged) old mid begun first patch request {A = Unit {0}} new stop s.aside

  module _ (copied : Txn) (next : State) (u : Unit {0}) (s : StagesMet met begun copied mid next (right u)) where
    abbrev copies : Tree → Staged
    copies tree = with_sources (nodes_met met tree) none_staged

    second : IsUnderWay roots copies old next copied
    second = sources_under_way roots (λ tree. none_staged) old mid begun first apart copied next (nodes_met met) _ u s (λ tree now told same. nodes_kept roots from tree met (all tree told) now same)

    pub copied_dkms : ForSome old.tree (λ tree. is_dir (node_at tree roots.dkms) ≡ true) → ForSome next.tree (λ tree. is_dir (node_at tree copied.roots.dkms) ≡ true)
    copied_dkms = still_dir roots copies old next copied second (λ (r : Roots). r.dkms) (root_aside roots apart roots.dkms (at_0 roots.dkms (roots.src ∷ roots.modules ∷ roots.boot ∷ [])))

    pub copied_held : ForSome next.tree (IsStagedFor copied)
    copied_held = still_held roots copies old next copied second

    module _ (request : Option Request) where
      pub link_unstaged : (after : Txn) (new : State) (stop : Stop) (at : Node) → Stages root_name.Dkms at copied after next new (Err stop) → Prepares roots patch request old new (Err stop)
      link_unstaged after new stop at l = stopped_under_way roots copies old next copied second patch request {A = ℕ} new stop l.aside

      module _ (linked : Txn) (new : State) (number : ℕ) (l : Stages root_name.Dkms (node.Link (source_text roots key)) copied linked next new (Ok number)) where
        abbrev whole_copy : Tree → Staged
        whole_copy tree = with_staged root_name.Dkms (node.Link (source_text roots key)) (copies tree)

        third : IsUnderWay roots whole_copy old new linked
        third = link_under_way roots copies old next copied second apart linked new (node.Link (source_text roots key)) number l

        pub copy_unprepared : Prepares roots patch request old new (Err NoMemory)
        copy_unprepared = wanting_under_way roots whole_copy old new linked third patch request

        pub copy_prepared : (places : Places) → places ≡ package_places roots key → (paths : PatchPaths) → paths ≡ paths_copied places from met → (done : Txn) → done.roots ≡ linked.roots
            → ((p : Patch) → ArePathsOf p paths → done.intent.changes ≡ linked.intent.changes ++ changes_with linked.roots p request) → Prepares roots patch request old new (Ok done)
        copy_prepared places are paths is done same changes =
            prepared_under_way roots whole_copy old new linked third patch request (λ tree told. copied_nodes roots from tree met (all tree told) apart key) done same
            (λ tree told. changes (patch tree) (copy_paths_are roots from tree met (all tree told) apart key places are paths is))
