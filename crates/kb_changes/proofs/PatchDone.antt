-- Doing the changes of a fitting patch makes of the public tree what the patch makes of it, and leaves the foreign tree.
use Rattle.std.proofs.Common.{◌≡◌, Bool, true, false, cond, ◌&&◌, ◌||◌, not, List, [], ◌∷◌, ◌++◌, map, Option, Some, None, is_some, refl, sym, ap, ◌∙◌, subst, inl, inr}
use Rattle.std.proofs.lemmas.List.Folds.{list_any-append}
use Rattle.std.proofs.lemmas.List.Sums.{fold-append}
use Rattle.std.proofs.lemmas.Map.Views.{any-filter_same}
use Rattle.std.specs.Prelude.{flat_map}
use Rattle.std.specs.List.{list_any, AllByRecursion}
use Rattle.std.specs.Option.{option_or}
use Rattle.std.specs.Cmp.{first_so, second_so}
use Rattle.std.specs.Cmp.Derive.{both_true}
use Rattle.kb_world.specs.Path.{Path, parent, is_under}
use Rattle.kb_world.specs.Tree.{Tree, node_at, is_dir, is_leaf}
use Rattle.kb_world.specs.TreeLaws.{same_path, same_path-true, same_path-refl, same_tree}
use Rattle.kb_world.specs.Public.{IsNeverForeign, IsAlwaysPublic, is_private, public_tree, foreign_tree}
use Rattle.kb_world.specs.Roots.{AreApart, is_below}
use Rattle.kb_world.specs.Script.{Script}
use Rattle.kb_world.specs.Patch.{Patch, above, dirs_of, emptied_of, patched, with_directories, with_nodes, dropped, all_dropped, wiped, all_wiped, tidied, all_tidied, is_listed, put_at}
use Rattle.kb_world.specs.declared.roots.Roots.{Roots}
use Rattle.kb_world.specs.declared.tree.Node.{Node}
use Rattle.kb_world.specs.declared.tree.Node.TheVariants as node
use Rattle.kb_world.proofs.PathLaws.{by_test}
use Rattle.kb_world.proofs.PublicLaws.{node_at-public_tree, shown}
use Rattle.kb_world.proofs.AboveLaws.{AreAll, all-append, all-filter, each-listed}
use Rattle.kb_world.proofs.ListedLaws.{listed-append, neither}
use Rattle.kb_world.proofs.OrderLaws.{in_order_rises, any-found, any-of}
use Rattle.kb_world.proofs.PatchLaws.{all_dropped-at, all_wiped-at, with_directories-at, with_nodes-at, patched-dir}
use Rattle.kb_changes.specs.Change.{root_path, staged_path, do_change, done}
use Rattle.kb_changes.specs.Changes.{numbered_puts, drops_of, scratches, changes_of, nodes_below, staged_below, nodes_of, HasStaged}
use Rattle.kb_changes.specs.Fit.{is_rooted, IsInOwnRoot, IsFitPut, IsFit}
use Rattle.kb_changes.specs.Valid.{written_roots}
use Rattle.kb_changes.specs.declared.change.Change.{Change}
use Rattle.kb_changes.specs.declared.change.Change.TheVariants.{Dir, Drop, DropDir, Wipe}
use Rattle.kb_changes.specs.declared.change.RootName.{RootName}
use Rattle.kb_changes.specs.declared.change.RootName.TheVariants as root_name
use Rattle.kb_changes.proofs.PatchParents.{or_right, source_place, dir_place, HasPlace, dirs_done, stands_after, stays_after}
use Rattle.kb_changes.proofs.PatchPublic.{all_dropped-public, all_wiped-public, with_directories-public, all_tidied-public}
use Rattle.kb_changes.proofs.PatchForeign.{private-own, all_dropped-foreign, all_wiped-foreign, with_directories-foreign, all_tidied-foreign}
use Rattle.kb_changes.proofs.PatchPuts.{IsReadyPut, IsPutOver, staged_for, staged_private, private_hidden, open_no_private, puts_done}
use Rattle.kb_changes.proofs.PatchPlaces.{scratch_of, scratch_private, listed_root, root-over, staged-over, wipe_place, wiped_own, EmptiedPlace, emptied_place}
use Rattle.kb_changes.proofs.PatchPlain.{IsLeft, all_plain}

untrue : false ≡ true → ⊥
untrue e = cc

-- what holds of each path that is listed holds of all
pub all_listed : (P : Path → Type 0) (paths : List Path) → ((q : Path) → is_listed q paths ≡ true → P q) → AllByRecursion P paths
all_listed P [] each = tt
all_listed P (path ∷ paths) each =
    (each path (ap (λ b. b || is_listed path paths) (same_path-refl path)), all_listed P paths (λ q listed. each q (or_right (same_path q path) (is_listed q paths) listed)))

-- each put's target is among the targets
pub self_listed : (puts : List (Path × Node)) → AllByRecursion (λ (put : Path × Node). is_listed put.0 (map (λ (p : Path × Node). p.0) puts) ≡ true) puts
self_listed [] = tt
self_listed (put ∷ puts) = (
  ap (λ b. b || is_listed put.0 (map (λ (p : Path × Node). p.0) puts)) (same_path-refl put.0),
  AreAll (λ (p : Path × Node). is_listed p.0 (map (λ (o : Path × Node). o.0) puts) ≡ true) (λ (p : Path × Node). is_listed p.0 (map (λ (o : Path × Node). o.0) (put ∷ puts)) ≡ true)
      (λ p listed. or_right (same_path p.0 put.0) (is_listed p.0 (map (λ (o : Path × Node). o.0) puts)) listed) puts (self_listed puts),
)

-- a path at which no put's target stands has no put
no_put : (P : Path → Type 0) (q : Path) → P q → (puts : List (Path × Node)) → AllByRecursion (λ (put : Path × Node). P put.0 → ⊥) puts → put_at q puts ≡ None
no_put P q h [] none = refl
no_put P q h (put ∷ puts) none = by (same_path q put.0) refl (no_put P q h puts none.1)
  where
    by : (b : Bool) → same_path q put.0 ≡ b → put_at q puts ≡ None → option_or (put_at q puts) (cond (same_path q put.0) (Some put.1) None) ≡ None
    by true s later = absurd (none.0 (subst P (same_path-true q put.0 s) h))
    by false s later = ap (λ o. option_or o (cond (same_path q put.0) (Some put.1) None)) later ∙ ap (λ b. cond b (Some put.1) None) s

-- ---- what is dropped and not put again

pub drops_listed : (patch : Patch) (q : Path) → put_at q patch.puts ≡ None → is_listed q (drops_of patch) ≡ is_listed q patch.drops
drops_listed patch q none =
    any-filter_same (same_path q) (λ path. not (is_some (put_at path patch.puts))) true
    (λ path s. ap (λ p. not (is_some (put_at p patch.puts))) (sym (same_path-true q path s)) ∙ ap (λ o. not (is_some o)) none) patch.drops

-- ---- groups

dropped_all : (roots : Roots) (script : Script) (paths : List Path) (tree : Tree) → done roots script (map Drop paths) tree ≡ all_dropped paths tree
dropped_all roots script [] tree = refl
dropped_all roots script (path ∷ paths) tree = dropped_all roots script paths (dropped path tree)

wiped_all : (roots : Roots) (script : Script) (paths : List Path) (tree : Tree) → done roots script (map Wipe paths) tree ≡ all_wiped paths tree
wiped_all roots script [] tree = refl
wiped_all roots script (path ∷ paths) tree = wiped_all roots script paths (wiped path tree)

tidied_all : (roots : Roots) (script : Script) (paths : List Path) (tree : Tree) → done roots script (map DropDir paths) tree ≡ all_tidied paths tree
tidied_all roots script [] tree = refl
tidied_all roots script (path ∷ paths) tree = tidied_all roots script paths (tidied path tree)

in_turn : (roots : Roots) (script : Script) (first second : List Change) (tree : Tree) → done roots script (first ++ second) tree ≡ done roots script second (done roots script first tree)
in_turn roots script first second tree = fold-append (λ t change. do_change roots script change t) tree first second

any_so : (p q : Path → Bool) (paths : List Path) → ((path : Path) → is_listed path paths ≡ true → p path ≡ true → q path ≡ true) → list_any p paths ≡ true → list_any q paths ≡ true
any_so p q paths so e = let found = any-found p paths e in any-of q paths found.0 (so found.0 found.2 found.1) found.2

dir_no_leaf : (at : Option Node) → is_dir at ≡ true → is_leaf at ≡ false
dir_no_leaf None d = refl
dir_no_leaf (Some at) d = ap (λ b. true && not b) d

-- nothing is put where a directory is made
no_target : (roots : Roots) (patch : Patch) (tree : Tree) → IsFit roots patch tree → (q : Path) → is_listed q (dirs_of roots patch) ≡ true → put_at q patch.puts ≡ None
no_target roots patch tree fit q listed =
    no_put (λ p. is_listed p (dirs_of roots patch) ≡ true) q listed patch.puts
    (AreAll (IsFitPut roots patch tree) (λ (put : Path × Node). is_listed put.0 (dirs_of roots patch) ≡ true → ⊥) (λ put f e. untrue (sym f.no_dir ∙ e)) patch.puts fit.puts)

-- a directory that is made stands then, unless it is one that would go
pub dir_made : (roots : Roots) (patch : Patch) (tree : Tree) → IsFit roots patch tree → (q : Path) → is_listed q (dirs_of roots patch) ≡ true → is_listed q (emptied_of roots patch) ≡ false
    → is_dir (node_at (patched roots patch (public_tree roots tree)) q) ≡ true
dir_made roots patch tree fit q listed stays =
    ap is_dir (patched-dir roots patch (public_tree roots tree) q listed
    (ap (λ at. is_leaf (cond (list_any (is_under q) patch.wipes || is_listed q patch.drops && is_leaf at) None at)) (shown roots tree q (fit.dirs q listed).opens) ∙ (fit.dirs q listed).free)
    (no_target roots patch tree fit q listed) stays)

module _ (roots : Roots) (apart : AreApart roots) (script : Script) (patch : Patch) (tree : Tree) (fit : IsFit roots patch tree) (staged : HasStaged roots (nodes_of roots patch) tree) where
  abbrev dirs : List Path
  dirs = dirs_of roots patch

  abbrev emptied : List Path
  emptied = emptied_of roots patch

  abbrev wipes : List Path
  wipes = patch.wipes ++ scratches roots emptied

  abbrev without_drops : Tree
  without_drops = all_dropped (drops_of patch) tree

  abbrev left : Tree
  left = all_wiped wipes without_drops

  abbrev made : Tree
  made = with_directories dirs left

  abbrev put_over : Tree
  put_over = done roots script (numbered_puts roots [] patch.puts) made

  drops_open : AllByRecursion (IsAlwaysPublic roots) (drops_of patch)
  drops_open = all-filter (IsAlwaysPublic roots) (λ path. not (is_some (put_at path patch.puts))) patch.drops fit.drops

  dirs_open : AllByRecursion (IsAlwaysPublic roots) dirs
  dirs_open = all_listed (IsAlwaysPublic roots) dirs (λ q listed. (fit.dirs q listed).opens)

  place : (q : Path) → is_listed q emptied ≡ true → EmptiedPlace roots apart q
  place q listed = emptied_place roots apart patch fit.drops fit.wipes q listed

  -- ---- what the wipes leave

  no_wipe : (q : Path) → ((w : Path) (own : RootName) → IsAlwaysPublic roots w → is_below w (root_path roots own) ≡ true → is_under q w ≡ true → ⊥) → list_any (is_under q) wipes ≡ false
  no_wipe q none = list_any-append (is_under q) patch.wipes (scratches roots emptied) ∙ neither (list_any (is_under q) patch.wipes) (list_any (is_under q) (scratches roots emptied)) (by_test (list_any (is_under q) patch.wipes) own_wipes) (by_test (list_any (is_under q) (scratches roots emptied)) own_scratches)
    where
      own_wipes : list_any (is_under q) patch.wipes ≡ true → ⊥
      own_wipes e =
          let found = any-found (is_under q) patch.wipes e in
          let w = each-listed (IsInOwnRoot roots) patch.wipes fit.wipes found.0 found.2 in
          let at = wipe_place roots apart found.0 w in none found.0 at.own w.opens at.below found.1

      own_scratches : list_any (is_under q) (scratches roots emptied) ≡ true → ⊥
      own_scratches e =
          let found = scratch_of roots emptied q e in
          let at = place found.0 found.1 in none found.0 root_name.Dkms at.opens at.below found.2

  left-at : (q : Path) → node_at left q ≡ cond (list_any (is_under q) wipes) None (cond (is_listed q (drops_of patch) && is_leaf (node_at tree q)) None (node_at tree q))
  left-at q = all_wiped-at wipes without_drops q ∙ ap (λ at. cond (list_any (is_under q) wipes) None at) (all_dropped-at (drops_of patch) tree q)

  -- a directory that isn't wiped stays
  left-dir : (q : Path) → is_dir (node_at tree q) ≡ true → list_any (is_under q) wipes ≡ false → is_dir (node_at left q) ≡ true
  left-dir q d away =
      ap is_dir (left-at q ∙ ap (λ b. cond b None (cond (is_listed q (drops_of patch) && is_leaf (node_at tree q)) None (node_at tree q))) away
      ∙ ap (λ b. cond (is_listed q (drops_of patch) && b) None (node_at tree q)) (dir_no_leaf (node_at tree q) d) ∙ by (is_listed q (drops_of patch))) ∙ d
    where
      by : (b : Bool) → cond (b && false) None (node_at tree q) ≡ node_at tree q
      by true = refl
      by false = refl

  -- ---- directories

  rooted : AllByRecursion (λ path. is_rooted roots left path ≡ true) (patch.dirs ++ map (λ (put : Path × Node). put.0) patch.puts)
  rooted =
      AreAll (λ path. is_rooted roots tree path ≡ true) (λ path. is_rooted roots left path ≡ true)
      (λ path h. any_so (λ root. is_below path root && is_dir (node_at tree root)) (λ root. is_below path root && is_dir (node_at left root)) (written_roots roots)
      (λ root listed e. both_true (first_so (is_below path root) _ e) (left-dir root (second_so (is_below path root) (is_dir (node_at tree root)) e) (root_no_wipe root listed))) h)
      (patch.dirs ++ map (λ (put : Path × Node). put.0) patch.puts) fit.rooted
    where
      root_no_wipe : (root : Path) → is_listed root (written_roots roots) ≡ true → list_any (is_under root) wipes ≡ false
      root_no_wipe root listed =
          let found = listed_root roots root listed in
          no_wipe root (λ w own opens below under. untrue (sym (root-over roots apart found.0 own w below) ∙ ap (λ r. is_under r w) (sym found.1) ∙ under))

  free : (q : Path) → is_listed q dirs ≡ true → is_leaf (node_at left q) ≡ false
  free q listed =
      ap is_leaf (left-at q ∙ ap (λ b. cond b None (cond (is_listed q (drops_of patch) && is_leaf (node_at tree q)) None (node_at tree q))) (list_any-append (is_under q) patch.wipes (scratches roots emptied))
      ∙ ap (λ b. cond (list_any (is_under q) patch.wipes || list_any (is_under q) (scratches roots emptied)) None (cond (b && is_leaf (node_at tree q)) None (node_at tree q))) (drops_listed patch q (no_target roots patch tree fit q listed)))
      ∙ by (list_any (is_under q) patch.wipes) (list_any (is_under q) (scratches roots emptied)) (is_listed q patch.drops && is_leaf (node_at tree q)) (fit.dirs q listed).free
    where
      by : (a b c : Bool) → is_leaf (cond (a || c) None (node_at tree q)) ≡ false → is_leaf (cond (a || b) None (cond c None (node_at tree q))) ≡ false
      by true b c f = refl
      by false true c f = refl
      by false false c f = f

  dirs_made : done roots script (map Dir dirs) left ≡ made
  dirs_made =
      dirs_done roots script [] dirs left (in_order_rises (flat_map (above roots) (patch.dirs ++ map (λ (put : Path × Node). put.0) patch.puts) ++ patch.dirs))
      (λ q listed. let p = dir_place roots apart patch left rooted q listed in (p.place, p.over)) free

  -- ---- puts

  -- what is staged is left
  staged_left : HasStaged roots (nodes_of roots patch) made
  staged_left root number at got =
      with_directories-at dirs left s ∙ ap (λ o. option_or o (cond (is_listed s dirs) (Some node.Dir) None)) stands
    where
      s : Path
      s = staged_path roots root number

      not_dropped : is_listed s (drops_of patch) ≡ false
      not_dropped = by_test (is_listed s (drops_of patch)) (λ listed. open_no_private roots s (each-listed (IsAlwaysPublic roots) (drops_of patch) drops_open s listed) (staged_private roots root number))

      stands : node_at left s ≡ Some at
      stands =
          left-at s
          ∙ ap (λ b. cond b None (cond (is_listed s (drops_of patch) && is_leaf (node_at tree s)) None (node_at tree s))) (no_wipe s (λ w own opens below under. untrue (sym (staged-over roots apart root own number w opens below) ∙ under)))
          ∙ ap (λ b. cond (b && is_leaf (node_at tree s)) None (node_at tree s)) not_dropped ∙ staged root number at got

  below_is : (root : RootName) → staged_below (nodes_of roots patch) root ≡ nodes_below roots root patch.puts
  below_is root_name.Dkms = refl
  below_is root_name.Src = refl
  below_is root_name.Modules = refl
  below_is root_name.Boot = refl

  in_directory : (path : Path) → HasPlace roots left dirs (parent path) → is_dir (node_at made (parent path)) ≡ true
  in_directory path (inl d) = stays_after dirs left (parent path) d
  in_directory path (inr listed) = stands_after dirs left (parent path) listed (free (parent path) listed)

  ready_put : (put : Path × Node) → IsFitPut roots patch tree put → is_listed put.0 (map (λ (p : Path × Node). p.0) patch.puts) ≡ true → IsReadyPut roots made put
  ready_put put f listed = record {
    opens = f.opens;
    leaf = f.leaf;
    free = ap is_dir (with_directories-at dirs left put.0 ∙ ap (λ b. option_or (node_at left put.0) (cond b (Some node.Dir) None)) f.no_dir) ∙ none (node_at left put.0) (ap is_dir (left-at put.0) ∙ by (list_any (is_under put.0) wipes) (is_listed put.0 (drops_of patch) && is_leaf (node_at tree put.0)));
    in_directory = in_directory put.0 (source_place roots apart patch left rooted put.0
        (listed-append put.0 patch.dirs (map (λ (p : Path × Node). p.0) patch.puts) ∙ or_right (is_listed put.0 patch.dirs) (is_listed put.0 (map (λ (p : Path × Node). p.0) patch.puts)) listed));
  }
    where
      none : (at : Option Node) → is_dir at ≡ false → is_dir (option_or at None) ≡ false
      none None d = refl
      none (Some at) d = d

      by : (a b : Bool) → is_dir (cond a None (cond b None (node_at tree put.0))) ≡ false
      by true b = refl
      by false true = refl
      by false false = f.free

  all_ready : (puts : List (Path × Node)) → AllByRecursion (IsFitPut roots patch tree) puts → AllByRecursion (λ (put : Path × Node). is_listed put.0 (map (λ (p : Path × Node). p.0) patch.puts) ≡ true) puts → AllByRecursion (IsReadyPut roots made) puts
  all_ready [] fits listed = tt
  all_ready (put ∷ puts) fits listed = (ready_put put fits.0 listed.0, all_ready puts fits.1 listed.1)

  over : IsPutOver roots patch.puts made put_over
  over = puts_done roots apart script [] patch.puts made fit.counted (all_ready patch.puts fit.puts (self_listed patch.puts)) (staged_for roots patch.puts (nodes_of roots patch) made below_is staged_left)

  -- ---- directories that are left empty

  emptied_open : AllByRecursion (IsAlwaysPublic roots) emptied
  emptied_open = all_listed (IsAlwaysPublic roots) emptied (λ q listed. (place q listed).opens)

  what_is_left : IsLeft roots wipes emptied tree put_over
  what_is_left = record {
    private = λ q private s. private_left q private (ap is_some (with_directories-at dirs left q) ∙ refl ∙ refl) (over.private q private s);
    dirs = λ q opens d away stays. over.dirs q opens (stays_after dirs left q (left-dir q d away));
  }
    where
      private_left : (q : Path) → is_private roots q ≡ true → is_some (node_at made q) ≡ is_some (option_or (node_at left q) (cond (is_listed q dirs) (Some node.Dir) None)) → is_some (node_at made q) ≡ true
          → (is_some (node_at tree q) ≡ true) × (list_any (is_under q) wipes ≡ false)
      private_left q private is stands = by (list_any (is_under q) wipes) (is_listed q (drops_of patch) && is_leaf (node_at tree q)) refl (sym (ap is_some (left-at q)) ∙ in_left)
        where
          no_dir : is_listed q dirs ≡ false
          no_dir = by_test (is_listed q dirs) (λ listed. open_no_private roots q (fit.dirs q listed).opens private)

          none : (at : Option Node) → is_some (option_or at None) ≡ is_some at
          none None = refl
          none (Some at) = refl

          in_left : is_some (node_at left q) ≡ true
          in_left = sym (none (node_at left q)) ∙ sym (ap (λ b. is_some (option_or (node_at left q) (cond b (Some node.Dir) None))) no_dir) ∙ sym is ∙ stands

          by : (a b : Bool) → list_any (is_under q) wipes ≡ a → is_some (cond a None (cond b None (node_at tree q))) ≡ true → (is_some (node_at tree q) ≡ true) × (list_any (is_under q) wipes ≡ false)
          by true b e s = absurd (untrue s)
          by false true e s = absurd (untrue s)
          by false false e s = (s, e)

  -- ---- all of it

  pub all_done : done roots script (changes_of roots patch) tree ≡ all_tidied emptied put_over
  unfolding changes_of
  all_done =
      let w4 = map DropDir emptied in
      let w3 = numbered_puts roots [] patch.puts ++ w4 in
      let w2 = map Dir dirs ++ w3 in
      let w1 = map Wipe wipes ++ w2 in
      in_turn roots script (map Drop (drops_of patch)) w1 tree
      ∙ ap (done roots script w1) (dropped_all roots script (drops_of patch) tree)
      ∙ in_turn roots script (map Wipe wipes) w2 without_drops
      ∙ ap (done roots script w2) (wiped_all roots script wipes without_drops)
      ∙ in_turn roots script (map Dir dirs) w3 left
      ∙ ap (done roots script w3) dirs_made
      ∙ in_turn roots script (numbered_puts roots [] patch.puts) w4 made
      ∙ tidied_all roots script emptied put_over

  -- in the public tree neither what is put again nor a scratch tree makes a difference
  same_come : with_nodes patch.puts (with_directories dirs (all_wiped wipes (all_dropped (drops_of patch) (public_tree roots tree))))
      ≡ with_nodes patch.puts (with_directories dirs (all_wiped patch.wipes (all_dropped patch.drops (public_tree roots tree))))
  same_come = same_tree _ _ (λ q.
      come wipes (drops_of patch) q ∙ by q (put_at q patch.puts) refl ∙ sym (come patch.wipes patch.drops q))
    where
      store : Tree
      store = public_tree roots tree

      come : (ws ds : List Path) (q : Path) → node_at (with_nodes patch.puts (with_directories dirs (all_wiped ws (all_dropped ds store)))) q
          ≡ option_or (put_at q patch.puts) (option_or (cond (list_any (is_under q) ws) None (cond (is_listed q ds && is_leaf (node_at store q)) None (node_at store q))) (cond (is_listed q dirs) (Some node.Dir) None))
      come ws ds q =
          with_nodes-at patch.puts (with_directories dirs (all_wiped ws (all_dropped ds store))) q
          ∙ ap (λ o. option_or (put_at q patch.puts) o) (with_directories-at dirs (all_wiped ws (all_dropped ds store)) q
          ∙ ap (λ o. option_or o (cond (is_listed q dirs) (Some node.Dir) None)) (all_wiped-at ws (all_dropped ds store) q ∙ ap (λ o. cond (list_any (is_under q) ws) None o) (all_dropped-at ds store q)))

      by : (q : Path) (o : Option Node) → put_at q patch.puts ≡ o
          → option_or (put_at q patch.puts) (option_or (cond (list_any (is_under q) wipes) None (cond (is_listed q (drops_of patch) && is_leaf (node_at store q)) None (node_at store q))) (cond (is_listed q dirs) (Some node.Dir) None))
          ≡ option_or (put_at q patch.puts) (option_or (cond (list_any (is_under q) patch.wipes) None (cond (is_listed q patch.drops && is_leaf (node_at store q)) None (node_at store q))) (cond (is_listed q dirs) (Some node.Dir) None))
      by q (Some at) e =
          ap (λ o. option_or o (option_or (cond (list_any (is_under q) wipes) None (cond (is_listed q (drops_of patch) && is_leaf (node_at store q)) None (node_at store q))) (cond (is_listed q dirs) (Some node.Dir) None))) e
          ∙ sym (ap (λ o. option_or o (option_or (cond (list_any (is_under q) patch.wipes) None (cond (is_listed q patch.drops && is_leaf (node_at store q)) None (node_at store q))) (cond (is_listed q dirs) (Some node.Dir) None))) e)
      by q None e =
          ap (λ o. option_or (put_at q patch.puts) (option_or o (cond (is_listed q dirs) (Some node.Dir) None)))
          (ap (λ b. cond (list_any (is_under q) wipes) None (cond (b && is_leaf (node_at store q)) None (node_at store q))) (drops_listed patch q e)
          ∙ ap (λ b. cond b None (cond (is_listed q patch.drops && is_leaf (node_at store q)) None (node_at store q))) (list_any-append (is_under q) patch.wipes (scratches roots emptied))
          ∙ each (list_any (is_under q) patch.wipes) (list_any (is_under q) (scratches roots emptied)) refl)
        where
          each : (a b : Bool) → list_any (is_under q) (scratches roots emptied) ≡ b → cond (a || b) None (cond (is_listed q patch.drops && is_leaf (node_at store q)) None (node_at store q)) ≡ cond a None (cond (is_listed q patch.drops && is_leaf (node_at store q)) None (node_at store q))
          each true b s = refl
          each false false s = refl
          each false true s =
              let none : node_at store q ≡ None = node_at-public_tree roots tree q ∙ ap (λ p. cond p (node_at tree q) None) (private_hidden roots q (scratch_private roots emptied q s) (node_at tree q)) in
              sym (ap (λ at. cond (is_listed q patch.drops && is_leaf at) None at) none ∙ nothing (is_listed q patch.drops && false))
            where
              no_node : Option Node
              no_node = None

              nothing : (b : Bool) → cond b no_node no_node ≡ no_node
              nothing true = refl
              nothing false = refl

  pub patch_done : public_tree roots (done roots script (changes_of roots patch) tree) ≡ patched roots patch (public_tree roots tree)
  unfolding patched
  patch_done =
      ap (public_tree roots) all_done
      ∙ all_tidied-public roots emptied put_over emptied_open
      (all_plain roots apart patch.wipes emptied tree fit.formed place emptied put_over (all_listed (λ q. is_listed q emptied ≡ true) emptied (λ q listed. listed)) what_is_left)
      ∙ ap (all_tidied emptied) (
      over.public
      ∙ ap (with_nodes patch.puts) (
      with_directories-public roots dirs left dirs_open
      ∙ ap (with_directories dirs) (all_wiped-public roots wipes without_drops ∙ ap (all_wiped wipes) (all_dropped-public roots (drops_of patch) tree drops_open)))
      ∙ same_come)

  pub foreign_done : foreign_tree roots (done roots script (changes_of roots patch) tree) ≡ foreign_tree roots tree
  foreign_done =
      ap (foreign_tree roots) all_done
      ∙ all_tidied-foreign roots emptied put_over emptied_open ∙ over.foreign ∙ with_directories-foreign roots dirs left dirs_open
      ∙ all_wiped-foreign roots wipes without_drops
      (all-append (λ path. (q : Path) → is_under q path ≡ true → IsNeverForeign roots q) patch.wipes (scratches roots emptied)
      (AreAll (IsInOwnRoot roots) (λ path. (q : Path) → is_under q path ≡ true → IsNeverForeign roots q) (λ path w. wiped_own roots apart path (wipe_place roots apart path w)) patch.wipes fit.wipes)
      (all_listed (λ path. (q : Path) → is_under q path ≡ true → IsNeverForeign roots q) (scratches roots emptied)
      (λ path listed q under. private-own roots q (scratch_private roots emptied q (any-of (is_under q) (scratches roots emptied) path under listed)))))
      ∙ all_dropped-foreign roots (drops_of patch) tree drops_open
