-- From the paths of a patch to its changes: what each loop of the code keeps, and that the nodes don't count.
use Rattle.std.proofs.Common.{◌≡◌, ℕ, suc, ◌+◌, ◌<◌, ◌≤◌, Bool, true, false, cond, ◌||◌, not, List, [], ◌∷◌, ◌++◌, length, take, drop, get_or, map, filter, flat_map, Option, Some, None, is_some, reverse, refl, sym, ap, ◌∙◌, arith, append_assoc, length-append, length-drop}
use Rattle.std.proofs.lemmas.List.{length-map, map-append, take_more, get_or_append_left}
use Rattle.std.proofs.lemmas.Grind.{common_steps, flat_map-append}
use Rattle.std.proofs.lemmas.List.Elements.{filter-append}
use Rattle.std.specs.Option.{option_or}
use Rattle.kb_world.specs.Path.{Path, child, is_under}
use Rattle.kb_world.specs.Patch.{Patch, above, directories_to, dirs_of, emptied_of, in_order, is_listed, put_at}
use Rattle.kb_world.specs.TreeLaws.{same_path}
use Rattle.kb_world.specs.declared.roots.Roots.{Roots}
use Rattle.kb_world.specs.declared.tree.Node.{Node}
use Rattle.kb_world.specs.declared.tree.Node.TheVariants as node
use Rattle.kb_world.proofs.ListedLaws.{listed-append}
use Rattle.kb_changes.specs.Changes.{changes_of, drops_of, nodes_below, numbered_puts, root_of, same_root, scratches}
use Rattle.kb_changes.specs.Counts.{count_below, none_counted, one_more}
use Rattle.kb_changes.specs.PatchPaths.{ArePathsOf, some_puts, some_patch}
use Rattle.kb_changes.specs.Valid.{is_among_paths, HoldSame}
use Rattle.kb_changes.specs.declared.change.Change.{Change}
use Rattle.kb_changes.specs.declared.change.Change.TheVariants.{Dir, Drop, DropDir, Put, Wipe}
use Rattle.kb_changes.specs.declared.change.RootName.{RootName}
use Rattle.kb_changes.specs.declared.change.RootName.TheVariants as root_name
use Rattle.kb_changes.specs.declared.counts.Counts.{Counts}
use Rattle.kb_changes.specs.declared.patch_paths.PatchPaths.{PatchPaths}
use Rattle.kb_changes.proofs.PatchPuts.{below-append-nodes, count-most}
use Rattle.kb_changes.proofs.RisingLaws.{in_order-same}
use Rattle.kb_changes.proofs.StepLaws.{next_item}

-- ---- the directories above a path

-- one name more, where another stands behind it
pub directories_more : (base directory next names front : Path) (last name : List ℕ) (i : ℕ) (so_far now : List Path) → names ≡ front ++ last ∷ [] → i < length front → name ≡ get_or front i name
    → so_far ++ directories_to directory (drop i names) ≡ directories_to base names → next ≡ child directory name → now ≡ so_far ++ next ∷ []
    → now ++ directories_to next (drop (i + 1) names) ≡ directories_to base names
directories_more base directory next names front last name i so_far now split within is so below pushed =
    ap (λ made. made ++ directories_to next (drop (i + 1) names)) pushed
    ∙ append_assoc so_far (next ∷ []) (directories_to next (drop (i + 1) names))
    ∙ ap (λ dir. so_far ++ dir ∷ directories_to dir (drop (i + 1) names)) below
    ∙ ap (λ made. so_far ++ made) (sym (step (drop (i + 1) names) refl)) ∙ so
  where
    longer : i + 1 < length names
    longer = omega (arith, within, ap length split, length-append front (last ∷ []))

    here : drop i names ≡ name ∷ drop (i + 1) names
    here = next_item names i name (omega (arith, longer)) (ap (λ ns. get_or ns i name) split ∙ get_or_append_left front (last ∷ []) name i within ∙ sym is)

    step : (rest : Path) → drop (i + 1) names ≡ rest → directories_to directory (drop i names) ≡ child directory name ∷ directories_to (child directory name) (drop (i + 1) names)
    step [] none = absurd (omega (arith, longer, ap length none, length-drop (i + 1) names))
    step (behind ∷ rest) some = ap (directories_to directory) (here ∙ ap (λ ns. name ∷ ns) some) ∙ ap (λ ns. child directory name ∷ directories_to (child directory name) ns) (sym some)

-- ---- the set of directories

-- what is left is in the set too, one part more
pub holds_more : (whole rest here more old new : List Path) → HoldSame (rest ++ old) whole → rest ≡ here ++ more → HoldSame new (here ++ old) → HoldSame (more ++ new) whole
holds_more whole rest here more old new so split grew q =
    listed-append q more new ∙ ap (λ b. is_listed q more || b) (grew q ∙ listed-append q here old) ∙ turned (is_listed q more) (is_listed q here) (is_listed q old)
    ∙ ap (λ b. b || is_listed q old) (sym (listed-append q here more) ∙ ap (is_listed q) (sym split)) ∙ sym (listed-append q rest old) ∙ so q
  where
    turned : (m h o : Bool) → (m || (h || o)) ≡ ((h || m) || o)
    turned true true o = refl
    turned true false o = refl
    turned false h o = or_assoc h o
      where
        or_assoc : (a b : Bool) → (a || b) ≡ ((a || false) || b)
        or_assoc true b = refl
        or_assoc false b = refl

-- the targets of puts of these targets
pub targets-are : (targets : List Path) → map (λ (put : Path × Node). put.0) (some_puts targets) ≡ targets
targets-are [] = refl
targets-are (target ∷ targets) = ap (λ ts. target ∷ ts) (targets-are targets)

-- what is put in order: the directories that come
pub dirs-are : (roots : Roots) (paths : PatchPaths) (none first second all : List Path) → none ≡ [] → HoldSame first (flat_map (above roots) paths.dirs ++ none)
    → HoldSame second (flat_map (above roots) paths.puts ++ first) → HoldSame all (paths.dirs ++ second) → in_order all ≡ dirs_of roots (some_patch paths)
dirs-are roots paths none first second all empty one two three =
    in_order-same all _ (λ q.
    three q ∙ listed-append q paths.dirs second
    ∙ ap (λ b. is_listed q paths.dirs || b) (two q ∙ listed-append q (flat_map (above roots) paths.puts) first
    ∙ ap (λ b. is_listed q (flat_map (above roots) paths.puts) || b) (one q ∙ listed-append q (flat_map (above roots) paths.dirs) none ∙ ap (λ n. is_listed q (flat_map (above roots) paths.dirs) || is_listed q n) empty))
    ∙ turned (is_listed q paths.dirs) (is_listed q (flat_map (above roots) paths.puts)) (is_listed q (flat_map (above roots) paths.dirs))
    ∙ ap (λ b. b || is_listed q paths.dirs) (sym (listed-append q (flat_map (above roots) paths.dirs) (flat_map (above roots) paths.puts)) ∙ ap (is_listed q) (sym (flat_map-append (above roots) paths.dirs paths.puts)))
    ∙ sym (listed-append q (flat_map (above roots) (paths.dirs ++ paths.puts)) paths.dirs))
    ∙ ap (λ targets. in_order (flat_map (above roots) (paths.dirs ++ targets) ++ paths.dirs)) (sym (targets-are paths.puts))
  where
    turned : (d p a : Bool) → (d || (p || (a || false))) ≡ ((a || p) || d)
    turned true true true = refl
    turned true true false = refl
    turned true false true = refl
    turned true false false = refl
    turned false true true = refl
    turned false true false = refl
    turned false false true = refl
    turned false false false = refl

-- and those that go
pub emptied-are : (roots : Roots) (paths : PatchPaths) (none first all : List Path) → none ≡ []
    → HoldSame first (flat_map (above roots) (filter (λ path. is_under path roots.dkms) paths.drops) ++ none)
    → HoldSame all (flat_map (above roots) (filter (λ path. is_under path roots.dkms) paths.wipes) ++ first) → reverse (in_order all) ≡ emptied_of roots (some_patch paths)
emptied-are roots paths none first all empty one two =
    ap reverse (in_order-same all _ (λ q.
    two q ∙ listed-append q wiped first
    ∙ ap (λ b. is_listed q wiped || b) (one q ∙ listed-append q dropped none ∙ ap (λ n. is_listed q dropped || is_listed q n) empty)
    ∙ turned (is_listed q wiped) (is_listed q dropped) ∙ sym (listed-append q dropped wiped)
    ∙ ap (is_listed q) (sym (ap (flat_map (above roots)) (filter-append (λ path. is_under path roots.dkms) paths.drops paths.wipes) ∙ flat_map-append (above roots) (kept paths.drops) (kept paths.wipes)))))
  where
    kept : List Path → List Path
    kept ps = filter (λ path. is_under path roots.dkms) ps

    dropped : List Path
    dropped = flat_map (above roots) (kept paths.drops)

    wiped : List Path
    wiped = flat_map (above roots) (kept paths.wipes)

    turned : (w d : Bool) → (w || (d || false)) ≡ (d || w)
    turned true true = refl
    turned true false = refl
    turned false true = refl
    turned false false = refl

-- a path more, which counts where it is in the dkms root
pub kept_more : (roots : Roots) (paths : List Path) (i : ℕ) (path : Path) → i < length paths → path ≡ get_or paths i path → (kept : Bool) → is_under path roots.dkms ≡ kept
    → flat_map (above roots) (filter (λ p. is_under p roots.dkms) (drop i paths)) ≡ cond kept (above roots path) [] ++ flat_map (above roots) (filter (λ p. is_under p roots.dkms) (drop (i + 1) paths))
kept_more roots paths i path within is kept under =
    ap (λ left. flat_map (above roots) (filter (λ p. is_under p roots.dkms) left)) (next_item paths i path within (sym is))
    ∙ ap (λ b. flat_map (above roots) (cond b (path ∷ later) later)) under ∙ by kept
  where
    later : List Path
    later = filter (λ p. is_under p roots.dkms) (drop (i + 1) paths)

    by : (b : Bool) → flat_map (above roots) (cond b (path ∷ later) later) ≡ cond b (above roots path) [] ++ flat_map (above roots) later
    by true = refl
    by false = refl

-- ---- drops

put-listed : (q : Path) (puts : List (Path × Node)) → is_some (put_at q puts) ≡ is_listed q (map (λ (put : Path × Node). put.0) puts)
put-listed q [] = refl
put-listed q (put ∷ puts) = by (put_at q puts) (same_path q put.0) (put-listed q puts)
  where
    by : (later : Option Node) (here : Bool) → is_some later ≡ is_listed q (map (λ (p : Path × Node). p.0) puts)
        → is_some (option_or later (cond here (Some put.1) None)) ≡ (here || is_listed q (map (λ (p : Path × Node). p.0) puts))
    by (Some x) true e = refl
    by (Some x) false e = e
    by None true e = refl
    by None false e = e

filter-alike : {X : Type 0} (f g : X → Bool) → ((x : X) → f x ≡ g x) → (xs : List X) → filter f xs ≡ filter g xs
filter-alike f g alike [] = refl
filter-alike f g alike (x ∷ xs) = (λ i. cond (alike x i) (x ∷ filter-alike f g alike xs i) (filter-alike f g alike xs i))

-- what is dropped goes by the targets
pub drops-are : (patch : Patch) (targets : List Path) → targets ≡ map (λ (put : Path × Node). put.0) patch.puts → filter (λ path. not (is_among_paths targets path)) patch.drops ≡ drops_of patch
drops-are patch targets are = filter-alike _ _ (λ path. ap not (ap (is_listed path) are ∙ sym (put-listed path patch.puts))) patch.drops

-- ---- puts

abbrev unknown : Path → Path × Node
unknown path = (path, node.Dir)

some_more : (targets : List Path) (i : ℕ) (target : Path) → i < length targets → target ≡ get_or targets i target → some_puts (take (i + 1) targets) ≡ some_puts (take i targets) ++ unknown target ∷ []
some_more targets i target within is =
    ap some_puts (take_more targets i target within ∙ ap (λ t. take i targets ++ t ∷ []) (sym is)) ∙ map-append unknown (take i targets) (target ∷ [])

-- one Put more
pub puts_more : (roots : Roots) (targets : List Path) (i : ℕ) (target : Path) (root : RootName) (number : ℕ) (so_far now whole : List Change) → i < length targets → target ≡ get_or targets i target
    → root ≡ root_of roots target → number ≡ length (nodes_below roots root (some_puts (take i targets)))
    → so_far ++ numbered_puts roots (some_puts (take i targets)) (some_puts (drop i targets)) ≡ whole → now ≡ so_far ++ Put root number target ∷ []
    → now ++ numbered_puts roots (some_puts (take (i + 1) targets)) (some_puts (drop (i + 1) targets)) ≡ whole
puts_more roots targets i target root number so_far now whole within is below counted so pushed =
    (λ k. pushed k ++ numbered_puts roots (some_more targets i target within is k) (some_puts (drop (i + 1) targets)))
    ∙ append_assoc so_far (Put root number target ∷ []) (numbered_puts roots (some_puts (take i targets) ++ unknown target ∷ []) (some_puts (drop (i + 1) targets)))
    ∙ ap (λ change. so_far ++ change ∷ numbered_puts roots (some_puts (take i targets) ++ unknown target ∷ []) (some_puts (drop (i + 1) targets)))
    ((λ k. Put (below k) (counted k) target) ∙ ap (λ (r : RootName). Put (root_of roots target) (length (nodes_below roots r (some_puts (take i targets)))) target) below)
    ∙ ap (λ left. so_far ++ numbered_puts roots (some_puts (take i targets)) (some_puts left)) (sym (next_item targets i target within (sym is))) ∙ so

-- it is counted below its root alone
one_counted : (counts : Counts) (root other : RootName) → count_below (one_more root counts) other ≡ count_below counts other + cond (same_root root other) 1 0
one_counted counts root_name.Dkms root_name.Dkms = refl
one_counted counts root_name.Dkms root_name.Src = omega arith
one_counted counts root_name.Dkms root_name.Modules = omega arith
one_counted counts root_name.Dkms root_name.Boot = omega arith
one_counted counts root_name.Src root_name.Dkms = omega arith
one_counted counts root_name.Src root_name.Src = refl
one_counted counts root_name.Src root_name.Modules = omega arith
one_counted counts root_name.Src root_name.Boot = omega arith
one_counted counts root_name.Modules root_name.Dkms = omega arith
one_counted counts root_name.Modules root_name.Src = omega arith
one_counted counts root_name.Modules root_name.Modules = refl
one_counted counts root_name.Modules root_name.Boot = omega arith
one_counted counts root_name.Boot root_name.Dkms = omega arith
one_counted counts root_name.Boot root_name.Src = omega arith
one_counted counts root_name.Boot root_name.Modules = omega arith
one_counted counts root_name.Boot root_name.Boot = refl

-- each root counts what is put below it so far
abbrev pub AreCounted : Roots → Counts → List (Path × Node) → Type 0
AreCounted roots counts puts = (root : RootName) → count_below counts root ≡ length (nodes_below roots root puts)

pub none_counted_below : (root : RootName) → count_below none_counted root ≡ 0
none_counted_below root_name.Dkms = refl
none_counted_below root_name.Src = refl
none_counted_below root_name.Modules = refl
none_counted_below root_name.Boot = refl

pub none_are_counted : (roots : Roots) (counts : Counts) → counts ≡ none_counted → AreCounted roots counts []
none_are_counted roots counts none root = ap (λ (c : Counts). count_below c root) none ∙ none_counted_below root

pub counted_more : (roots : Roots) (targets : List Path) (i : ℕ) (target : Path) (root : RootName) (counts now : Counts) → i < length targets → target ≡ get_or targets i target → root ≡ root_of roots target
    → AreCounted roots counts (some_puts (take i targets)) → now ≡ one_more root counts → AreCounted roots now (some_puts (take (i + 1) targets))
counted_more roots targets i target root counts now within is below so counted other =
    ap (λ (c : Counts). count_below c other) counted ∙ one_counted counts root other ∙ (λ k. so other k + cond (same_root (below k) other) 1 0)
    ∙ sym (ap (λ puts. length (nodes_below roots other puts)) (some_more targets i target within is)
    ∙ ap length (below-append-nodes roots other (some_puts (take i targets)) (unknown target ∷ []))
    ∙ length-append (nodes_below roots other (some_puts (take i targets))) (nodes_below roots other (unknown target ∷ []))
    ∙ ap (λ n. length (nodes_below roots other (some_puts (take i targets))) + n) (alone (same_root (root_of roots target) other)))
  where
    alone : (b : Bool) → length (map (λ (put : Path × Node). put.1) (cond b (unknown target ∷ []) [])) ≡ cond b 1 0
    alone true = refl
    alone false = refl

-- a count is at most the number of the puts
pub count_small : (roots : Roots) (counts : Counts) (targets : List Path) (i : ℕ) → AreCounted roots counts (some_puts (take i targets)) → (root : RootName) → count_below counts root ≤ i
count_small roots counts targets i so root = omega (arith, so root, count-most roots root (some_puts (take i targets)), length-map (take i targets) unknown, length_front targets i)
  where
    length_front : (xs : List Path) (k : ℕ) → length (take k xs) ≤ k
    length_front xs k = grind (arith, common_steps)

-- ---- all changes go by the paths

abbrev targets_of : List (Path × Node) → List Path
targets_of puts = map (λ put. put.0) puts

-- the Puts to targets, whatever is put there
numbered_to : Roots → List Path → List Path → List Change
numbered_to roots earlier [] = []
numbered_to roots earlier (target ∷ targets) =
    Put (root_of roots target) (length (filter (λ path. same_root (root_of roots path) (root_of roots target)) earlier)) target ∷ numbered_to roots (earlier ++ target ∷ []) targets

count-to : (roots : Roots) (base : RootName) (puts : List (Path × Node)) → length (nodes_below roots base puts) ≡ length (filter (λ path. same_root (root_of roots path) base) (targets_of puts))
count-to roots base [] = refl
count-to roots base (put ∷ puts) = by (same_root (root_of roots put.0) base) (count-to roots base puts)
  where
    by : (b : Bool) → length (nodes_below roots base puts) ≡ length (filter (λ path. same_root (root_of roots path) base) (targets_of puts))
        → length (map (λ (p : Path × Node). p.1) (cond b (put ∷ filter (λ p. same_root (root_of roots p.0) base) puts) (filter (λ p. same_root (root_of roots p.0) base) puts)))
        ≡ length (cond b (put.0 ∷ filter (λ path. same_root (root_of roots path) base) (targets_of puts)) (filter (λ path. same_root (root_of roots path) base) (targets_of puts)))
    by true e = ap suc e
    by false e = e

numbered-to : (roots : Roots) (earlier puts : List (Path × Node)) → numbered_puts roots earlier puts ≡ numbered_to roots (targets_of earlier) (targets_of puts)
unfolding numbered_to
numbered-to roots earlier [] = refl
numbered-to roots earlier (put ∷ puts) = (λ k. Put (root_of roots put.0) (count-to roots (root_of roots put.0) earlier k) put.0
    ∷ (numbered-to roots (earlier ++ put ∷ []) puts ∙ ap (λ targets. numbered_to roots targets (targets_of puts)) (map-append (λ (p : Path × Node). p.0) earlier (put ∷ []))) k)

-- patches with the same paths have the same changes
changes-same : (roots : Roots) (a b : Patch) → a.drops ≡ b.drops → a.wipes ≡ b.wipes → a.dirs ≡ b.dirs → targets_of a.puts ≡ targets_of b.puts → changes_of roots a ≡ changes_of roots b
unfolding changes_of
changes-same roots a b drops wipes dirs puts = (λ k.
    map Drop (drops_same k) ++ (map Wipe (wipes k ++ scratches roots (emptied k)) ++ (map Dir (come k) ++ (numbered k ++ map DropDir (emptied k)))))
  where
    drops_same : drops_of a ≡ drops_of b
    drops_same = sym (drops-are a (targets_of a.puts) refl) ∙ (λ k. filter (λ path. not (is_listed path (puts k))) (drops k)) ∙ drops-are b (targets_of b.puts) refl

    come : dirs_of roots a ≡ dirs_of roots b
    come = (λ k. in_order (flat_map (above roots) (dirs k ++ puts k) ++ dirs k))

    emptied : emptied_of roots a ≡ emptied_of roots b
    emptied = (λ k. reverse (in_order (flat_map (above roots) (filter (λ path. is_under path roots.dkms) (drops k ++ wipes k)))))

    numbered : numbered_puts roots [] a.puts ≡ numbered_puts roots [] b.puts
    numbered = numbered-to roots [] a.puts ∙ ap (numbered_to roots []) puts ∙ sym (numbered-to roots [] b.puts)

-- so the changes of a patch are those of its paths
pub changes-are : (roots : Roots) (patch : Patch) (paths : PatchPaths) → ArePathsOf patch paths → changes_of roots (some_patch paths) ≡ changes_of roots patch
changes-are roots patch paths are = changes-same roots (some_patch paths) patch are.drops are.wipes are.dirs (targets-are paths.puts ∙ are.puts)

-- the changes from their parts
pub from_parts : (roots : Roots) (paths : PatchPaths) (emptied : List Path) → emptied ≡ emptied_of roots (some_patch paths)
    → (((map Drop (drops_of (some_patch paths)) ++ map Wipe (paths.wipes ++ scratches roots emptied)) ++ map Dir (dirs_of roots (some_patch paths))) ++ numbered_puts roots [] (some_puts paths.puts)) ++ map DropDir emptied
    ≡ changes_of roots (some_patch paths)
unfolding changes_of
from_parts roots paths emptied are =
    joined (map Drop (drops_of (some_patch paths))) (map Wipe (paths.wipes ++ scratches roots emptied)) (map Dir (dirs_of roots (some_patch paths))) (numbered_puts roots [] (some_puts paths.puts)) (map DropDir emptied)
    ∙ ap (λ ps. map Drop (drops_of (some_patch paths)) ++ (map Wipe (paths.wipes ++ scratches roots ps) ++ (map Dir (dirs_of roots (some_patch paths)) ++ (numbered_puts roots [] (some_puts paths.puts) ++ map DropDir ps)))) are
  where
    joined : (a b c d e : List Change) → (((a ++ b) ++ c) ++ d) ++ e ≡ a ++ (b ++ (c ++ (d ++ e)))
    joined a b c d e = simp append_assoc
