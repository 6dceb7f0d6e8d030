-- What is staged stands until it is put, and then at its target.
use Rattle.std.proofs.Common.{◌≡◌, ◌≢◌, ℕ, ◌<◌, ◌^◌, ◌≤◌, Bool, true, false, cond, ◌&&◌, ◌||◌, not, List, [], ◌∷◌, ◌++◌, length, map, Option, Some, None, is_some, codes, refl, sym, ap, ◌∙◌, subst, append_assoc, arith, length-append}
use Rattle.std.proofs.lemmas.List.{append_cancel_left, map-append}
use Rattle.std.proofs.lemmas.Fmt.{decimal_injective}
use Rattle.std.specs.Prelude.{filter}
use Rattle.std.specs.List.{list_any, slice_get, AllByRecursion}
use Rattle.std.specs.Fmt.{decimal}
use Rattle.kb_world.specs.Path.{Path, parent, is_under}
use Rattle.kb_world.specs.Tree.{Tree, node_at, without, edited, moved, is_leaf, is_dir}
use Rattle.kb_world.specs.TreeLaws.{same_path, same_path-true, same_path-refl, with_node-apart, node_at-with_node, node_at-remove}
use Rattle.kb_world.specs.Public.{IsAlwaysPublic, is_private, staging_path, public_tree, foreign_tree, private_places, is_loose}
use Rattle.kb_world.specs.Roots.{AreApart}
use Rattle.kb_world.specs.Script.{Script}
use Rattle.kb_world.specs.StorePath.{store_path, is_in_scratch}
use Rattle.kb_world.specs.Patch.{with_nodes, is_listed}
use Rattle.kb_world.specs.declared.roots.Roots.{Roots}
use Rattle.kb_world.specs.declared.tree.Node.{Node}
use Rattle.kb_world.proofs.PathLaws.{under-append, under-above, elsewhere, apart-back}
use Rattle.kb_world.proofs.PublicLaws.{WrittenApart, written_apart}
use Rattle.kb_changes.specs.Change.{root_path, staged_path, do_change, done}
use Rattle.kb_changes.specs.Changes.{root_of, same_root, nodes_below, numbered_puts, Staged, staged_below, HasStaged}
use Rattle.kb_changes.specs.declared.change.Change.TheVariants.{Put}
use Rattle.kb_changes.specs.declared.change.RootName.{RootName}
use Rattle.kb_changes.specs.declared.change.RootName.TheVariants as root_name
use Rattle.kb_world.proofs.OrderLaws.{any-of}
use Rattle.kb_changes.proofs.PatchParents.{nth_listed, modules_boot}
use Rattle.kb_changes.proofs.PatchPublic.{IsNeverPublic, public-moved}
use Rattle.kb_changes.proofs.PatchForeign.{foreign-moved}

untrue : false ≡ true → ⊥
untrue e = cc

-- ---- the staged places

-- they are the tool's own
pub staged_private : (roots : Roots) (base : RootName) (number : ℕ) → is_private roots (staged_path roots base number) ≡ true
staged_private roots base number =
    ap (λ b. b || is_in_scratch (store_path roots (staged_path roots base number)))
    (any-of (is_under (staged_path roots base number)) (private_places roots) (staging_path (root_path roots base)) (under-append (staging_path (root_path roots base)) (decimal number ∷ [])) (own base))
  where
    own : (r : RootName) → is_listed (staging_path (root_path roots r)) (private_places roots) ≡ true
    own root_name.Dkms = nth_listed (private_places roots) 2 (staging_path roots.dkms) refl
    own root_name.Src = nth_listed (private_places roots) 3 (staging_path roots.src) refl
    own root_name.Modules = nth_listed (private_places roots) 4 (staging_path roots.modules) refl
    own root_name.Boot = nth_listed (private_places roots) 5 (staging_path roots.boot) refl

pub private_hidden : (roots : Roots) (path : Path) → is_private roots path ≡ true → IsNeverPublic roots path
private_hidden roots path private at =
    ap (λ v. list_any (is_under path) (roots.dkms ∷ roots.src ∷ roots.modules ∷ roots.boot ∷ []) && not v && not (is_loose roots path at)) private
    ∙ by (list_any (is_under path) (roots.dkms ∷ roots.src ∷ roots.modules ∷ roots.boot ∷ [])) (is_loose roots path at)
  where
    by : (u w : Bool) → (u && not true && not w) ≡ false
    by true w = refl
    by false w = refl

pub open_no_private : (roots : Roots) (path : Path) → IsAlwaysPublic roots path → is_private roots path ≡ true → ⊥
open_no_private roots path opens private = untrue (sym (private_hidden roots path private None) ∙ opens None)

module _ (roots : Roots) (apart : AreApart roots) where
  -- the base that a path lies under
  pub root-under : (base : RootName) (path : Path) → is_under path (root_path roots base) ≡ true → root_of roots path ≡ base
  root-under base path under = by base under
    where
      w : WrittenApart roots
      w = written_apart roots apart

      behind_dkms : RootName
      behind_dkms = cond (is_under path roots.src) root_name.Src (cond (is_under path roots.modules) root_name.Modules root_name.Boot)

      by : (r : RootName) → is_under path (root_path roots r) ≡ true → root_of roots path ≡ r
      by root_name.Dkms u = ap (λ b. cond b root_name.Dkms behind_dkms) u
      by root_name.Src u =
          ap (λ b. cond b root_name.Dkms behind_dkms) (elsewhere path roots.src roots.dkms (apart-back roots.dkms roots.src w.dkms_src) u)
          ∙ ap (λ b. cond b root_name.Src (cond (is_under path roots.modules) root_name.Modules root_name.Boot)) u
      by root_name.Modules u =
          ap (λ b. cond b root_name.Dkms behind_dkms) (elsewhere path roots.modules roots.dkms (apart-back roots.dkms roots.modules w.dkms_modules) u)
          ∙ ap (λ b. cond b root_name.Src (cond (is_under path roots.modules) root_name.Modules root_name.Boot)) (elsewhere path roots.modules roots.src (apart-back roots.src roots.modules w.src_modules) u)
          ∙ ap (λ b. cond b root_name.Modules root_name.Boot) u
      by root_name.Boot u =
          ap (λ b. cond b root_name.Dkms behind_dkms) (elsewhere path roots.boot roots.dkms (apart-back roots.dkms roots.boot w.dkms_boot) u)
          ∙ ap (λ b. cond b root_name.Src (cond (is_under path roots.modules) root_name.Modules root_name.Boot)) (elsewhere path roots.boot roots.src (apart-back roots.src roots.boot w.src_boot) u)
          ∙ ap (λ b. cond b root_name.Modules root_name.Boot) (elsewhere path roots.boot roots.modules (apart-back roots.modules roots.boot (modules_boot roots apart)) u)

  staged_root : (base : RootName) (number : ℕ) → root_of roots (staged_path roots base number) ≡ base
  staged_root base number =
      root-under base (staged_path roots base number)
      (under-above (staged_path roots base number) (root_path roots base) (codes ".kb-staged" ∷ []) (under-append (staging_path (root_path roots base)) (decimal number ∷ [])))

  -- another base or another number is another place
  pub staged_apart : (a b : RootName) (m n : ℕ) → m < 2 ^ 64 → n < 2 ^ 64 → (a ≡ b → m ≡ n → ⊥) → staged_path roots a m ≢ staged_path roots b n
  staged_apart a b m n small also other same =
      let one_root : a ≡ b = sym (staged_root a m) ∙ ap (root_of roots) same ∙ staged_root b n in
      let one_path = ap (λ r. staged_path roots r m) (sym one_root) ∙ same in
      let ends = append_cancel_left (staging_path (root_path roots b)) (decimal m ∷ []) (decimal n ∷ []) one_path in
      let texts : decimal m ≡ decimal n = cc in
      other one_root (decimal_injective m n small also texts)

-- ---- which nodes are staged

-- each node to be put stands at its staged place
abbrev pub AreStaged : Roots → List (Path × Node) → List (Path × Node) → Tree → Type 0
AreStaged roots earlier [] tree = Unit {0}
AreStaged roots earlier (put ∷ puts) tree =
    (node_at tree (staged_path roots (root_of roots put.0) (length (nodes_below roots (root_of roots put.0) earlier))) ≡ Some put.1) × AreStaged roots (earlier ++ put ∷ []) puts tree

same_root-refl : (base : RootName) → same_root base base ≡ true
same_root-refl root_name.Dkms = refl
same_root-refl root_name.Src = refl
same_root-refl root_name.Modules = refl
same_root-refl root_name.Boot = refl

filter-append : {X : Type 0} (test : X → Bool) (a b : List X) → filter test (a ++ b) ≡ filter test a ++ filter test b
filter-append test [] b = refl
filter-append test (x ∷ a) b = by (test x) (filter-append test a b)
  where
    by : (t : Bool) → filter test (a ++ b) ≡ filter test a ++ filter test b → cond t (x ∷ filter test (a ++ b)) (filter test (a ++ b)) ≡ cond t (x ∷ filter test a) (filter test a) ++ filter test b
    by true e = ap (λ l. x ∷ l) e
    by false e = e

pub below-append-nodes : (roots : Roots) (base : RootName) (a b : List (Path × Node)) → nodes_below roots base (a ++ b) ≡ nodes_below roots base a ++ nodes_below roots base b
below-append-nodes roots base a b =
    ap (map (λ (put : Path × Node). put.1)) (filter-append (λ put. same_root (root_of roots put.0) base) a b)
    ∙ map-append (λ (put : Path × Node). put.1) (filter (λ put. same_root (root_of roots put.0) base) a) (filter (λ put. same_root (root_of roots put.0) base) b)

pub own_node : (roots : Roots) (put : Path × Node) (puts : List (Path × Node)) → nodes_below roots (root_of roots put.0) (put ∷ puts) ≡ put.1 ∷ nodes_below roots (root_of roots put.0) puts
own_node roots put puts =
    ap (λ b. map (λ (p : Path × Node). p.1) (cond b (put ∷ filter (λ p. same_root (root_of roots p.0) (root_of roots put.0)) puts) (filter (λ p. same_root (root_of roots p.0) (root_of roots put.0)) puts))) (same_root-refl (root_of roots put.0))

get_behind : {X : Type 0} (a : List X) (x : X) (b : List X) → slice_get (a ++ x ∷ b) (length a) ≡ Some x
get_behind [] x b = refl
get_behind (y ∷ a) x b = get_behind a x b

pub are_staged : (roots : Roots) (whole earlier puts : List (Path × Node)) (tree : Tree) → whole ≡ earlier ++ puts
    → ((base : RootName) (number : ℕ) (node : Node) → slice_get (nodes_below roots base whole) number ≡ Some node → node_at tree (staged_path roots base number) ≡ Some node) → AreStaged roots earlier puts tree
are_staged roots whole earlier [] tree is all = tt
are_staged roots whole earlier (put ∷ puts) tree is all = (
  all base (length (nodes_below roots base earlier)) put.1 (
      ap (λ l. slice_get (nodes_below roots base l) (length (nodes_below roots base earlier))) is
      ∙ ap (λ l. slice_get l (length (nodes_below roots base earlier))) (below-append-nodes roots base earlier (put ∷ puts) ∙ ap (λ l. nodes_below roots base earlier ++ l) (own_node roots put puts))
      ∙ get_behind (nodes_below roots base earlier) put.1 (nodes_below roots base puts)),
  are_staged roots whole (earlier ++ put ∷ []) puts tree (is ∙ sym (append_assoc earlier (put ∷ []) puts)) all,
)
  where
    base : RootName
    base = root_of roots put.0

pub staged_for : (roots : Roots) (dirs_puts : List (Path × Node)) (staged : Staged) (tree : Tree) → ((base : RootName) → staged_below staged base ≡ nodes_below roots base dirs_puts) → HasStaged roots staged tree → AreStaged roots [] dirs_puts tree
staged_for roots puts staged tree is all = are_staged roots puts [] puts tree refl (λ base number node got. all base number node (ap (λ l. slice_get l number) (is base) ∙ got))

-- ---- numbers rise

pub count-most : (roots : Roots) (base : RootName) (puts : List (Path × Node)) → length (nodes_below roots base puts) ≤ length puts
count-most roots base [] = omega arith
count-most roots base (put ∷ puts) = by (same_root (root_of roots put.0) base) (count-most roots base puts)
  where
    by : (b : Bool) → length (nodes_below roots base puts) ≤ length puts
        → length (map (λ (p : Path × Node). p.1) (cond b (put ∷ filter (λ p. same_root (root_of roots p.0) base) puts) (filter (λ p. same_root (root_of roots p.0) base) puts))) ≤ length (put ∷ puts)
    by true h = omega arith
    by false h = omega arith

pub count-grows : (roots : Roots) (base : RootName) (a b : List (Path × Node)) → length (nodes_below roots base a) ≤ length (nodes_below roots base (a ++ b))
count-grows roots base a b = omega (arith, ap length (below-append-nodes roots base a b), length-append (nodes_below roots base a) (nodes_below roots base b))

-- ---- one put

leaf_no_dir : (at : Option Node) → is_leaf at ≡ true → is_dir at ≡ false
leaf_no_dir at leaf = by (is_some at) (is_dir at) leaf
  where
    by : (s d : Bool) → (s && not d) ≡ true → d ≡ false
    by s false e = refl
    by true true e = absurd (untrue e)
    by false true e = absurd (untrue e)

pub moved-apart : (staged target : Path) (at : Node) (tree : Tree) (q : Path) → node_at tree staged ≡ Some at → q ≢ staged → q ≢ target → node_at (moved staged target tree) q ≡ node_at tree q
moved-apart staged target at tree q is one two =
    ap (λ n. node_at (edited target n (without staged tree)) q) is ∙ with_node-apart (without staged tree) target at q two
    ∙ node_at-remove tree staged q ∙ ap (λ b. cond b None (node_at tree q)) (other (same_path q staged) refl)
  where
    other : (b : Bool) → same_path q staged ≡ b → b ≡ false
    other true e = absurd (one (same_path-true q staged e))
    other false e = refl

moved-there : (staged target : Path) (at : Node) (tree : Tree) → node_at tree staged ≡ Some at → node_at (moved staged target tree) target ≡ Some at
moved-there staged target at tree is =
    ap (λ n. node_at (edited target n (without staged tree)) target) is ∙ node_at-with_node (without staged tree) target at target
    ∙ ap (λ b. cond b (Some at) (node_at (without staged tree) target)) (same_path-refl target)

-- what is put can be put now
pub record IsReadyPut (roots : Roots) (tree : Tree) (put : Path × Node) : Type 0 where
  pub opens : IsAlwaysPublic roots put.0
  pub leaf : is_leaf (Some put.1) ≡ true
  pub free : is_dir (node_at tree put.0) ≡ false
  pub in_directory : is_dir (node_at tree (parent put.0)) ≡ true

-- what such changes leave
pub record IsPutOver (roots : Roots) (puts : List (Path × Node)) (old new : Tree) : Type 0 where
  pub public : public_tree roots new ≡ with_nodes puts (public_tree roots old)
  pub foreign : foreign_tree roots new ≡ foreign_tree roots old
  -- nothing private comes
  pub private : (q : Path) → is_private roots q ≡ true → is_some (node_at new q) ≡ true → is_some (node_at old q) ≡ true
  -- no public directory goes
  pub dirs : (q : Path) → IsAlwaysPublic roots q → is_dir (node_at old q) ≡ true → is_dir (node_at new q) ≡ true

put_over-none : (roots : Roots) (tree : Tree) → IsPutOver roots [] tree tree
put_over-none roots tree = record { public = refl; foreign = refl; private = λ q p s. s; dirs = λ q o d. d }

put_over-then : (roots : Roots) (put : Path × Node) (puts : List (Path × Node)) (old mid new : Tree) → IsPutOver roots (put ∷ []) old mid → IsPutOver roots puts mid new → IsPutOver roots (put ∷ puts) old new
put_over-then roots put puts old mid new a b = record {
  public = b.public ∙ ap (with_nodes puts) a.public;
  foreign = b.foreign ∙ a.foreign;
  private = λ q p s. a.private q p (b.private q p s);
  dirs = λ q o d. b.dirs q o (a.dirs q o d);
}

module _ (roots : Roots) (apart : AreApart roots) (script : Script) where
  -- one put is a move
  put_done : (tree : Tree) (base : RootName) (number : ℕ) (put : Path × Node) → IsReadyPut roots tree put → node_at tree (staged_path roots base number) ≡ Some put.1
      → do_change roots script (Put base number put.0) tree ≡ moved (staged_path roots base number) put.0 tree
  put_done tree base number put r there =
      let staged = staged_path roots base number in
      ap (λ b. cond (b && not (is_dir (node_at tree put.0)) && is_dir (node_at tree (parent put.0))) (moved staged put.0 tree) tree) (ap is_leaf there ∙ r.leaf)
      ∙ ap (λ b. cond (true && not b && is_dir (node_at tree (parent put.0))) (moved staged put.0 tree) tree) r.free
      ∙ ap (λ b. cond (true && not false && b) (moved staged put.0 tree) tree) r.in_directory

  moved_over : (tree : Tree) (base : RootName) (number : ℕ) (put : Path × Node) → IsReadyPut roots tree put → node_at tree (staged_path roots base number) ≡ Some put.1
      → IsPutOver roots (put ∷ []) tree (moved (staged_path roots base number) put.0 tree)
  moved_over tree base number put r there = record {
    public = public-moved roots staged put.0 put.1 tree there (private_hidden roots staged (staged_private roots base number)) r.opens;
    foreign = foreign-moved roots staged put.0 put.1 tree there (staged_private roots base number) r.opens;
    private = λ q p s. left q p (same_path q staged) refl s;
    dirs = λ q o d.
        ap is_dir (moved-apart staged put.0 put.1 tree q there (λ e. open_no_private roots q o (ap (is_private roots) e ∙ staged_private roots base number))
        (λ e. untrue (sym r.free ∙ ap (λ p. is_dir (node_at tree p)) (sym e) ∙ d))) ∙ d;
  }
    where
      staged : Path
      staged = staged_path roots base number

      left : (q : Path) → is_private roots q ≡ true → (b : Bool) → same_path q staged ≡ b → is_some (node_at (moved staged put.0 tree) q) ≡ true → is_some (node_at tree q) ≡ true
      left q p true e s = ap (λ x. is_some (node_at tree x)) (same_path-true q staged e) ∙ ap is_some there
      left q p false e s =
          ap is_some (sym (moved-apart staged put.0 put.1 tree q there (λ same. untrue (sym e ∙ ap (λ x. same_path x staged) same ∙ same_path-refl staged))
          (λ same. open_no_private roots put.0 r.opens (ap (is_private roots) (sym same) ∙ p)))) ∙ s

  -- another put stays ready
  ready_kept : (tree : Tree) (base : RootName) (number : ℕ) (put next : Path × Node) → IsReadyPut roots tree put → node_at tree (staged_path roots base number) ≡ Some put.1
      → IsReadyPut roots tree next → IsReadyPut roots (moved (staged_path roots base number) put.0 tree) next
  ready_kept tree base number put next r there n = record {
    opens = n.opens;
    leaf = n.leaf;
    free = free (same_path next.0 put.0) refl;
    in_directory =
        ap is_dir (moved-apart staged put.0 put.1 tree (parent next.0) there
        (dir_other (parent next.0) staged n.in_directory (ap is_dir there ∙ leaf_no_dir (Some put.1) r.leaf))
        (dir_other (parent next.0) put.0 n.in_directory r.free)) ∙ n.in_directory;
  }
    where
      staged : Path
      staged = staged_path roots base number

      dir_other : (a b : Path) → is_dir (node_at tree a) ≡ true → is_dir (node_at tree b) ≡ false → a ≢ b
      dir_other a b one two same = untrue (sym two ∙ ap (λ p. is_dir (node_at tree p)) (sym same) ∙ one)

      free : (b : Bool) → same_path next.0 put.0 ≡ b → is_dir (node_at (moved staged put.0 tree) next.0) ≡ false
      free true e = ap (λ p. is_dir (node_at (moved staged put.0 tree) p)) (same_path-true next.0 put.0 e) ∙ ap is_dir (moved-there staged put.0 put.1 tree there) ∙ leaf_no_dir (Some put.1) r.leaf
      free false e =
          ap is_dir (moved-apart staged put.0 put.1 tree next.0 there (λ same. open_no_private roots next.0 n.opens (ap (is_private roots) same ∙ staged_private roots base number))
          (λ same. untrue (sym e ∙ ap (λ p. same_path p put.0) same ∙ same_path-refl put.0))) ∙ n.free

  all_ready_kept : (tree : Tree) (base : RootName) (number : ℕ) (put : Path × Node) (puts : List (Path × Node)) → IsReadyPut roots tree put → node_at tree (staged_path roots base number) ≡ Some put.1
      → AllByRecursion (IsReadyPut roots tree) puts → AllByRecursion (IsReadyPut roots (moved (staged_path roots base number) put.0 tree)) puts
  all_ready_kept tree base number put [] r there all = tt
  all_ready_kept tree base number put (next ∷ puts) r there all = (ready_kept tree base number put next r there all.0, all_ready_kept tree base number put puts r there all.1)

  -- what is staged for later puts stays staged
  staged_kept : (tree : Tree) (base : RootName) (number : ℕ) (put : Path × Node) → IsReadyPut roots tree put → node_at tree (staged_path roots base number) ≡ Some put.1
      → (earlier puts : List (Path × Node)) → number < length (nodes_below roots base earlier) → length (earlier ++ puts) < 2 ^ 64
      → AreStaged roots earlier puts tree → AreStaged roots earlier puts (moved (staged_path roots base number) put.0 tree)
  staged_kept tree base number put r there earlier [] behind few all = tt
  staged_kept tree base number put r there earlier (next ∷ puts) behind few all = (
    moved-apart (staged_path roots base number) put.0 put.1 tree place there
        (staged_apart roots apart own base (length (nodes_below roots own earlier)) number
        (omega (arith, count-most roots own earlier, length-append earlier (next ∷ puts))) (omega (arith, count-most roots base earlier, length-append earlier (next ∷ puts)))
        (λ one same. absurd (later one same)))
        (λ same. open_no_private roots put.0 r.opens (ap (is_private roots) (sym same) ∙ staged_private roots own (length (nodes_below roots own earlier)))) ∙ all.0,
    staged_kept tree base number put r there (earlier ++ next ∷ []) puts (omega (arith, count-grows roots base earlier (next ∷ []))) (omega (arith, ap length (append_assoc earlier (next ∷ []) puts))) all.1,
  )
    where
      own : RootName
      own = root_of roots next.0

      place : Path
      place = staged_path roots own (length (nodes_below roots own earlier))

      later : own ≡ base → length (nodes_below roots own earlier) ≡ number → ⊥
      later one same =
          let counts : length (nodes_below roots own earlier) ≡ length (nodes_below roots base earlier) = ap (λ x. length (nodes_below roots x earlier)) one in omega arith

  pub puts_done : (earlier puts : List (Path × Node)) (tree : Tree) → length (earlier ++ puts) < 2 ^ 64 → AllByRecursion (IsReadyPut roots tree) puts → AreStaged roots earlier puts tree
      → IsPutOver roots puts tree (done roots script (numbered_puts roots earlier puts) tree)
  puts_done earlier [] tree few ready staged = put_over-none roots tree
  puts_done earlier (put ∷ puts) tree few ready staged =
      let base = root_of roots put.0 in
      let number = length (nodes_below roots base earlier) in
      let mid = moved (staged_path roots base number) put.0 tree in
      let more : number < length (nodes_below roots base (earlier ++ put ∷ [])) =
      omega (arith, ap length (below-append-nodes roots base earlier (put ∷ [])), length-append (nodes_below roots base earlier) (nodes_below roots base (put ∷ [])), ap length (own_node roots put [])) in
      let few_more : length ((earlier ++ put ∷ []) ++ puts) < 2 ^ 64 = omega (arith, ap length (append_assoc earlier (put ∷ []) puts)) in
      subst (λ t. IsPutOver roots (put ∷ puts) tree (done roots script (numbered_puts roots (earlier ++ put ∷ []) puts) t)) (sym (put_done tree base number put ready.0 staged.0))
      (put_over-then roots put puts tree mid (done roots script (numbered_puts roots (earlier ++ put ∷ []) puts) mid) (moved_over tree base number put ready.0 staged.0)
      (puts_done (earlier ++ put ∷ []) puts mid few_more (all_ready_kept tree base number put puts ready.0 staged.0 ready.1)
      (staged_kept tree base number put ready.0 staged.0 (earlier ++ put ∷ []) puts more few_more staged.1)))
