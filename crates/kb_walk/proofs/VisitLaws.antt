-- How a walk goes on over the entries of a directory.
use Rattle.std.proofs.Common.{◌≡◌, ◌≤◌, ℕ, suc, zero, ◌+◌, ◌-◌, Bool, true, false, cond, ◌&&◌, ◌||◌, not, List, [], ◌∷◌, ◌++◌, length, take, drop, Option, Some, None, is_some, refl, sym, ap, ◌∙◌, arith, length-append, nat_eq}
use Rattle.std.specs.Prelude.{filter, flat_map, nat_le, nat_lt}
use Rattle.std.specs.Option.{ForSome}
use Rattle.std.specs.Cmp.{first_so}
use Rattle.std.proofs.lemmas.List.{take_all}
use Rattle.std.proofs.lemmas.Bool.{lt-ltb, le-ltb}
use Rattle.std.proofs.Math.Dec.{eqb-suc-zero}
use Rattle.std.specs.FinMap.{keys}
use Rattle.kb_world.specs.Roots.{is_below}
use Rattle.kb_world.proofs.DamageLaws.{under-split}
use Rattle.kb_world.specs.Path.{Path, child, is_under}
use Rattle.kb_world.specs.Tree.{Tree, node_at, is_dir, is_leaf, kind_of, children, IsFormed}
use Rattle.kb_world.specs.State.{State}
use Rattle.kb_world.specs.declared.tree.Kind.{Kind}
use Rattle.kb_world.specs.declared.tree.Kind.TheVariants as kind
use Rattle.kb_world.specs.declared.tree.Node.{Node}
use Rattle.kb_world.specs.declared.tree.Node.TheVariants as node
use Rattle.kb_walk.specs.Walking.{paths_below, entries, entry_block, passes_limit, meets, walk_on, is_dir_kind, is_leaf_kind}
use Rattle.kb_walk.specs.declared.walking.Met.{Met}
use Rattle.kb_walk.specs.declared.walking.Walk.{Walk}
use Rattle.kb_world.proofs.LookLaws.{Quiet}
use Rattle.kb_walk.proofs.WalkLaws.{below_entries, below_leaf}

-- ---- the walk

pub walk_over : (tree : Tree) (most deepest : ℕ) (walk : Walk) (paths : List Path) → is_some walk.over ≡ true → walk_on tree most deepest walk paths ≡ walk
walk_over tree most deepest walk [] h = refl
walk_over tree most deepest walk (path ∷ paths) h = ap (λ w. walk_on tree most deepest w paths) (unmet walk.over refl h) ∙ walk_over tree most deepest walk paths h
  where
    unmet : (o : Option Path) → walk.over ≡ o → is_some o ≡ true → meets tree most deepest walk path ≡ walk
    unmet None e some = let impossible : true ≡ false = sym some in cc
    unmet (Some over) e some = rw e refl

meets-open : (tree : Tree) (most deepest : ℕ) (walk : Walk) (path : Path) → is_some walk.over ≡ false → meets tree most deepest walk path
    ≡ cond (passes_limit tree most deepest walk.met path) (record { met = walk.met; over = Some path }) (record { met = walk.met ++ record { path = path; kind = kind_of (node_at tree path) } ∷ []; over = None })
meets-open tree most deepest walk path h = by walk.over refl h
  where
    by : (o : Option Path) → walk.over ≡ o → is_some o ≡ false → meets tree most deepest walk path
        ≡ cond (passes_limit tree most deepest walk.met path) (record { met = walk.met; over = Some path }) (record { met = walk.met ++ record { path = path; kind = kind_of (node_at tree path) } ∷ []; over = None })
    by None e none = rw e refl
    by (Some over) e none = let impossible : true ≡ false = none in cc

pub dir_of : (at : Option Node) → is_dir_kind (kind_of at) ≡ is_dir at
dir_of None = refl
dir_of (Some node.Dir) = refl
dir_of (Some (node.File bytes exec)) = refl
dir_of (Some (node.Link text)) = refl

pub leaf_of : (at : Option Node) → is_leaf_kind (kind_of at) ≡ is_leaf at
leaf_of None = refl
leaf_of (Some node.Dir) = refl
leaf_of (Some (node.File bytes exec)) = refl
leaf_of (Some (node.Link text)) = refl

-- an entry is too deep where no deeper directory is allowed
too_deep : (d : Path) (name : List ℕ) (depth : ℕ) → nat_lt (length d + depth) (length (child d name)) ≡ nat_eq depth 0
too_deep d name zero = lt-ltb (length d + 0) (length (child d name)) (omega (arith, length-append d (name ∷ [])))
too_deep d name (suc depth) = le-ltb (length d + suc depth) (length (child d name)) (omega (arith, length-append d (name ∷ []))) ∙ sym (eqb-suc-zero depth)

passes-is : (tree : Tree) (d : Path) (name : List ℕ) (most depth : ℕ) (met : List Met) (kind : Kind) → kind ≡ kind_of (node_at tree (child d name))
    → passes_limit tree most (length d + depth) met (child d name) ≡ (nat_le most (length met) || nat_eq depth 0 && is_dir_kind kind)
passes-is tree d name most depth met kind e =
    ap (λ b. nat_le most (length met) || b && is_dir (node_at tree (child d name))) (too_deep d name depth)
    ∙ ap (λ b. nat_le most (length met) || nat_eq depth 0 && b) (sym (dir_of (node_at tree (child d name))) ∙ ap is_dir_kind (sym e))

module _ (tree : Tree) (skips : Path → Bool) (d : Path) (name : List ℕ) (most depth : ℕ) (walk : Walk) (path : Path) (kind : Kind)
    (is : path ≡ child d name) (open_walk : is_some walk.over ≡ false) (kept : skips path ≡ false) (seen : kind ≡ kind_of (node_at tree path)) where
  block-is : entry_block tree skips d name ≡ child d name ∷ entries tree skips (child d name)
  block-is = ap (λ b. cond b [] (child d name ∷ entries tree skips (child d name))) (ap skips (sym is) ∙ kept)

  abbrev tested : Bool
  tested = nat_le most (length walk.met) || nat_eq depth 0 && is_dir_kind kind

  met-is : meets tree most (length d + depth) walk (child d name)
      ≡ cond tested (record { met = walk.met; over = Some (child d name) }) (record { met = walk.met ++ record { path = child d name; kind = kind_of (node_at tree (child d name)) } ∷ []; over = None })
  met-is =
      meets-open tree most (length d + depth) walk (child d name) open_walk
      ∙ ap (λ b. cond b (record { met = walk.met; over = Some (child d name) }) (record { met = walk.met ++ record { path = child d name; kind = kind_of (node_at tree (child d name)) } ∷ []; over = None }))
      (passes-is tree d name most depth walk.met kind (seen ∙ ap (λ p. kind_of (node_at tree p)) is))

  pub entry_passed : (nat_le most (length walk.met) || nat_eq depth 0 && is_dir_kind kind) ≡ true
      → ◌≡◌ {A = Walk} (record { met = walk.met; over = Some path }) (walk_on tree most (length d + depth) walk (entry_block tree skips d name))
  entry_passed passed = sym (
      ap (walk_on tree most (length d + depth) walk) block-is
      ∙ ap (λ w. walk_on tree most (length d + depth) w (entries tree skips (child d name))) (met-is ∙ ap (λ b. cond b (record { met = walk.met; over = Some (child d name) }) (record { met = walk.met ++ record { path = child d name; kind = kind_of (node_at tree (child d name)) } ∷ []; over = None })) passed)
      ∙ walk_over tree most (length d + depth) (record { met = walk.met; over = Some (child d name) }) (entries tree skips (child d name)) refl
      ∙ ap (λ p. record { met = walk.met; over = Some p }) (sym is))

  pub entry_met : (nat_le most (length walk.met) || nat_eq depth 0 && is_dir_kind kind) ≡ false
      → walk_on tree most (length d + depth) (record { met = walk.met ++ record { path = path; kind = kind } ∷ []; over = None }) (entries tree skips path) ≡ walk_on tree most (length d + depth) walk (entry_block tree skips d name)
  entry_met passed = sym (
      ap (walk_on tree most (length d + depth) walk) block-is
      ∙ ap (λ w. walk_on tree most (length d + depth) w (entries tree skips (child d name))) (met-is ∙ ap (λ b. cond b (record { met = walk.met; over = Some (child d name) }) (record { met = walk.met ++ record { path = child d name; kind = kind_of (node_at tree (child d name)) } ∷ []; over = None })) passed)
      ∙ ap (λ p. walk_on tree most (length d + depth) (record { met = walk.met ++ record { path = p; kind = kind_of (node_at tree p) } ∷ []; over = None }) (entries tree skips p)) (sym is)
      ∙ ap (λ k. walk_on tree most (length d + depth) (record { met = walk.met ++ record { path = path; kind = k } ∷ []; over = None }) (entries tree skips path)) (sym seen))

-- a kind that isn't that of a directory
pub no_dir : (seen : Kind) → (seen ≡ kind.Dir → ⊥) → is_dir_kind seen ≡ false
no_dir kind.Absent other = refl
no_dir kind.Dir other = absurd (other refl)
no_dir (kind.File len exec) other = refl
no_dir kind.Link other = refl

none_of : {A : Type 0} (o : Option A) → is_some o ≡ false → o ≡ None
none_of None h = refl
none_of (Some x) h = let impossible : true ≡ false = h in cc

-- the walk with the entry
pub pushed-is : (walk : Walk) (met : List Met) (path copy : Path) (kind : Kind) → is_some walk.over ≡ false → met ≡ walk.met ++ record { path = copy; kind = kind } ∷ [] → copy ≡ path
    → ◌≡◌ {A = Walk} (record { met = met; over = walk.over }) (record { met = walk.met ++ record { path = path; kind = kind } ∷ []; over = None })
pushed-is walk met path copy kind open_walk pushed same =
    let over = none_of walk.over open_walk in
    let all = pushed ∙ ap (λ p. walk.met ++ record { path = p; kind = kind } ∷ []) same in
    λ i. record { met = all i; over = over i }

pub leaf_met : (tree : Tree) (skips : Path → Bool) (path : Path) (most deepest : ℕ) (walk : Walk) (kind : Kind) → IsFormed tree → kind ≡ kind_of (node_at tree path) → is_dir_kind kind ≡ false
    → walk_on tree most deepest walk (entries tree skips path) ≡ walk
leaf_met tree skips path most deepest walk kind formed seen leaf =
    ap (walk_on tree most deepest walk) (ap (filter (λ p. not (skips p))) (below_leaf tree formed path (sym (dir_of (node_at tree path)) ∙ ap is_dir_kind (sym seen) ∙ leaf)))

-- an entry that is no directory was met
pub entry_left : (tree : Tree) (skips : Path → Bool) (d : Path) (name : List ℕ) (most depth : ℕ) (walk : Walk) (path : Path) (kind : Kind) (met : List Met) (copy : Path)
    → path ≡ child d name → is_some walk.over ≡ false → skips path ≡ false → kind ≡ kind_of (node_at tree path) → (nat_le most (length walk.met) || nat_eq depth 0 && is_dir_kind kind) ≡ false
    → IsFormed tree → is_dir_kind kind ≡ false → met ≡ walk.met ++ record { path = copy; kind = kind } ∷ [] → copy ≡ path
    → ◌≡◌ {A = Walk} (record { met = met; over = walk.over }) (walk_on tree most (length d + depth) walk (entry_block tree skips d name))
entry_left tree skips d name most depth walk path kind met copy is open_walk kept seen passed formed leaf pushed same =
    pushed-is walk met path copy kind open_walk pushed same
    ∙ sym (leaf_met tree skips path most (length d + depth) (record { met = walk.met ++ record { path = path; kind = kind } ∷ []; over = None }) kind formed seen leaf)
    ∙ entry_met tree skips d name most depth walk path kind is open_walk kept seen passed

pub deeper_by_one : (d : Path) (name : List ℕ) (path : Path) (depth : ℕ) → path ≡ child d name → nat_eq depth 0 ≡ false → length path + (depth - 1) ≡ length d + depth
deeper_by_one d name path zero is some = let impossible : true ≡ false = some in cc
deeper_by_one d name path (suc depth) is some = omega (arith, ap length is, length-append d (name ∷ []))

-- ---- the entries of a directory

below_skipped : (skips : Path → Bool) → ((path more : Path) → skips path ≡ true → skips (path ++ more) ≡ true) → (entry : Path) → skips entry ≡ true → (paths : List Path) → filter (λ path. not (skips path)) (filter (λ path. is_below path entry) paths) ≡ []
below_skipped skips deeper entry skipped [] = refl
below_skipped skips deeper entry skipped (path ∷ paths) = by (is_below path entry) refl (below_skipped skips deeper entry skipped paths)
  where
    by : (b : Bool) → is_below path entry ≡ b → filter (λ path. not (skips path)) (filter (λ path. is_below path entry) paths) ≡ []
        → filter (λ path. not (skips path)) (cond b (path ∷ filter (λ path. is_below path entry) paths) (filter (λ path. is_below path entry) paths)) ≡ []
    by true e later =
        let is = under-split path entry (first_so (is_under path entry) (not (is_under entry path)) e) in
        let skipped_too = ap skips is ∙ deeper entry (drop (length entry) path) skipped in
        ap (λ b. cond (not b) (path ∷ filter (λ path. not (skips path)) (filter (λ path. is_below path entry) paths)) (filter (λ path. not (skips path)) (filter (λ path. is_below path entry) paths))) skipped_too ∙ later
    by false e later = later

filter-append : (test : Path → Bool) (xs ys : List Path) → filter test (xs ++ ys) ≡ filter test xs ++ filter test ys
filter-append test [] ys = refl
filter-append test (x ∷ xs) ys = by (test x) (filter-append test xs ys)
  where
    by : (b : Bool) → filter test (xs ++ ys) ≡ filter test xs ++ filter test ys → cond b (x ∷ filter test (xs ++ ys)) (filter test (xs ++ ys)) ≡ cond b (x ∷ filter test xs) (filter test xs) ++ filter test ys
    by true later = ap (λ l. x ∷ l) later
    by false later = later

module _ (tree : Tree) (skips : Path → Bool) (deeper : (path more : Path) → skips path ≡ true → skips (path ++ more) ≡ true) (d : Path) where
  one_block : (name : List ℕ) → filter (λ path. not (skips path)) (child d name ∷ paths_below tree (child d name)) ≡ entry_block tree skips d name
  one_block name = by (skips (child d name)) refl
    where
      by : (b : Bool) → skips (child d name) ≡ b → cond (not b) (child d name ∷ entries tree skips (child d name)) (entries tree skips (child d name)) ≡ cond b [] (child d name ∷ entries tree skips (child d name))
      by true e = below_skipped skips deeper (child d name) e (keys tree)
      by false e = refl

  blocks : (names : List (List ℕ)) → filter (λ path. not (skips path)) (flat_map (λ name. child d name ∷ paths_below tree (child d name)) names) ≡ flat_map (entry_block tree skips d) names
  blocks [] = refl
  blocks (name ∷ names) =
      filter-append (λ path. not (skips path)) (child d name ∷ paths_below tree (child d name)) (flat_map (λ name. child d name ∷ paths_below tree (child d name)) names)
      ∙ ap (λ b. b ++ filter (λ path. not (skips path)) (flat_map (λ name. child d name ∷ paths_below tree (child d name)) names)) (one_block name)
      ∙ ap (λ l. entry_block tree skips d name ++ l) (blocks names)

  pub visited_all : IsFormed tree → (most deepest : ℕ) (before after : Walk) (names : List (List ℕ)) (count : ℕ) → names ≡ children tree d → length names ≤ count
      → after ≡ walk_on tree most deepest before (flat_map (entry_block tree skips d) (take count names)) → after ≡ walk_on tree most deepest before (entries tree skips d)
  visited_all formed most deepest before after names count is all h =
      h ∙ ap (λ n. walk_on tree most deepest before (flat_map (entry_block tree skips d) n)) (take_all count names all ∙ is)
      ∙ ap (walk_on tree most deepest before) (sym (ap (filter (λ path. not (skips path))) (below_entries tree formed d) ∙ blocks (children tree d)))

-- the first names were visited
pub record HasVisited (old new : State) (skips : Path → Bool) (directory : Path) (most depth : ℕ) (before after : Walk) (names : List (List ℕ)) (count : ℕ) : Type 0 where
  pub quiet : Quiet old new
  pub met : ForSome old.tree (λ tree. after ≡ walk_on tree most (length directory + depth) before (flat_map (entry_block tree skips directory) (take count names)))
