-- What changes leave at the paths that are kept.
use Rattle.std.proofs.Common.{◌≡◌, ◌⊎◌, inl, inr, Bool, true, false, not, cond, ◌&&◌, List, [], ◌∷◌, refl, sym, ap, ◌∙◌, Some, None, is_some}
use Rattle.std.specs.declared.option.Option.{Option}
use Rattle.kb_world.specs.Tree.{node_at, without, Tree, is_dir, is_leaf, edited}
use Rattle.std.proofs.lemmas.Bool.{cases_Bool, true≢false, and_parts, and_from, or_cases, or_left, or_right, false_from_ne_true}
use Rattle.kb_again.proofs.PathLaws.{none_above_root, above_up, is_over, is_above, is_listed, over_itself, over_parent, over_cases, over_over, above_parent, listed_first, listed_more, listed_cons}
use Rattle.kb_world.specs.declared.tree.Node.{Node}
use Rattle.kb_world.specs.Path.{parent, Path}
use Rattle.kb_again.proofs.Ends.{Move, can_move, drop_at, wipe_at, drop_dir_at, make_dir_at, move_at, in_turn, is_under_one, IsMember, MovesApart}
use Rattle.kb_again.proofs.Parts.{Groups, dropped_tree, wiped_tree, cleared_tree, made_tree, put_tree, groups_done, IsValid, IsPart, in_second}
use Rattle.kb_again.proofs.Kept.{SameOn, SameDirs, IsWhole, IsHidden, HasStaged, KeptSame, KeptAgain, KeptAfter}
use Rattle.kb_again.proofs.EditLaws.{dir_is, dir_test, stands_some, some_stands, same_or_not, Empty, Filled}
use Rattle.kb_again.proofs.GroupLaws.{dropped, wiped, drop_dir_cases, make_dir_cases}
use Rattle.kb_again.proofs.MoveLaws.{dir_no_file, move_cases, moved, moved_dir, kept_apart, can_apart, all_moved}
use Rattle.kb_again.proofs.AgainLaws.{none_dir, climb}
use Rattle.kb_again.proofs.PartLaws.{wiped_free, put_tree_free, first_cleared, dirs_made, second_cleared, done_once, free_dropped, nothing_else}
use Rattle.kb_world.specs.declared.tree.Node.TheVariants as node

-- ---- what stands, stands in a directory

dir_not_file : {o : Option Node} → o ≡ Some node.Dir → is_leaf o ≡ true → ⊥
dir_not_file e f = true≢false (sym f ∙ ap is_leaf e)

some_dir : {o : Option Node} → o ≡ Some node.Dir → is_some o ≡ true
some_dir e = ap is_some e

pub stands_above : (t : Tree) → IsWhole t → (s r : Path) → is_above s r ≡ true → is_some (node_at t r) ≡ true → node_at t s ≡ Some node.Dir
stands_above t whole s = climb (λ r. is_above s r ≡ true → is_some (node_at t r) ≡ true → node_at t s ≡ Some node.Dir)
    (λ below _. absurd (none_above_root s below))
    (λ n ns up below stands.
    let dir = whole (n ∷ ns) stands in
    elim (over_cases s (parent (n ∷ ns)) (above_up s n ns below)) [
      | inl same ↦ ap (node_at t) same ∙ dir
      | inr further ↦ up further (some_dir dir)
    ])

pub one_above : (ps : List Path) (q r : Path) → is_over q r ≡ true → is_under_one ps q ≡ true → is_under_one ps r ≡ true
one_above [] q r under h = absurd (true≢false (sym h))
one_above (p ∷ ps) q r under h = elim (or_cases _ _ h) [
  | inl here ↦ or_left _ _ (over_over p q r here under)
  | inr there ↦ or_right _ _ (one_above ps q r under there)
]

pub parent_under : (q : Path) → is_over (parent q) q ≡ true
parent_under [] = refl
parent_under (n ∷ ns) = over_parent n ns

pub drops_whole : (ps : List Path) (t : Tree) → IsWhole t → IsWhole (in_turn drop_at ps t)
drops_whole ps t whole q stands =
    let d = dropped ps t in
    let dir = whole q (elim (d.each q) [ inl same ↦ ap is_some (sym same) ∙ stands | inr gone ↦ absurd (some_stands _ stands gone.2) ]) in
    elim (d.each (parent q)) [ inl same ↦ same ∙ dir | inr gone ↦ absurd (dir_not_file dir gone.1) ]

pub wipes_whole : (ps : List Path) (t : Tree) → IsWhole t → IsWhole (in_turn wipe_at ps t)
wipes_whole ps t whole q stands =
    let w = wiped ps t in
    let dir = whole q (elim (w.each q) [ inl same ↦ ap is_some (sym same) ∙ stands | inr gone ↦ absurd (some_stands _ stands gone.1) ]) in
    elim (w.each (parent q)) [
      | inl same ↦ same ∙ dir
      | inr gone ↦ absurd (some_stands _ stands (w.gone q (one_above ps (parent q) q (parent_under q) gone.0)))
    ]

pub drop_dir_whole : (p : Path) (t : Tree) → IsWhole t → IsWhole (drop_dir_at p t)
drop_dir_whole p t whole q stands = elim (drop_dir_cases p t) [
  | inr leaves ↦ ap (λ u. node_at u (parent q)) leaves.same ∙ whole q (ap (λ u. is_some (node_at u q)) (sym leaves.same) ∙ stands)
  | inl takes ↦ elim (same_or_not q p) [
    | inl same ↦ absurd (some_stands _ stands (ap (node_at (drop_dir_at p t)) same ∙ takes.gone))
    | inr other ↦
        let was : is_some (node_at t q) ≡ true = ap is_some (sym (takes.others q other)) ∙ stands in
        elim (same_or_not (parent q) p) [
          | inr other_up ↦ takes.others (parent q) other_up ∙ whole q was
          | inl up ↦ elim (above_parent q) [
            | inl root ↦ absurd (other (root ∙ sym (ap parent root) ∙ up))
            | inr below ↦ absurd (some_stands _ was (takes.empty.none q (ap (λ x. is_above x q) (sym up) ∙ below)))
          ]
        ]
  ]
]

pub make_dir_whole : (p : Path) (t : Tree) → IsWhole t → IsWhole (make_dir_at p t)
make_dir_whole p t whole q stands = elim (make_dir_cases p t) [
  | inr lacks ↦ ap (λ u. node_at u (parent q)) lacks.same ∙ whole q (ap (λ u. is_some (node_at u q)) (sym lacks.same) ∙ stands)
  | inl adds ↦ elim (same_or_not q p) [
    | inl same ↦
        ap (λ x. node_at (make_dir_at p t) (parent x)) same
        ∙ adds.others (parent p) (λ is_p. none_dir adds.was (ap (node_at t) (sym is_p) ∙ adds.above)) ∙ adds.above
    | inr other ↦
        let dir = whole q (ap is_some (sym (adds.others q other)) ∙ stands) in
        elim (same_or_not (parent q) p) [
          | inl up ↦ ap (node_at (make_dir_at p t)) up ∙ adds.here
          | inr other_up ↦ adds.others (parent q) other_up ∙ dir
        ]
  ]
]

pub move_whole : (m : Move) (t : Tree) → IsWhole t → IsWhole (move_at m t)
move_whole m t whole q stands =
    let dirs : (r : Path) → is_dir (node_at (move_at m t) r) ≡ is_dir (node_at t r) =
    moved_dir (m ∷ []) (node_at t) (node_at (move_at m t)) (moved (m ∷ []) t) in
    elim (move_cases m t) [
      | inr stays ↦ ap (λ u. node_at u (parent q)) stays.same ∙ whole q (ap (λ u. is_some (node_at u q)) (sym stays.same) ∙ stands)
      | inl moves ↦ elim (same_or_not q m.1) [
        | inl same ↦ dir_is _ (dirs (parent q) ∙ ap (λ x. is_dir (node_at t (parent x))) same ∙ moves.above)
        | inr no_target ↦ elim (same_or_not q m.0) [
          | inl same ↦ absurd (some_stands _ stands (ap (node_at (move_at m t)) same ∙ moves.source (λ own. no_target (same ∙ own))))
          | inr other ↦ dir_is _ (dirs (parent q) ∙ dir_test _ (whole q (ap is_some (sym (moves.others q other no_target)) ∙ stands)))
        ]
      ]
    ]

pub turn_whole : {A : Type 0} (f : A → Tree → Tree) → ((x : A) (t : Tree) → IsWhole t → IsWhole (f x t)) → (xs : List A) (t : Tree)
    → IsWhole t → IsWhole (in_turn f xs t)
turn_whole f keeps [] t whole = whole
turn_whole f keeps (x ∷ xs) t whole = turn_whole f keeps xs (f x t) (keeps x t whole)

module _ (g : Groups) (t : Tree) (whole : IsWhole t) where
  wiped_whole : IsWhole (wiped_tree g t)
  wiped_whole = wipes_whole g.wipes _ (drops_whole g.drops t whole)

  put_whole : IsWhole (put_tree g t)
  put_whole =
      turn_whole move_at move_whole g.puts _
      (turn_whole make_dir_at make_dir_whole g.dirs _ (turn_whole drop_dir_at drop_dir_whole g.first _ wiped_whole))

  pub done_is_whole : IsWhole (groups_done g t)
  done_is_whole = turn_whole drop_dir_at drop_dir_whole g.second _ put_whole

-- ---- at one path

drops_same : (ps : List Path) (t u : Tree) (q : Path) → node_at t q ≡ node_at u q
    → node_at (in_turn drop_at ps t) q ≡ node_at (in_turn drop_at ps u) q
drops_same ps t u q same =
    let d = dropped ps t in
    let e = dropped ps u in
    elim (d.each q) [
      | inl kept ↦
          elim (e.each q) [
            | inl kept_too ↦ kept ∙ same ∙ sym kept_too
            | inr gone ↦ absurd (d.gone q gone.0 (ap is_leaf (kept ∙ same) ∙ gone.1))
          ]
      | inr gone ↦
          elim (e.each q) [
            | inl kept ↦ absurd (e.gone q gone.0 (ap is_leaf (kept ∙ sym same) ∙ gone.1))
            | inr gone_too ↦ gone.2 ∙ sym gone_too.2
          ]
    ]

wipes_same : (ps : List Path) (t u : Tree) (q : Path) → node_at t q ≡ node_at u q
    → node_at (in_turn wipe_at ps t) q ≡ node_at (in_turn wipe_at ps u) q
wipes_same ps t u q same =
    let d = wiped ps t in
    let e = wiped ps u in
    elim (d.each q) [
      | inl kept ↦ elim (e.each q) [ inl kept_too ↦ kept ∙ same ∙ sym kept_too | inr gone ↦ d.gone q gone.0 ∙ sym gone.1 ]
      | inr gone ↦ gone.1 ∙ sym (e.gone q gone.0)
    ]

start_same : (g : Groups) (t u : Tree) (q : Path) → node_at t q ≡ node_at u q → node_at (wiped_tree g t) q ≡ node_at (wiped_tree g u) q
start_same g t u q same = wipes_same g.wipes _ _ q (drops_same g.drops t u q same)

start_none : (g : Groups) (u : Tree) (q : Path) → node_at u q ≡ None → node_at (wiped_tree g u) q ≡ None
start_none g u q none = elim ((wiped g.wipes (dropped_tree g u)).each q) [
  | inr gone ↦ gone.1
  | inl kept ↦ kept ∙ elim ((dropped g.drops u).each q) [ inl kept_too ↦ kept_too ∙ none | inr gone ↦ gone.2 ]
]

-- ---- directories that are taken away

abbrev IsBare : List Path → Tree → Type 0
IsBare ws t = (q : Path) → is_under_one ws q ≡ true → node_at t q ≡ None

drop_dir_bare : (ws : List Path) (x : Path) (t : Tree) → IsBare ws t → IsBare ws (drop_dir_at x t)
drop_dir_bare ws x t bare q h = elim (drop_dir_cases x t) [
  | inr leaves ↦ ap (λ u. node_at u q) leaves.same ∙ bare q h
  | inl takes ↦
      elim (same_or_not q x) [ inl same ↦ ap (node_at (drop_dir_at x t)) same ∙ takes.gone | inr other ↦ takes.others q other ∙ bare q h ]
]

abbrev IsApartFrom : (Path → Bool) → List Path → Path → Type 0
IsApartFrom p ws x =
    (r : Path) → p x ≡ true → is_above x r ≡ true → p r ≡ false → (is_under_one ws r ≡ true) ⊎
    ((s : Path) × (is_above x s ≡ true) × (is_above s r ≡ true) × (p s ≡ true))

sym_on : (p : Path → Bool) (t u : Tree) → SameOn p t u → SameOn p u t
sym_on p t u same q is = sym (same q is)

not_filled : (p : Path → Bool) (ws : List Path) (x : Path) (t u : Tree) → IsWhole u → IsBare ws u → SameOn p t u → IsApartFrom p ws x
    → p x ≡ true → Empty t x → Filled u x → ⊥
not_filled p ws x t u whole bare same apart is e f = elim (cases_Bool (p f.path)) [
  | inl open_at ↦ f.stands (sym (same f.path open_at) ∙ e.none f.path f.below)
  | inr hidden ↦ elim (apart f.path is f.below hidden) [
    | inl wipes ↦ f.stands (bare f.path wipes)
    | inr s ↦ none_dir (e.none s.0 s.1) (same s.0 s.3 ∙ stands_above u whole s.0 f.path s.2 (stands_some _ f.stands))
  ]
]

drop_dir_same : (p : Path → Bool) (ws : List Path) (x : Path) (t u : Tree) → IsWhole t → IsWhole u → IsBare ws t → IsBare ws u
    → IsApartFrom p ws x → SameOn p t u → SameOn p (drop_dir_at x t) (drop_dir_at x u)
drop_dir_same p ws x t u whole whole_u bare bare_u apart same q is = elim (drop_dir_cases x t) [
  | inl takes ↦ elim (drop_dir_cases x u) [
    | inl takes_too ↦ elim (same_or_not q x) [
      | inl here ↦ ap (node_at (drop_dir_at x t)) here ∙ takes.gone ∙ sym (ap (node_at (drop_dir_at x u)) here ∙ takes_too.gone)
      | inr other ↦ takes.others q other ∙ same q is ∙ sym (takes_too.others q other)
    ]
    | inr leaves ↦ elim (same_or_not q x) [
      | inl here ↦
          let open_x : p x ≡ true = ap p (sym here) ∙ is in
          absurd (not_filled p ws x t u whole_u bare_u same apart open_x takes.empty (leaves.filled (sym (same x open_x) ∙ takes.was)))
      | inr other ↦ takes.others q other ∙ same q is ∙ sym (ap (λ v. node_at v q) leaves.same)
    ]
  ]
  | inr leaves ↦ elim (drop_dir_cases x u) [
    | inl takes ↦ elim (same_or_not q x) [
      | inl here ↦
          let open_x : p x ≡ true = ap p (sym here) ∙ is in
          absurd (not_filled p ws x u t whole bare (sym_on p t u same) apart open_x takes.empty (leaves.filled (same x open_x ∙ takes.was)))
      | inr other ↦ ap (λ v. node_at v q) leaves.same ∙ same q is ∙ sym (takes.others q other)
    ]
    | inr leaves_too ↦ ap (λ v. node_at v q) leaves.same ∙ same q is ∙ sym (ap (λ v. node_at v q) leaves_too.same)
  ]
]

clears_same : (p : Path → Bool) (ws xs : List Path) (t u : Tree) → IsWhole t → IsWhole u → IsBare ws t → IsBare ws u
    → ((x : Path) → is_listed x xs ≡ true → IsApartFrom p ws x) → SameOn p t u
    → SameOn p (in_turn drop_dir_at xs t) (in_turn drop_dir_at xs u)
clears_same p ws [] t u whole whole_u bare bare_u apart same = same
clears_same p ws (x ∷ xs) t u whole whole_u bare bare_u apart same =
    clears_same p ws xs _ _ (drop_dir_whole x t whole) (drop_dir_whole x u whole_u) (drop_dir_bare ws x t bare)
    (drop_dir_bare ws x u bare_u) (λ y h. apart y (listed_more y x xs h))
    (drop_dir_same p ws x t u whole whole_u bare bare_u (apart x (listed_first x x xs refl)) same)

-- ---- where directories stand

drops_dirs : (ps : List Path) (t : Tree) (q : Path) → is_dir (node_at (in_turn drop_at ps t) q) ≡ is_dir (node_at t q)
drops_dirs ps t q = elim ((dropped ps t).each q) [ inl kept ↦ ap is_dir kept | inr gone ↦ ap is_dir gone.2 ∙ sym (dir_no_file _ gone.1) ]

wipes_dirs : (b : Path → Bool) (ps : List Path) (t u : Tree) → SameDirs b t u → SameDirs b (in_turn wipe_at ps t) (in_turn wipe_at ps u)
wipes_dirs b ps t u same q is =
    let d = wiped ps t in
    let e = wiped ps u in
    elim (d.each q) [
      | inl kept ↦
          elim (e.each q) [
            | inl kept_too ↦ ap is_dir kept ∙ same q is ∙ sym (ap is_dir kept_too)
            | inr gone ↦ ap is_dir (d.gone q gone.0 ∙ sym gone.1)
          ]
      | inr gone ↦ ap is_dir (gone.1 ∙ sym (e.gone q gone.0))
    ]

drop_dir_other : (x : Path) (t : Tree) (q : Path) → (q ≡ x → ⊥) → node_at (drop_dir_at x t) q ≡ node_at t q
drop_dir_other x t q other = elim (drop_dir_cases x t) [ inl takes ↦ takes.others q other | inr leaves ↦ ap (λ v. node_at v q) leaves.same ]

make_dir_other : (x : Path) (t : Tree) (q : Path) → (q ≡ x → ⊥) → node_at (make_dir_at x t) q ≡ node_at t q
make_dir_other x t q other = elim (make_dir_cases x t) [ inl adds ↦ adds.others q other | inr lacks ↦ ap (λ v. node_at v q) lacks.same ]

-- changes at other paths
turn_dirs : (f : Path → Tree → Tree) → ((x : Path) (t : Tree) (q : Path) → (q ≡ x → ⊥) → node_at (f x t) q ≡ node_at t q)
    → (b : Path → Bool) (xs : List Path) → ((x : Path) → is_listed x xs ≡ true → b x ≡ true → ⊥) → (t u : Tree) → SameDirs b t u
    → SameDirs b (in_turn f xs t) (in_turn f xs u)
turn_dirs f other b [] spared t u same = same
turn_dirs f other b (x ∷ xs) spared t u same = turn_dirs f other b xs (λ y h. spared y (listed_more y x xs h)) (f x t) (f x u) (λ q is.
    let apart : q ≡ x → ⊥ = λ e. spared x (listed_first x x xs refl) (ap b (sym e) ∙ is) in
    ap is_dir (other x t q apart) ∙ same q is ∙ sym (ap is_dir (other x u q apart)))

moves_dirs : (b : Path → Bool) (ms : List Move) (t u : Tree) → SameDirs b t u → SameDirs b (in_turn move_at ms t) (in_turn move_at ms u)
moves_dirs b ms t u same q is =
    moved_dir ms (node_at t) (node_at (in_turn move_at ms t)) (moved ms t) q ∙ same q is
    ∙ sym (moved_dir ms (node_at u) (node_at (in_turn move_at ms u)) (moved ms u) q)

-- ---- directories that are made

module _ (p b : Path → Bool) (above : (q : Path) → p q ≡ true → (p (parent q) ≡ true) ⊎ (b (parent q) ≡ true)) where
  pub parent_dirs : (t u : Tree) → SameOn p t u → SameDirs b t u → (x : Path) → p x ≡ true
      → is_dir (node_at t (parent x)) ≡ is_dir (node_at u (parent x))
  parent_dirs t u same dirs x is =
      elim (above x is) [ inl open_up ↦ ap is_dir (same (parent x) open_up) | inr beside ↦ dirs (parent x) beside ]

  make_dir_same : (x : Path) (t u : Tree) → SameOn p t u → SameDirs b t u → SameOn p (make_dir_at x t) (make_dir_at x u)
  make_dir_same x t u same dirs q is = elim (make_dir_cases x t) [
    | inl adds ↦ elim (make_dir_cases x u) [
      | inl adds_too ↦ elim (same_or_not q x) [
        | inl here ↦ ap (node_at (make_dir_at x t)) here ∙ adds.here ∙ sym (ap (node_at (make_dir_at x u)) here ∙ adds_too.here)
        | inr other ↦ adds.others q other ∙ same q is ∙ sym (adds_too.others q other)
      ]
      | inr lacks ↦ elim (same_or_not q x) [
        | inl here ↦
            let open_x : p x ≡ true = ap p (sym here) ∙ is in
            absurd (lacks.cause (dir_is _ (sym (parent_dirs t u same dirs x open_x) ∙ dir_test _ adds.above))
            (sym (same x open_x) ∙ adds.was))
        | inr other ↦ adds.others q other ∙ same q is ∙ sym (ap (λ v. node_at v q) lacks.same)
      ]
    ]
    | inr lacks ↦ elim (make_dir_cases x u) [
      | inl adds ↦ elim (same_or_not q x) [
        | inl here ↦
            let open_x : p x ≡ true = ap p (sym here) ∙ is in
            absurd (lacks.cause (dir_is _ (parent_dirs t u same dirs x open_x ∙ dir_test _ adds.above)) (same x open_x ∙ adds.was))
        | inr other ↦ ap (λ v. node_at v q) lacks.same ∙ same q is ∙ sym (adds.others q other)
      ]
      | inr lacks_too ↦ ap (λ v. node_at v q) lacks.same ∙ same q is ∙ sym (ap (λ v. node_at v q) lacks_too.same)
    ]
  ]

  makes_same : (xs : List Path) (t u : Tree) → ((x : Path) → is_listed x xs ≡ true → b x ≡ true → ⊥) → SameOn p t u → SameDirs b t u
      → SameOn p (in_turn make_dir_at xs t) (in_turn make_dir_at xs u)
  makes_same [] t u spared same dirs = same
  makes_same (x ∷ xs) t u spared same dirs =
      makes_same xs (make_dir_at x t) (make_dir_at x u) (λ y h. spared y (listed_more y x xs h)) (make_dir_same x t u same dirs)
      (turn_dirs make_dir_at make_dir_other b (x ∷ []) (λ y h. elim (listed_cons y x [] h) [
        | inl e ↦ spared y (listed_first y x xs e)
        | inr none ↦ absurd (true≢false (sym none))
      ]) t u dirs)

  -- staged files that are put in their places
  abbrev AreStaged : List Move → Tree → Tree → Type 0
  AreStaged ms t u =
      (m : Move) → IsMember m ms → p m.1 ≡ true → (node_at u m.0 ≡ node_at t m.0) ⊎
      ((can_move (node_at t) m ≡ false) × (can_move (node_at u) m ≡ false))

  cant_stays : (m : Move) (t : Tree) → can_move (node_at t) m ≡ false → move_at m t ≡ t
  cant_stays m t cant = ap (λ b. cond b (edited m.1 (node_at t m.0) (without m.0 t)) t) cant

  cant_after : (m : Move) (t : Tree) → (m.0 ≡ m.1 → ⊥) → can_move (node_at (move_at m t)) m ≡ false
  cant_after m t own = elim (move_cases m t) [
    | inl moves ↦
        (λ i. (is_leaf (moves.source own i) && not (is_dir (node_at (move_at m t) m.1))) && is_dir (node_at (move_at m t) (parent m.1)))
    | inr stays ↦ ap (λ v. can_move (node_at v) m) stays.same ∙ stays.cant
  ]

  move_other : (m : Move) (t : Tree) (q : Path) → (q ≡ m.0 → ⊥) → (q ≡ m.1 → ⊥) → node_at (move_at m t) q ≡ node_at t q
  move_other m t q a b = elim (move_cases m t) [ inl moves ↦ moves.others q a b | inr stays ↦ ap (λ v. node_at v q) stays.same ]

  can_same : (m : Move) (t u : Tree) → p m.1 ≡ true → node_at u m.0 ≡ node_at t m.0 → SameOn p t u → SameDirs b t u
      → can_move (node_at t) m ≡ can_move (node_at u) m
  can_same m t u is staged same dirs = λ i. (is_leaf (sym staged i) && not (is_dir (same m.1 is i))) && parent_dirs t u same dirs m.1 is i

  move_same : (m : Move) (t u : Tree) → (p m.0 ≡ true → ⊥)
      → (p m.1 ≡ true → (node_at u m.0 ≡ node_at t m.0) ⊎ ((can_move (node_at t) m ≡ false) × (can_move (node_at u) m ≡ false)))
      → SameOn p t u → SameDirs b t u → SameOn p (move_at m t) (move_at m u)
  move_same m t u hidden staged same dirs q is =
      let no_source : q ≡ m.0 → ⊥ = λ e. hidden (ap p (sym e) ∙ is) in
      elim (same_or_not q m.1) [
        | inr other ↦ move_other m t q no_source other ∙ same q is ∙ sym (move_other m u q no_source other)
        | inl here ↦
            let is_m : p m.1 ≡ true = ap p (sym here) ∙ is in
            elim (staged is_m) [
              | inr cant ↦ ap (λ v. node_at v q) (cant_stays m t cant.0) ∙ same q is ∙ sym (ap (λ v. node_at v q) (cant_stays m u cant.1))
              | inl file ↦
                  let can = can_same m t u is_m file same dirs in
                  elim (move_cases m t) [
                    | inl moves ↦ elim (move_cases m u) [
                      | inl moves_too ↦
                          ap (node_at (move_at m t)) here ∙ moves.target ∙ sym (ap (node_at (move_at m u)) here ∙ moves_too.target ∙ file)
                      | inr stays ↦ absurd (true≢false (sym moves.can ∙ can ∙ stays.cant))
                    ]
                    | inr stays ↦ elim (move_cases m u) [
                      | inl moves ↦ absurd (true≢false (sym moves.can ∙ sym can ∙ stays.cant))
                      | inr stays_too ↦ ap (λ v. node_at v q) stays.same ∙ same q is ∙ sym (ap (λ v. node_at v q) stays_too.same)
                    ]
                  ]
            ]
      ]

  moves_same : (ms : List Move) (t u : Tree) → MovesApart ms → ((m : Move) → IsMember m ms → p m.0 ≡ true → ⊥) → AreStaged ms t u
      → SameOn p t u → SameDirs b t u → SameOn p (in_turn move_at ms t) (in_turn move_at ms u)
  moves_same [] t u apart hidden staged same dirs = same
  moves_same (m ∷ ms) t u apart hidden staged same dirs =
      moves_same ms (move_at m t) (move_at m u)
      (record { own = λ n h. apart.own n (inr h); two = λ n k h i. apart.two n k (inr h) (inr i) })
      (λ n h. hidden n (inr h))
      (λ n h is. elim (apart.two n m (inr h) (inl refl)) [
        | inl one ↦
            let own : n.0 ≡ n.1 → ⊥ = apart.own n (inr h) in
            inr (
              ap (λ k. can_move (node_at (move_at k t)) n) (sym one)
                  ∙ cant_after n t own,
              ap (λ k. can_move (node_at (move_at k u)) n) (sym one) ∙ cant_after n u own,
            )
        | inr two ↦ elim (staged n (inr h) is) [
          | inl file ↦ inl ((kept_apart n m u two).0 ∙ file ∙ sym (kept_apart n m t two).0)
          | inr cant ↦ inr (can_apart n m t two ∙ cant.0, can_apart n m u two ∙ cant.1)
        ]
      ])
      (move_same m t u (hidden m (inl refl)) (staged m (inl refl)) same dirs)
      (moves_dirs b (m ∷ []) t u dirs)

-- a staged place, before the moves
staged_kept : (g : Groups) (valid : IsValid g) (t : Tree) (m : Move) → IsMember m g.puts
    → node_at (made_tree g t) m.0 ≡ node_at (wiped_tree g t) m.0
staged_kept g valid t m in_it = elim ((dirs_made g valid t).each m.0) [
  | inr makes ↦ absurd (valid.staged_no_dir m in_it makes.listed)
  | inl kept ↦ kept ∙ elim ((first_cleared g valid t).each m.0) [
    | inl kept_too ↦ kept_too
    | inr goes ↦ absurd (valid.staged_apart m in_it m.0 goes.listed (over_itself m.0))
  ]
]

hard_same : (p b : Path → Bool) (g : Groups) (t u : Tree) → IsValid g → IsHidden p b g → IsWhole t → IsWhole u → SameOn p t u
    → SameDirs b t u → HasStaged p g t u → SameOn p (groups_done g t) (groups_done g u) × SameDirs b (groups_done g t) (groups_done g u)
hard_same p b g t u valid hidden whole whole_u same dirs staged =
    let dirs_start : SameDirs b (wiped_tree g t) (wiped_tree g u) =
    wipes_dirs b g.wipes _ _ (λ q is. drops_dirs g.drops t q ∙ dirs q is ∙ sym (drops_dirs g.drops u q)) in
    let dirs_clear : SameDirs b (cleared_tree g t) (cleared_tree g u) =
    turn_dirs drop_dir_at drop_dir_other b g.first (λ x h. hidden.spared x (inl (inl h))) (wiped_tree g t) (wiped_tree g u) dirs_start in
    let dirs_make : SameDirs b (made_tree g t) (made_tree g u) =
    turn_dirs make_dir_at make_dir_other b g.dirs (λ x h. hidden.spared x (inr h)) (cleared_tree g t) (cleared_tree g u) dirs_clear in
    let dirs_put : SameDirs b (put_tree g t) (put_tree g u) = moves_dirs b g.puts (made_tree g t) (made_tree g u) dirs_make in
    let start : SameOn p (wiped_tree g t) (wiped_tree g u) = λ q is. start_same g t u q (same q is) in
    let clear : SameOn p (cleared_tree g t) (cleared_tree g u) =
    clears_same p g.wipes g.first _ _ (wiped_whole g t whole) (wiped_whole g u whole_u) (wiped_free g valid t).nothing
    (wiped_free g valid u).nothing (λ x h r is below out. hidden.within x r (inl h) is below out) start in
    let make : SameOn p (made_tree g t) (made_tree g u) =
    makes_same p b hidden.above g.dirs (cleared_tree g t) (cleared_tree g u) (λ x h. hidden.spared x (inr h)) clear dirs_clear in
    let put : SameOn p (put_tree g t) (put_tree g u) =
    moves_same p b hidden.above g.puts (made_tree g t) (made_tree g u) valid.apart hidden.staged (λ m h is. elim (staged m h is) [
      | inl file ↦ inl (staged_kept g valid u m h ∙ start_same g u t m.0 file ∙ sym (staged_kept g valid t m h))
      | inr none ↦
          inr (
            none.1,
            let gone : node_at (made_tree g u) m.0 ≡ None = staged_kept g valid u m h
                ∙ start_none g u m.0 none.0 in
                (λ i. (is_leaf (gone i) && not (is_dir (node_at (made_tree g u) m.1))) && is_dir (node_at (made_tree g u) (parent m.1))),
          )
    ]) make dirs_make in (
      clears_same p g.wipes g.second _ _ (put_whole g t whole) (put_whole g u whole_u) (put_tree_free g valid t).nothing
          (put_tree_free g valid u).nothing
          (λ x h r is below out. hidden.within x r (inr h) is below out) put,
      turn_dirs drop_dir_at drop_dir_other b g.second
          (λ x h. hidden.spared x (inl (inr h))) (put_tree g t) (put_tree g u) dirs_put,
    )

abbrev made_from : Groups → Tree → Tree
made_from g w = in_turn make_dir_at g.dirs (in_turn drop_dir_at g.first (in_turn wipe_at g.wipes w))

abbrev done_from : Groups → Tree → Tree
done_from g w = in_turn drop_dir_at g.second (in_turn move_at g.puts (made_from g w))

pub kept_same : KeptSame
kept_same p b g t u valid hidden whole whole_u soft dirs staged =
    let d = dropped g.drops t in
    let e = dropped g.drops u in
    let v = dropped_tree g t in
    let w = dropped_tree g u in
    let again : dropped_tree g v ≡ v = free_dropped g v d.gone in
    let again_u : dropped_tree g w ≡ w = free_dropped g w e.gone in
    let same : SameOn p v w = λ x open_x. elim (soft x open_x) [
      | inl kept ↦ drops_same g.drops t u x (sym kept)
      | inr changed ↦
          nothing_else _ (elim (d.each x) [ inl stays ↦ ap is_dir stays ∙ changed.1 | inr gone ↦ ap is_dir gone.2 ]) (d.gone x changed.0)
          ∙ sym (nothing_else _ (elim (e.each x) [
            | inl stays ↦ ap is_dir stays ∙ changed.2
            | inr gone ↦ ap is_dir gone.2
          ]) (e.gone x changed.0))
    ] in
    let staged_too : HasStaged p g v w = λ m h open_m. elim (staged m h open_m) [
      | inl file ↦ inl (sym (drops_same g.drops t u m.0 (sym file)))
      | inr none ↦
          inr (
            elim (e.each m.0) [
              | inl stays ↦ stays ∙ none.0
              | inr gone ↦ gone.2
            ],
            ap (λ x. can_move (node_at (made_from g x)) m) again ∙ none.1,
          )
    ] in
    let all =
    hard_same p b g v w valid hidden (drops_whole g.drops t whole) (drops_whole g.drops u whole_u) same
    (λ q is. drops_dirs g.drops t q ∙ dirs q is ∙ sym (drops_dirs g.drops u q)) staged_too in (
      (λ q is. sym (ap (λ x. node_at (done_from g x) q) again) ∙ all.0 q is ∙ ap (λ x. node_at (done_from g x) q) again_u),
      (λ q is. sym (ap (λ x. is_dir (node_at (done_from g x) q)) again) ∙ all.1 q is
          ∙ ap (λ x. is_dir (node_at (done_from g x) q)) again_u),
    )

pub kept_again : KeptAgain
kept_again p b g t v u valid hidden part whole whole_u same dirs staged =
    let all = kept_same p b g v u valid hidden whole whole_u same dirs staged in
    let once = sym (done_once g t v valid part) in
    ((λ q is. ap (λ w. node_at w q) once ∙ all.0 q is), (λ q is. ap (λ w. is_dir (node_at w q)) once ∙ all.1 q is))

-- In a tree that all changes leave as it is, no staged file can be put in its place.
pub fixed_cant : (g : Groups) (valid : IsValid g) (v : Tree) → groups_done g v ≡ v → (m : Move) → IsMember m g.puts
    → can_move (node_at (made_tree g v)) m ≡ false
fixed_cant g valid v fixed m in_it = false_from_ne_true _ (λ can.
    let parts = and_parts _ _ can in
    let inner = and_parts _ _ parts.0 in
    let dirs = moved_dir g.puts (node_at (made_tree g v)) (node_at (put_tree g v)) (moved g.puts (made_tree g v)) in
    let no_file : is_leaf (node_at (put_tree g v) m.0) ≡ true → ⊥ =
    λ file. true≢false
    (sym (and_from _ _ (and_from _ _ file (ap not (dirs m.1) ∙ inner.1)) (dirs (parent m.1) ∙ parts.1))
    ∙ all_moved g.puts valid.apart m in_it (made_tree g v)) in
    let was : is_leaf (node_at v m.0) ≡ true = elim (((wiped g.wipes (dropped_tree g v)).each m.0)) [
      | inr gone ↦ absurd (true≢false (sym inner.0 ∙ ap is_leaf (staged_kept g valid v m in_it ∙ gone.1)))
      | inl kept ↦ elim ((dropped g.drops v).each m.0) [
        | inr gone ↦ absurd (true≢false (sym inner.0 ∙ ap is_leaf (staged_kept g valid v m in_it ∙ kept ∙ gone.2)))
        | inl kept_too ↦ sym (ap is_leaf (staged_kept g valid v m in_it ∙ kept ∙ kept_too)) ∙ inner.0
      ]
    ] in
    elim ((second_cleared g valid v).each m.0) [
      | inl same ↦ no_file (ap is_leaf (sym same) ∙ ap (λ w. is_leaf (node_at w m.0)) fixed ∙ was)
      | inr goes ↦ true≢false (sym was ∙ ap is_leaf (ap (λ w. node_at w m.0) (sym fixed) ∙ goes.gone))
    ])

pub kept_after : KeptAfter
kept_after p b g t u valid hidden whole whole_u same dirs staged =
    let part : IsPart g t (groups_done g t) = in_second (λ q. inr refl) in
    kept_again p b g t (groups_done g t) u valid hidden part (done_is_whole g t whole) whole_u same dirs (λ m h is. elim (staged m h) [
      | inl file ↦ inl file
      | inr none ↦ inr (none, fixed_cant g valid (groups_done g t) (done_once g t (groups_done g t) valid part) m h)
    ])
