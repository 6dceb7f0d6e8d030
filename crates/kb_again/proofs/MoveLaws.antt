-- Staged files that are put in their places.
use Rattle.std.proofs.Common.{◌≡◌, ◌⊎◌, inl, inr, Bool, true, false, not, cond, ◌&&◌, List, [], ◌∷◌, refl, sym, ap, ◌∙◌, Some, None}
use Rattle.std.specs.declared.option.Option.{Option}
use Rattle.kb_world.specs.TreeLaws.{same_path, same_path-refl, same_path-false, same_tree, node_at-with_node, node_at-remove, same_path-true}
use Rattle.kb_world.specs.Tree.{node_at, without, Tree, is_dir, is_leaf, edited}
use Rattle.std.proofs.lemmas.Bool.{cases_Bool, true≢false, and_parts}
use Rattle.kb_world.specs.declared.tree.Node.{Node}
use Rattle.kb_world.specs.Path.{parent, Path}
use Rattle.kb_again.proofs.Standing.{Standing}
use Rattle.kb_again.proofs.Ends.{Move, can_move, move_at, in_turn, IsMember, Disjoint, MovesApart, Moved}
use Rattle.kb_again.proofs.EditLaws.{same_or_not}
use Rattle.kb_world.specs.declared.tree.Node.TheVariants as node

got : Path → Move → Standing → Option Node
got q m look = cond (same_path q m.1) (look m.0) (cond (same_path q m.0) None (look q))

get_found : (t : Tree) (m : Move) (o : Option Node) (q : Path) → is_leaf o ≡ true
    → node_at (edited m.1 o (without m.0 t)) q ≡ cond (same_path q m.1) o (cond (same_path q m.0) None (node_at t q))
get_found t m None q file = absurd (true≢false (sym file))
get_found t m (Some n) q file = node_at-with_node (without m.0 t) m.1 n q ∙ ap (cond (same_path q m.1) (Some n)) (node_at-remove t m.0 q)

-- what a move leaves
get_move : (m : Move) (t : Tree) (q : Path) → node_at (move_at m t) q ≡ cond (can_move (node_at t) m) (got q m (node_at t)) (node_at t q)
unfolding got
get_move m t q = elim (cases_Bool (can_move (node_at t) m)) [
  | inl can ↦
      ap (λ b. node_at (cond b (edited m.1 (node_at t m.0) (without m.0 t)) t) q) can
      ∙ get_found t m (node_at t m.0) q (and_parts _ _ (and_parts _ _ can).0).0
      ∙ sym (ap (λ b. cond b (cond (same_path q m.1) (node_at t m.0) (cond (same_path q m.0) None (node_at t q))) (node_at t q)) can)
  | inr cant ↦
      ap (λ b. node_at (cond b (edited m.1 (node_at t m.0) (without m.0 t)) t) q) cant
      ∙ sym (ap (λ b. cond b (cond (same_path q m.1) (node_at t m.0) (cond (same_path q m.0) None (node_at t q))) (node_at t q)) cant)
]

pub dir_no_file : (o : Option Node) → is_leaf o ≡ true → is_dir o ≡ false
dir_no_file None h = refl
dir_no_file (Some node.Dir) h = absurd (true≢false (sym h))
dir_no_file (Some (node.File bytes exec)) h = refl
dir_no_file (Some (node.Link text)) h = refl

pub record Moves (m : Move) (t u : Tree) : Type 0 where
  pub can : can_move (node_at t) m ≡ true
  pub above : is_dir (node_at t (parent m.1)) ≡ true
  pub file : is_leaf (node_at t m.0) ≡ true
  pub no_dir : is_dir (node_at t m.1) ≡ false
  pub target : node_at u m.1 ≡ node_at t m.0
  pub source : (m.0 ≡ m.1 → ⊥) → node_at u m.0 ≡ None
  pub others : (q : Path) → (q ≡ m.0 → ⊥) → (q ≡ m.1 → ⊥) → node_at u q ≡ node_at t q

pub record Stays (m : Move) (t u : Tree) : Type 0 where
  pub same : u ≡ t
  pub cant : can_move (node_at t) m ≡ false

not_is : (b : Bool) → not b ≡ true → b ≡ false
not_is true h = absurd (true≢false (sym h))
not_is false h = refl

pub move_cases : (m : Move) (t : Tree) → Moves m t (move_at m t) ⊎ Stays m t (move_at m t)
unfolding got
move_cases m t = elim (cases_Bool (can_move (node_at t) m)) [
  | inr cant ↦ inr (record { same = ap (λ b. cond b (edited m.1 (node_at t m.0) (without m.0 t)) t) cant; cant = cant })
  | inl can ↦
      let parts = and_parts _ _ (and_parts _ _ can).0 in
      let is : (q : Path) → node_at (move_at m t) q ≡ got q m (node_at t) =
      λ q. get_move m t q ∙ ap (λ b. cond b (got q m (node_at t)) (node_at t q)) can in
      inl (record {
        can = can;
        above = (and_parts _ _ can).1;
        file = parts.0;
        no_dir = not_is _ parts.1;
        target = is m.1 ∙ ap (λ b. cond b (node_at t m.0) (cond (same_path m.1 m.0) None (node_at t m.1))) (same_path-refl m.1);
        source =
            λ other. is m.0
            ∙ (λ i. cond (same_path-false m.0 m.1 other i) (node_at t m.0) (cond (same_path-refl m.0 i) None (node_at t m.0)));
        others =
            λ q a b. is q ∙ (λ i. cond (same_path-false q m.1 b i) (node_at t m.0) (cond (same_path-false q m.0 a i) None (node_at t q)));
      })
]

move_each : (m : Move) (t : Tree) (q : Path)
    → (node_at (move_at m t) q ≡ node_at t q) ⊎
    ((is_dir (node_at t q) ≡ false) ×
    (((m.0 ≡ q) × (node_at (move_at m t) q ≡ None)) ⊎ ((m.1 ≡ q) × (is_leaf (node_at (move_at m t) q) ≡ true))))
move_each m t q = elim (move_cases m t) [
  | inr stays ↦ inl (ap (λ u. node_at u q) stays.same)
  | inl moves ↦ elim (same_or_not q m.1) [
    | inl target ↦
        inr (
          ap (λ x. is_dir (node_at t x)) target
              ∙ moves.no_dir,
          inr (sym target, ap (λ x. is_leaf (node_at (move_at m t) x)) target ∙ ap is_leaf moves.target ∙ moves.file),
        )
    | inr no_target ↦ elim (same_or_not q m.0) [
      | inl source ↦
          inr (
            ap (λ x. is_dir (node_at t x)) source
                ∙ dir_no_file _ moves.file,
            inl
                (sym source, ap (node_at (move_at m t)) source ∙ moves.source (λ same. no_target (source ∙ same))),
          )
      | inr no_source ↦ inl (moves.others q no_source no_target)
    ]
  ]
]

pub moved_dir : (ms : List Move) (old new : Standing) → Moved ms old new → (q : Path) → is_dir (new q) ≡ is_dir (old q)
moved_dir ms old new moved q = elim (moved.each q) [
  | inl same ↦ ap is_dir same
  | inr changed ↦ elim changed.1 [
    | inl gone ↦ ap is_dir gone.3 ∙ sym changed.0
    | inr put ↦ dir_no_file _ put.3 ∙ sym changed.0
  ]
]

pub moved : (ms : List Move) (t : Tree) → Moved ms (node_at t) (node_at (in_turn move_at ms t))
moved [] t = record { each = λ q. inl refl }
moved (m ∷ ms) t =
    let rest = moved ms (move_at m t) in
    let first : (q : Path) → is_dir (node_at (move_at m t) q) ≡ is_dir (node_at t q) = λ q. elim (move_each m t q) [
      | inl same ↦ ap is_dir same
      | inr changed ↦ elim changed.1 [ inl gone ↦ ap is_dir gone.1 ∙ sym changed.0 | inr put ↦ dir_no_file _ put.1 ∙ sym changed.0 ]
    ] in
    record {
      each = λ q. elim (rest.each q) [
        | inr changed ↦
            inr (
              sym (first q) ∙ changed.0,
              elim changed.1 [
                | inl gone ↦ inl (gone.0, inr gone.1, gone.2, gone.3)
                | inr put ↦ inr (put.0, inr put.1, put.2, put.3)
              ],
            )
        | inl same ↦ elim (move_each m t q) [
          | inl kept ↦ inl (same ∙ kept)
          | inr changed ↦
              inr (
                changed.0,
                elim changed.1 [
                  | inl gone ↦ inl (m, inl refl, gone.0, same ∙ gone.1)
                  | inr put ↦ inr (m, inl refl, put.0, ap is_leaf same ∙ put.1)
                ],
              )
        ]
      ];
    }

-- moves that have no path in common may be done in either order
swap : (cm cn a1 a0 b1 b0 : Bool) (x y z : Option Node) → (a1 ≡ true → b1 ≡ false) → (a1 ≡ true → b0 ≡ false) → (a0 ≡ true → b1 ≡ false)
    → (a0 ≡ true → b0 ≡ false)
    → cond cm (cond a1 x (cond a0 None (cond cn (cond b1 y (cond b0 None z)) z))) (cond cn (cond b1 y (cond b0 None z)) z) ≡ cond cn
    (cond b1 y (cond b0 None (cond cm (cond a1 x (cond a0 None z)) z))) (cond cm (cond a1 x (cond a0 None z)) z)
swap false cn a1 a0 b1 b0 x y z h i j k = refl
swap true false a1 a0 b1 b0 x y z h i j k = refl
swap true true true a0 b1 b0 x y z h i j k = rw (h refl, i refl)
swap true true false true b1 b0 x y z h i j k = rw (j refl, k refl)
swap true true false false b1 b0 x y z h i j k = refl

one_place : (q p r : Path) → (p ≡ r → ⊥) → same_path q p ≡ true → same_path q r ≡ false
one_place q p r other same = same_path-false q r (λ is. other (sym (same_path-true q p same) ∙ is))

pub kept_apart : (m n : Move) (t : Tree) → Disjoint m n
    → (node_at (move_at n t) m.0 ≡ node_at t m.0) × (node_at (move_at n t) m.1 ≡ node_at t m.1)
kept_apart m n t apart = elim (move_cases n t) [
  | inr stays ↦ (ap (λ u. node_at u m.0) stays.same, ap (λ u. node_at u m.1) stays.same)
  | inl moves ↦ (moves.others m.0 apart.sources apart.source_target, moves.others m.1 apart.target_source apart.targets)
]

pub can_apart : (m n : Move) (t : Tree) → Disjoint m n → can_move (node_at (move_at n t)) m ≡ can_move (node_at t) m
can_apart m n t apart =
    let kept = kept_apart m n t apart in
    let above : is_dir (node_at (move_at n t) (parent m.1)) ≡ is_dir (node_at t (parent m.1)) = elim (move_each n t (parent m.1)) [
      | inl same ↦ ap is_dir same
      | inr changed ↦ elim changed.1 [ inl gone ↦ ap is_dir gone.1 ∙ sym changed.0 | inr put ↦ dir_no_file _ put.1 ∙ sym changed.0 ]
    ] in
    λ i. (is_leaf (kept.0 i) && not (is_dir (kept.1 i))) && above i

pub turned : (m n : Move) → Disjoint m n → Disjoint n m
turned m n a =
    record {
      sources = λ e. a.sources (sym e);
      source_target = λ e. a.target_source (sym e);
      target_source = λ e. a.source_target
          (sym e);
      targets = λ e. a.targets (sym e);
    }

get_both : (m n : Move) (t : Tree) (q : Path) → Disjoint m n → node_at (move_at m (move_at n t)) q ≡
    cond (can_move (node_at t) m)
    (cond (same_path q m.1) (node_at t m.0)
    (cond (same_path q m.0) None
    (cond (can_move (node_at t) n) (cond (same_path q n.1) (node_at t n.0) (cond (same_path q n.0) None (node_at t q))) (node_at t q))))
    (cond (can_move (node_at t) n) (cond (same_path q n.1) (node_at t n.0) (cond (same_path q n.0) None (node_at t q))) (node_at t q))
unfolding got
get_both m n t q apart =
    get_move m (move_at n t) q
    ∙ (λ i. cond (can_apart m n t apart i)
    (cond (same_path q m.1) ((kept_apart m n t apart).0 i) (cond (same_path q m.0) None (get_move n t q i))) (get_move n t q i))

pub moves_swap : (m n : Move) (t : Tree) → Disjoint m n → move_at m (move_at n t) ≡ move_at n (move_at m t)
moves_swap m n t a = same_tree _ _ (λ q.
    get_both m n t q a
    ∙ swap (can_move (node_at t) m) (can_move (node_at t) n) (same_path q m.1) (same_path q m.0) (same_path q n.1) (same_path q n.0)
    (node_at t m.0) (node_at t n.0) (node_at t q) (one_place q m.1 n.1 a.targets) (one_place q m.1 n.0 a.target_source)
    (one_place q m.0 n.1 a.source_target) (one_place q m.0 n.0 a.sources)
    ∙ sym (get_both n m t q (turned m n a)))

none_file : {o : Option Node} → o ≡ None → is_leaf o ≡ true → ⊥
none_file e f = true≢false (sym f ∙ ap is_leaf e)

pub move_twice : (m : Move) (t : Tree) → (m.0 ≡ m.1 → ⊥) → move_at m (move_at m t) ≡ move_at m t
move_twice m t other = elim (move_cases m (move_at m t)) [
  | inr stays ↦ stays.same
  | inl again ↦ elim (move_cases m t) [
    | inr stays ↦ ap (move_at m) stays.same
    | inl moves ↦ absurd (none_file (moves.source other) again.file)
  ]
]

turn_last : (ns : List Move) (m : Move) → ((n : Move) → IsMember n ns → (m ≡ n) ⊎ Disjoint m n) → (t : Tree)
    → in_turn move_at ns (move_at m t) ≡ move_at m (in_turn move_at ns t)
turn_last [] m two t = refl
turn_last (n ∷ ns) m two t =
    ap (in_turn move_at ns)
    (elim (two n (inl refl)) [ inl same ↦ (λ i. move_at (sym same i) (move_at (same i) t)) | inr apart ↦ sym (moves_swap m n t apart) ])
    ∙ turn_last ns m (λ k in_it. two k (inr in_it)) (move_at n t)

-- one of them done before
pub move_before : (ns : List Move) (m : Move) → ((n : Move) → IsMember n ns → (m ≡ n) ⊎ Disjoint m n) → (m.0 ≡ m.1 → ⊥) → IsMember m ns
    → (t : Tree) → in_turn move_at ns (move_at m t) ≡ in_turn move_at ns t
move_before [] m two own in_it t = absurd in_it
move_before (n ∷ ns) m two own (inl same) t =
    ap (in_turn move_at ns) ((λ i. move_at (sym same i) (move_at m t)) ∙ move_twice m t own ∙ (λ i. move_at (same i) t))
move_before (n ∷ ns) m two own (inr later) t =
    ap (in_turn move_at ns)
    (elim (two n (inl refl)) [ inl same ↦ (λ i. move_at (sym same i) (move_at (same i) t)) | inr apart ↦ sym (moves_swap m n t apart) ])
    ∙ move_before ns m (λ k in_it. two k (inr in_it)) own later (move_at n t)

-- some of them done before
pub moves_before : (ms ks : List Move) → MovesApart ms → ((k : Move) → IsMember k ks → IsMember k ms) → (t : Tree)
    → in_turn move_at ms (in_turn move_at ks t) ≡ in_turn move_at ms t
moves_before ms [] apart some t = refl
moves_before ms (k ∷ ks) apart some t =
    moves_before ms ks apart (λ j in_it. some j (inr in_it)) (move_at k t)
    ∙ move_before ms k (λ n in_it. apart.two k n (some k (inl refl)) in_it) (apart.own k (some k (inl refl))) (some k (inl refl)) t

-- after them none can be done
pub all_moved : (ms : List Move) → MovesApart ms → (m : Move) → IsMember m ms → (t : Tree)
    → can_move (node_at (in_turn move_at ms t)) m ≡ false
all_moved ms apart m in_it t =
    let u = in_turn move_at ms t in
    let fixed : move_at m u ≡ u =
    sym (turn_last ms m (λ n k. apart.two m n in_it k) t) ∙ move_before ms m (λ n k. apart.two m n in_it k) (apart.own m in_it) in_it t in
    elim (move_cases m u) [
      | inr stays ↦ stays.cant
      | inl moves ↦ absurd (none_file (ap (λ v. node_at v m.0) (sym fixed) ∙ moves.source (apart.own m in_it)) moves.file)
    ]

pub none_move : (ms : List Move) (t : Tree) → ((m : Move) → IsMember m ms → can_move (node_at t) m ≡ false) → in_turn move_at ms t ≡ t
none_move [] t none = refl
none_move (m ∷ ms) t none =
    let still : move_at m t ≡ t = ap (λ b. cond b (edited m.1 (node_at t m.0) (without m.0 t)) t) (none m (inl refl)) in
    ap (in_turn move_at ms) still ∙ none_move ms t (λ n in_it. none n (inr in_it))
