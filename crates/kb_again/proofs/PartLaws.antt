-- Doing all changes again from a tree in which a part of them is done.
use Rattle.std.proofs.Common.{◌≡◌, ◌⊎◌, inl, inr, Bool, true, false, not, List, refl, sym, ap, ◌∙◌, subst, Some, None}
use Rattle.std.specs.declared.option.Option.{Option}
use Rattle.kb_world.specs.Tree.{node_at, Tree, is_dir, is_leaf}
use Rattle.std.proofs.lemmas.Bool.{cases_Bool, true≢false, and_parts, and_from}
use Rattle.kb_again.proofs.PathLaws.{is_over, over_cases, over_parent, is_listed}
use Rattle.kb_world.specs.declared.tree.Node.{Node}
use Rattle.kb_world.specs.TreeLaws.{same_tree}
use Rattle.kb_world.specs.Path.{parent, Path}
use Rattle.kb_again.proofs.Standing.{Standing, Between, Solid, Holds, Cleared, Made}
use Rattle.kb_again.proofs.Ends.{Move, wipe_at, drop_dir_at, make_dir_at, move_at, in_turn, is_under_one, Dropped, Wiped, IsMember, Moved}
use Rattle.kb_again.proofs.Parts.{Groups, dropped_tree, wiped_tree, cleared_tree, made_tree, put_tree, groups_done, IsValid, DoneOnce}
use Rattle.kb_again.proofs.Parts.{in_drops, in_wipes, in_first, in_dirs, in_puts, in_second, in_runs}
use Rattle.kb_again.proofs.EditLaws.{dir_is, dir_test}
use Rattle.kb_again.proofs.GroupLaws.{dropped, wiped, cleared, made}
use Rattle.kb_again.proofs.MoveLaws.{moved, moved_dir, moves_before, all_moved, none_move}
use Rattle.kb_again.proofs.AgainLaws.{solid_kept, solid_same, cleared_again, IsReached, reached_again}
use Rattle.kb_world.specs.declared.tree.Node.TheVariants as node

not_true : {b : Bool} → (b ≡ true → ⊥) → b ≡ false
not_true {b} h = elim (cases_Bool b) [ inl is ↦ absurd (h is) | inr is_not ↦ is_not ]

pub nothing_else : (o : Option Node) → is_dir o ≡ false → (is_leaf o ≡ true → ⊥) → o ≡ None
nothing_else None h k = refl
nothing_else (Some node.Dir) h k = absurd (true≢false h)
nothing_else (Some (node.File bytes exec)) h k = absurd (k refl)
nothing_else (Some (node.Link text)) h k = absurd (k refl)

-- a drop done before
dropped_again : (ps : List Path) (old new mid end : Standing) → Dropped ps old new → Dropped ps mid end → Between old new mid → (q : Path)
    → end q ≡ new q
dropped_again ps old new mid end first second between q = elim (first.each q) [
  | inl same ↦
      let here : mid q ≡ new q = elim (between q) [ inl t ↦ t ∙ sym same | inr n ↦ n ] in
      elim (second.each q) [ inl kept ↦ kept ∙ here | inr gone ↦ absurd (first.gone q gone.0 (ap is_leaf (sym here) ∙ gone.1)) ]
  | inr gone ↦ elim (second.each q) [
    | inr now ↦ now.2 ∙ sym gone.2
    | inl kept ↦ elim (between q) [
      | inr n ↦ kept ∙ n
      | inl t ↦ absurd (second.gone q gone.0 (ap is_leaf (kept ∙ t) ∙ gone.1))
    ]
  ]
]

wiped_again : (ps : List Path) (old new mid end : Standing) → Wiped ps old new → Wiped ps mid end → Between old new mid → (q : Path)
    → end q ≡ new q
wiped_again ps old new mid end first second between q = elim (first.each q) [
  | inl same ↦
      let here : mid q ≡ new q = elim (between q) [ inl t ↦ t ∙ sym same | inr n ↦ n ] in
      elim (second.each q) [ inl kept ↦ kept ∙ here | inr gone ↦ gone.1 ∙ sym (first.gone q gone.0) ]
  | inr gone ↦ second.gone q gone.0 ∙ sym gone.1
]

-- no files to drop, nothing to wipe
pub record IsFree (g : Groups) (look : Standing) : Type 0 where
  pub no_file : (q : Path) → is_listed q g.drops ≡ true → is_leaf (look q) ≡ true → ⊥
  pub nothing : (q : Path) → is_under_one g.wipes q ≡ true → look q ≡ None

pub none_not_file : {o : Option Node} → o ≡ None → is_leaf o ≡ true → ⊥
none_not_file e f = true≢false (sym f ∙ ap is_leaf e)

pub free_dropped : (g : Groups) (t : Tree) → ((q : Path) → is_listed q g.drops ≡ true → is_leaf (node_at t q) ≡ true → ⊥)
    → dropped_tree g t ≡ t
free_dropped g t free =
    same_tree _ _ (λ q. elim ((dropped g.drops t).each q) [ inl same ↦ same | inr gone ↦ absurd (free q gone.0 gone.1) ])

free_wiped : (g : Groups) (t : Tree) → IsFree g (node_at t) → in_turn wipe_at g.wipes t ≡ t
free_wiped g t free =
    same_tree _ _ (λ q. elim ((wiped g.wipes t).each q) [ inl same ↦ same | inr gone ↦ gone.1 ∙ sym (free.nothing q gone.0) ])

between_free : (g : Groups) (old new mid : Standing) → IsFree g old → IsFree g new → Between old new mid → IsFree g mid
between_free g old new mid a b between = record {
  no_file =
      λ q listed file. elim
      (between q) [ inl o ↦ a.no_file q listed (ap is_leaf (sym o) ∙ file) | inr n ↦ b.no_file q listed (ap is_leaf (sym n) ∙ file) ];
  nothing = λ q listed. elim (between q) [ inl o ↦ o ∙ a.nothing q listed | inr n ↦ n ∙ b.nothing q listed ];
}

cleared_free : (g : Groups) (ps : List Path) (old new : Standing) → Cleared ps old new → IsFree g old → IsFree g new
cleared_free g ps old new c a = record {
  no_file =
      λ q listed file. elim
      (c.each q) [ inl same ↦ a.no_file q listed (ap is_leaf (sym same) ∙ file) | inr goes ↦ none_not_file goes.gone file ];
  nothing = λ q listed. elim (c.each q) [ inl same ↦ same ∙ a.nothing q listed | inr goes ↦ goes.gone ];
}

dir_not_file : {o : Option Node} → o ≡ Some node.Dir → is_leaf o ≡ true → ⊥
dir_not_file e f = true≢false (sym f ∙ ap is_leaf e)

module _ (g : Groups) (valid : IsValid g) where
  made_free : (old new : Standing) → Made g.dirs old new → IsFree g old → IsFree g new
  made_free old new m a = record {
    no_file =
        λ q listed file. elim
        (m.each q) [ inl same ↦ a.no_file q listed (ap is_leaf (sym same) ∙ file) | inr makes ↦ dir_not_file makes.made file ];
    nothing =
        λ q listed. elim (m.each q) [
          | inl same ↦ same ∙ a.nothing q listed
          | inr makes ↦ absurd (valid.wipes_no_dir q makes.listed listed)
        ];
  }

  moved_free : (some : List Move) → ((m : Move) → IsMember m some → IsMember m g.puts) → (old new : Standing) → Moved some old new
      → IsFree g old → IsFree g new
  moved_free some sub old new m a = record {
    no_file = λ q listed file. elim (m.each q) [
      | inl same ↦ a.no_file q listed (ap is_leaf (sym same) ∙ file)
      | inr changed ↦ elim changed.1 [
        | inl gone ↦ none_not_file gone.3 file
        | inr put ↦ valid.no_drop put.0 (sub put.0 put.1) (subst (λ x. is_listed x g.drops ≡ true) (sym put.2) listed)
      ]
    ];
    nothing = λ q listed. elim (m.each q) [
      | inl same ↦ same ∙ a.nothing q listed
      | inr changed ↦ elim changed.1 [
        | inl gone ↦ gone.3
        | inr put ↦ absurd (valid.no_wipe put.0 (sub put.0 put.1) (subst (λ x. is_under_one g.wipes x ≡ true) (sym put.2) listed))
      ]
    ];
  }

  pub wiped_free : (t : Tree) → IsFree g (node_at (wiped_tree g t))
  wiped_free t =
      let d = dropped g.drops t in
      let w = wiped g.wipes (dropped_tree g t) in
      record {
        no_file =
            λ q listed file. elim
            (w.each q) [ inl same ↦ d.gone q listed (ap is_leaf (sym same) ∙ file) | inr gone ↦ none_not_file gone.1 file ];
        nothing = w.gone;
      }

  -- a tree with no files to drop and nothing to wipe is taken on from the third group
  free_start : (u : Tree) → IsFree g (node_at u) → wiped_tree g u ≡ u
  free_start u free = ap (in_turn wipe_at g.wipes) (free_dropped g u free.no_file) ∙ free_wiped g u free

  module _ (t : Tree) where
    pub first_cleared : Cleared g.first (node_at (wiped_tree g t)) (node_at (cleared_tree g t))
    first_cleared = cleared g.first (wiped_tree g t) valid.first_order

    pub dirs_made : Made g.dirs (node_at (cleared_tree g t)) (node_at (made_tree g t))
    dirs_made = made g.dirs (cleared_tree g t) valid.dirs_order valid.dirs_root

    pub second_cleared : Cleared g.second (node_at (put_tree g t)) (node_at (groups_done g t))
    second_cleared = cleared g.second (put_tree g t) valid.second_order

    pub cleared_tree_free : IsFree g (node_at (cleared_tree g t))
    cleared_tree_free = cleared_free g g.first _ _ first_cleared (wiped_free t)

    pub made_tree_free : IsFree g (node_at (made_tree g t))
    made_tree_free = made_free _ _ dirs_made cleared_tree_free

    pub put_tree_free : IsFree g (node_at (put_tree g t))
    put_tree_free = moved_free g.puts (λ m in_it. in_it) _ _ (moved g.puts (made_tree g t)) made_tree_free

    pub done_free : IsFree g (node_at (groups_done g t))
    done_free = cleared_free g g.second _ _ second_cleared put_tree_free

    -- a directory that is there once all are made was made, or holds what doesn't go
    made_held : (q : Path) → is_listed q g.first ≡ true → node_at (made_tree g t) q ≡ Some node.Dir
        → ((is_listed q g.dirs ≡ true) × (node_at (made_tree g t) (parent q) ≡ Some node.Dir)) ⊎
        ((r : Path) × (is_over q r ≡ true) × Solid g.first (node_at (wiped_tree g t)) r ×
        (node_at (cleared_tree g t) r ≡ node_at (wiped_tree g t) r) × (node_at (made_tree g t) r ≡ node_at (wiped_tree g t) r))
    made_held q listed dir = elim (dirs_made.each q) [
      | inr makes ↦ inl (makes.listed, makes.above)
      | inl same ↦
          let w = first_cleared.full q listed (sym same ∙ dir) in
          let kept = solid_kept g.first _ _ w.path first_cleared w.solid in
          inr (
            w.path,
            w.under,
            w.solid,
            kept,
            elim (dirs_made.each w.path) [
              | inl still ↦ still ∙ kept
              | inr makes ↦ absurd (w.solid.stands (sym kept ∙ makes.was))
            ],
          )
    ]

    -- with some of the moves done
    moved_held : (some : List Move) → ((m : Move) → IsMember m some → IsMember m g.puts) → (look : Standing)
        → Moved some (node_at (made_tree g t)) look → (q : Path) → is_listed q g.first ≡ true → look q ≡ Some node.Dir
        → ((is_listed q g.dirs ≡ true) × (look (parent q) ≡ Some node.Dir)) ⊎ Holds g.first look q
    moved_held some sub look m q listed dir =
        elim (made_held q listed (dir_is _ (sym (moved_dir some _ _ m q) ∙ dir_test _ dir))) [
          | inl made ↦ inl (made.0, dir_is _ (moved_dir some _ _ m (parent q) ∙ dir_test _ made.1))
          | inr w ↦ inr (record {
            path = w.0;
            under = w.1;
            solid = elim (m.each w.0) [
              | inl same ↦ solid_same g.first _ look w.0 (same ∙ w.4) w.2
              | inr changed ↦ elim changed.1 [
                | inl gone ↦ absurd (valid.staged_apart gone.0 (sub gone.0 gone.1) q listed (ap (is_over q) gone.2 ∙ w.1))
                | inr put ↦ record { stands = λ none. none_not_file none put.3; stays = λ is_it in_it. dir_not_file is_it put.3 }
              ]
            ];
          })
        ]

    moved_full : (some : List Move) → ((m : Move) → IsMember m some → IsMember m g.puts) → (look : Standing)
        → Moved some (node_at (made_tree g t)) look → (q : Path) → is_listed q g.dirs ≡ true → look (parent q) ≡ Some node.Dir
        → look q ≡ None → ⊥
    moved_full some sub look m q listed above none = elim (m.each q) [
      | inl same ↦ dirs_made.full q listed (dir_is _ (sym (moved_dir some _ _ m (parent q)) ∙ dir_test _ above)) (sym same ∙ none)
      | inr changed ↦ elim changed.1 [
        | inl gone ↦ valid.staged_no_dir gone.0 (sub gone.0 gone.1) (subst (λ x. is_listed x g.dirs ≡ true) (sym gone.2) listed)
        | inr put ↦ none_not_file none put.3
      ]
    ]

    again_dirs : Tree → Tree
    again_dirs u = in_turn make_dir_at g.dirs (in_turn drop_dir_at g.first u)

    again : (whole end : Standing) (u : Tree) → IsReached g.first g.dirs whole end (node_at u) → Between whole end (node_at (again_dirs u))
    unfolding again_dirs
    again whole end u reached =
        reached_again g.first g.dirs whole end (node_at u) reached _ _ (cleared g.first u valid.first_order)
        (made g.dirs (in_turn drop_dir_at g.first u) valid.dirs_order valid.dirs_root) valid.first_root valid.dirs_root over_parent

    same_between : (look : Standing) (u : Tree) → Between look look (node_at u) → (q : Path) → node_at u q ≡ look q
    same_between look u between q = elim (between q) [ inl a ↦ a | inr b ↦ b ]

    -- the rest from a tree in which nothing is to be dropped or wiped
    rest_of : Tree → Tree
    rest_of u = in_turn drop_dir_at g.second (in_turn move_at g.puts (again_dirs u))

    from_third : (u : Tree) → IsFree g (node_at u) → groups_done g u ≡ rest_of u
    unfolding rest_of again_dirs
    from_third u free =
        ap (λ v. in_turn drop_dir_at g.second (in_turn move_at g.puts (in_turn make_dir_at g.dirs (in_turn drop_dir_at g.first v))))
        (free_start u free)

    in_dirs_once : (u : Tree) → Between (node_at (cleared_tree g t)) (node_at (made_tree g t)) (node_at u)
        → groups_done g u ≡ groups_done g t
    unfolding rest_of
    in_dirs_once u between =
        from_third u (between_free g _ _ _ cleared_tree_free made_tree_free between)
        ∙ ap (λ v. in_turn drop_dir_at g.second (in_turn move_at g.puts v))
        (same_tree _ _ (same_between _ _ (again (node_at (made_tree g t)) (node_at (made_tree g t)) u (record {
          each = λ q. elim (between q) [
            | inr now ↦ inl (inl now)
            | inl was ↦
                elim (dirs_made.each q) [
                  | inl same ↦ inl (inl (was ∙ sym same))
                  | inr makes ↦ inr (makes.listed, makes.made, was ∙ makes.was, makes.above)
                ]
          ];
          held = λ q listed dir. elim (made_held q listed (elim (between q) [
            | inr now ↦ sym now ∙ dir
            | inl was ↦ elim (dirs_made.each q) [ inl same ↦ same ∙ sym was ∙ dir | inr makes ↦ makes.made ]
          ])) [
            | inl made ↦ inl made
            | inr w ↦
                inr (record {
                  path = w.0;
                  under = w.1;
                  solid = solid_same g.first _ _ w.0 (elim (between w.0) [
                    | inl was ↦ was ∙ w.3
                    | inr now ↦ now ∙ w.4
                  ]) w.2;
                })
          ];
          full = dirs_made.full;
          ends = λ q. inl refl;
        }))))

    in_puts_once : (some : List Move) → ((m : Move) → IsMember m some → IsMember m g.puts)
        → groups_done g (in_turn move_at some (made_tree g t)) ≡ groups_done g t
    unfolding rest_of
    in_puts_once some sub =
        let u = in_turn move_at some (made_tree g t) in
        let m = moved some (made_tree g t) in
        from_third u (moved_free some sub _ _ m made_tree_free)
        ∙ ap (λ v. in_turn drop_dir_at g.second (in_turn move_at g.puts v))
        (same_tree _ _ (same_between _ _ (again (node_at u) (node_at u) u (record {
          each = λ q. inl (inl refl);
          held = moved_held some sub (node_at u) m;
          full = moved_full some sub (node_at u) m;
          ends = λ q. inl refl;
        }))))
        ∙ ap (in_turn drop_dir_at g.second) (moves_before g.puts some valid.apart sub (made_tree g t))

    in_second_once : (u : Tree) → Between (node_at (put_tree g t)) (node_at (groups_done g t)) (node_at u)
        → groups_done g u ≡ groups_done g t
    unfolding rest_of
    in_second_once u between =
        let m = moved g.puts (made_tree g t) in
        let c = second_cleared in
        let between_dir : (look : Standing) → Between (node_at (put_tree g t)) (node_at (groups_done g t)) look →
        (q : Path) → look q ≡ Some node.Dir → node_at (put_tree g t) q ≡ Some node.Dir =
        λ look b q dir. elim (b q) [
          | inl was ↦ sym was ∙ dir
          | inr now ↦ elim (c.each q) [ inl same ↦ sym same ∙ sym now ∙ dir | inr goes ↦ goes.was ]
        ] in
        let v = again_dirs u in
        let reaches : Between (node_at (put_tree g t)) (node_at (groups_done g t)) (node_at v) =
        again (node_at (put_tree g t)) (node_at (groups_done g t)) u (record {
          each = λ q. inl (between q);
          held = λ q listed dir. elim (moved_held g.puts (λ k in_it. in_it) _ m q listed (between_dir (node_at u) between q dir)) [
            | inl made ↦ inl made
            | inr w ↦ inr (record {
              path = w.path;
              under = w.under;
              solid = solid_same g.first _ _ w.path (elim (between w.path) [
                | inl was ↦ was
                | inr now ↦ elim (c.each w.path) [
                  | inl same ↦ now ∙ same
                  | inr goes ↦ absurd (elim (over_cases q w.path w.under) [
                    | inl here ↦ w.solid.stays goes.was (subst (λ x. is_listed x g.first ≡ true) here listed)
                    | inr below ↦ valid.second_not_below q w.path listed below goes.listed
                  ])
                ]
              ]) w.solid;
            })
          ];
          full = moved_full g.puts (λ k in_it. in_it) _ m;
          ends = λ q. elim (c.each q) [ inl same ↦ inl same | inr goes ↦ inr (goes.was, goes.gone, goes.bare) ];
        }) in
        let still : in_turn move_at g.puts v ≡ v = none_move g.puts v (λ k in_it. not_true (λ can.
        let parts = and_parts _ _ can in
        let inner = and_parts _ _ parts.0 in
        let file : is_leaf (node_at (put_tree g t) k.0) ≡ true = elim (reaches k.0) [
          | inl was ↦ ap is_leaf (sym was) ∙ inner.0
          | inr now ↦
              elim (c.each k.0) [
                | inl same ↦ ap is_leaf (sym same ∙ sym now) ∙ inner.0
                | inr goes ↦ absurd (none_not_file (now ∙ goes.gone) inner.0)
              ]
        ] in
        let no_dir : not (is_dir (node_at (put_tree g t) k.1)) ≡ true = elim (reaches k.1) [
          | inl was ↦ ap (λ o. not (is_dir o)) (sym was) ∙ inner.1
          | inr now ↦
              elim (c.each k.1) [
                | inl same ↦ ap (λ o. not (is_dir o)) (sym same ∙ sym now) ∙ inner.1
                | inr goes ↦ absurd (valid.no_second k in_it goes.listed)
              ]
        ] in
        let above = dir_test _ (between_dir (node_at v) reaches (parent k.1) (dir_is _ parts.1)) in
        true≢false (sym (and_from _ _ (and_from _ _ file no_dir) above) ∙ all_moved g.puts valid.apart k in_it (made_tree g t)))) in
        from_third u (between_free g _ _ _ put_tree_free done_free between)
        ∙ ap (in_turn drop_dir_at g.second) still
        ∙ same_tree _ _ (cleared_again g.second (node_at (put_tree g t)) (node_at (groups_done g t)) (node_at v) _ c
        (cleared g.second v valid.second_order) reaches)

pub done_once : DoneOnce
done_once g t u valid (in_drops between) =
    ap (λ v. in_turn drop_dir_at g.second
    (in_turn move_at g.puts (in_turn make_dir_at g.dirs (in_turn drop_dir_at g.first (in_turn wipe_at g.wipes v)))))
    (same_tree _ _ (dropped_again g.drops _ _ _ _ (dropped g.drops t) (dropped g.drops u) between))
done_once g t u valid (in_wipes between) =
    let d = dropped g.drops t in
    let w = wiped g.wipes (dropped_tree g t) in
    let free : dropped_tree g u ≡ u = free_dropped g u (λ q listed file. elim (between q) [
      | inl was ↦ d.gone q listed (ap is_leaf (sym was) ∙ file)
      | inr now ↦ (wiped_free g valid t).no_file q listed (ap is_leaf (sym now) ∙ file)
    ]) in
    ap (λ v. in_turn drop_dir_at g.second (in_turn move_at g.puts (in_turn make_dir_at g.dirs (in_turn drop_dir_at g.first v))))
    (ap (in_turn wipe_at g.wipes) free ∙ same_tree _ _ (wiped_again g.wipes _ _ _ _ w (wiped g.wipes u) between))
done_once g t u valid (in_first between) =
    let c = cleared g.first (wiped_tree g t) valid.first_order in
    ap (λ v. in_turn drop_dir_at g.second (in_turn move_at g.puts (in_turn make_dir_at g.dirs v)))
    (ap (in_turn drop_dir_at g.first)
    (free_start g valid u (between_free g _ _ _ (wiped_free g valid t) (cleared_free g g.first _ _ c (wiped_free g valid t)) between))
    ∙ same_tree _ _ (cleared_again g.first _ _ _ _ c (cleared g.first u valid.first_order) between))
done_once g t u valid (in_dirs between) = in_dirs_once g valid t u between
done_once g t u valid (in_puts some sub is) = ap (groups_done g) is ∙ in_puts_once g valid t some sub
done_once g t u valid (in_second between) = in_second_once g valid t u between
done_once g t u valid (in_runs soft) =
    let d = dropped g.drops u in
    let free = done_free g valid t in
    let same : dropped_tree g u ≡ groups_done g t = same_tree _ _ (λ q. elim (soft q) [
      | inl same ↦ elim (d.each q) [ inl kept ↦ kept ∙ same | inr gone ↦ absurd (free.no_file q gone.0 (ap is_leaf (sym same) ∙ gone.1)) ]
      | inr open_at ↦
          nothing_else _ (elim (d.each q) [ inl kept ↦ ap is_dir kept ∙ open_at.2 | inr gone ↦ ap is_dir gone.2 ]) (d.gone q open_at.0)
          ∙ sym (nothing_else _ open_at.1 (free.no_file q open_at.0))
    ]) in
    ap (λ v. in_turn drop_dir_at g.second
    (in_turn move_at g.puts (in_turn make_dir_at g.dirs (in_turn drop_dir_at g.first (in_turn wipe_at g.wipes v)))))
    (same ∙ sym (free_dropped g (groups_done g t) free.no_file))
    ∙ in_second_once g valid t (groups_done g t) (λ q. inr refl)
