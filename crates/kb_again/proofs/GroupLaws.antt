-- What a group of changes leaves.
use Rattle.std.proofs.Common.{◌≡◌, ◌⊎◌, inl, inr, true, false, not, cond, ◌&&◌, ◌||◌, List, [], ◌∷◌, refl, sym, ap, ◌∙◌, Some, None, is_some}
use Rattle.std.specs.declared.option.Option.{Option}
use Rattle.kb_world.specs.TreeLaws.{paths_exact, with_node-here, with_node-apart, remove-here, remove-apart}
use Rattle.std.specs.List.{list_any}
use Rattle.kb_world.specs.Tree.{node_at, with_node, without, Tree, is_dir, is_leaf}
use Rattle.std.specs.FinMap.{keys, get-retain_keys}
use Rattle.std.proofs.lemmas.Bool.{cases_Bool, true≢false, or_cases}
use Rattle.kb_again.proofs.PathLaws.{is_over, is_above, over_itself, above_over, over_cases, over_over, not_above_itself, listed_cons, listed_more, listed_first, above_parent, is_listed}
use Rattle.kb_world.specs.declared.tree.Node.{Node}
use Rattle.kb_world.specs.Path.{parent, Path}
use Rattle.kb_again.proofs.Standing.{Holds, Cleared, Made}
use Rattle.kb_again.proofs.Ends.{drop_at, wipe_at, drop_dir_at, make_dir_at, in_turn, is_under_one, Dropped, Wiped, IsUpward, IsDownward}
use Rattle.kb_again.proofs.EditLaws.{dir_is, dir_test, some_stands, same_or_not, Empty, Filled, empty_or_filled}
use Rattle.kb_again.proofs.AgainLaws.{none_dir}
use Rattle.kb_world.specs.declared.tree.Node.TheVariants as node

-- a drop
pub drop_each : (p : Path) (t : Tree) (q : Path)
    → (node_at (drop_at p t) q ≡ node_at t q) ⊎ ((q ≡ p) × (is_leaf (node_at t q) ≡ true) × (node_at (drop_at p t) q ≡ None))
drop_each p t q = elim (cases_Bool (is_leaf (node_at t p))) [
  | inr not_one ↦ inl (ap (λ b. node_at (cond b (without p t) t) q) not_one)
  | inl file ↦
      let is : drop_at p t ≡ without p t = ap (λ b. cond b (without p t) t) file in
      elim (same_or_not q p) [
        | inl same ↦
            inr (
              same,
              ap (λ x. is_leaf (node_at t x)) same ∙ file,
              ap (λ u. node_at u q) is ∙ ap (node_at (without p t)) same
                  ∙ remove-here t p,
            )
        | inr other ↦ inl (ap (λ u. node_at u q) is ∙ remove-apart t p q other)
      ]
]

none_file : {o : Option Node} → o ≡ None → is_leaf o ≡ true → ⊥
none_file e f = true≢false (sym f ∙ ap is_leaf e)

drop_gone : (p : Path) (t : Tree) → is_leaf (node_at (drop_at p t) p) ≡ true → ⊥
drop_gone p t h = elim (cases_Bool (is_leaf (node_at t p))) [
  | inl file ↦ none_file (ap (λ b. node_at (cond b (without p t) t) p) file ∙ remove-here t p) h
  | inr not_one ↦ true≢false (sym h ∙ ap is_leaf (ap (λ b. node_at (cond b (without p t) t) p) not_one) ∙ not_one)
]

pub dropped : (ps : List Path) (t : Tree) → Dropped ps (node_at t) (node_at (in_turn drop_at ps t))
dropped [] t = record { each = λ q. inl refl; gone = λ q h f. true≢false (sym h) }
dropped (p ∷ ps) t =
    let rest = dropped ps (drop_at p t) in
    record {
      each = λ q. elim (rest.each q) [
        | inl same ↦ elim (drop_each p t q) [
          | inl kept ↦ inl (same ∙ kept)
          | inr went ↦ inr (listed_first q p ps went.0, went.1, same ∙ went.2)
        ]
        | inr went ↦ elim (drop_each p t q) [
          | inl kept ↦ inr (listed_more q p ps went.0, ap is_leaf (sym kept) ∙ went.1, went.2)
          | inr gone ↦ inr (listed_first q p ps gone.0, gone.1, went.2)
        ]
      ];
      gone = λ q h f. elim (listed_cons q p ps h) [
        | inr later ↦ rest.gone q later f
        | inl here ↦ elim (rest.each q) [
          | inl same ↦ drop_gone p t (ap (λ x. is_leaf (node_at (drop_at p t) x)) (sym here) ∙ ap is_leaf (sym same) ∙ f)
          | inr went ↦ none_file went.2 f
        ]
      ];
    }

-- a wipe
get_wiped : (p : Path) (t : Tree) (q : Path) → node_at (wipe_at p t) q ≡ cond (not (is_over p q)) (node_at t q) None
get_wiped p t q = get-retain_keys t (λ r. not (is_over p r)) q (λ x tie. ap (λ y. not (is_over p y)) (sym (paths_exact q x tie)))

pub wiped : (ps : List Path) (t : Tree) → Wiped ps (node_at t) (node_at (in_turn wipe_at ps t))
wiped [] t = record { each = λ q. inl refl; gone = λ q h. absurd (true≢false (sym h)) }
wiped (p ∷ ps) t =
    let rest = wiped ps (wipe_at p t) in
    record {
      each = λ q. elim (cases_Bool (is_over p q)) [
        | inl under ↦
            let none : node_at (wipe_at p t) q ≡ None = get_wiped p t q ∙ ap (λ b. cond (not b) (node_at t q) None) under in
            inr (ap (λ b. b || is_under_one ps q) under, elim (rest.each q) [ inl same ↦ same ∙ none | inr gone ↦ gone.1 ])
        | inr out ↦ elim (rest.each q) [
          | inl same ↦ inl (same ∙ get_wiped p t q ∙ ap (λ b. cond (not b) (node_at t q) None) out)
          | inr gone ↦ inr (ap (λ b. b || is_under_one ps q) out ∙ gone.0, gone.1)
        ]
      ];
      gone = λ q h. elim (or_cases (is_over p q) (is_under_one ps q) h) [
        | inr later ↦ rest.gone q later
        | inl under ↦ elim (rest.each q) [
          | inl same ↦ same ∙ get_wiped p t q ∙ ap (λ b. cond (not b) (node_at t q) None) under
          | inr gone ↦ gone.1
        ]
      ];
    }

-- a directory taken away
pub record LosesDir (p : Path) (t u : Tree) : Type 0 where
  pub was : node_at t p ≡ Some node.Dir
  pub gone : node_at u p ≡ None
  pub others : (q : Path) → (q ≡ p → ⊥) → node_at u q ≡ node_at t q
  pub empty : Empty t p

pub record LosesNone (p : Path) (t u : Tree) : Type 0 where
  pub same : u ≡ t
  pub filled : node_at t p ≡ Some node.Dir → Filled t p

pub drop_dir_cases : (p : Path) (t : Tree) → LosesDir p t (drop_dir_at p t) ⊎ LosesNone p t (drop_dir_at p t)
drop_dir_cases p t = elim (cases_Bool (is_dir (node_at t p))) [
  | inr not_one ↦
      inr (record {
        same = ap (λ b. cond (b && not (list_any (is_above p) (keys t))) (without p t) t) not_one;
        filled = λ is. absurd
            (true≢false (sym (dir_test _ is) ∙ not_one));
      })
  | inl one ↦ elim (empty_or_filled t p) [
    | inr f ↦ inr (record { same = (λ i. cond (one i && not (f.0 i)) (without p t) t); filled = λ is. f.1 })
    | inl e ↦
        let is : drop_dir_at p t ≡ without p t = λ i. cond (one i && not (e.0 i)) (without p t) t in
        inl (record {
          was = dir_is _ one;
          gone = ap (λ u. node_at u p) is ∙ remove-here t p;
          others = λ q other. ap (λ u. node_at u q) is
              ∙ remove-apart t p q other;
          empty = e.1;
        })
  ]
]

filled_holds : (p : Path) (ps : List Path) (t : Tree) (q : Path) → ((r : Path) → is_listed r ps ≡ true → is_above p r ≡ true → ⊥)
    → is_over q p ≡ true → Filled t p → Holds (p ∷ ps) (node_at t) q
filled_holds p ps t q up under f = record {
  path = f.path;
  under = over_over q p f.path under (above_over p f.path f.below);
  solid = record {
    stands = f.stands;
    stays = λ is h. elim (listed_cons f.path p ps h) [
      | inl same ↦ not_above_itself p (ap (is_above p) (sym same) ∙ f.below)
      | inr later ↦ up f.path later f.below
    ];
  };
}

pub cleared : (ps : List Path) (t : Tree) → IsUpward ps → Cleared ps (node_at t) (node_at (in_turn drop_dir_at ps t))
cleared [] t up = record { each = λ q. inl refl; full = λ q h. absurd (true≢false (sym h)) }
cleared (p ∷ ps) t up =
    let rest = cleared ps (drop_dir_at p t) up.1 in
    let u = drop_dir_at p t in
    let v = in_turn drop_dir_at ps u in
    let stays_none : (r : Path) → node_at u r ≡ None → node_at v r ≡ None =
    λ r none. elim (rest.each r) [ inl kept ↦ kept ∙ none | inr goes ↦ goes.gone ] in
    elim (drop_dir_cases p t) [
      | inl takes ↦ record {
        each = λ q. elim (same_or_not q p) [
          | inl same ↦ inr (record {
            was = ap (node_at t) same ∙ takes.was;
            gone = stays_none q (ap (node_at u) same ∙ takes.gone);
            listed = listed_first q p ps same;
            bare = λ r below. elim (over_cases p r (ap (λ x. is_over x r) (sym same) ∙ below)) [
              | inl here ↦ stays_none r (ap (node_at u) (sym here) ∙ takes.gone)
              | inr under ↦
                  stays_none r (takes.others r (λ is_p. not_above_itself p (ap (is_above p) (sym is_p) ∙ under)) ∙ takes.empty.none r under)
            ];
          })
          | inr other ↦ elim (rest.each q) [
            | inl kept ↦ inl (kept ∙ takes.others q other)
            | inr goes ↦
                inr (record {
                  was = sym (takes.others q other)
                      ∙ goes.was;
                  gone = goes.gone;
                  listed = listed_more q p ps goes.listed;
                  bare = goes.bare;
                })
          ]
        ];
        full = λ q h is. elim (listed_cons q p ps h) [
          | inl same ↦ absurd (none_dir (stays_none q (ap (node_at u) same ∙ takes.gone)) is)
          | inr later ↦
              let w = rest.full q later is in
              let other : w.path ≡ p → ⊥ = λ same. w.solid.stands (ap (node_at u) same ∙ takes.gone) in
              let kept = takes.others w.path other in
              record {
                path = w.path;
                under = w.under;
                solid = record {
                  stands = λ none. w.solid.stands (kept ∙ none);
                  stays =
                      λ dir in_it. elim
                      (listed_cons w.path p ps in_it) [ inl same ↦ other same | inr more ↦ w.solid.stays (kept ∙ dir) more ];
                };
              }
        ];
      }
      | inr leaves ↦
          let same_at : (r : Path) → node_at u r ≡ node_at t r = λ r. ap (λ w. node_at w r) leaves.same in
          record {
            each = λ q. elim (rest.each q) [
              | inl kept ↦ inl (kept ∙ same_at q)
              | inr goes ↦
                  inr (record {
                    was = sym (same_at q)
                        ∙ goes.was;
                    gone = goes.gone;
                    listed = listed_more q p ps goes.listed;
                    bare = goes.bare;
                  })
            ];
            full = λ q h is. elim (listed_cons q p ps h) [
              | inl same ↦
                  let was : node_at u q ≡ Some node.Dir = elim (rest.each q) [ inl kept ↦ sym kept ∙ is | inr goes ↦ goes.was ] in
                  filled_holds p ps t q up.0 (ap (is_over q) (sym same) ∙ over_itself q)
                  (leaves.filled (ap (node_at t) (sym same) ∙ sym (same_at q) ∙ was))
              | inr later ↦
                  let w = rest.full q later is in
                  elim (same_or_not w.path p) [
                    | inr other ↦ record {
                      path = w.path;
                      under = w.under;
                      solid = record {
                        stands = λ none. w.solid.stands (same_at w.path ∙ none);
                        stays =
                            λ dir in_it. elim
                            (listed_cons w.path p ps in_it) [
                              | inl same ↦ other same
                              | inr more ↦ w.solid.stays
                                  (same_at w.path ∙ dir) more
                            ];
                      };
                    }
                    | inl same ↦ elim (cases_Bool (is_dir (node_at t p))) [
                      | inl dir ↦ filled_holds p ps t q up.0 (ap (is_over q) (sym same) ∙ w.under) (leaves.filled (dir_is _ dir))
                      | inr not_dir ↦ record {
                        path = w.path;
                        under = w.under;
                        solid = record {
                          stands = λ none. w.solid.stands (same_at w.path ∙ none);
                          stays = λ dir in_it. true≢false (sym (dir_test _ (ap (node_at t) (sym same) ∙ dir)) ∙ not_dir);
                        };
                      }
                    ]
                  ]
            ];
          }
    ]

-- a directory made
pub record GainsDir (p : Path) (t u : Tree) : Type 0 where
  pub was : node_at t p ≡ None
  pub above : node_at t (parent p) ≡ Some node.Dir
  pub here : node_at u p ≡ Some node.Dir
  pub others : (q : Path) → (q ≡ p → ⊥) → node_at u q ≡ node_at t q

pub record GainsNone (p : Path) (t u : Tree) : Type 0 where
  pub same : u ≡ t
  pub cause : node_at t (parent p) ≡ Some node.Dir → node_at t p ≡ None → ⊥

none_there : (o : Option Node) → is_some o ≡ false → o ≡ None
none_there None h = refl
none_there (Some n) h = absurd (true≢false h)

pub make_dir_cases : (p : Path) (t : Tree) → GainsDir p t (make_dir_at p t) ⊎ GainsNone p t (make_dir_at p t)
make_dir_cases p t = elim (cases_Bool (is_some (node_at t p))) [
  | inl there ↦
      inr (record {
        same = ap
            (λ b. cond (not b && is_dir (node_at t (parent p)))
            (with_node p node.Dir t) t) there;
        cause = λ dir none. some_stands _ there none;
      })
  | inr absent ↦ elim (cases_Bool (is_dir (node_at t (parent p)))) [
    | inr not_dir ↦
        inr (record {
          same = λ i. cond (not (absent i) && not_dir i) (with_node p node.Dir t) t;
          cause = λ dir none. true≢false
              (sym (dir_test _ dir) ∙ not_dir);
        })
    | inl dir ↦
        let is : make_dir_at p t ≡ with_node p node.Dir t = λ i. cond (not (absent i) && dir i) (with_node p node.Dir t) t in
        inl (record {
          was = none_there _ absent;
          above = dir_is _ dir;
          here = ap (λ u. node_at u p) is
              ∙ with_node-here t p node.Dir;
          others = λ q other. ap (λ u. node_at u q) is ∙ with_node-apart t p node.Dir q other;
        })
  ]
]

out_rest : (p : Path) (ps : List Path) → is_listed [] (p ∷ ps) ≡ false → is_listed [] ps ≡ false
out_rest p ps out =
    elim (cases_Bool (is_listed [] ps)) [ inr is_out ↦ is_out | inl in_it ↦ absurd (true≢false (sym (listed_more [] p ps in_it) ∙ out)) ]

pub made : (ps : List Path) (t : Tree) → IsDownward ps → is_listed [] ps ≡ false → Made ps (node_at t) (node_at (in_turn make_dir_at ps t))
made [] t down out = record { each = λ q. inl refl; full = λ q h. absurd (true≢false (sym h)) }
made (p ∷ ps) t down out =
    let rest = made ps (make_dir_at p t) down.1 (out_rest p ps out) in
    let u = make_dir_at p t in
    let v = in_turn make_dir_at ps u in
    let stays_dir : (r : Path) → node_at u r ≡ Some node.Dir → node_at v r ≡ Some node.Dir =
    λ r dir. elim (rest.each r) [ inl kept ↦ kept ∙ dir | inr makes ↦ makes.made ] in
    elim (make_dir_cases p t) [
      | inl adds ↦ record {
        each = λ q. elim (same_or_not q p) [
          | inl same ↦
              inr (record {
                was = ap (node_at t) same
                    ∙ adds.was;
                made = stays_dir q (ap (node_at u) same ∙ adds.here);
                listed = listed_first q p ps same;
                above = stays_dir
                    (parent q) (ap (λ x. node_at u (parent x)) same
                    ∙ adds.others (parent p) (λ is_p. none_dir adds.was (ap (node_at t) (sym is_p) ∙ adds.above)) ∙ adds.above);
              })
          | inr other ↦ elim (rest.each q) [
            | inl kept ↦ inl (kept ∙ adds.others q other)
            | inr makes ↦
                inr (record {
                  was = sym (adds.others q other)
                      ∙ makes.was;
                  made = makes.made;
                  listed = listed_more q p ps makes.listed;
                  above = makes.above;
                })
          ]
        ];
        full = λ q h dir none. elim (listed_cons q p ps h) [
          | inl same ↦ none_dir none (stays_dir q (ap (node_at u) same ∙ adds.here))
          | inr later ↦ rest.full q later dir none
        ];
      }
      | inr lacks ↦
          let same_at : (r : Path) → node_at u r ≡ node_at t r = λ r. ap (λ w. node_at w r) lacks.same in
          record {
            each = λ q. elim (rest.each q) [
              | inl kept ↦ inl (kept ∙ same_at q)
              | inr makes ↦
                  inr (record {
                    was = sym (same_at q)
                        ∙ makes.was;
                    made = makes.made;
                    listed = listed_more q p ps makes.listed;
                    above = makes.above;
                  })
            ];
            full = λ q h dir none. elim (listed_cons q p ps h) [
              | inr later ↦ rest.full q later dir none
              | inl same ↦
                  let was : node_at t q ≡ None =
                  elim (rest.each q) [ inl kept ↦ sym (same_at q) ∙ sym kept ∙ none | inr makes ↦ absurd (none_dir none makes.made) ] in
                  elim (rest.each (parent q)) [
                    | inl kept ↦
                        lacks.cause (ap (λ x. node_at t (parent x)) (sym same) ∙ sym (same_at (parent q)) ∙ sym kept ∙ dir)
                        (ap (node_at t) (sym same) ∙ was)
                    | inr makes ↦ elim (above_parent q) [
                      | inl root ↦ none_dir none (ap (node_at v) (root ∙ sym (ap parent root)) ∙ dir)
                      | inr below ↦ down.0 (parent q) makes.listed (ap (is_above (parent q)) (sym same) ∙ below)
                    ]
                  ]
            ];
          }
    ]
