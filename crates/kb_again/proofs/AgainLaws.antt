-- What a group of changes makes of a tree in which some of them are done already.
use Rattle.std.proofs.Common.{◌≡◌, ◌⊎◌, inl, inr, ℕ, ◌≤◌, zero, suc, true, false, List, [], ◌∷◌, length, refl, sym, ap, ◌∙◌, arith, Some, None}
use Rattle.std.specs.declared.option.Option.{Option}
use Rattle.kb_again.proofs.PathLaws.{parent_cons, is_over, is_listed}
use Rattle.kb_world.specs.declared.tree.Node.{Node}
use Rattle.kb_world.specs.Path.{parent, Path}
use Rattle.kb_again.proofs.Standing.{Standing, Between, Solid, Goes, Holds, Cleared, Made}
use Rattle.kb_world.specs.declared.tree.Node.TheVariants as node

pub none_dir : {o : Option Node} → o ≡ None → o ≡ Some node.Dir → ⊥
none_dir {o} e f = cc

pub solid_kept : (ps : List Path) (old new : Standing) (r : Path) → Cleared ps old new → Solid ps old r → new r ≡ old r
solid_kept ps old new r cleared solid = elim (cleared.each r) [ inl same ↦ same | inr goes ↦ absurd (solid.stays goes.was goes.listed) ]

pub solid_same : (ps : List Path) (old new : Standing) (r : Path) → new r ≡ old r → Solid ps old r → Solid ps new r
solid_same ps old new r same solid = record {
  stands = λ none. solid.stands (sym same ∙ none);
  stays = λ is. solid.stays (sym same ∙ is);
}

-- a directory that holds what is solid doesn't go
holds_on : (ps : List Path) (old new : Standing) (q : Path) → Cleared ps old new → Holds ps old q → Goes ps old new q → ⊥
holds_on ps old new q cleared holds goes =
    holds.solid.stands (sym (solid_kept ps old new holds.path cleared holds.solid) ∙ goes.bare holds.path holds.under)

pub cleared_again : (ps : List Path) (old new mid end : Standing) → Cleared ps old new → Cleared ps mid end → Between old new mid
    → (q : Path) → end q ≡ new q
cleared_again ps old new mid end first second between q =
    elim (first.each q) [
      | inl same ↦
          let here : mid q ≡ new q = elim (between q) [ inl t ↦ t ∙ sym same | inr n ↦ n ] in
          elim (second.each q) [
            | inl kept ↦ kept ∙ here
            | inr goes ↦
                let w = first.full q goes.listed (sym here ∙ goes.was) in
                let new_has : new w.path ≡ old w.path = solid_kept ps old new w.path first w.solid in
                let mid_has : mid w.path ≡ old w.path = elim (between w.path) [ inl t ↦ t | inr n ↦ n ∙ new_has ] in
                absurd (holds_on ps mid end q second
                (record { path = w.path; under = w.under; solid = solid_same ps old mid w.path mid_has w.solid }) goes)
          ]
      | inr gone ↦ elim (second.each q) [
        | inr goes ↦ goes.gone ∙ sym gone.gone
        | inl kept ↦ elim (between q) [
          | inr n ↦ kept ∙ n
          | inl t ↦
              let w = second.full q gone.listed (kept ∙ t ∙ gone.was) in
              let none = gone.bare w.path w.under in
              absurd (elim (between w.path) [
                | inr n ↦ w.solid.stands (n ∙ none)
                | inl o ↦ elim (first.each w.path) [
                  | inl same ↦ w.solid.stands (o ∙ sym same ∙ none)
                  | inr goes ↦ w.solid.stays (o ∙ goes.was) goes.listed
                ]
              ])
        ]
      ]
    ]

-- from a path to the paths below it
length_parent : (n : List ℕ) (ns : Path) → length (parent (n ∷ ns)) ≡ length ns
length_parent n [] = refl
length_parent n (m ∷ ns) = ap length (parent_cons n m ns) ∙ ap suc (length_parent m ns)

climb_by : (P : Path → Type 0) → P [] → ((n : List ℕ) (ns : Path) → P (parent (n ∷ ns)) → P (n ∷ ns)) → (k : ℕ) (q : Path) → length q ≤ k
    → P q
climb_by P root step k [] le = root
climb_by P root step zero (n ∷ ns) le = absurd (omega arith)
climb_by P root step (suc k) (n ∷ ns) le = step n ns (climb_by P root step k (parent (n ∷ ns)) (omega (arith, length_parent n ns)))

pub climb : (P : Path → Type 0) → P [] → ((n : List ℕ) (ns : Path) → P (parent (n ∷ ns)) → P (n ∷ ns)) → (q : Path) → P q
climb P root step q = climb_by P root step (length q) q (omega arith)

-- What is known of a tree in which all directories are made, and those of a second list perhaps taken away.
-- end: without those of the second list; mid: any tree in between, in which some may still have to be made
pub record IsReached (first dirs : List Path) (whole end mid : Standing) : Type 0 where
  pub each : (q : Path)
      → ((mid q ≡ whole q) ⊎ (mid q ≡ end q)) ⊎
      ((is_listed q dirs ≡ true) × (whole q ≡ Some node.Dir) × (mid q ≡ None) × (whole (parent q) ≡ Some node.Dir))
  pub held : (q : Path) → is_listed q first ≡ true → mid q ≡ Some node.Dir
      → ((is_listed q dirs ≡ true) × (whole (parent q) ≡ Some node.Dir)) ⊎ Holds first mid q
  pub full : (q : Path) → is_listed q dirs ≡ true → whole (parent q) ≡ Some node.Dir → whole q ≡ None → ⊥
  pub ends : (q : Path)
      → (end q ≡ whole q) ⊎ ((whole q ≡ Some node.Dir) × (end q ≡ None) × ((r : Path) → is_over q r ≡ true → end r ≡ None))

module _ (first dirs : List Path) (whole end mid : Standing) (reached : IsReached first dirs whole end mid) where
  end_dir : (q : Path) → end q ≡ Some node.Dir → whole q ≡ Some node.Dir
  end_dir q e = elim (reached.ends q) [ inl same ↦ sym same ∙ e | inr gone ↦ gone.0 ]

  mid_dir : (q : Path) → mid q ≡ Some node.Dir → whole q ≡ Some node.Dir
  mid_dir q e = elim (reached.each q) [
    | inl some ↦ elim some [ inl w ↦ sym w ∙ e | inr f ↦ end_dir q (sym f ∙ e) ]
    | inr still ↦ still.1
  ]

  module _ (bare done : Standing) (clears : Cleared first mid bare) (makes : Made dirs bare done) where
    -- one that isn't made again stood in one that is gone
    unmade : (q : Path) → is_over (parent q) q ≡ true → (done (parent q) ≡ whole (parent q)) ⊎ (done (parent q) ≡ end (parent q))
        → is_listed q dirs ≡ true → whole (parent q) ≡ Some node.Dir → done q ≡ None → end q ≡ None
    unmade q below up listed above none = elim up [
      | inl w ↦ absurd (makes.full q listed (w ∙ above) none)
      | inr e ↦ elim (reached.ends (parent q)) [
        | inl same ↦ absurd (makes.full q listed (e ∙ same ∙ above) none)
        | inr gone ↦ gone.2 q below
      ]
    ]

    whole_listed : (q : Path) → is_listed q dirs ≡ true → whole (parent q) ≡ Some node.Dir → bare q ≡ None → whole q ≡ Some node.Dir
    whole_listed q listed above none = elim (clears.each q) [
      | inr goes ↦ mid_dir q goes.was
      | inl same ↦ elim (reached.each q) [
        | inr still ↦ still.1
        | inl some ↦ elim some [
          | inl w ↦ absurd (reached.full q listed above (sym w ∙ sym same ∙ none))
          | inr f ↦ elim (reached.ends q) [
            | inl stays ↦ absurd (reached.full q listed above (sym stays ∙ sym f ∙ sym same ∙ none))
            | inr gone ↦ gone.0
          ]
        ]
      ]
    ]

    reached_step : (q : Path) → is_over (parent q) q ≡ true → (done (parent q) ≡ whole (parent q)) ⊎ (done (parent q) ≡ end (parent q))
        → (done q ≡ whole q) ⊎ (done q ≡ end q)
    reached_step q below up = elim (makes.each q) [
      | inr m ↦
          let above : whole (parent q) ≡ Some node.Dir =
          elim up [ inl w ↦ sym w ∙ m.above | inr e ↦ end_dir (parent q) (sym e ∙ m.above) ] in
          inl (m.made ∙ sym (whole_listed q m.listed above m.was))
      | inl same ↦ elim (clears.each q) [
        | inl kept ↦ elim (reached.each q) [
          | inl some ↦ elim some [ inl w ↦ inl (same ∙ kept ∙ w) | inr e ↦ inr (same ∙ kept ∙ e) ]
          | inr still ↦ let none : done q ≡ None = same ∙ kept ∙ still.2 in inr (none ∙ sym (unmade q below up still.0 still.3 none))
        ]
        | inr goes ↦
            let none : done q ≡ None = same ∙ goes.gone in
            elim (reached.held q goes.listed goes.was) [
              | inl d ↦ inr (none ∙ sym (unmade q below up d.0 d.1 none))
              | inr holds ↦ absurd (holds_on first mid bare q clears holds goes)
            ]
      ]
    ]

    pub reached_again : is_listed [] first ≡ false → is_listed [] dirs ≡ false
        → ((n : List ℕ) (ns : Path) → is_over (parent (n ∷ ns)) (n ∷ ns) ≡ true) → Between whole end done
    reached_again no_first no_dirs below = climb (λ q. (done q ≡ whole q) ⊎ (done q ≡ end q))
        (elim (makes.each []) [
          | inr m ↦ absurd (let a = m.listed in cc)
          | inl same ↦ elim (clears.each []) [
            | inr goes ↦ absurd (let a = goes.listed in cc)
            | inl kept ↦ elim (reached.each []) [
              | inl some ↦ elim some [ inl w ↦ inl (same ∙ kept ∙ w) | inr e ↦ inr (same ∙ kept ∙ e) ]
              | inr still ↦ absurd (let a = still.0 in cc)
            ]
          ]
        ])
        (λ n ns up. reached_step (n ∷ ns) (below n ns) up)
