-- A front of the changes is some whole groups and a front of the next.
use Rattle.std.proofs.Common.{◌≡◌, ◌⊎◌, inl, inr, Bool, true, false, List, [], ◌∷◌, ◌++◌, map, ◌||◌, refl, sym, ap, ◌∙◌, subst}
use Rattle.kb_world.specs.Tree.{node_at, Tree, is_leaf}
use Rattle.kb_world.specs.TreeLaws.{same_path}
use Rattle.std.proofs.lemmas.List.Folds.{list_any-append}
use Rattle.kb_world.specs.Path.{Path}
use Rattle.std.proofs.lemmas.Bool.{true≢false}
use Rattle.kb_again.proofs.Standing.{Between}
use Rattle.kb_again.proofs.PathLaws.{is_listed}
use Rattle.kb_again.proofs.Ends.{Move, drop_at, wipe_at, drop_dir_at, make_dir_at, move_at, in_turn, IsMember, IsUpward, IsDownward}
use Rattle.kb_again.proofs.Parts.{Groups, dropped_tree, wiped_tree, cleared_tree, made_tree, put_tree, groups_done, IsValid, IsPart, in_drops, in_wipes, in_first, in_dirs, in_puts, in_second}
use Rattle.kb_again.proofs.Flat.{Act, to_drop, to_wipe, to_drop_dir, to_make, do_act, do_acts, put_of, acts_of}
use Rattle.kb_again.proofs.GroupLaws.{dropped, wiped, cleared, made}
use Rattle.kb_again.proofs.AgainLaws.{none_dir}

pub in_turn-append : {A : Type 0} (f : A → Tree → Tree) (xs ys : List A) (t : Tree) → in_turn f (xs ++ ys) t ≡ in_turn f ys (in_turn f xs t)
in_turn-append f [] ys t = refl
in_turn-append f (x ∷ xs) ys t = in_turn-append f xs ys (f x t)

in_turn-map : {A : Type 0} (h : A → Act) (f : A → Tree → Tree) → ((x : A) (t : Tree) → do_act (h x) t ≡ f x t) → (xs : List A) (t : Tree)
    → do_acts (map h xs) t ≡ in_turn f xs t
in_turn-map h f same [] t = refl
in_turn-map h f same (x ∷ xs) t = ap (do_acts (map h xs)) (same x t) ∙ in_turn-map h f same xs (f x t)

-- a front of two lists one after another
split_front : (front back xs ys : List Act) → front ++ back ≡ xs ++ ys
    → ((more : List Act) × (front ++ more ≡ xs)) ⊎ ((later : List Act) × (front ≡ xs ++ later) × (later ++ back ≡ ys))
split_front front back [] ys e = inr (front, refl, e)
split_front [] back (x ∷ xs) ys e = inl (x ∷ xs, refl)
split_front (c ∷ front) back (x ∷ xs) ys e =
    let head : c ≡ x = cc in
    let tail : front ++ back ≡ xs ++ ys = cc in
    elim (split_front front back xs ys tail) [
      | inl more ↦ inl (more.0, (λ i. head i ∷ more.1 i))
      | inr later ↦ inr (later.0, (λ i. head i ∷ later.1 i), later.2)
    ]

pub record IsFrontOf {A : Type 0} (h : A → Act) (front : List Act) (ps : List A) : Type 0 where
  pub taken : List A
  pub left : List A
  pub whole : taken ++ left ≡ ps
  pub is : front ≡ map h taken

map_front : {A : Type 0} (h : A → Act) (front more : List Act) (ps : List A) → front ++ more ≡ map h ps → IsFrontOf h front ps
map_front h [] more ps e = record { taken = []; left = ps; whole = refl; is = refl }
map_front h (c ∷ front) more [] e = absurd (cc)
map_front h (c ∷ front) more (p ∷ ps) e =
    let head : c ≡ h p = cc in
    let tail : front ++ more ≡ map h ps = cc in
    let rest = map_front h front more ps tail in
    record { taken = p ∷ rest.taken; left = rest.left; whole = ap (λ l. p ∷ l) rest.whole; is = λ i. head i ∷ rest.is i }

drops_between : (xs ys : List Path) (t : Tree)
    → Between (node_at t) (node_at (in_turn drop_at (xs ++ ys) t)) (node_at (in_turn drop_at xs t))
drops_between xs ys t q =
    let e = ap (λ u. node_at u q) (in_turn-append drop_at xs ys t) in
    elim ((dropped ys (in_turn drop_at xs t)).each q) [
      | inl same ↦ inr (sym same ∙ sym e)
      | inr gone ↦ elim ((dropped xs t).each q) [ inl kept ↦ inl kept | inr went ↦ absurd (true≢false (sym gone.1 ∙ ap is_leaf went.2)) ]
    ]

pub wipes_between : (xs ys : List Path) (t : Tree)
    → Between (node_at t) (node_at (in_turn wipe_at (xs ++ ys) t)) (node_at (in_turn wipe_at xs t))
wipes_between xs ys t q =
    let e = ap (λ u. node_at u q) (in_turn-append wipe_at xs ys t) in
    elim ((wiped xs t).each q) [
      | inl kept ↦ inl kept
      | inr went ↦
          inr (elim ((wiped ys (in_turn wipe_at xs t)).each q) [ inl same ↦ sym same ∙ sym e | inr gone ↦ went.1 ∙ sym gone.1 ∙ sym e ])
    ]

pub listed_left : (r : Path) (xs ys : List Path) → is_listed r xs ≡ true → is_listed r (xs ++ ys) ≡ true
listed_left r xs ys h = list_any-append (same_path r) xs ys ∙ ap (λ b. b || is_listed r ys) h

or-true : (b : Bool) → (b || true) ≡ true
or-true true = refl
or-true false = refl

pub listed_right : (r : Path) (xs ys : List Path) → is_listed r ys ≡ true → is_listed r (xs ++ ys) ≡ true
listed_right r xs ys h = list_any-append (same_path r) xs ys ∙ ap (λ b. is_listed r xs || b) h ∙ or-true (is_listed r xs)

not_in : (b : Bool) → (b ≡ true → ⊥) → b ≡ false
not_in true h = absurd (h refl)
not_in false h = refl

upward_parts : (xs ys : List Path) → IsUpward (xs ++ ys) → IsUpward xs × IsUpward ys
upward_parts [] ys up = (tt, up)
upward_parts (x ∷ xs) ys up = let rest = upward_parts xs ys up.1 in (((λ r in_it. up.0 r (listed_left r xs ys in_it)), rest.0), rest.1)

downward_parts : (xs ys : List Path) → IsDownward (xs ++ ys) → IsDownward xs × IsDownward ys
downward_parts [] ys down = (tt, down)
downward_parts (x ∷ xs) ys down =
    let rest = downward_parts xs ys down.1 in (((λ r in_it. down.0 r (listed_left r xs ys in_it)), rest.0), rest.1)

clears_between : (xs ys : List Path) (t : Tree) → IsUpward (xs ++ ys)
    → Between (node_at t) (node_at (in_turn drop_dir_at (xs ++ ys) t)) (node_at (in_turn drop_dir_at xs t))
clears_between xs ys t up q =
    let parts = upward_parts xs ys up in
    let e = ap (λ u. node_at u q) (in_turn-append drop_dir_at xs ys t) in
    elim ((cleared ys (in_turn drop_dir_at xs t) parts.1).each q) [
      | inl same ↦ inr (sym same ∙ sym e)
      | inr goes ↦ elim ((cleared xs t parts.0).each q) [ inl kept ↦ inl kept | inr went ↦ absurd (none_dir went.gone goes.was) ]
    ]

makes_between : (xs ys : List Path) (t : Tree) → IsDownward (xs ++ ys) → is_listed [] xs ≡ false → is_listed [] ys ≡ false
    → Between (node_at t) (node_at (in_turn make_dir_at (xs ++ ys) t)) (node_at (in_turn make_dir_at xs t))
makes_between xs ys t down no_x no_y q =
    let parts = downward_parts xs ys down in
    let e = ap (λ u. node_at u q) (in_turn-append make_dir_at xs ys t) in
    elim ((made ys (in_turn make_dir_at xs t) parts.1 no_y).each q) [
      | inl same ↦ inr (sym same ∙ sym e)
      | inr makes ↦ elim ((made xs t parts.0 no_x).each q) [ inl kept ↦ inl kept | inr was ↦ absurd (none_dir makes.was was.made) ]
    ]

-- one whole group, and then others
group_then : {A : Type 0} (h : A → Act) (f : A → Tree → Tree) (same : (x : A) (t : Tree) → do_act (h x) t ≡ f x t) (ps : List A)
    (later : List Act) (t : Tree)
    → do_acts (map h ps ++ later) t ≡ do_acts later (in_turn f ps t)
group_then h f same ps later t = in_turn-append do_act (map h ps) later t ∙ ap (do_acts later) (in_turn-map h f same ps t)

-- in all, the changes are the groups one after another
pub all_done : (g : Groups) (t : Tree) → do_acts (acts_of g) t ≡ groups_done g t
all_done g t =
    let l5 = map to_drop_dir g.second in
    let l4 = map put_of g.puts ++ l5 in
    let l3 = map to_make g.dirs ++ l4 in
    let l2 = map to_drop_dir g.first ++ l3 in
    let l1 = map to_wipe g.wipes ++ l2 in
    group_then to_drop drop_at (λ p u. refl) g.drops l1 t
    ∙ group_then to_wipe wipe_at (λ p u. refl) g.wipes l2 (dropped_tree g t)
    ∙ group_then to_drop_dir drop_dir_at (λ p u. refl) g.first l3 (wiped_tree g t)
    ∙ group_then to_make make_dir_at (λ p u. refl) g.dirs l4 (cleared_tree g t)
    ∙ group_then put_of move_at (λ m u. refl) g.puts l5 (made_tree g t)
    ∙ in_turn-map to_drop_dir drop_dir_at (λ p u. refl) g.second (put_tree g t)

members_left : (ms ns : List Move) (m : Move) → IsMember m ms → IsMember m (ms ++ ns)
members_left [] ns m h = absurd h
members_left (k ∷ ms) ns m (inl same) = inl same
members_left (k ∷ ms) ns m (inr later) = inr (members_left ms ns m later)

out_of_left : (xs ys ps : List Path) → xs ++ ys ≡ ps → is_listed [] ps ≡ false → is_listed [] xs ≡ false
out_of_left xs ys ps e out = not_in _ (λ h. true≢false (sym (listed_left [] xs ys h) ∙ ap (is_listed []) e ∙ out))

out_of_right : (xs ys ps : List Path) → xs ++ ys ≡ ps → is_listed [] ps ≡ false → is_listed [] ys ≡ false
out_of_right xs ys ps e out = not_in _ (λ h. true≢false (sym (listed_right [] xs ys h) ∙ ap (is_listed []) e ∙ out))

-- a group of which a front is done
after_front : {A : Type 0} (h : A → Act) (f : A → Tree → Tree) (same : (x : A) (t : Tree) → do_act (h x) t ≡ f x t) (front : List Act)
    (ps : List A) (w : IsFrontOf h front ps) (t : Tree)
    → do_acts front t ≡ in_turn f w.taken t
after_front h f same front ps w t = ap (λ cs. do_acts cs t) w.is ∙ in_turn-map h f same w.taken t

whole_then : {A : Type 0} (h : A → Act) (f : A → Tree → Tree) (same : (x : A) (t : Tree) → do_act (h x) t ≡ f x t) (front later : List Act)
    (ps : List A)
    → front ≡ map h ps ++ later → (t : Tree) → do_acts front t ≡ do_acts later (in_turn f ps t)
whole_then h f same front later ps e t =
    ap (λ cs. do_acts cs t) e ∙ in_turn-append do_act (map h ps) later t ∙ ap (do_acts later) (in_turn-map h f same ps t)

pub front_is_part : (g : Groups) (front back : List Act) (t : Tree) → IsValid g → front ++ back ≡ acts_of g → IsPart g t (do_acts front t)
front_is_part g front back t valid e = elim (split_front front back (map to_drop g.drops) _ e) [
  | inl more ↦
      let w = map_front to_drop front more.0 g.drops more.1 in
      let b =
      subst (λ ps. Between (node_at t) (node_at (in_turn drop_at ps t)) (node_at (in_turn drop_at w.taken t))) w.whole
      (drops_between w.taken w.left t) in
      in_drops (subst (λ u. Between (node_at t) (node_at (dropped_tree g t)) (node_at u))
      (sym (after_front to_drop drop_at (λ p u. refl) front g.drops w t)) b)
  | inr l1 ↦
      let s1 = whole_then to_drop drop_at (λ p u. refl) front l1.0 g.drops l1.1 t in
      let t1 = dropped_tree g t in
      elim (split_front l1.0 back (map to_wipe g.wipes) _ l1.2) [
        | inl more ↦
            let w = map_front to_wipe l1.0 more.0 g.wipes more.1 in
            let b =
            subst (λ ps. Between (node_at t1) (node_at (in_turn wipe_at ps t1)) (node_at (in_turn wipe_at w.taken t1))) w.whole
            (wipes_between w.taken w.left t1) in
            in_wipes (subst (λ u. Between (node_at t1) (node_at (wiped_tree g t)) (node_at u))
            (sym (s1 ∙ after_front to_wipe wipe_at (λ p u. refl) l1.0 g.wipes w t1)) b)
        | inr l2 ↦
            let s2 = s1 ∙ whole_then to_wipe wipe_at (λ p u. refl) l1.0 l2.0 g.wipes l2.1 t1 in
            let t2 = wiped_tree g t in
            elim (split_front l2.0 back (map to_drop_dir g.first) _ l2.2) [
              | inl more ↦
                  let w = map_front to_drop_dir l2.0 more.0 g.first more.1 in
                  let b =
                  subst (λ ps. Between (node_at t2) (node_at (in_turn drop_dir_at ps t2))
                  (node_at (in_turn drop_dir_at w.taken t2))) w.whole (clears_between w.taken w.left t2
                  (subst IsUpward (sym w.whole) valid.first_order)) in
                  in_first (subst (λ u. Between (node_at t2) (node_at (cleared_tree g t)) (node_at u))
                  (sym (s2 ∙ after_front to_drop_dir drop_dir_at (λ p u. refl) l2.0 g.first w t2)) b)
              | inr l3 ↦
                  let s3 = s2 ∙ whole_then to_drop_dir drop_dir_at (λ p u. refl) l2.0 l3.0 g.first l3.1 t2 in
                  let t3 = cleared_tree g t in
                  elim (split_front l3.0 back (map to_make g.dirs) _ l3.2) [
                    | inl more ↦
                        let w = map_front to_make l3.0 more.0 g.dirs more.1 in
                        let b =
                        subst (λ ps. Between (node_at t3) (node_at (in_turn make_dir_at ps t3))
                        (node_at (in_turn make_dir_at w.taken t3))) w.whole (makes_between w.taken w.left t3
                        (subst IsDownward (sym w.whole) valid.dirs_order) (out_of_left w.taken w.left g.dirs w.whole valid.dirs_root)
                        (out_of_right w.taken w.left g.dirs w.whole valid.dirs_root)) in
                        in_dirs (subst (λ u. Between (node_at t3) (node_at (made_tree g t)) (node_at u))
                        (sym (s3 ∙ after_front to_make make_dir_at (λ p u. refl) l3.0 g.dirs w t3)) b)
                    | inr l4 ↦
                        let s4 = s3 ∙ whole_then to_make make_dir_at (λ p u. refl) l3.0 l4.0 g.dirs l4.1 t3 in
                        let t4 = made_tree g t in
                        elim (split_front l4.0 back (map put_of g.puts) _ l4.2) [
                          | inl more ↦
                              let w = map_front put_of l4.0 more.0 g.puts more.1 in
                              in_puts w.taken (λ m h. subst (IsMember m) w.whole (members_left w.taken w.left m h))
                              (s4 ∙ after_front put_of move_at (λ m u. refl) l4.0 g.puts w t4)
                          | inr l5 ↦
                              let s5 = s4 ∙ whole_then put_of move_at (λ m u. refl) l4.0 l5.0 g.puts l5.1 t4 in
                              let t5 = put_tree g t in
                              let w = map_front to_drop_dir l5.0 back g.second l5.2 in
                              let b =
                              subst (λ ps. Between (node_at t5) (node_at (in_turn drop_dir_at ps t5))
                              (node_at (in_turn drop_dir_at w.taken t5))) w.whole (clears_between w.taken w.left t5
                              (subst IsUpward (sym w.whole) valid.second_order)) in
                              in_second (subst (λ u. Between (node_at t5) (node_at (groups_done g t)) (node_at u))
                              (sym (s5 ∙ after_front to_drop_dir drop_dir_at (λ p u. refl) l5.0 g.second w t5)) b)
                        ]
                  ]
            ]
      ]
]
