-- Changes that are cut off.
use Rattle.std.proofs.Common.{◌≡◌, ◌⊎◌, inl, inr, List, [], ◌∷◌, ◌++◌, map, refl, sym, ap, ◌∙◌, subst, append_assoc}
use Rattle.kb_world.specs.Path.{Path}
use Rattle.kb_world.specs.Tree.{Tree, node_at}
use Rattle.kb_again.proofs.Ends.{wipe_at, in_turn}
use Rattle.kb_again.proofs.Flat.{Act, to_drop, to_wipe, to_drop_dir, to_make, to_put, do_act, do_acts, put_of, acts_of}
use Rattle.kb_again.proofs.FrontLaws.{in_turn-append, front_is_part, wipes_between}
use Rattle.kb_again.proofs.Parts.{Groups, dropped_tree, wiped_tree, IsValid, IsPart, in_wipes}
use Rattle.kb_again.proofs.PublicLaws.{turn_map}
use Rattle.kb_again.proofs.Standing.{Between}
use Rattle.kb_again.proofs.Steps.{IsCut}

-- no change of these is the one after the front
past : {A : Type 0} (h : A → Act) (c : Act) → ((x : A) → c ≡ h x → ⊥) → (front back rest : List Act) (xs : List A)
    → front ++ c ∷ back ≡ map h xs ++ rest → (later : List Act) × (front ≡ map h xs ++ later) × (later ++ c ∷ back ≡ rest)
past h c other front back rest [] e = (front, refl, e)
past h c other [] back rest (x ∷ xs) e = absurd (other x (cc))
past h c other (d ∷ front) back rest (x ∷ xs) e =
    let head : d ≡ h x = cc in
    let tail : front ++ c ∷ back ≡ map h xs ++ rest = cc in
    let w = past h c other front back rest xs tail in
    (w.0, (λ i. head i ∷ w.1 i), w.2)

not_last : {A : Type 0} (h : A → Act) (c : Act) → ((x : A) → c ≡ h x → ⊥) → (front back : List Act) (xs : List A)
    → front ++ c ∷ back ≡ map h xs → ⊥
not_last h c other [] back [] e = absurd (cc)
not_last h c other (d ∷ front) back [] e = absurd (cc)
not_last h c other [] back (x ∷ xs) e = other x (cc)
not_last h c other (d ∷ front) back (x ∷ xs) e = let tail : front ++ c ∷ back ≡ map h xs = cc in not_last h c other front back xs tail

in_wipe_group : (p : Path) (front back rest : List Act) (ws : List Path) → ((later : List Act) → later ++ to_wipe p ∷ back ≡ rest → ⊥)
    → front ++ to_wipe p ∷ back ≡ map to_wipe ws ++ rest
    → (taken : List Path) × (left : List Path) × (taken ++ p ∷ left ≡ ws) × (front ≡ map to_wipe taken)
in_wipe_group p front back rest [] no_more e = absurd (no_more front e)
in_wipe_group p [] back rest (w ∷ ws) no_more e = let head : p ≡ w = cc in ([], ws, (λ i. head i ∷ ws), refl)
in_wipe_group p (d ∷ front) back rest (w ∷ ws) no_more e =
    let head : d ≡ to_wipe w = cc in
    let tail : front ++ to_wipe p ∷ back ≡ map to_wipe ws ++ rest = cc in
    let x = in_wipe_group p front back rest ws no_more tail in
    (w ∷ x.0, x.1, ap (λ l. w ∷ l) x.2, λ i. head i ∷ x.3 i)

wipe_within : (g : Groups) (front back : List Act) (p : Path) (t v : Tree) → front ++ to_wipe p ∷ back ≡ acts_of g
    → Between (node_at (do_acts front t)) (node_at (wipe_at p (do_acts front t))) (node_at v) → IsPart g t v
wipe_within g front back p t v e between =
    let l5 = map to_drop_dir g.second in
    let l4 = map put_of g.puts ++ l5 in
    let l3 = map to_make g.dirs ++ l4 in
    let l2 = map to_drop_dir g.first ++ l3 in
    let l1 = map to_wipe g.wipes ++ l2 in
    let c = to_wipe p in
    let a = past to_drop c (λ x h. cc) front back l1 g.drops e in
    let none : (later : List Act) → later ++ c ∷ back ≡ l2 → ⊥ = λ later h.
    let first = past to_drop_dir c (λ x k. cc) later back l3 g.first h in
    let dirs = past to_make c (λ x k. cc) first.0 back l4 g.dirs first.2 in
    let puts = past put_of c (λ x k. cc) dirs.0 back l5 g.puts dirs.2 in
    not_last to_drop_dir c (λ x k. cc) puts.0 back g.second puts.2 in
    let w = in_wipe_group p a.0 back l2 g.wipes none a.2 in
    let s = dropped_tree g t in
    let u = in_turn wipe_at w.0 s in
    let is : do_acts front t ≡ u =
    ap (λ xs. do_acts xs t) (a.1 ∙ ap (λ l. map to_drop g.drops ++ l) w.3)
    ∙ in_turn-append do_act (map to_drop g.drops) (map to_wipe w.0) t
    ∙ ap (do_acts (map to_wipe w.0)) (turn_map to_drop do_act g.drops t)
    ∙ turn_map to_wipe do_act w.0 s in
    let whole : (w.0 ++ p ∷ []) ++ w.1 ≡ g.wipes = append_assoc w.0 (p ∷ []) w.1 ∙ w.2 in
    let old : Between (node_at s) (node_at (wiped_tree g t)) (node_at u) =
    subst (λ ps. Between (node_at s) (node_at (in_turn wipe_at ps s)) (node_at u)) w.2 (wipes_between w.0 (p ∷ w.1) s) in
    let new : Between (node_at s) (node_at (wiped_tree g t)) (node_at (wipe_at p u)) =
    subst (λ x. Between (node_at s) (node_at (wiped_tree g t)) (node_at x)) (in_turn-append wipe_at w.0 (p ∷ []) s)
    (subst (λ ps. Between (node_at s) (node_at (in_turn wipe_at ps s)) (node_at (in_turn wipe_at (w.0 ++ p ∷ []) s))) whole
    (wipes_between (w.0 ++ p ∷ []) w.1 s)) in
    in_wipes (λ q. elim (between q) [
      | inl was ↦ elim (old q) [ inl x ↦ inl (was ∙ ap (λ y. node_at y q) is ∙ x) | inr x ↦ inr (was ∙ ap (λ y. node_at y q) is ∙ x) ]
      | inr now ↦
          elim (new q) [
            | inl x ↦ inl (now ∙ ap (λ y. node_at (wipe_at p y) q) is ∙ x)
            | inr x ↦ inr (now ∙ ap (λ y. node_at (wipe_at p y) q) is ∙ x)
          ]
    ])

whole_change : (g : Groups) (front back : List Act) (c : Act) (t v : Tree) → IsValid g → front ++ c ∷ back ≡ acts_of g
    → (v ≡ do_acts front t) ⊎ (v ≡ do_act c (do_acts front t)) → IsPart g t v
whole_change g front back c t v valid e (inl was) = subst (IsPart g t) (sym was) (front_is_part g front (c ∷ back) t valid e)
whole_change g front back c t v valid e (inr now) =
    subst (IsPart g t) (sym (now ∙ sym (in_turn-append do_act front (c ∷ []) t)))
    (front_is_part g (front ++ c ∷ []) back t valid (append_assoc front (c ∷ []) back ∙ e))

-- a tree in the midst of a change is one in which a part is done
pub within_is_part : (g : Groups) (front back : List Act) (c : Act) (t v : Tree) → IsValid g → front ++ c ∷ back ≡ acts_of g
    → IsCut c (do_acts front t) v → IsPart g t v
within_is_part g front back (to_drop p) t v valid e within = whole_change g front back (to_drop p) t v valid e within
within_is_part g front back (to_wipe p) t v valid e within = wipe_within g front back p t v e within
within_is_part g front back (to_drop_dir p) t v valid e within = whole_change g front back (to_drop_dir p) t v valid e within
within_is_part g front back (to_make p) t v valid e within = whole_change g front back (to_make p) t v valid e within
within_is_part g front back (to_put staged target) t v valid e within = whole_change g front back (to_put staged target) t v valid e within
