-- What the table's map of places says of the list.
use Rattle.std.proofs.Common.{◌≡◌, ℕ, ◌<◌, Bool, true, false, cond, List, [], ◌∷◌, ◌++◌, length, get_or, refl, sym, ap, ◌∙◌, arith, Option, Some, None, zero, suc, inl, inr}
use Rattle.std.specs.Prelude.{map, option_map, option_and_then, slice_get}
use Rattle.std.specs.Option.{option_or}
use Rattle.std.specs.declared.hash.FoldHasher.{FoldHasher}
use Rattle.std.specs.declared.hash.BuildHasherDefault.{BuildHasherDefault}
use Rattle.indexmap.specs.IndexMap.{IndexMap}
use Rattle.std.specs.Map.{lookup}
use Rattle.std.proofs.lemmas.Option.{slice_get_read, none-some, same_Some}
use Rattle.std.proofs.lemmas.List.{length-append, map-append}
use Rattle.kb_conf.proofs.Tools.{chosen}
use Rattle.kb_conf.specs.Assignment.{Assignment, last_value, is_of}
use Rattle.kb_conf.specs.Table.{view_assignment, Key, is_entry_key, last_position, value_at, PointsAtLast}
use Rattle.kb_conf.specs.declared.table.Assignment as code

pub found_value : (list : List code.Assignment) (last : IndexMap Key ℕ (BuildHasherDefault FoldHasher)) (name : List ℕ) (number i : ℕ) (a : code.Assignment) → PointsAtLast list last → last_position last name number ≡ Some i → i < length list → a ≡ get_or list i a → Some a.value.items ≡ last_value (map view_assignment list) name number
found_value list last name number i a inv place lt read =
    let value : value_at list i ≡ Some a.value.items = ap (λ (o : Option code.Assignment). option_map (λ (x : code.Assignment). x.value.items) o) (slice_get_read list (length list) i a refl lt read) in
    sym value ∙ ap (λ (o : Option ℕ). option_and_then (value_at list) o) (sym place) ∙ inv.points name number

-- an empty table has no last assignments
pub empty_points : (list : List code.Assignment) (last : IndexMap Key ℕ (BuildHasherDefault FoldHasher)) → list ≡ [] → last.entries ≡ [] → PointsAtLast list last
unfolding last_value
empty_points list last no_list no_entries =
    let none = λ (name : List ℕ) (number : ℕ). ap (λ (es : List (Key × ℕ)). lookup (is_entry_key name number) es) no_entries in
    record {
      within = λ name number i e. absurd (none-some i (sym (none name number) ∙ e));
      points = λ name number. ap (λ (o : Option ℕ). option_and_then (value_at list) o) (none name number) ∙ ap (λ (l : List code.Assignment). last_value (map view_assignment l) name number) (sym no_list);
    }

last_value_push : (xs : List Assignment) (x : Assignment) (name : List ℕ) (number : ℕ) → last_value (xs ++ x ∷ []) name number ≡ cond (is_of name number x) (Some x.value) (last_value xs name number)
unfolding last_value
last_value_push [] x name number = elim (is_of name number x) as (λ b. option_or None (cond b (Some x.value) None) ≡ cond b (Some x.value) None) [ true ↦ refl | false ↦ refl ]
last_value_push (y ∷ ys) x name number =
    rw (last_value_push ys x name number)
    (elim (is_of name number x) as (λ b. option_or (cond b (Some x.value) (last_value ys name number)) (cond (is_of name number y) (Some y.value) None) ≡ cond b (Some x.value) (option_or (last_value ys name number) (cond (is_of name number y) (Some y.value) None))) [ true ↦ refl | false ↦ refl ])

slice_get_left : (xs ys : List code.Assignment) (i : ℕ) → i < length xs → slice_get (xs ++ ys) i ≡ slice_get xs i
slice_get_left [] ys i lt = absurd (omega arith)
slice_get_left (x ∷ xs) ys zero lt = refl
slice_get_left (x ∷ xs) ys (suc i) lt = slice_get_left xs ys i (omega arith)

slice_get_seam : (xs : List code.Assignment) (y : code.Assignment) → slice_get (xs ++ y ∷ []) (length xs) ≡ Some y
slice_get_seam [] y = refl
slice_get_seam (x ∷ xs) y = slice_get_seam xs y

value_left : (list : List code.Assignment) (a : code.Assignment) (o : Option ℕ) → ((i : ℕ) → o ≡ Some i → i < length list) → option_and_then (value_at (list ++ a ∷ [])) o ≡ option_and_then (value_at list) o
value_left list a None within = refl
value_left list a (Some i) within = ap (λ (o : Option code.Assignment). option_map (λ (x : code.Assignment). x.value.items) o) (slice_get_left list (a ∷ []) i (within i refl))

-- where the places of one more assignment are noted, the table points at the last ones again
pub pushed_points : (list : List code.Assignment) (last new : IndexMap Key ℕ (BuildHasherDefault FoldHasher)) (a : code.Assignment) → PointsAtLast list last
    → ((name : List ℕ) (number : ℕ) → last_position new name number ≡ cond (is_of name number (view_assignment a)) (Some (length list)) (last_position last name number))
    → PointsAtLast (list ++ a ∷ []) new
pushed_points list last new a inv noted = record {
  within = λ name number i e. elim (chosen (is_of name number (view_assignment a)) (Some (length list)) (last_position last name number) (Some i) (sym (noted name number) ∙ e)) [
    | inl w ↦
        let here : length list ≡ i = same_Some (length list) i w.1 in
        omega (arith, here, length-append list (a ∷ []))
    | inr w ↦ omega (arith, inv.within name number i w.1, length-append list (a ∷ []))
  ];
  points = λ name number.
      ap (λ (o : Option ℕ). option_and_then (value_at (list ++ a ∷ [])) o) (noted name number)
      ∙ by_case name number (is_of name number (view_assignment a))
      ∙ sym (last_value_push (map view_assignment list) (view_assignment a) name number)
      ∙ ap (λ (l : List Assignment). last_value l name number) (sym (map-append view_assignment list (a ∷ [])));
}
  where
    by_case : (name : List ℕ) (number : ℕ) (b : Bool) → option_and_then (value_at (list ++ a ∷ [])) (cond b (Some (length list)) (last_position last name number)) ≡ cond b (Some a.value.items) (last_value (map view_assignment list) name number)
    by_case name number true = ap (λ (o : Option code.Assignment). option_map (λ (x : code.Assignment). x.value.items) o) (slice_get_seam list a)
    by_case name number false = value_left list a (last_position last name number) (inv.within name number) ∙ inv.points name number
