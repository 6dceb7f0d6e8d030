-- What is found by one scan was spelled there, and what is spelled there is found again.
use Rattle.std.proofs.Common.{◌≡◌, ℕ, ◌+◌, Bool, true, false, not, ◌&&◌, cond, eqb, List, [], ◌∷◌, ◌++◌, length, take, drop, refl, sym, ap, ◌∙◌, arith, Some, inl, inr}
use Rattle.std.specs.List.{prefix_len, list_all}
use Rattle.std.specs.Prelude.{nat_eq}
use Rattle.std.proofs.lemmas.Grind.{common_steps}
use Rattle.std.proofs.lemmas.List.{drop_at, take_at, take-append-drop}
use Rattle.std.proofs.lemmas.Bool.Decides.{nat_tests}
use Rattle.std.proofs.lemmas.Bool.{eqb-true, eq-eqb, and_parts, and_from, not-true}
use Rattle.kb_conf.specs.Signs.{close_parenthesis}
use Rattle.kb_conf.specs.Bytes.{continues_name, starts_name}
use Rattle.kb_conf.specs.Name.{is_variable_name}
use Rattle.kb_conf.specs.Piece.{lacks, ends_name, closes, depth_after}
use Rattle.kb_conf.specs.Front.{byte_at, until_byte, name_at, closing_at}
use Rattle.std.proofs.lemmas.Option.{cond_some, some_pair_parts}
use Rattle.kb_conf.proofs.Tools.{mapped, chosen}

-- the bytes of the front pass the test
pub passes_front : (p : ℕ → Bool) (xs : List ℕ) → list_all p (take (prefix_len p xs) xs) ≡ true
passes_front p [] = refl
passes_front p (x ∷ xs) = front_step p x xs (p x) refl (passes_front p xs)
  where
    front_step : (p : ℕ → Bool) (x : ℕ) (xs : List ℕ) (b : Bool) → p x ≡ b → list_all p (take (prefix_len p xs) xs) ≡ true → list_all p (take (cond b (1 + prefix_len p xs) 0) (x ∷ xs)) ≡ true
    front_step p x xs true e h = grind (arith, common_steps)
    front_step p x xs false e h = refl

-- the test fails at the first byte of the text
abbrev pub stops : (ℕ → Bool) → List ℕ → Bool
stops p [] = true
stops p (x ∷ xs) = not (p x)

pub stops_behind_front : (p : ℕ → Bool) (xs : List ℕ) → stops p (drop (prefix_len p xs) xs) ≡ true
stops_behind_front p [] = refl
stops_behind_front p (x ∷ xs) = front_step p x xs (p x) refl (stops_behind_front p xs)
  where
    front_step : (p : ℕ → Bool) (x : ℕ) (xs : List ℕ) (b : Bool) → p x ≡ b → stops p (drop (prefix_len p xs) xs) ≡ true → stops p (drop (cond b (1 + prefix_len p xs) 0) (x ∷ xs)) ≡ true
    front_step p x xs true e h = grind (arith, common_steps)
    front_step p x xs false e h = ap not e

-- a front whose bytes pass, before one that fails, is the whole front
pub length_of_front : (p : ℕ → Bool) (xs rest : List ℕ) → list_all p xs ≡ true → stops p rest ≡ true → prefix_len p (xs ++ rest) ≡ length xs
length_of_front p [] [] all stop = refl
length_of_front p [] (y ∷ ys) all stop = grind arith
length_of_front p (x ∷ xs) rest all stop = grind (arith, common_steps, length_of_front p xs rest)

pub byte_found : (wanted : ℕ) (text rest : List ℕ) → byte_at wanted text ≡ Some rest → text ≡ wanted ∷ rest
byte_found wanted [] rest e = absurd (cc)
byte_found wanted (b ∷ bs) rest e = grind (arith, nat_tests, chosen)

pub byte_again : (wanted : ℕ) (rest : List ℕ) → byte_at wanted (wanted ∷ rest) ≡ Some rest
byte_again wanted rest = rw (eq-eqb wanted wanted refl) refl

-- equal parts make equal wholes
pub joined : (a b c d : List ℕ) → a ≡ b → c ≡ d → a ++ c ≡ b ++ d
joined a b c d e h = cc

pub until_found : (stop : ℕ) (text front rest : List ℕ) → until_byte stop text ≡ Some (front, rest) → (lacks stop front ≡ true) × (text ≡ front ++ (stop ∷ rest))
unfolding until_byte
until_found stop text front rest e =
    let p : ℕ → Bool = λ b. not (nat_eq b stop) in
    let n = prefix_len p text in
    let m = mapped (λ (r : List ℕ). (take n text, r)) (byte_at stop (drop n text)) (front, rest) e in
    let tail = byte_found stop (drop n text) m.0 m.1 in
    let same_front : take n text ≡ front = ap (λ (q : List ℕ × List ℕ). q.0) m.2 in
    let same_rest : m.0 ≡ rest = ap (λ (q : List ℕ × List ℕ). q.1) m.2 in
    (ap (list_all p) (sym same_front) ∙ passes_front p text, sym (take-append-drop n text) ∙ joined (take n text) front (drop n text) (stop ∷ rest) same_front (tail ∙ ap (λ r. stop ∷ r) same_rest))

pub until_again : (stop : ℕ) (front rest : List ℕ) → lacks stop front ≡ true → until_byte stop (front ++ (stop ∷ rest)) ≡ Some (front, rest)
unfolding until_byte
until_again stop front rest h =
    let p : ℕ → Bool = λ b. not (nat_eq b stop) in
    let stop_here : stops p (stop ∷ rest) ≡ true = grind (arith, nat_tests) in
    let n : prefix_len p (front ++ (stop ∷ rest)) ≡ length front = length_of_front p front (stop ∷ rest) h stop_here in
    rw (n, take_at front (stop ∷ rest) (length front) refl, drop_at front (stop ∷ rest) (length front) refl, byte_again stop rest) refl

ends_from_stops : (text : List ℕ) → stops continues_name text ≡ true → ends_name text ≡ true
ends_from_stops [] h = refl
ends_from_stops (b ∷ bs) h = h

stops_from_ends : (text : List ℕ) → ends_name text ≡ true → stops continues_name text ≡ true
stops_from_ends [] h = refl
stops_from_ends (b ∷ bs) h = h

pub name_found : (text name rest : List ℕ) → name_at text ≡ Some (name, rest) → (is_variable_name name ≡ true) × (ends_name rest ≡ true) × (text ≡ name ++ rest)
unfolding name_at
name_found [] name rest e = absurd (cc)
name_found (b ∷ bs) name rest e =
    let n = prefix_len continues_name bs in
    let picked = cond_some (starts_name b) (b ∷ take n bs, drop n bs) (name, rest) e in
    let same_name : b ∷ take n bs ≡ name = ap (λ (q : List ℕ × List ℕ). q.0) picked.1 in
    let same_rest : drop n bs ≡ rest = ap (λ (q : List ℕ × List ℕ). q.1) picked.1 in (
      ap is_variable_name (sym same_name) ∙ and_from (starts_name b) (list_all continues_name (take n bs)) picked.0 (passes_front continues_name bs),
      ap ends_name (sym same_rest) ∙ ends_from_stops (drop n bs) (stops_behind_front continues_name bs),
      ap (λ r. b ∷ r) (sym (take-append-drop n bs)) ∙ joined (b ∷ take n bs) name (drop n bs) rest same_name same_rest,
    )

pub name_again : (name rest : List ℕ) → is_variable_name name ≡ true → ends_name rest ≡ true → name_at (name ++ rest) ≡ Some (name, rest)
unfolding name_at
name_again [] rest h end = absurd (cc)
name_again (b ∷ bs) rest h end =
    let parts = and_parts (starts_name b) (list_all continues_name bs) h in
    let n : prefix_len continues_name (bs ++ rest) ≡ length bs = length_of_front continues_name bs rest parts.1 (stops_from_ends rest end) in
    rw (n, take_at bs rest (length bs) refl, drop_at bs rest (length bs) refl, parts.0) refl

pub closing_found : (depth : ℕ) (text inside rest : List ℕ) → closing_at depth text ≡ Some (inside, rest) → (closes depth inside ≡ true) × (text ≡ inside ++ (close_parenthesis ∷ rest))
closing_found depth [] inside rest e = absurd (cc)
closing_found depth (b ∷ bs) inside rest e =
    elim (chosen (eqb b close_parenthesis && eqb depth 0) (Some ([], bs)) _ (Some (inside, rest)) e) [
      | inl w ↦
          let parts = some_pair_parts [] inside bs rest w.1 in
          let here = and_parts (eqb b close_parenthesis) (eqb depth 0) w.0 in (
            ap (closes depth) (sym parts.0) ∙ here.1,
            joined (b ∷ []) (close_parenthesis ∷ []) bs rest (ap (λ x. x ∷ []) (eqb-true b close_parenthesis here.0)) parts.1 ∙ ap (λ x. x ++ (close_parenthesis ∷ rest)) parts.0,
          )
      | inr w ↦
          let m = mapped (λ (found : List ℕ × List ℕ). (b ∷ found.0, found.1)) (closing_at (depth_after depth b) bs) (inside, rest) w.1 in
          let later = closing_found (depth_after depth b) bs m.0.0 m.0.1 m.1 in
          let same_inside : b ∷ m.0.0 ≡ inside = ap (λ (q : List ℕ × List ℕ). q.0) m.2 in
          let same_rest : m.0.1 ≡ rest = ap (λ (q : List ℕ × List ℕ). q.1) m.2 in (
            ap (closes depth) (sym same_inside) ∙ and_from _ _ (ap not w.0) later.0,
            ap (λ x. b ∷ x) later.1 ∙ joined (b ∷ m.0.0) inside (close_parenthesis ∷ m.0.1) (close_parenthesis ∷ rest) same_inside (ap (λ x. close_parenthesis ∷ x) same_rest),
          )
    ]

pub closing_again : (depth : ℕ) (inside rest : List ℕ) → closes depth inside ≡ true → closing_at depth (inside ++ (close_parenthesis ∷ rest)) ≡ Some (inside, rest)
closing_again depth [] rest h = rw h refl
closing_again depth (b ∷ bs) rest h =
    let parts = and_parts (not (eqb b close_parenthesis && eqb depth 0)) (closes (depth_after depth b) bs) h in
    let open_still : (eqb b close_parenthesis && eqb depth 0) ≡ false = not-true _ parts.0 in
    rw (open_still, closing_again (depth_after depth b) bs rest parts.1) refl
