-- A list of values is read in a loop: so many are read, the rest is left.
use Rattle.std.proofs.Common.{◌≡◌, ℕ, ◌+◌, ◌<◌, ◌≤◌, List, [], ◌∷◌, ◌++◌, length, map, flat_map, All, arith, sym, ap, ◌∙◌, append_assoc, append-nil}
use Rattle.std.specs.Str.{IsUtf8}
use Rattle.std.proofs.lemmas.List.{length-append, length-map}
use Rattle.std.proofs.lemmas.List.Elements.{All-head, All-tail}
use Rattle.std.proofs.lemmas.List.Concat.{flat_map_single}

-- of these values, whose fields are followed by more, so many are read, and the fields of the rest are left
pub record AreLeft {A : Type 0} (spelled : A → List (List ℕ)) (Good : A → Type 0) (all got : List A) (more left : List (List ℕ)) (i : ℕ) : Type 0 where
  pub rest : List A
  pub good : All Good rest
  pub whole : all ≡ got ++ rest
  pub fields : left ≡ flat_map spelled rest ++ more
  pub counted : length rest + i ≡ length all

-- none is read
pub all_left : {A : Type 0} (spelled : A → List (List ℕ)) (Good : A → Type 0) (all got : List A) (more left : List (List ℕ))
    → All Good all → got ≡ [] → left ≡ flat_map spelled all ++ more → AreLeft spelled Good all got more left 0
all_left spelled Good all got more left good none front = record {
  rest = all;
  good = good;
  whole = sym (ap (λ l. l ++ all) none);
  fields = front;
  counted = omega arith;
}

-- the first of those that are left
first_of : {A : Type 0} (spelled : A → List (List ℕ)) (Good : A → Type 0) (rest : List A) (more left : List (List ℕ))
    → All Good rest → left ≡ flat_map spelled rest ++ more → 0 < length rest → (x : A) × (behind : List (List ℕ)) × Good x × (left ≡ spelled x ++ behind)
first_of spelled Good [] more left good front some = absurd (omega (arith, some))
first_of spelled Good (x ∷ rest) more left good front some =
    (x, flat_map spelled rest ++ more, All-head Good x rest good, front ∙ append_assoc (spelled x) (flat_map spelled rest) more)

pub first_left : {A : Type 0} (spelled : A → List (List ℕ)) (Good : A → Type 0) (all got : List A) (more left : List (List ℕ)) (i : ℕ)
    → AreLeft spelled Good all got more left i → i < length all → (x : A) × (behind : List (List ℕ)) × Good x × (left ≡ spelled x ++ behind)
first_left spelled Good all got more left i part below =
    let some : 0 < length part.rest = omega (arith, part.counted) in
    first_of spelled Good part.rest more left part.good part.fields some

next_of : {A : Type 0} (spelled : A → List (List ℕ)) (Good : A → Type 0) (all got after rest : List A) (more left now : List (List ℕ)) (i : ℕ) (item : A)
    → All Good rest → all ≡ got ++ rest → left ≡ flat_map spelled rest ++ more → length rest + i ≡ length all → i < length all
    → ((value : A) (behind : List (List ℕ)) → Good value → left ≡ spelled value ++ behind → (item ≡ value) × (now ≡ behind)) → after ≡ got ++ item ∷ []
    → AreLeft spelled Good all after more now (i + 1)
next_of spelled Good all got after [] more left now i item good whole front counted below read pushed = absurd (omega (arith, counted, below))
next_of spelled Good all got after (x ∷ rest) more left now i item good whole front counted below read pushed =
    let took = read x (flat_map spelled rest ++ more) (All-head Good x rest good) (front ∙ append_assoc (spelled x) (flat_map spelled rest) more) in
    record {
      rest = rest;
      good = All-tail Good x rest good;
      whole = whole ∙ sym (append_assoc got (x ∷ []) rest) ∙ ap (λ l. l ++ rest) (sym (pushed ∙ ap (λ v. got ++ v ∷ []) took.0));
      fields = took.1;
      counted = omega (arith, counted);
    }

-- one more is read
pub next_left : {A : Type 0} (spelled : A → List (List ℕ)) (Good : A → Type 0) (all got after : List A) (more left now : List (List ℕ)) (i : ℕ) (item : A)
    → AreLeft spelled Good all got more left i → i < length all
    → ((value : A) (behind : List (List ℕ)) → Good value → left ≡ spelled value ++ behind → (item ≡ value) × (now ≡ behind)) → after ≡ got ++ item ∷ []
    → AreLeft spelled Good all after more now (i + 1)
next_left spelled Good all got after more left now i item part below read pushed =
    next_of spelled Good all got after part.rest more left now i item part.good part.whole part.fields part.counted below read pushed

none_of : {A : Type 0} (spelled : A → List (List ℕ)) (all got rest : List A) (more left : List (List ℕ))
    → all ≡ got ++ rest → left ≡ flat_map spelled rest ++ more → length rest ≡ 0 → (got ≡ all) × (left ≡ more)
none_of spelled all got [] more left whole front none = (sym (whole ∙ append-nil got), front)
none_of spelled all got (x ∷ rest) more left whole front none = absurd (omega (arith, none))

-- all are read
pub none_left : {A : Type 0} (spelled : A → List (List ℕ)) (Good : A → Type 0) (all got : List A) (more left : List (List ℕ)) (i : ℕ)
    → AreLeft spelled Good all got more left i → length all ≤ i → (got ≡ all) × (left ≡ more)
none_left spelled Good all got more left i part over =
    let none : length part.rest ≡ 0 = omega (arith, part.counted) in
    none_of spelled all got part.rest more left part.whole part.fields none

-- values of one field each are spelled as a list of fields
pub singles : {A : Type 0} (field : A → List ℕ) (all : List A) → flat_map (λ x. field x ∷ []) all ≡ map field all
singles field all = flat_map_single field all

-- both texts of a pair are texts
abbrev pub IsTextPair : List ℕ × List ℕ → Type 0
IsTextPair pair = IsUtf8 pair.0 × IsUtf8 pair.1

-- ---- so many as a count says

pub as_many : {A : Type 0} (field : A → List ℕ) (all : List A) (n : ℕ) → length all < n → length (map field all) < n
as_many field all n small = rw length-map small

pub counted_below : {A : Type 0} (field : A → List ℕ) (all : List A) (i count : ℕ) → count ≡ length (map field all) → i < count → i < length all
counted_below field all i count told below = omega (arith, length-map all field)

pub counted_over : {A : Type 0} (field : A → List ℕ) (all : List A) (i count : ℕ) → count ≡ length (map field all) → count ≤ i → length all ≤ i
counted_over field all i count told over = omega (arith, length-map all field)

-- none of the values of one field each is read
pub singles_left : {A : Type 0} (field : A → List ℕ) (Good : A → Type 0) (all got : List A) (more left : List (List ℕ))
    → All Good all → got ≡ [] → left ≡ map field all ++ more → AreLeft (λ x. field x ∷ []) Good all got more left 0
singles_left field Good all got more left good none front =
    all_left (λ x. field x ∷ []) Good all got more left good none (front ∙ ap (λ l. l ++ more) (sym (singles field all)))

-- ---- up to a field that is of none

each_some : {A : Type 0} (spelled : A → List (List ℕ)) → ((x : A) → 0 < length (spelled x)) → (all : List A) → length all ≤ length (flat_map spelled all)
each_some spelled some [] = omega arith
each_some spelled some (x ∷ all) = omega (arith, some x, each_some spelled some all, length-append (spelled x) (flat_map spelled all))

-- there are more fields than values
pub fewer : {A : Type 0} (spelled : A → List (List ℕ)) → ((x : A) → 0 < length (spelled x)) → (all : List A) (end : List ℕ) (more old : List (List ℕ))
    → old ≡ flat_map spelled all ++ end ∷ more → length all < length old
fewer spelled some all end more old front =
    omega (arith, each_some spelled some all, length-append (flat_map spelled all) (end ∷ more), ap length front)

-- so the values don't outlast them
pub not_over : {A : Type 0} (spelled : A → List (List ℕ)) (Good : A → Type 0) (all got : List A) (more left : List (List ℕ)) (i n : ℕ)
    → AreLeft spelled Good all got more left i → length all < n → n ≤ i → ⊥
not_over spelled Good all got more left i n part small over = omega (arith, part.counted)
