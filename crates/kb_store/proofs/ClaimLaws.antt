-- The least of claims, found part by part.
use Rattle.std.proofs.Common.{◌≡◌, ◌⊎◌, inl, inr, ℕ, Bool, true, false, cond, not, List, [], ◌∷◌, ◌++◌, Option, Some, None, Ordering, refl, sym, ap, ◌∙◌, subst, ◌+◌, ◌<◌, length, take, get_or, append-nil}
use Rattle.std.specs.Prelude.{map, filter, flat_map, bytes_eq}
use Rattle.std.specs.List.{find, list_all}
use Rattle.std.specs.declared.cmp.Ordering.TheVariants.{Less, Equal, Greater}
use Rattle.std.specs.Ordering.{is_lt, ordering_then, ordering_reverse, nat_cmp}
use Rattle.std.specs.Cmp.{IsTotalOrder, first_so, second_so, tied_itself}
use Rattle.std.specs.Cmp.Derive.{both_true}
use Rattle.std.specs.Cmp.Lexicographic.{slice_cmp, nat_list_cmp_total}
use Rattle.std.specs.FinMap.{slice_cmp-IsAntisymmetric, nat_cmp-IsAntisymmetric}
use Rattle.std.proofs.lemmas.Cmp.{then_total}
use Rattle.std.proofs.lemmas.List.Folds.{list_all-append}
use Rattle.std.proofs.lemmas.List.Elements.{filter-append}
use Rattle.std.proofs.lemmas.List.{map-append, take_more}
use Rattle.std.proofs.lemmas.Grind.{flat_map-append}
use Rattle.kb_world.specs.Path.{Path, path_cmp}
use Rattle.kb_world.specs.Targets.{last_name}
use Rattle.kb_world.specs.TreeLaws.{paths_total, paths_exact}
use Rattle.kb_store.specs.Accessors.{claim_cmp, least_claim, claims_at}
use Rattle.kb_store.specs.Claims.{lesser}
use Rattle.kb_walk.proofs.OrderLaws.{untrue}

-- what a claim tells
abbrev pub Told : Type 0
Told = Path × List ℕ

-- ---- the order of claims

by_path : IsTotalOrder {K = Told} (λ a b. path_cmp a.0 b.0)
by_path = record { antisymm = λ a b. paths_total.antisymm a.0 b.0; trans = λ a b c. paths_total.trans a.0 b.0 c.0; congr = λ a b c. paths_total.congr a.0 b.0 c.0 }

by_word : IsTotalOrder {K = Told} (λ a b. slice_cmp nat_cmp a.1 b.1)
by_word = record { antisymm = λ a b. nat_list_cmp_total.antisymm a.1 b.1; trans = λ a b c. nat_list_cmp_total.trans a.1 b.1 c.1; congr = λ a b c. nat_list_cmp_total.congr a.1 b.1 c.1 }

claims_total : IsTotalOrder claim_cmp
claims_total = then_total by_path by_word

first_equal : (o p : Ordering) → ordering_then o p ≡ Equal → (o ≡ Equal) × (p ≡ Equal)
first_equal Less p h = let impossible : Less ≡ Equal = h in absurd (cc)
first_equal Equal p h = (refl, h)
first_equal Greater p h = let impossible : Greater ≡ Equal = h in absurd (cc)

-- claims that compare alike are one
claims_exact : (a b : Told) → claim_cmp a b ≡ Equal → a ≡ b
claims_exact a b h =
    let tied = first_equal (path_cmp a.0 b.0) (slice_cmp nat_cmp a.1 b.1) h in
    let path = paths_exact a.0 b.0 tied.0 in
    let word = slice_cmp-IsAntisymmetric nat_cmp-IsAntisymmetric a.1 b.1 tied.1 in
    λ i. (path i, word i)

-- the second isn't less than the first
abbrev pub up_to : Told → Told → Bool
up_to a b = not (is_lt (claim_cmp b a))

up_to_itself : (a : Told) → up_to a a ≡ true
up_to_itself a = ap (λ o. not (is_lt o)) (tied_itself claims_total a)

-- in one of the two directions
either_way : (a b : Told) → is_lt (claim_cmp b a) ≡ true → up_to b a ≡ true
either_way a b h = ap (λ o. not (is_lt o)) (claims_total.antisymm a b) ∙ turned (claim_cmp b a) h
  where
    turned : (o : Ordering) → is_lt o ≡ true → not (is_lt (ordering_reverse o)) ≡ true
    turned Less h = refl
    turned Equal h = absurd (untrue h)
    turned Greater h = absurd (untrue h)

not_less : (o : Ordering) → not (is_lt o) ≡ true → o ≡ Less → ⊥
not_less o h e = untrue (sym (ap (λ o. not (is_lt o)) e) ∙ h)

up_to_more : (a b c : Told) → up_to a b ≡ true → up_to b c ≡ true → up_to a c ≡ true
up_to_more a b c h k = by_less (claim_cmp c a) refl
  where
    by_between : claim_cmp c a ≡ Less → (o : Ordering) → claim_cmp b a ≡ o → ⊥
    by_between e Less f = not_less (claim_cmp b a) h f
    by_between e Equal f = not_less (claim_cmp c b) k (ap (claim_cmp c) (claims_exact b a f) ∙ e)
    by_between e Greater f = not_less (claim_cmp c b) k (claims_total.trans c a b e (claims_total.antisymm a b ∙ ap ordering_reverse f))

    by_less : (o : Ordering) → claim_cmp c a ≡ o → up_to a c ≡ true
    by_less Less e = absurd (by_between e (claim_cmp b a) refl)
    by_less Equal e = ap (λ o. not (is_lt o)) e
    by_less Greater e = ap (λ o. not (is_lt o)) e

up_to_both : (a b : Told) → up_to a b ≡ true → up_to b a ≡ true → a ≡ b
up_to_both a b h k = by (claim_cmp a b) refl
  where
    by : (o : Ordering) → claim_cmp a b ≡ o → a ≡ b
    by Less e = absurd (not_less (claim_cmp a b) k e)
    by Equal e = claims_exact a b e
    by Greater e = absurd (not_less (claim_cmp b a) h (claims_total.antisymm b a ∙ ap ordering_reverse e))

-- ---- the least claim

abbrev pub IsIn : Told → List Told → Type 0
IsIn claim [] = ⊥
IsIn claim (first ∷ claims) = (claim ≡ first) ⊎ IsIn claim claims

pub all_at : (test : Told → Bool) (claims : List Told) (claim : Told) → list_all test claims ≡ true → IsIn claim claims → test claim ≡ true
all_at test [] claim all h = absurd h
all_at test (first ∷ claims) claim all (inl is) = ap test is ∙ first_so (test first) (list_all test claims) all
all_at test (first ∷ claims) claim all (inr later) = all_at test claims claim (second_so (test first) (list_all test claims) all) later

pub in_front : (claim : Told) (a b : List Told) → IsIn claim a → IsIn claim (a ++ b)
in_front claim [] b h = absurd h
in_front claim (first ∷ a) b (inl is) = inl is
in_front claim (first ∷ a) b (inr later) = inr (in_front claim a b later)

pub in_back : (claim : Told) (a b : List Told) → IsIn claim b → IsIn claim (a ++ b)
in_back claim [] b h = h
in_back claim (first ∷ a) b h = inr (in_back claim a b h)

-- a lesser bound
lower_bound : (a b : Told) (claims : List Told) → up_to a b ≡ true → list_all (up_to b) claims ≡ true → list_all (up_to a) claims ≡ true
lower_bound a b [] h all = refl
lower_bound a b (first ∷ claims) h all =
    both_true (up_to_more a b first h (first_so (up_to b first) (list_all (up_to b) claims) all)) (lower_bound a b claims h (second_so (up_to b first) (list_all (up_to b) claims) all))

-- one of the claims, which none is less than; none where there is no claim
abbrev pub IsLeast : List Told → Option Told → Type 0
IsLeast claims None = claims ≡ []
IsLeast claims (Some least) = IsIn least claims × (list_all (up_to least) claims ≡ true)

-- there is only one
one_least : (claims : List Told) (a b : Option Told) → IsLeast claims a → IsLeast claims b → a ≡ b
one_least claims None None h k = refl
one_least claims None (Some b) h k = absurd (subst (IsIn b) h k.0)
one_least claims (Some a) None h k = absurd (subst (IsIn a) k h.0)
one_least claims (Some a) (Some b) h k = ap Some (up_to_both a b (all_at (up_to a) claims b h.1 k.0) (all_at (up_to b) claims a k.1 h.0))

-- the least of two lists is the lesser of the least of each
least_of_two : (xs ys : List Told) (a b : Option Told) → IsLeast xs a → IsLeast ys b → IsLeast (xs ++ ys) (lesser a b)
least_of_two xs ys None b h k = subst (λ l. IsLeast (l ++ ys) b) (sym h) k
least_of_two xs ys (Some a) None h k = (in_front a xs ys h.0, list_all-append (up_to a) xs ys ∙ both_true h.1 (ap (list_all (up_to a)) k))
least_of_two xs ys (Some a) (Some b) h k = by (is_lt (claim_cmp b a)) refl
  where
    by : (t : Bool) → is_lt (claim_cmp b a) ≡ t → IsLeast (xs ++ ys) (Some (cond t b a))
    by true e = (in_back b xs ys k.0, list_all-append (up_to b) xs ys ∙ both_true (lower_bound b a xs (either_way a b e) h.1) k.1)
    by false e = (in_front a xs ys h.0, list_all-append (up_to a) xs ys ∙ both_true h.1 (lower_bound a b ys (ap not e) k.1))

one_claim : (claim : Told) → IsLeast (claim ∷ []) (Some claim)
one_claim claim = (inl refl, both_true (up_to_itself claim) refl)

some_least : (claims : List Told) → (least : Option Told) × IsLeast claims least
some_least [] = (None, refl)
some_least (claim ∷ claims) = let later = some_least claims in (lesser (Some claim) later.0, least_of_two (claim ∷ []) claims (Some claim) later.0 (one_claim claim) later.1)

-- what a search gives is there and passes
found_some : (test : Told → Bool) (claims : List Told) (claim : Told) → find test claims ≡ Some claim → IsIn claim claims × (test claim ≡ true)
found_some test [] claim h = let impossible : None ≡ Some claim = h in absurd (cc)
found_some test (first ∷ claims) claim h = by (test first) refl h (found_some test claims claim)
  where
    by : (t : Bool) → test first ≡ t → cond t (Some first) (find test claims) ≡ Some claim → (find test claims ≡ Some claim → IsIn claim claims × (test claim ≡ true)) → IsIn claim (first ∷ claims) × (test claim ≡ true)
    by true e is later = let same : claim ≡ first = cc in (inl same, ap test same ∙ e)
    by false e is later = let found = later is in (inr found.0, found.1)

-- where it gives nothing, nothing passes
found_none : (test : Told → Bool) (claims : List Told) → find test claims ≡ None → (claim : Told) → IsIn claim claims → test claim ≡ true → ⊥
found_none test [] h claim here passes = here
found_none test (first ∷ claims) h claim here passes = by (test first) refl h here (λ none later. found_none test claims none claim later passes)
  where
    by : (t : Bool) → test first ≡ t → cond t (Some first) (find test claims) ≡ None → IsIn claim (first ∷ claims) → (find test claims ≡ None → IsIn claim claims → ⊥) → ⊥
    by true e is there rest = let impossible : Some first ≡ None = is in absurd (cc)
    by false e is (inl same) rest = untrue (sym (ap test same ∙ e) ∙ passes)
    by false e is (inr later) rest = rest is later

-- the definition gives the least claim
pub least_is : (claims : List Told) → IsLeast claims (least_claim claims)
least_is claims = by (least_claim claims) refl
  where
    none : least_claim claims ≡ None → (least : Option Told) → IsLeast claims least → IsLeast claims None
    none e None h = h
    none e (Some least) h = absurd (found_none (λ claim. list_all (up_to claim) claims) claims e least h.0 h.1)

    by : (least : Option Told) → least_claim claims ≡ least → IsLeast claims least
    by None e = none e (some_least claims).0 (some_least claims).1
    by (Some least) e = found_some (λ claim. list_all (up_to claim) claims) claims least e

pub least-append : (xs ys : List Told) → least_claim (xs ++ ys) ≡ lesser (least_claim xs) (least_claim ys)
least-append xs ys = one_least (xs ++ ys) (least_claim (xs ++ ys)) (lesser (least_claim xs) (least_claim ys)) (least_is (xs ++ ys)) (least_of_two xs ys (least_claim xs) (least_claim ys) (least_is xs) (least_is ys))

pub least-one : (claim : Told) → least_claim (claim ∷ []) ≡ Some claim
least-one claim = one_least (claim ∷ []) (least_claim (claim ∷ [])) (Some claim) (least_is (claim ∷ [])) (one_claim claim)

-- ---- one more element

pub lesser-none : (claim : Option Told) → lesser claim None ≡ claim
lesser-none None = refl
lesser-none (Some claim) = refl

claims_at-append : (file word : List ℕ) (xs ys : List Path) → claims_at file word (xs ++ ys) ≡ claims_at file word xs ++ claims_at file word ys
claims_at-append file word xs ys =
    ap (map (λ place. (place, word))) (filter-append (λ place. bytes_eq (last_name place) file) xs ys)
    ∙ map-append (λ place. (place, word)) (filter (λ place. bytes_eq (last_name place) file) xs) (filter (λ place. bytes_eq (last_name place) file) ys)

next : {A : Type 0} (xs : List A) (i : ℕ) (x : A) → i < length xs → x ≡ get_or xs i x → take (i + 1) xs ≡ take i xs ++ x ∷ []
next xs i x h is = take_more xs i x h ∙ ap (λ y. take i xs ++ y ∷ []) (sym is)

-- a place with the file's name adds its claim
pub place_counts : (file word : List ℕ) (places : List Path) (i : ℕ) (place : Path) → i < length places → place ≡ get_or places i place → bytes_eq (last_name place) file ≡ true
    → least_claim (claims_at file word (take (i + 1) places)) ≡ lesser (least_claim (claims_at file word (take i places))) (Some (place, word))
place_counts file word places i place h is named =
    ap (λ l. least_claim (claims_at file word l)) (next places i place h is) ∙ ap least_claim (claims_at-append file word (take i places) (place ∷ []))
    ∙ ap (λ b. least_claim (claims_at file word (take i places) ++ map (λ place. (place, word)) (cond b (place ∷ []) []))) named
    ∙ least-append (claims_at file word (take i places)) ((place, word) ∷ []) ∙ ap (lesser (least_claim (claims_at file word (take i places)))) (least-one (place, word))

-- another place adds nothing
pub place_passed : (file word : List ℕ) (places : List Path) (i : ℕ) (place : Path) → i < length places → place ≡ get_or places i place → bytes_eq (last_name place) file ≡ false
    → least_claim (claims_at file word (take (i + 1) places)) ≡ least_claim (claims_at file word (take i places))
place_passed file word places i place h is named =
    ap (λ l. least_claim (claims_at file word l)) (next places i place h is) ∙ ap least_claim (claims_at-append file word (take i places) (place ∷ []))
    ∙ ap (λ b. least_claim (claims_at file word (take i places) ++ map (λ place. (place, word)) (cond b (place ∷ []) []))) named
    ∙ ap least_claim (append-nil (claims_at file word (take i places)))

-- the claims of one more
pub claims_next : {A : Type 0} (claims : A → List Told) (xs : List A) (i : ℕ) (x : A) → i < length xs → x ≡ get_or xs i x
    → least_claim (flat_map claims (take (i + 1) xs)) ≡ lesser (least_claim (flat_map claims (take i xs))) (least_claim (claims x))
claims_next claims xs i x h is =
    ap (λ l. least_claim (flat_map claims l)) (next xs i x h is) ∙ ap least_claim (flat_map-append claims (take i xs) (x ∷ []))
    ∙ ap (λ l. least_claim (flat_map claims (take i xs) ++ l)) (append-nil (claims x)) ∙ least-append (flat_map claims (take i xs)) (claims x)
