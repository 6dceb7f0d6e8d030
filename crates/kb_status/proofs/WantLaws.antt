-- The tests of packages and spots, and the state of a build, say what the relation of lines says.
use Rattle.std.proofs.Common.{◌≡◌, ◌⊎◌, inl, inr, ℕ, Bool, true, false, cond, not, ◌||◌, List, [], ◌∷◌, Option, Some, None, refl, sym, ap, ◌∙◌, subst}
use Rattle.std.specs.Prelude.{◌↔◌, bytes_eq, IfSome}
use Rattle.std.specs.List.{Contains, list_any}
use Rattle.std.specs.Cmp.Lexicographic.{bytes_decides}
use Rattle.std.proofs.lemmas.Bool.{true≢false, and_parts, and_from, or_cases}
use Rattle.kb_world.specs.Path.{Path}
use Rattle.kb_world.specs.Store.{same_key, says}
use Rattle.kb_world.specs.declared.job.Filter.{Filter}
use Rattle.kb_world.specs.declared.job.Key.{Key}
use Rattle.kb_status.specs.Filter.{is_wanted, is_empty, is_among_texts, wants_key}
use Rattle.kb_status.specs.LineOf.{WantsKey, IsAmong, IsStateBy}
use Rattle.kb_status.specs.declared.line.State.{State}
use Rattle.kb_status.specs.declared.line.State.TheVariants.{Added, Built, Installed}
use Rattle.kb_status.proofs.SortLaws.{here, there, nowhere, either}

same_bytes : (text : List ℕ) → bytes_eq text text ≡ true
same_bytes text = (bytes_decides text text).1 refl

pub same_key_itself : (key : Key) → same_key key key ≡ true
same_key_itself key = and_from _ _ (same_bytes key.module) (same_bytes key.version)

-- ---- names

wanted_from : (name : Option (List ℕ)) (text : List ℕ) → is_wanted name text ≡ true → IfSome name (λ n. n ≡ text)
wanted_from None text h = tt
wanted_from (Some n) text h = (bytes_decides n text).0 h

wanted_to : (name : Option (List ℕ)) (text : List ℕ) → IfSome name (λ n. n ≡ text) → is_wanted name text ≡ true
wanted_to None text h = refl
wanted_to (Some n) text h = (bytes_decides n text).1 h

pub key_from : (filter : Filter) (key : Key) → wants_key filter key ≡ true → WantsKey filter key
key_from filter key h =
    let both = and_parts (is_wanted filter.module key.module) (is_wanted filter.version key.version) h in
    record { word = wanted_from filter.module key.module both.0; version = wanted_from filter.version key.version both.1 }

pub key_to : (filter : Filter) (key : Key) → WantsKey filter key → wants_key filter key ≡ true
key_to filter key h =
    and_from (is_wanted filter.module key.module) (is_wanted filter.version key.version)
    (wanted_to filter.module key.module h.word) (wanted_to filter.version key.version h.version)

-- ---- lists

module _ {X : Type 0} where
  pub empty_from : (xs : List X) → is_empty xs ≡ true → xs ≡ []
  empty_from [] h = refl
  empty_from (x ∷ xs) h = absurd (true≢false (sym h))

  pub empty_to : (xs : List X) → xs ≡ [] → is_empty xs ≡ true
  empty_to xs e = ap is_empty e

  pub any_from : (test : X → Bool) (xs : List X) → list_any test xs ≡ true → (x : X) × Contains xs x × (test x ≡ true)
  any_from test [] h = absurd (true≢false (sym h))
  any_from test (x ∷ xs) h = elim (or_cases (test x) (list_any test xs) h) [
    | inl so ↦ (x, here x xs, so)
    | inr more ↦ (let r = any_from test xs more in (r.0, there x xs r.0 r.1, r.2))
  ]

  pub any_to : (test : X → Bool) (xs : List X) (x : X) → Contains xs x → test x ≡ true → list_any test xs ≡ true
  any_to test [] x h so = absurd (nowhere x h)
  any_to test (y ∷ xs) x h so = by (test y) refl (either y xs x h) (λ more. any_to test xs x more so)
    where
      by : (b : Bool) → test y ≡ b → (y ≡ x) ⊎ Contains xs x → (Contains xs x → list_any test xs ≡ true) → (b || list_any test xs) ≡ true
      by true is place below = refl
      by false is (inl same) below = absurd (true≢false (sym so ∙ ap test (sym same) ∙ is))
      by false is (inr more) below = below more

pub among_from : (names : List (List ℕ)) (text : List ℕ) → is_among_texts names text ≡ true → IsAmong names text
among_from names text h = elim (or_cases (is_empty names) (list_any (λ name. bytes_eq name text) names) h) [
  | inl none ↦ inl (empty_from names none)
  | inr some ↦ (let r = any_from (λ name. bytes_eq name text) names some in inr (subst (Contains names) ((bytes_decides r.0 text).0 r.2) r.1))
]

pub among_to : (names : List (List ℕ)) (text : List ℕ) → IsAmong names text → is_among_texts names text ≡ true
among_to names text (inl none) = ap (λ b. b || list_any (λ name. bytes_eq name text) names) (empty_to names none)
among_to names text (inr some) = by (is_empty names) (any_to (λ name. bytes_eq name text) names text some (same_bytes text))
  where
    by : (b : Bool) → list_any (λ name. bytes_eq name text) names ≡ true → (b || list_any (λ name. bytes_eq name text) names) ≡ true
    by true h = refl
    by false h = h

-- ---- the state

says_from : (version : List ℕ) (installed : Option (List ℕ)) → says version installed ≡ true → installed ≡ Some version
says_from version None h = absurd (true≢false (sym h))
says_from version (Some told) h = ap Some ((bytes_decides told version).0 h)

says_to : (version : List ℕ) (installed : Option (List ℕ)) → installed ≡ Some version → says version installed ≡ true
says_to version installed e = ap (says version) e ∙ same_bytes version

abbrev pub state_by : Option (List ℕ) → List ℕ → List Path → State
state_by installed version files = cond (says version installed) (Installed (not (is_empty files))) Built

files_kept : (files : List Path) → (not (is_empty files) ≡ false) ↔ (files ≡ [])
files_kept [] = (λ h. refl, λ h. refl)
files_kept (path ∷ files) = (λ h. absurd (true≢false h), λ h. absurd (true≢false (sym (ap is_empty h))))

pub state_is : (installed : Option (List ℕ)) (version : List ℕ) (files : List Path) → IsStateBy installed version files (state_by installed version files)
state_is installed version files = by (says version installed) refl
  where
    by : (b : Bool) → says version installed ≡ b → IsStateBy installed version files (cond b (Installed (not (is_empty files))) Built)
    by true is = (says_from version installed is, files_kept files)
    by false is = λ so. true≢false (sym (says_to version installed so) ∙ is)

kept_is : (kept : Bool) (files : List Path) → (kept ≡ false) ↔ (files ≡ []) → kept ≡ not (is_empty files)
kept_is true [] h = h.1 refl
kept_is true (path ∷ files) h = refl
kept_is false [] h = refl
kept_is false (path ∷ files) h = absurd (true≢false (sym (ap is_empty (h.0 refl))))

pub one_state : (installed : Option (List ℕ)) (version : List ℕ) (files : List Path) (state : State) → IsStateBy installed version files state → state ≡ state_by installed version files
one_state installed version files Added h = absurd h
one_state installed version files Built h = by (says version installed) refl
  where
    by : (b : Bool) → says version installed ≡ b → Built ≡ cond b (Installed (not (is_empty files))) Built
    by true is = absurd (h (says_from version installed is))
    by false is = refl
one_state installed version files (Installed kept) h =
    ap Installed (kept_is kept files h.1)
    ∙ sym (ap (λ b. cond b (Installed (not (is_empty files))) Built) (says_to version installed h.0))
