-- Which paths lie at, above or below the roots, and what is private there.
use Rattle.std.proofs.Common.{◌≡◌, ◌⊎◌, inl, inr, ℕ, ◌≤◌, ◌+◌, Bool, true, false, not, List, [], ◌∷◌, ◌++◌, length, codes, refl, sym, ap, ◌∙◌, subst, arith}
use Rattle.std.specs.List.{list_any, list_all}
use Rattle.std.proofs.Common.{length-append}
use Rattle.std.proofs.lemmas.Bool.{cases_Bool, true≢false, and_parts, and_from, or_cases, or_left, or_right, false_from_ne_true}
use Rattle.kb_world.specs.Path.{Path, parent, child, is_under, are_apart}
use Rattle.kb_world.specs.Public.{intent_path, staging_path, private_places, is_private}
use Rattle.kb_world.specs.Roots.{AreApart, based_roots, each_apart, is_below}
use Rattle.kb_world.specs.declared.roots.Roots.{Roots}
use Rattle.kb_world.proofs.PathLaws.{comparable}
use Rattle.kb_changes.specs.Change.{root_path}
use Rattle.kb_changes.specs.Valid.{written_roots, new_intent_path}
use Rattle.kb_changes.specs.declared.change.RootName.{RootName}
use Rattle.kb_changes.specs.declared.change.RootName.TheVariants as root_name
use Rattle.kb_again.proofs.Ends.{is_under_one}
use Rattle.kb_again.specs.Within.{staging_paths}
use Rattle.kb_again.proofs.Facts.{all_roots, AreDisjoint, AreRoots, untouched, is_open}
use Rattle.kb_again.proofs.FrontLaws.{listed_left}
use Rattle.kb_again.proofs.KeptLaws.{one_above}
use Rattle.kb_again.proofs.PathLaws.{is_over, is_above, is_listed, bytes_itself, over_itself, over_over, above_over, over_cases, not_above_itself, above_over_above, above_from, none_above_root, above_names, above_cons, above_parent, above_up, listed_cons, listed_more, listed_first}
use Rattle.kb_again.proofs.PlaceLaws.{build_parts, build_from}

-- ---- lists

pub of_all : (test : Path → Bool) (ps : List Path) → list_all test ps ≡ true → (q : Path) → is_listed q ps ≡ true → test q ≡ true
of_all test [] h q listed = absurd (true≢false (sym listed))
of_all test (p ∷ ps) h q listed = elim (listed_cons q p ps listed) [
  | inl same ↦ ap test same ∙ (and_parts _ _ h).0
  | inr later ↦ of_all test ps (and_parts _ _ h).1 q later
]

pub at_0 : (p : Path) (ps : List Path) → is_listed p (p ∷ ps) ≡ true
at_0 p ps = listed_first p p ps refl

pub at_1 : (a p : Path) (ps : List Path) → is_listed p (a ∷ p ∷ ps) ≡ true
at_1 a p ps = listed_more p a (p ∷ ps) (at_0 p ps)

pub at_2 : (a b p : Path) (ps : List Path) → is_listed p (a ∷ b ∷ p ∷ ps) ≡ true
at_2 a b p ps = listed_more p a (b ∷ p ∷ ps) (at_1 b p ps)

pub at_3 : (a b c p : Path) (ps : List Path) → is_listed p (a ∷ b ∷ c ∷ p ∷ ps) ≡ true
at_3 a b c p ps = listed_more p a (b ∷ c ∷ p ∷ ps) (at_2 b c p ps)

-- ---- entries

pub above_child : (q h : Path) (n : List ℕ) → is_above q (child h n) ≡ true → is_over q h ≡ true
above_child [] h n e = refl
above_child (a ∷ q) [] n e = absurd (none_above_root q (above_names a n q [] e).1)
above_child (a ∷ q) (b ∷ h) n e = let both = above_names a b q (child h n) e in and_from _ _ both.0 (above_child q h n both.1)

pub child_above : (h : Path) (n : List ℕ) → is_above h (child h n) ≡ true
child_above [] n = refl
child_above (a ∷ h) n = above_cons a a h (child h n) (bytes_itself a) (child_above h n)

pub same_front : (p q : Path) (m n : List ℕ) → child p m ≡ child q n → p ≡ q
same_front [] [] m n e = refl
same_front [] (y ∷ []) m n e = absurd (cc)
same_front [] (y ∷ z ∷ q) m n e = absurd (cc)
same_front (x ∷ []) [] m n e = absurd (cc)
same_front (x ∷ z ∷ p) [] m n e = absurd (cc)
same_front (x ∷ p) (y ∷ q) m n e =
    let head : x ≡ y = cc in
    let tail : child p m ≡ child q n = cc in
    let rest = same_front p q m n tail in
    λ i. head i ∷ rest i

pub same_last : (p : Path) (m n : List ℕ) → child p m ≡ child p n → m ≡ n
same_last [] m n e = cc
same_last (x ∷ p) m n e = let tail : child p m ≡ child p n = cc in same_last p m n tail

pub over_or_above : (a b r : Path) → is_over a r ≡ true → is_over b r ≡ true → (is_over a b ≡ true) ⊎ (is_above b a ≡ true)
over_or_above a b r h k = elim (comparable r a b h k) [
  | inr under ↦ inl under
  | inl under ↦ elim (cases_Bool (is_over a b)) [ inl both ↦ inl both | inr not_one ↦ inr (above_from b a under not_one) ]
]

pub length_over : (a b : Path) → is_over a b ≡ true → length a ≤ length b
length_over [] b h = omega arith
length_over (x ∷ a) [] h = absurd (true≢false (sym h))
length_over (x ∷ a) (y ∷ b) h = omega (arith, length_over a b (and_parts _ _ h).1)

pub length_child : (h : Path) (n : List ℕ) → length (child h n) ≡ length h + 1
length_child h n = length-append h (n ∷ [])

-- ---- at or below some path of a list

pub inside : (hs : List Path) (h q : Path) → is_listed h hs ≡ true → is_over h q ≡ true → is_under_one hs q ≡ true
inside [] h q is under = absurd (true≢false (sym is))
inside (p ∷ hs) h q is under = elim (listed_cons h p hs is) [
  | inl here ↦ or_left _ _ (ap (λ x. is_over x q) (sym here) ∙ under)
  | inr there ↦ or_right _ _ (inside hs h q there under)
]

pub inside_some : (hs : List Path) (q : Path) → is_under_one hs q ≡ true → (h : Path) × (is_listed h hs ≡ true) × (is_over h q ≡ true)
inside_some [] q e = absurd (true≢false (sym e))
inside_some (p ∷ hs) q e = elim (or_cases _ _ e) [
  | inl here ↦ (p, listed_first p p hs refl, here)
  | inr there ↦ let w = inside_some hs q there in (w.0, listed_more w.0 p hs w.1, w.2)
]

-- ---- private places

pub private_under : (r : Roots) (q x : Path) → is_over q x ≡ true → is_private r q ≡ true → is_private r x ≡ true
private_under r q x under e = elim (or_cases _ _ e) [
  | inl head ↦ or_left _ _ (one_above (private_places r) q x under head)
  | inr build ↦ let w = build_parts r q build in or_right _ _ (build_from r x w.0 w.1 w.2 (over_over _ q x w.3 under))
]

pub not_open : (r : Roots) (q : Path) → is_private r q ≡ true → is_open r q ≡ true → ⊥
not_open r q is open_at = true≢false (sym open_at ∙ ap not is)

pub open_from : (r : Roots) (q : Path) → (is_private r q ≡ true → ⊥) → is_open r q ≡ true
open_from r q h = ap not (false_from_ne_true _ h)

pub private_from : (r : Roots) (q : Path) → is_open r q ≡ false → is_private r q ≡ true
private_from r q e = elim (cases_Bool (is_private r q)) [ inl is ↦ is | inr out ↦ absurd (true≢false (sym (ap not out) ∙ e)) ]

-- of paths that are apart none is below another
pub disjoint_below : (ps : List Path) → AreDisjoint ps → (x y : Path) → is_listed x ps ≡ true → is_listed y ps ≡ true → is_above x y ≡ true
    → ⊥
disjoint_below [] d x y hx hy below = true≢false (sym hx)
disjoint_below (p ∷ ps) d x y hx hy below = elim (listed_cons x p ps hx) [
  | inl x_is ↦ elim (listed_cons y p ps hy) [
    | inl y_is ↦ not_above_itself p ((λ i. is_above (sym x_is i) (sym y_is i)) ∙ below)
    | inr y_later ↦ (d.0 y y_later).0 (ap (λ w. is_over w y) (sym x_is) ∙ above_over x y below)
  ]
  | inr x_later ↦ elim (listed_cons y p ps hy) [
    | inl y_is ↦ (d.0 x x_later).1 (ap (is_over x) (sym y_is) ∙ above_over x y below)
    | inr y_later ↦ disjoint_below ps d.1 x y x_later y_later below
  ]
]

-- ---- roots

apart_each : (p : Path) (ps : List Path) → list_all (are_apart p) ps ≡ true → (q : Path) → is_listed q ps ≡ true
    → (is_over p q ≡ true → ⊥) × (is_over q p ≡ true → ⊥)
apart_each p ps h q listed =
    let both = and_parts (not (is_under p q)) (not (is_under q p)) (of_all (are_apart p) ps h q listed) in
    ((λ over. true≢false (sym both.1 ∙ ap not over)), (λ over. true≢false (sym both.0 ∙ ap not over)))

disjoint_each : (ps : List Path) → each_apart ps ≡ true → AreDisjoint ps
disjoint_each [] h = tt
disjoint_each (p ∷ ps) h = let both = and_parts _ _ h in (apart_each p ps both.0, disjoint_each ps both.1)

pub are_roots : (r : Roots) → AreApart r → AreRoots r
are_roots r h =
    let both = and_parts (each_apart (all_roots r)) (list_all (λ root. is_below root r.base) (based_roots r)) h in
    record { disjoint = disjoint_each (all_roots r) both.0; below = of_all (λ root. is_below root r.base) (based_roots r) both.1 }

abbrev pub IsBelowRoot : Roots → Path → Type 0
IsBelowRoot r q = (x : Path) × (is_listed x (all_roots r) ≡ true) × (is_above x q ≡ true)

abbrev read_roots : Roots → List Path
read_roots r = r.etc ∷ r.lib ∷ r.proc ∷ []

pub is_root : (r : Roots) (name : RootName) → is_listed (root_path r name) (all_roots r) ≡ true
is_root r root_name.Dkms = at_1 r.boot r.dkms (r.src ∷ r.modules ∷ read_roots r)
is_root r root_name.Src = at_2 r.boot r.dkms r.src (r.modules ∷ read_roots r)
is_root r root_name.Modules = at_3 r.boot r.dkms r.src r.modules (read_roots r)
is_root r root_name.Boot = at_0 r.boot (based_roots r)

-- one of the four
pub root_named : (r : Roots) (x : Path) → is_listed x (written_roots r) ≡ true → (name : RootName) × (x ≡ root_path r name)
root_named r x h = elim (listed_cons x r.dkms (r.src ∷ r.modules ∷ r.boot ∷ []) h) [
  | inl is ↦ (root_name.Dkms, is)
  | inr h1 ↦ elim (listed_cons x r.src (r.modules ∷ r.boot ∷ []) h1) [
    | inl is ↦ (root_name.Src, is)
    | inr h2 ↦ elim (listed_cons x r.modules (r.boot ∷ []) h2) [
      | inl is ↦ (root_name.Modules, is)
      | inr h3 ↦ elim (listed_cons x r.boot [] h3) [
        | inl is ↦ (root_name.Boot, is)
        | inr none ↦ absurd (true≢false (sym none))
      ]
    ]
  ]
]

pub written_is_root : (r : Roots) (x : Path) → is_listed x (written_roots r) ≡ true → is_listed x (all_roots r) ≡ true
written_is_root r x h = let w = root_named r x h in subst (λ y. is_listed y (all_roots r) ≡ true) (sym w.1) (is_root r w.0)

-- no other root is at or above the boot root
pub not_over_boot : (r : Roots) → AreRoots r → (x : Path) → is_listed x (based_roots r) ≡ true → is_over x r.boot ≡ true → ⊥
not_over_boot r roots x h = (roots.disjoint.0 x h).1

pub dkms_boot : (r : Roots) → AreRoots r → is_over r.dkms r.boot ≡ true → ⊥
dkms_boot r roots = not_over_boot r roots r.dkms (at_0 r.dkms (r.src ∷ r.modules ∷ read_roots r))

pub src_boot : (r : Roots) → AreRoots r → is_over r.src r.boot ≡ true → ⊥
src_boot r roots = not_over_boot r roots r.src (at_1 r.dkms r.src (r.modules ∷ read_roots r))

pub modules_boot : (r : Roots) → AreRoots r → is_over r.modules r.boot ≡ true → ⊥
modules_boot r roots = not_over_boot r roots r.modules (at_2 r.dkms r.src r.modules (read_roots r))

pub dkms_modules : (r : Roots) → AreRoots r → is_over r.dkms r.modules ≡ true → ⊥
dkms_modules r roots = (roots.disjoint.1.0 r.modules (at_1 r.src r.modules (read_roots r))).0

pub base_above : (r : Roots) → AreRoots r → is_above r.base r.dkms ≡ true
base_above r roots = roots.below r.dkms (at_0 r.dkms (r.src ∷ r.modules ∷ read_roots r))

pub not_at_root : (r : Roots) → AreRoots r → (q y : Path) → IsBelowRoot r q → is_listed y (all_roots r) ≡ true → is_over q y ≡ true → ⊥
not_at_root r roots q y below is under =
    disjoint_below (all_roots r) roots.disjoint below.0 y below.1 is (above_over_above below.0 q y below.2 under)

pub is_staging : (r : Roots) (name : RootName) → is_listed (staging_path (root_path r name)) (staging_paths r) ≡ true
is_staging r root_name.Dkms = at_0 (staging_path r.dkms) (staging_path r.src ∷ staging_path r.modules ∷ staging_path r.boot ∷ [])
is_staging r root_name.Src = at_1 (staging_path r.dkms) (staging_path r.src) (staging_path r.modules ∷ staging_path r.boot ∷ [])
is_staging r root_name.Modules = at_2 (staging_path r.dkms) (staging_path r.src) (staging_path r.modules) (staging_path r.boot ∷ [])
is_staging r root_name.Boot = at_3 (staging_path r.dkms) (staging_path r.src) (staging_path r.modules) (staging_path r.boot) []

pub staging_kept_out : (r : Roots) (name : RootName) → is_listed (staging_path (root_path r name)) (untouched r) ≡ true
staging_kept_out r name = listed_more (staging_path (root_path r name)) (intent_path r) (new_intent_path r ∷ staging_paths r)
    (listed_more (staging_path (root_path r name)) (new_intent_path r) (staging_paths r) (is_staging r name))

abbrev plugins_path : Roots → Path
plugins_path r = child r.boot (codes ".kb-plugins")

pub untouched_private : (r : Roots) (q : Path) → is_under_one (untouched r) q ≡ true → is_under_one (private_places r) q ≡ true
untouched_private r q h =
    let w = inside_some (untouched r) q h in
    inside (private_places r) w.0 q (listed_left w.0 (untouched r) (plugins_path r ∷ []) w.1) w.2

abbrev pub IsEntryOfRoot : Roots → Path → Type 0
IsEntryOfRoot r h = (x : Path) × (n : List ℕ) × (is_listed x (all_roots r) ≡ true) × (h ≡ child x n)

-- a private place stands directly in a root
pub private_entry : (r : Roots) (h : Path) → is_listed h (private_places r) ≡ true → IsEntryOfRoot r h
private_entry r h e = elim (listed_cons h (intent_path r) (new_intent_path r ∷ (staging_paths r ++ plugins_path r ∷ [])) e) [
  | inl is ↦ (r.dkms, codes ".intent", is_root r root_name.Dkms, is)
  | inr e1 ↦ elim (listed_cons h (new_intent_path r) (staging_paths r ++ plugins_path r ∷ []) e1) [
    | inl is ↦ (r.dkms, codes ".intent.new", is_root r root_name.Dkms, is)
    | inr e2 ↦
        elim (listed_cons h (staging_path r.dkms)
        (staging_path r.src ∷ staging_path r.modules ∷ staging_path r.boot ∷ plugins_path r ∷ []) e2) [
          | inl is ↦ (r.dkms, codes ".kb-staged", is_root r root_name.Dkms, is)
          | inr e3 ↦ elim (listed_cons h (staging_path r.src) (staging_path r.modules ∷ staging_path r.boot ∷ plugins_path r ∷ []) e3) [
            | inl is ↦ (r.src, codes ".kb-staged", is_root r root_name.Src, is)
            | inr e4 ↦ elim (listed_cons h (staging_path r.modules) (staging_path r.boot ∷ plugins_path r ∷ []) e4) [
              | inl is ↦ (r.modules, codes ".kb-staged", is_root r root_name.Modules, is)
              | inr e5 ↦ elim (listed_cons h (staging_path r.boot) (plugins_path r ∷ []) e5) [
                | inl is ↦ (r.boot, codes ".kb-staged", is_root r root_name.Boot, is)
                | inr e6 ↦ elim (listed_cons h (plugins_path r) [] e6) [
                  | inl is ↦ (r.boot, codes ".kb-plugins", is_root r root_name.Boot, is)
                  | inr e7 ↦ absurd (true≢false (sym e7))
                ]
              ]
            ]
          ]
        ]
  ]
]

-- below an open path below a root there is no private place
pub no_private : (r : Roots) → AreRoots r → (q x : Path) → IsBelowRoot r q → is_open r q ≡ true → is_over q x ≡ true
    → is_under_one (private_places r) x ≡ true → ⊥
no_private r roots q x below open_at under e =
    let w = inside_some (private_places r) x e in
    let at_head : is_over w.0 q ≡ true → ⊥ = λ h. not_open r q (or_left _ _ (inside (private_places r) w.0 q w.1 h)) open_at in
    elim (over_or_above q w.0 x under w.2) [
      | inr above ↦ at_head (above_over w.0 q above)
      | inl q_under ↦ elim (over_cases q w.0 q_under) [
        | inl same ↦ at_head (subst (λ y. is_over w.0 y ≡ true) (sym same) (over_itself w.0))
        | inr further ↦
            let f = private_entry r w.0 w.1 in
            not_at_root r roots q f.0 below f.2 (above_child q f.0 f.1 (subst (λ y. is_above q y ≡ true) f.3 further))
      ]
    ]

-- above a root that is written
above_in : (ps : List Path) (q : Path) → list_any (is_above q) ps ≡ true → (x : Path) × (is_listed x ps ≡ true) × (is_above q x ≡ true)
above_in [] q h = absurd (true≢false (sym h))
above_in (p ∷ ps) q h = elim (or_cases _ _ h) [
  | inl here ↦ (p, listed_first p p ps refl, here)
  | inr later ↦ let w = above_in ps q later in (w.0, listed_more w.0 p ps w.1, w.2)
]

in_above : (ps : List Path) (q x : Path) → is_listed x ps ≡ true → is_above q x ≡ true → list_any (is_above q) ps ≡ true
in_above [] q x h below = absurd (true≢false (sym h))
in_above (p ∷ ps) q x h below = elim (listed_cons x p ps h) [
  | inl same ↦ or_left _ _ (subst (λ y. is_above q y ≡ true) same below)
  | inr later ↦ or_right _ _ (in_above ps q x later below)
]

pub above_some : (r : Roots) (q : Path) → list_any (is_above q) (written_roots r) ≡ true
    → (x : Path) × (is_listed x (all_roots r) ≡ true) × (is_above q x ≡ true)
above_some r q h = let w = above_in (written_roots r) q h in (w.0, written_is_root r w.0 w.1, w.2)

-- the root directory is none of them
not_slash : (r : Roots) → AreRoots r → (x : Path) → is_listed x (all_roots r) ≡ true → x ≡ [] → ⊥
not_slash r roots x h same =
    let dkms_below : is_above [] r.dkms ≡ true =
    slash_above r.dkms (λ e. none_above_root r.base (subst (λ y. is_above r.base y ≡ true) e (base_above r roots))) in
    disjoint_below (all_roots r) roots.disjoint x r.dkms h (is_root r root_name.Dkms)
    (subst (λ y. is_above y r.dkms ≡ true) (sym same) dkms_below)
  where
    slash_above : (p : Path) → (p ≡ [] → ⊥) → is_above [] p ≡ true
    slash_above [] some = absurd (some refl)
    slash_above (n ∷ p) some = refl

pub parent_written : (r : Roots) → AreRoots r → (q : Path) → is_under_one (written_roots r) q ≡ true
    → (is_under_one (written_roots r) (parent q) ≡ true) ⊎ (list_any (is_above (parent q)) (written_roots r) ≡ true)
parent_written r roots q h =
    let w = inside_some (written_roots r) q h in
    elim (over_cases w.0 q w.2) [
      | inl same ↦ elim (above_parent q) [
        | inl slash ↦ absurd (not_slash r roots w.0 (written_is_root r w.0 w.1) (same ∙ slash))
        | inr up ↦ inr (in_above (written_roots r) (parent q) w.0 w.1 (subst (λ y. is_above (parent q) y ≡ true) (sym same) up))
      ]
      | inr below ↦ inl (inside (written_roots r) w.0 (parent q) w.1 (under_of_below w.0 q below))
    ]
  where
    under_of_below : (x q : Path) → is_above x q ≡ true → is_over x (parent q) ≡ true
    under_of_below x [] b = absurd (none_above_root x b)
    under_of_below x (n ∷ ns) b = above_up x n ns b
