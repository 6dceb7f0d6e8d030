-- What the links of spots say, and the names of a build's places.
use Rattle.std.proofs.Common.{◌≡◌, ℕ, ◌-◌, Bool, true, false, cond, ◌&&◌, List, [], ◌∷◌, ◌++◌, length, take, codes, Option, Some, None, refl, sym, ap, ◌∙◌, arith, append_assoc, length-append}
use Rattle.std.specs.Prelude.{bytes_eq, IsTrue, IfSome}
use Rattle.std.specs.List.{list_all}
use Rattle.std.specs.Cmp.{first_so, second_so}
use Rattle.std.specs.Cmp.Lexicographic.{bytes_decides}
use Rattle.std.proofs.Math.Seq.{take-append_seam}
use Rattle.kb_world.specs.Names.{is_name, is_word, is_version}
use Rattle.kb_world.specs.Path.{Path}
use Rattle.kb_world.specs.Boxes.{spot_tail, kernel_link_text, version_of}
use Rattle.kb_world.specs.Targets.{targets_of, is_area, is_place, leads_to_module, last_name}
use Rattle.kb_world.specs.declared.job.Spot.{Spot}
use Rattle.kb_world.proofs.TargetsLaws.{read}
use Rattle.kb_store.proofs.PlaceLaws.{file_named}

-- ---- the text of a spot's link

-- the ending as it is written
pub tail_is : (spot : Spot) → codes "/" ++ (spot.kernel ++ (codes "/" ++ spot.arch)) ≡ spot_tail spot
tail_is spot = ap (λ t. 47 ∷ t) (sym (append_assoc spot.kernel (codes "/") spot.arch))

-- the version before the ending, where it keeps its rule
pub version_before : (spot : Spot) (text front : List ℕ) → text ≡ front ++ spot_tail spot → version_of spot text ≡ cond (is_version front) (Some front) None
version_before spot text front is =
    let whole = front ++ spot_tail spot in
    let count : length whole - length (spot_tail spot) ≡ length front = omega (arith, length-append front (spot_tail spot)) in
    let taken : take (length whole - length (spot_tail spot)) whole ≡ front = ap (λ n. take n whole) count ∙ take-append_seam front (spot_tail spot) in
    ap (version_of spot) is ∙ ap (λ v. cond (bytes_eq whole (kernel_link_text v spot) && is_version v) (Some v) None) taken
    ∙ ap (λ b. cond (b && is_version front) (Some front) None) ((bytes_decides whole whole).1 refl)

-- a text without the ending is of no version
pub no_version : (spot : Spot) (text : List ℕ) → ((front : List ℕ) → text ≡ front ++ spot_tail spot → ⊥) → version_of spot text ≡ None
no_version spot text none = by (take (length text - length (spot_tail spot)) text) (bytes_eq text (kernel_link_text (take (length text - length (spot_tail spot)) text) spot)) refl
  where
    by : (front : List ℕ) (b : Bool) → bytes_eq text (front ++ spot_tail spot) ≡ b → cond (bytes_eq text (kernel_link_text front spot) && is_version front) (Some front) None ≡ None
    by front true e = absurd (none front ((bytes_decides text (front ++ spot_tail spot)).0 e))
    by front false e = ap (λ b. cond (b && is_version front) (Some front) None) e

-- ---- the places of a build

-- what is in the format has places
pub placed : (text : List ℕ) (told : Option (List Path)) → targets_of text ≡ told → IfSome told (λ places. IsTrue (list_all is_place places))
placed text None e = tt
placed text (Some places) e = second_so _ (list_all is_place places) (first_so _ _ (read text places e).0)

leads_named : (names : Path) → leads_to_module names ≡ true → is_name (last_name names) ≡ true
leads_named [] h = let impossible : true ≡ false = sym h in cc
leads_named (name ∷ []) h = file_named name h
leads_named (name ∷ next ∷ rest) h = leads_named (next ∷ rest) (second_so (is_word name) (leads_to_module (next ∷ rest)) h)

pub last_named : (place : Path) → is_place place ≡ true → is_name (last_name place) ≡ true
last_named [] h = let impossible : true ≡ false = sym h in cc
last_named (area ∷ []) h = let impossible : true ≡ false = sym (second_so (is_area area) (leads_to_module []) h) in cc
last_named (area ∷ next ∷ rest) h = leads_named (next ∷ rest) (second_so (is_area area) (leads_to_module (next ∷ rest)) h)
