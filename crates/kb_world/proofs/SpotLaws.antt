-- A spot's link is named after it, and no version's directory is named as a link.
use Rattle.std.proofs.Common.{◌≡◌, ℕ, ◌-◌, Bool, true, false, cond, ◌&&◌, not, List, [], ◌∷◌, ◌++◌, length, take, drop, nat_eq, Option, Some, None, is_some, codes, refl, sym, ap, ◌∙◌, append_assoc, arith, length-append}
use Rattle.std.proofs.Math.Seq.{take-append_seam}
use Rattle.std.proofs.lemmas.Bool.{eqb-true}
use Rattle.std.proofs.lemmas.List.{take-append-drop}
use Rattle.std.specs.Prelude.{bytes_eq, option_and_then}
use Rattle.std.specs.List.{list_all, starts_with}
use Rattle.std.specs.Cmp.{first_so, second_so}
use Rattle.std.specs.Cmp.Derive.{both_true}
use Rattle.std.specs.Cmp.Lexicographic.{bytes_decides}
use Rattle.std.specs.Str.{byte}
use Rattle.kb_world.specs.Names.{is_word, is_version, is_kernel, is_arch, is_one_of}
use Rattle.kb_world.specs.Boxes.{is_spot, kernel_link_name, cut_with, cut_at_dash, spot_if, spot_of_link, spot_tail, kernel_link_text, version_of}
use Rattle.kb_world.specs.declared.job.Spot.{Spot}
use Rattle.kb_world.specs.StorePath.{spot_of}

abbrev DASH : ℕ
DASH = byte "-"

pub not_true : (b : Bool) → not b ≡ true → b ≡ false
not_true true h = let impossible : true ≡ false = sym h in cc
not_true false h = refl

pub version_no_link : (version : List ℕ) → is_version version ≡ true → is_some (spot_of_link version) ≡ false
version_no_link version h =
    let plain = not_true (starts_with nat_eq version (codes "kernel-")) (second_so (is_word version && not (bytes_eq version (codes "original_module"))) (not (starts_with nat_eq version (codes "kernel-"))) h) in
    ap (λ b. is_some (cond b (option_and_then spot_if (cut_at_dash (drop 7 version))) None)) plain

pub kernel_no_source : (kernel : List ℕ) → is_kernel kernel ≡ true → bytes_eq kernel (codes "source") ≡ false
kernel_no_source kernel h = not_true (bytes_eq kernel (codes "source")) (second_so (is_word kernel && not (bytes_eq kernel (codes "build"))) (not (bytes_eq kernel (codes "source"))) h)

pub kernel_no_build : (kernel : List ℕ) → is_kernel kernel ≡ true → bytes_eq kernel (codes "build") ≡ false
kernel_no_build kernel h =
    not_true (bytes_eq kernel (codes "build")) (second_so (is_word kernel) (not (bytes_eq kernel (codes "build"))) (first_so (is_word kernel && not (bytes_eq kernel (codes "build"))) (not (bytes_eq kernel (codes "source"))) h))

-- ---- cut at the last dash

pub cut-back : (text : List ℕ) (cut : List ℕ × List ℕ) → cut_at_dash text ≡ Some cut → text ≡ cut.0 ++ DASH ∷ cut.1
cut-back [] cut h = let impossible : None ≡ Some cut = h in absurd (cc)
cut-back (c ∷ rest) cut h = by (cut_at_dash rest) refl (λ later e. cut-back rest later e)
  where
    by : (told : Option (List ℕ × List ℕ)) → cut_at_dash rest ≡ told → ((later : List ℕ × List ℕ) → cut_at_dash rest ≡ Some later → rest ≡ later.0 ++ DASH ∷ later.1) → c ∷ rest ≡ cut.0 ++ DASH ∷ cut.1
    by (Some later) e back =
        let some : Some (c ∷ later.0, later.1) ≡ Some cut = sym (ap (cut_with c rest) e) ∙ h in
        let is : (c ∷ later.0, later.1) ≡ cut = cc in
        ap (λ r. c ∷ r) (back later e) ∙ ap (λ (p : List ℕ × List ℕ). p.0 ++ DASH ∷ p.1) is
    by None e back = at_dash (nat_eq c DASH) refl
      where
        at_dash : (b : Bool) → nat_eq c DASH ≡ b → c ∷ rest ≡ cut.0 ++ DASH ∷ cut.1
        at_dash true d =
            let some : Some ([], rest) ≡ Some cut = sym (ap (cut_with c rest) e ∙ ap (λ b. cond b (Some ([], rest)) None) d) ∙ h in
            let is : ([], rest) ≡ cut = cc in
            ap (λ x. x ∷ rest) (eqb-true c DASH d) ∙ ap (λ (p : List ℕ × List ℕ). p.0 ++ DASH ∷ p.1) is
        at_dash false d =
            let none : None ≡ Some cut = sym (ap (cut_with c rest) e ∙ ap (λ b. cond b (Some ([], rest)) None) d) ∙ h in absurd (cc)

other : (c d : ℕ) (b : Bool) → nat_eq c d ≡ b → is_one_of (codes "_") c ≡ true → is_one_of (codes "_") d ≡ false → b ≡ false
other c d true e h none = let q : true ≡ false = sym h ∙ ap (is_one_of (codes "_")) (eqb-true c d e) ∙ none in cc
other c d false e h none = refl

cut-none : (text : List ℕ) → list_all (is_one_of (codes "_")) text ≡ true → cut_at_dash text ≡ None
cut-none [] h = refl
cut-none (c ∷ rest) h =
    ap (cut_with c rest) (cut-none rest (second_so (is_one_of (codes "_") c) (list_all (is_one_of (codes "_")) rest) h))
    ∙ ap (λ b. cond b (Some ([], rest)) None) (other c DASH (nat_eq c DASH) refl (first_so (is_one_of (codes "_") c) (list_all (is_one_of (codes "_")) rest) h) refl)

cut-read : (before after : List ℕ) → list_all (is_one_of (codes "_")) after ≡ true → cut_at_dash (before ++ DASH ∷ after) ≡ Some (before, after)
cut-read [] after h = ap (cut_with DASH after) (cut-none after h)
cut-read (c ∷ before) after h = ap (cut_with c (before ++ DASH ∷ after)) (cut-read before after h)

link_name-is : (kernel arch : List ℕ) → kernel_link_name (spot_of kernel arch) ≡ codes "kernel-" ++ (kernel ++ DASH ∷ arch)
link_name-is kernel arch = append_assoc (codes "kernel-" ++ kernel) (codes "-") arch ∙ append_assoc (codes "kernel-") kernel (DASH ∷ arch)

pub link_read : (kernel arch : List ℕ) → is_kernel kernel ≡ true → is_arch arch ≡ true → spot_of_link (kernel_link_name (spot_of kernel arch)) ≡ Some (spot_of kernel arch)
link_read kernel arch k a =
    ap spot_of_link (link_name-is kernel arch)
    ∙ ap (option_and_then spot_if) (cut-read kernel arch (second_so _ (list_all (is_one_of (codes "_")) arch) a))
    ∙ ap (λ b. cond b (Some (spot_of kernel arch)) None) (both_true k a)

pub link_named : (name : List ℕ) (spot : Spot) → spot_of_link name ≡ Some spot → name ≡ kernel_link_name spot
link_named name spot h = by (starts_with nat_eq name (codes "kernel-")) refl
  where
    by_cut : codes "kernel-" ≡ take 7 name → (told : Option (List ℕ × List ℕ)) → cut_at_dash (drop 7 name) ≡ told → option_and_then spot_if told ≡ Some spot → name ≡ kernel_link_name spot
    by_cut front None e some = let none : None ≡ Some spot = some in absurd (cc)
    by_cut front (Some cut) e some = if_kept (is_kernel cut.0 && is_arch cut.1) refl
      where
        if_kept : (b : Bool) → (is_kernel cut.0 && is_arch cut.1) ≡ b → name ≡ kernel_link_name spot
        if_kept true kept =
            let is_some : Some (spot_of cut.0 cut.1) ≡ Some spot = sym (ap (λ b. cond b (Some (spot_of cut.0 cut.1)) None) kept) ∙ some in
            let is : spot_of cut.0 cut.1 ≡ spot = cc in
            sym (take-append-drop 7 name) ∙ ap (λ f. f ++ drop 7 name) (sym front) ∙ ap (λ t. codes "kernel-" ++ t) (cut-back (drop 7 name) cut e) ∙ sym (link_name-is cut.0 cut.1) ∙ ap kernel_link_name is
        if_kept false kept = let none : None ≡ Some spot = sym (ap (λ b. cond b (Some (spot_of cut.0 cut.1)) None) kept) ∙ some in absurd (cc)

    by : (b : Bool) → starts_with nat_eq name (codes "kernel-") ≡ b → name ≡ kernel_link_name spot
    by true e =
        by_cut ((bytes_decides (codes "kernel-") (take 7 name)).0 e) (cut_at_dash (drop 7 name)) refl (sym (ap (λ b. cond b (option_and_then spot_if (cut_at_dash (drop 7 name))) None) e) ∙ h)
    by false e = let none : None ≡ Some spot = sym (ap (λ b. cond b (option_and_then spot_if (cut_at_dash (drop 7 name))) None) e) ∙ h in absurd (cc)

pub link_spotted : (name : List ℕ) (spot : Spot) → spot_of_link name ≡ Some spot → is_spot spot ≡ true
link_spotted name spot h = by (starts_with nat_eq name (codes "kernel-")) refl
  where
    by_cut : (told : Option (List ℕ × List ℕ)) → option_and_then spot_if told ≡ Some spot → is_spot spot ≡ true
    by_cut None some = let none : None ≡ Some spot = some in absurd (cc)
    by_cut (Some cut) some = if_kept (is_kernel cut.0 && is_arch cut.1) refl
      where
        if_kept : (b : Bool) → (is_kernel cut.0 && is_arch cut.1) ≡ b → is_spot spot ≡ true
        if_kept true kept =
            let is_some : Some (spot_of cut.0 cut.1) ≡ Some spot = sym (ap (λ b. cond b (Some (spot_of cut.0 cut.1)) None) kept) ∙ some in
            let is : spot_of cut.0 cut.1 ≡ spot = cc in
            ap is_spot (sym is) ∙ kept
        if_kept false kept = let none : None ≡ Some spot = sym (ap (λ b. cond b (Some (spot_of cut.0 cut.1)) None) kept) ∙ some in absurd (cc)

    by : (b : Bool) → starts_with nat_eq name (codes "kernel-") ≡ b → is_spot spot ≡ true
    by true e = by_cut (cut_at_dash (drop 7 name)) (sym (ap (λ b. cond b (option_and_then spot_if (cut_at_dash (drop 7 name))) None) e) ∙ h)
    by false e = let none : None ≡ Some spot = sym (ap (λ b. cond b (option_and_then spot_if (cut_at_dash (drop 7 name))) None) e) ∙ h in absurd (cc)

pub text_read : (spot : Spot) (version : List ℕ) → is_version version ≡ true → version_of spot (kernel_link_text version spot) ≡ Some version
text_read spot version named =
    let long : length (version ++ spot_tail spot) - length (spot_tail spot) ≡ length version = omega (arith, length-append version (spot_tail spot)) in
    let front : take (length (version ++ spot_tail spot) - length (spot_tail spot)) (version ++ spot_tail spot) ≡ version = ap (λ n. take n (version ++ spot_tail spot)) long ∙ take-append_seam version (spot_tail spot) in
    ap (λ v. cond (bytes_eq (kernel_link_text version spot) (kernel_link_text v spot) && is_version v) (Some v) None) front
    ∙ ap (λ b. cond b (Some version) None) (both_true ((bytes_decides (kernel_link_text version spot) (kernel_link_text version spot)).1 refl) named)
