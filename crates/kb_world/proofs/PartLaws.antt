-- Modules, versions, kernels, architectures and the names of links can name entries of directories.
use Rattle.std.proofs.Common.{◌≡◌, ℕ, Bool, true, false, ◌&&◌, not, List, [], ◌∷◌, ◌++◌, length, nat_eq, nat_le, codes, refl, sym, ap, ◌∙◌, subst, arith, length-append}
use Rattle.std.specs.Prelude.{bytes_eq, Result, Ok, Err, IfOk}
use Rattle.std.specs.List.{list_all}
use Rattle.std.specs.Cmp.{first_so, second_so}
use Rattle.std.specs.Cmp.Derive.{both_true}
use Rattle.std.specs.Cmp.Lexicographic.{bytes_decides}
use Rattle.std.proofs.lemmas.Bool.{eqb-true, leb-true, le-leb}
use Rattle.std.proofs.lemmas.List.Folds.{list_all-append}
use Rattle.kb_world.specs.Names.{is_name, is_word, is_version, is_kernel, is_arch, is_one_of}
use Rattle.kb_world.specs.StorePath.{is_key, is_spot, kernel_link_name}
use Rattle.kb_world.specs.declared.job.Key.{Key}
use Rattle.kb_world.specs.declared.job.Spot.{Spot}
use Rattle.std.proofs.lemmas.Bool.Decides.{nat_tests}
use Rattle.kb_world.proofs.SoundLaws.{list_all-so}
use Rattle.kb_world.proofs.NameLaws.{known, named, word-is_name, version-is_word, joined-is_name, is_name_byte}

pub named_as : (name text : List ℕ) → name ≡ text → is_name text ≡ true → is_name name ≡ true
named_as name text same h = subst (λ n. is_name n ≡ true) (sym same) h

-- a byte that passes is none that doesn't
other : (c d : ℕ) (b : Bool) → nat_eq c d ≡ b → is_one_of (codes "_") c ≡ true → is_one_of (codes "_") d ≡ false → not b ≡ true
other c d true e h none = let q : true ≡ false = sym h ∙ ap (is_one_of (codes "_")) (eqb-true c d e) ∙ none in cc
other c d false e h none = refl

arch_bytes : (name : List ℕ) → list_all (is_one_of (codes "_")) name ≡ true → list_all is_name_byte name ≡ true
arch_bytes [] h = refl
arch_bytes (c ∷ name) h =
    let here = first_so (is_one_of (codes "_") c) (list_all (is_one_of (codes "_")) name) h in
    both_true (both_true (other c 47 (nat_eq c 47) refl here refl) (other c 0 (nat_eq c 0) refl here refl)) (arch_bytes name (second_so (is_one_of (codes "_") c) (list_all (is_one_of (codes "_")) name) h))

no_dots : (name dots : List ℕ) (same : Bool) → bytes_eq name dots ≡ same → list_all (is_one_of (codes "_")) name ≡ true → list_all (is_one_of (codes "_")) dots ≡ false → not same ≡ true
no_dots name dots true e h none = let q : true ≡ false = sym h ∙ ap (list_all (is_one_of (codes "_"))) ((bytes_decides name dots).0 e) ∙ none in cc
no_dots name dots false e h none = refl

-- an architecture can name an entry of a directory
pub arch-is_name : (name : List ℕ) → is_arch name ≡ true → is_name name ≡ true
arch-is_name name h =
    let front = first_so (nat_le 1 (length name) && nat_le (length name) 32) (list_all (is_one_of (codes "_")) name) h in
    let bytes = second_so (nat_le 1 (length name) && nat_le (length name) 32) (list_all (is_one_of (codes "_")) name) h in
    let short = leb-true (length name) 32 (second_so (nat_le 1 (length name)) (nat_le (length name) 32) front) in
    both_true (both_true (both_true (both_true (first_so (nat_le 1 (length name)) (nat_le (length name) 32) front) (le-leb (length name) 255 (omega (arith, short)))) (arch_bytes name bytes))
    (no_dots name (codes ".") (bytes_eq name (codes ".")) refl bytes refl)) (no_dots name (codes "..") (bytes_eq name (codes "..")) refl bytes refl)

pub kernel-is_name : (name : List ℕ) → is_kernel name ≡ true → is_name name ≡ true
kernel-is_name name h = word-is_name name (first_so (is_word name) _ (first_so (is_word name && not (bytes_eq name (codes "build"))) _ h))

pub module_named : (key : Key) → is_key key ≡ true → is_name key.module ≡ true
module_named key h = word-is_name key.module (first_so (is_word key.module) (is_version key.version) h)

pub version_named : (key : Key) → is_key key ≡ true → is_name key.version ≡ true
version_named key h = word-is_name key.version (version-is_word key.version (second_so (is_word key.module) (is_version key.version) h))

pub source_named : (key : Key) → is_key key ≡ true → is_name (key.module ++ codes "-" ++ key.version) ≡ true
source_named key h = joined-is_name key.module key.version (first_so (is_word key.module) (is_version key.version) h) (version-is_word key.version (second_so (is_word key.module) (is_version key.version) h))

-- the bytes of an architecture are those of words
word_bytes_of : (name : List ℕ) → list_all (is_one_of (codes "_")) name ≡ true → list_all (is_one_of (codes "._+-~^:")) name ≡ true
word_bytes_of name h = list_all-so (is_one_of (codes "_")) (is_one_of (codes "._+-~^:")) name word_mark h
  where
    word_mark : (c : ℕ) → is_one_of (codes "_") c ≡ true → is_one_of (codes "._+-~^:") c ≡ true
    word_mark c h = grind (arith, nat_tests)

-- the name of a spot's link
pub link_is_name : (spot : Spot) → is_spot spot ≡ true → is_name (kernel_link_name spot) ≡ true
link_is_name spot h =
    let kernel = known spot.kernel (first_so (is_word spot.kernel) _ (first_so (is_word spot.kernel && not (bytes_eq spot.kernel (codes "build"))) _ (first_so (is_kernel spot.kernel) (is_arch spot.arch) h))) in
    let arch = second_so (is_kernel spot.kernel) (is_arch spot.arch) h in
    let front = first_so (nat_le 1 (length spot.arch) && nat_le (length spot.arch) 32) (list_all (is_one_of (codes "_")) spot.arch) arch in
    let short = leb-true (length spot.arch) 32 (second_so (nat_le 1 (length spot.arch)) (nat_le (length spot.arch) 32) front) in
    let bytes = second_so (nat_le 1 (length spot.arch) && nat_le (length spot.arch) 32) (list_all (is_one_of (codes "_")) spot.arch) arch in
    let marks = is_one_of (codes "._+-~^:") in
    named (kernel_link_name spot)
    (omega (arith, kernel.short, short, length-append (codes "kernel-" ++ spot.kernel ++ codes "-") spot.arch, length-append (codes "kernel-" ++ spot.kernel) (codes "-"), length-append (codes "kernel-") spot.kernel))
    refl
    (list_all-append marks (codes "kernel-" ++ spot.kernel ++ codes "-") spot.arch
    ∙ both_true (list_all-append marks (codes "kernel-" ++ spot.kernel) (codes "-") ∙ both_true (list_all-append marks (codes "kernel-") spot.kernel ∙ both_true refl kernel.bytes) refl) (word_bytes_of spot.arch bytes))

-- a value that is one thing is what that is
pub ok_is : {A E : Type 0} (result : Result A E) (x y : A) → IfOk result (λ value. value ≡ x) → x ≡ y → IfOk result (λ value. value ≡ y)
ok_is (Ok value) x y h e = h ∙ e
ok_is (Err error) x y h e = h
