-- Words can name entries of directories, and so can what is joined of them.
use Rattle.std.proofs.Common.{◌≡◌, ℕ, ◌≤◌, Bool, true, false, ◌&&◌, not, List, [], ◌∷◌, ◌++◌, length, nat_eq, nat_le, codes, refl, sym, ap, ◌∙◌, arith, length-append}
use Rattle.std.specs.Prelude.{bytes_eq}
use Rattle.std.specs.List.{list_all}
use Rattle.std.specs.Cmp.{first_so, second_so}
use Rattle.std.specs.Cmp.Derive.{both_true}
use Rattle.std.specs.Cmp.Lexicographic.{bytes_decides}
use Rattle.std.specs.Str.{byte}
use Rattle.std.proofs.lemmas.Bool.{eqb-true, leb-true, le-leb}
use Rattle.std.proofs.lemmas.List.Folds.{list_all-append}
use Rattle.kb_world.specs.Names.{is_name, is_word, is_version, is_one_of, begins_alphanumeric}

-- a byte that a name may have
abbrev pub is_name_byte : ℕ → Bool
is_name_byte c = not (nat_eq c (byte "/")) && not (nat_eq c 0)

abbrev word_marks : List ℕ
word_marks = codes "._+-~^:"

-- a byte that passes is none that doesn't
other : (marks : List ℕ) (c d : ℕ) (b : Bool) → nat_eq c d ≡ b → is_one_of marks c ≡ true → is_one_of marks d ≡ false → not b ≡ true
other marks c d true e h none = let q : true ≡ false = sym h ∙ ap (is_one_of marks) (eqb-true c d e) ∙ none in cc
other marks c d false e h none = refl

word_byte : (c : ℕ) → is_one_of word_marks c ≡ true → is_name_byte c ≡ true
word_byte c h = both_true (other word_marks c 47 (nat_eq c 47) refl h refl) (other word_marks c 0 (nat_eq c 0) refl h refl)

pub word_bytes : (name : List ℕ) → list_all (is_one_of word_marks) name ≡ true → list_all is_name_byte name ≡ true
word_bytes [] h = refl
word_bytes (c ∷ name) h = both_true (word_byte c (first_so (is_one_of word_marks c) _ h)) (word_bytes name (second_so (is_one_of word_marks c) _ h))

-- a text that begins with a letter or digit isn't one that doesn't
begins_other : (a b : List ℕ) (same : Bool) → bytes_eq a b ≡ same → begins_alphanumeric a ≡ true → begins_alphanumeric b ≡ false → not same ≡ true
begins_other a b true e h none = let q : true ≡ false = sym h ∙ ap begins_alphanumeric ((bytes_decides a b).0 e) ∙ none in cc
begins_other a b false e h none = refl

begins_somewhere : (name : List ℕ) → begins_alphanumeric name ≡ true → 1 ≤ length name
begins_somewhere [] h = let q : true ≡ false = sym h in cc
begins_somewhere (c ∷ name) h = omega arith

-- up to 255 bytes of words, the first a letter or digit
pub named : (name : List ℕ) → length name ≤ 255 → begins_alphanumeric name ≡ true → list_all (is_one_of word_marks) name ≡ true → is_name name ≡ true
named name short begins bytes =
    both_true (both_true (both_true (both_true (le-leb 1 (length name) (begins_somewhere name begins)) (le-leb (length name) 255 short)) (word_bytes name bytes))
    (begins_other name (codes ".") (bytes_eq name (codes ".")) refl begins refl)) (begins_other name (codes "..") (bytes_eq name (codes "..")) refl begins refl)

-- what is known of a word
pub record IsKnownWord (name : List ℕ) : Type 0 where
  pub short : length name ≤ 120
  pub begins : begins_alphanumeric name ≡ true
  pub bytes : list_all (is_one_of word_marks) name ≡ true

pub known : (name : List ℕ) → is_word name ≡ true → IsKnownWord name
known name h =
    let front = first_so (nat_le (length name) 120 && begins_alphanumeric name) (list_all (is_one_of word_marks) name) h in
    record {
      short = leb-true (length name) 120 (first_so (nat_le (length name) 120) (begins_alphanumeric name) front);
      begins = second_so (nat_le (length name) 120) (begins_alphanumeric name) front;
      bytes = second_so (nat_le (length name) 120 && begins_alphanumeric name) (list_all (is_one_of word_marks) name) h;
    }

pub word-is_name : (name : List ℕ) → is_word name ≡ true → is_name name ≡ true
word-is_name name h = let w = known name h in named name (omega (arith, w.short)) w.begins w.bytes

pub version-is_word : (name : List ℕ) → is_version name ≡ true → is_word name ≡ true
version-is_word name h = first_so (is_word name) _ (first_so (is_word name && not (bytes_eq name (codes "original_module"))) _ h)

pub begins-append : (a b : List ℕ) → begins_alphanumeric a ≡ true → begins_alphanumeric (a ++ b) ≡ true
begins-append [] b h = let q : true ≡ false = sym h in cc
begins-append (c ∷ a) b h = h

-- two words joined by a dash
pub joined-is_name : (a b : List ℕ) → is_word a ≡ true → is_word b ≡ true → is_name (a ++ codes "-" ++ b) ≡ true
joined-is_name a b h k =
    let w = known a h in
    let v = known b k in
    named (a ++ codes "-" ++ b) (omega (arith, w.short, v.short, length-append (a ++ codes "-") b, length-append a (codes "-")))
    (begins-append (a ++ codes "-") b (begins-append a (codes "-") w.begins))
    (list_all-append (is_one_of word_marks) (a ++ codes "-") b
    ∙ both_true (list_all-append (is_one_of word_marks) a (codes "-") ∙ both_true w.bytes refl) v.bytes)
