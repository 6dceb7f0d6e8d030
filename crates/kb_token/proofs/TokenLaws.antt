-- A token can name an entry of a directory.
use Rattle.std.proofs.Common.{◌≡◌, ℕ, ◌≤◌, Bool, true, false, ◌&&◌, ◌||◌, List, [], ◌∷◌, length, nat_eq, nat_le, codes, refl, sym, ap, ◌∙◌, arith}
use Rattle.std.specs.Prelude.{Option, Some, None, Result, Ok, Err, cond}
use Rattle.std.specs.List.{list_all}
use Rattle.std.specs.Char.{is_ascii_alphanumeric}
use Rattle.std.proofs.lemmas.Bool.{and_parts, and_from, leb-true}
use Rattle.kb_world.specs.Names.{is_name, is_one_of, is_boot_word, begins_alphanumeric}
use Rattle.kb_world.proofs.NameLaws.{named}
use Rattle.kb_world.specs.declared.refusal.Refusal.{Refusal}
use Rattle.kb_world.specs.declared.refusal.Refusal.TheVariants.{NoToken, BadName}
use Rattle.kb_token.specs.Token.{is_entry_token, token_of}

-- of the marks of boot words, each is one of words
more_marks : (a p m u d t x k : Bool) → (a || (p || (m || (u || (d || false))))) ≡ true → (a || (d || (u || (p || (m || (t || (x || (k || false)))))))) ≡ true
more_marks true p m u d t x k e = refl
more_marks false p m u true t x k e = refl
more_marks false p m true false t x k e = refl
more_marks false true m false false t x k e = refl
more_marks false false true false false t x k e = refl
more_marks false false false false false t x k e = let impossible : false ≡ true = e in cc

boot_byte : (c : ℕ) → is_one_of (codes "+-_.") c ≡ true → is_one_of (codes "._+-~^:") c ≡ true
boot_byte c e = more_marks (is_ascii_alphanumeric c) (nat_eq c 43) (nat_eq c 45) (nat_eq c 95) (nat_eq c 46) (nat_eq c 126) (nat_eq c 94) (nat_eq c 58) e

boot_bytes : (name : List ℕ) → list_all (is_one_of (codes "+-_.")) name ≡ true → list_all (is_one_of (codes "._+-~^:")) name ≡ true
boot_bytes [] e = refl
boot_bytes (c ∷ name) e =
    let parts = and_parts (is_one_of (codes "+-_.") c) (list_all (is_one_of (codes "+-_.")) name) e in and_from (is_one_of (codes "._+-~^:") c) _ (boot_byte c parts.0) (boot_bytes name parts.1)

boot_word_named : (name : List ℕ) → is_boot_word name ≡ true → is_name name ≡ true
boot_word_named name e =
    let parts = and_parts (nat_le (length name) 120 && begins_alphanumeric name) (list_all (is_one_of (codes "+-_.")) name) e in
    let front = and_parts (nat_le (length name) 120) (begins_alphanumeric name) parts.0 in
    let short : length name ≤ 120 = leb-true (length name) 120 front.0 in
    named name (omega arith) front.1 (boot_bytes name parts.1)

first_of_six : (a b c d e f : Bool) → (((((a && b) && c) && d) && e) && f) ≡ true → a ≡ true
first_of_six true b c d e f h = refl
first_of_six false b c d e f h = h

pub token_named : (token : List ℕ) → is_entry_token token ≡ true → is_name token ≡ true
token_named token e = boot_word_named token (first_of_six (is_boot_word token) _ _ _ _ _ e)

-- what is chosen for a token is one
pub chosen_named : (chosen : Option (List ℕ)) (token : List ℕ) → token_of chosen ≡ Ok token → is_name token ≡ true
chosen_named None token e = let impossible : ◌≡◌ {A = Result (List ℕ) Refusal} (Err NoToken) (Ok token) = e in cc
chosen_named (Some text) token e = by_cases (is_entry_token text) refl e
  where
    by_cases : (b : Bool) → is_entry_token text ≡ b → cond b (Ok text) (Err (BadName text)) ≡ Ok token → is_name token ≡ true
    by_cases true is h = let same : text ≡ token = cc in ap is_name (sym same) ∙ token_named text is
    by_cases false is h = let impossible : ◌≡◌ {A = Result (List ℕ) Refusal} (Err (BadName text)) (Ok token) = h in cc
