-- What a good text assigns is UTF-8.
use Rattle.std.proofs.Common.{◌≡◌, ℕ, ◌+◌, ◌<◌, ◌≤◌, Bool, true, false, not, ◌&&◌, cond, eqb, ltb, List, [], ◌∷◌, ◌++◌, length, take, drop, get_or, refl, sym, ap, ◌∙◌, subst, arith, Option, Some, None, append_assoc, zero, suc, inl, inr, ◌||◌, lit<}
use Rattle.std.specs.List.{list_all, AllByRecursion}
use Rattle.std.specs.Prelude.{unwrap_or, codes}
use Rattle.std.specs.Option.{option_or}
use Rattle.std.specs.Str.{IsUtf8, is_utf8, bytes_eq}
use Rattle.std.specs.Str.Lossy.{utf8_valid_len, valid_len_up_to}
use Rattle.std.specs.Char.{is_ascii_digit}
use Rattle.kb_conf.proofs.NumberLaws.{digits_again}
use Rattle.std.proofs.lemmas.Str.{IsUtf8-from_ascii, IsUtf8-nil, IsUtf8-append, IsUtf8-take, IsUtf8-drop, IsUtf8-from_is_utf8, IsCharBoundary-before_ascii, IsCharBoundary-after_ascii}
use Rattle.std.proofs.lemmas.List.{length-append, take_at, drop_at, append-nil}
use Rattle.std.proofs.lemmas.Bool.{and_parts, and_from, ltb-true, eqb-true}
use Rattle.std.proofs.lemmas.Bool.Decides.{nat_tests}
use Rattle.kb_conf.specs.Bytes.{starts_name, continues_name, is_active, is_blank}
use Rattle.kb_conf.specs.Signs.{line_feed, hash_sign, double_quote, semicolon, backslash, dollar_sign, apostrophe, open_brace, close_brace, close_bracket, equals_sign}
use Rattle.kb_conf.specs.declared.line_position.LinePosition.{LinePosition}
use Rattle.kb_conf.specs.Assignment.{Assignment, Given, given_value, last_value, is_of}
use Rattle.kb_conf.specs.Line.{AssignmentItem, Token, Blank, Semicolon, LineEnd, Comment, Set, spell_item, item_mode, item_value, is_item, assigned, spell_token, spell_tokens, is_token, may_stand, position_after, assigns, are_lines, assign_all, ends_line}
use Rattle.kb_conf.specs.Value.{scope}
use Rattle.kb_conf.specs.LinePosition.{line_start}
use Rattle.kb_conf.specs.Reading.{IsGood}
use Rattle.kb_conf.specs.TextOf.{IsTextAssignment, IsTextGiven}
use Rattle.kb_conf.proofs.Tools.{chosen}
use Rattle.std.proofs.lemmas.Option.{none-some, cond_some, same_Some}
use Rattle.kb_conf.specs.Name.{Reference, is_variable_name, is_number, is_reference, subscript, spell_reference, decimal}
use Rattle.kb_conf.specs.Piece.{Piece, Bare, Escaped, Single, Quote, Plain, Braced, Command, Backquoted, Dollar, Mode, spell, fits_here, mode_after, lacks}
use Rattle.kb_conf.specs.Value.{Scope, gives, give_all, expand, look_up, spell_pieces, are_value, ends_item}

-- the longest valid front is UTF-8
valid_front : (bs : List ℕ) (k : ℕ) → IsUtf8 (take (valid_len_up_to bs k) bs)
valid_front bs zero = IsUtf8-nil
valid_front bs (suc k) = by_test (is_utf8 (take (suc k) bs)) refl (valid_front bs k)
  where
    by_test : (b : Bool) → is_utf8 (take (suc k) bs) ≡ b → IsUtf8 (take (valid_len_up_to bs k) bs) → IsUtf8 (take (cond b (suc k) (valid_len_up_to bs k)) bs)
    by_test true e less = IsUtf8-from_is_utf8 (take (suc k) bs) e
    by_test false e less = less

take_past : (n : ℕ) (xs : List ℕ) → length xs ≤ n → take n xs ≡ xs
take_past zero [] h = refl
take_past zero (x ∷ xs) h = absurd (omega arith)
take_past (suc n) [] h = refl
take_past (suc n) (x ∷ xs) h = ap (λ ys. x ∷ ys) (take_past n xs (omega arith))

pub valid_whole : (bs : List ℕ) → length bs ≤ utf8_valid_len bs → IsUtf8 bs
unfolding utf8_valid_len
valid_whole bs h = subst IsUtf8 (take_past (valid_len_up_to bs (length bs)) bs h) (valid_front bs (length bs))

-- a text may be cut at an ASCII byte, and the byte left out
pub record Cut (front back : List ℕ) : Type 0 where
  pub before : IsUtf8 front
  pub behind : IsUtf8 back

read_seam : (xs : List ℕ) (b : ℕ) (ys : List ℕ) → get_or (xs ++ (b ∷ ys)) (length xs) 0 ≡ b
read_seam [] b ys = refl
read_seam (x ∷ xs) b ys = read_seam xs b ys

drop_seam : (xs : List ℕ) (b : ℕ) (ys : List ℕ) → drop (length xs + 1) (xs ++ (b ∷ ys)) ≡ ys
drop_seam xs b ys = ap (λ (t : List ℕ). drop (length xs + 1) t) (sym (append_assoc xs (b ∷ []) ys)) ∙ drop_at (xs ++ (b ∷ [])) ys (length xs + 1) (length-append xs (b ∷ []))

pub cut : (xs : List ℕ) (b : ℕ) (ys : List ℕ) → b < 128 → IsUtf8 (xs ++ (b ∷ ys)) → Cut xs ys
cut xs b ys ascii u =
    let text = xs ++ (b ∷ ys) in
    let within : length xs < length text = omega (arith, length-append xs (b ∷ ys)) in
    let low : get_or text (length xs) 0 < 128 = omega (arith, read_seam xs b ys) in
    record {
      before = subst IsUtf8 (take_at xs (b ∷ ys) (length xs) refl) (IsUtf8-take text (length xs) u (IsCharBoundary-before_ascii text (length xs) within low));
      behind = subst IsUtf8 (drop_seam xs b ys) (IsUtf8-drop text (length xs + 1) u (IsCharBoundary-after_ascii text (length xs) u within low));
    }

unfoldable is_low : ℕ → Bool
is_low b = ltb b 128

-- an ASCII front may be left out
behind_low : (xs ys : List ℕ) → list_all is_low xs ≡ true → IsUtf8 (xs ++ ys) → IsUtf8 ys
unfolding is_low
behind_low [] ys low u = u
behind_low (x ∷ xs) ys low u =
    let parts = and_parts (ltb x 128) (list_all is_low xs) low in
    behind_low xs ys parts.1 (cut [] x (xs ++ ys) (ltb-true x 128 parts.0) u).behind

all_of : (p q : ℕ → Bool) (xs : List ℕ) → ((b : ℕ) → p b ≡ true → q b ≡ true) → list_all p xs ≡ true → list_all q xs ≡ true
all_of p q [] step all = refl
all_of p q (x ∷ xs) step all =
    let parts = and_parts (p x) (list_all p xs) all in
    and_from (q x) (list_all q xs) (step x parts.0) (all_of p q xs step parts.1)

all_append : (p : ℕ → Bool) (xs ys : List ℕ) → list_all p xs ≡ true → list_all p ys ≡ true → list_all p (xs ++ ys) ≡ true
all_append p [] ys a b = b
all_append p (x ∷ xs) ys a b =
    let parts = and_parts (p x) (list_all p xs) a in
    and_from (p x) (list_all p (xs ++ ys)) parts.0 (all_append p xs ys parts.1 b)

low_name_byte : (b : ℕ) → continues_name b ≡ true → is_low b ≡ true
unfolding is_low
low_name_byte b h = grind (arith, nat_tests)

low_start : (b : ℕ) → starts_name b ≡ true → is_low b ≡ true
unfolding is_low
low_start b h = grind (arith, nat_tests)

low_digit : (b : ℕ) → is_ascii_digit b ≡ true → is_low b ≡ true
unfolding is_low
low_digit b h = grind (arith, nat_tests)

low_name : (name : List ℕ) → is_variable_name name ≡ true → list_all is_low name ≡ true
low_name [] h = absurd (cc)
low_name (b ∷ bs) h =
    let parts = and_parts (starts_name b) (list_all continues_name bs) h in
    and_from (is_low b) (list_all is_low bs) (low_start b parts.0) (all_of continues_name is_low bs low_name_byte parts.1)

low_subscript : (number : Option ℕ) → is_number number ≡ true → list_all is_low (subscript number) ≡ true
unfolding is_low
low_subscript None h = refl
low_subscript (Some n) h = all_append is_low (decimal n) (close_bracket ∷ []) (all_of is_ascii_digit is_low (decimal n) low_digit (digits_again n (ltb-true n 256 h)).digits) refl

low_reference : (r : Reference) → is_reference r ≡ true → list_all is_low (spell_reference r) ≡ true
low_reference r h =
    let parts = and_parts (is_variable_name r.name) (is_number r.number) h in
    all_append is_low r.name (subscript r.number) (low_name r.name parts.0) (low_subscript r.number parts.1)

-- what a scope's variables stand for is text
pub record GivesText (s : Scope) : Type 0 where
  pub text : (r : Reference) (value : List ℕ) → look_up s r ≡ Some value → IsUtf8 value

one_low : (b : ℕ) → b < 128 → (i : ℕ) → get_or (b ∷ []) i 0 < 128
one_low b h zero = h
one_low b h (suc i) = omega arith

text_one : (b : ℕ) → b < 128 → IsUtf8 (b ∷ [])
text_one b h = IsUtf8-from_ascii (b ∷ []) (one_low b h)

below_low : (x : ℕ) → is_low x ≡ true → x < 128
unfolding is_low
below_low x h = ltb-true x 128 h

text_low : (xs : List ℕ) → list_all is_low xs ≡ true → IsUtf8 xs
text_low [] h = IsUtf8-nil
text_low (x ∷ xs) h = let parts = and_parts (is_low x) (list_all is_low xs) h in IsUtf8-append (x ∷ []) xs (text_one x (below_low x parts.0)) (text_low xs parts.1)

-- the spelled piece may be replaced by what it gives
expanded : (s : Scope) (m : Mode) (r : Reference) (written : List ℕ) → GivesText s → IsUtf8 written → IsUtf8 (expand s m r written)
expanded s m r written env w = by_value (look_up s r) refl
  where
    by_value : (o : Option (List ℕ)) → look_up s r ≡ o → IsUtf8 (unwrap_or o (cond m.command written []))
    by_value None e = elim m.command as (λ b. IsUtf8 (cond b written [])) [ true ↦ w | false ↦ IsUtf8-nil ]
    by_value (Some value) e = env.text r value e

join3 : (xs ys zs : List ℕ) → IsUtf8 xs → IsUtf8 ys → IsUtf8 zs → IsUtf8 (xs ++ (ys ++ zs))
join3 xs ys zs a b d = IsUtf8-append xs (ys ++ zs) a (IsUtf8-append ys zs b d)

brace : list_all is_low (close_brace ∷ []) ≡ true
unfolding is_low
brace = refl

replaced : (s : Scope) (m : Mode) (p : Piece) (before behind : List ℕ) → GivesText s → fits_here m p behind ≡ true → IsUtf8 (before ++ (spell p ++ behind)) → IsUtf8 (before ++ (gives s m p ++ behind))
replaced s m (Bare b) before behind env h u = u
replaced s m (Escaped b) before behind env h u = by_break (eqb b line_feed) refl
  where
    c : Cut before (b ∷ behind)
    c = cut before backslash (b ∷ behind) (lit< tt) u

    by_active : (t : Bool) → IsUtf8 (before ++ (cond t (backslash ∷ b ∷ []) (b ∷ []) ++ behind))
    by_active true = u
    by_active false = IsUtf8-append before (b ∷ behind) c.before c.behind

    by_break : (t : Bool) → eqb b line_feed ≡ t → IsUtf8 (before ++ (cond t [] (cond (m.quoted && not (is_active b)) (backslash ∷ b ∷ []) (b ∷ [])) ++ behind))
    by_break true e = IsUtf8-append before behind c.before (cut [] b behind (omega (arith, eqb-true b line_feed e)) c.behind).behind
    by_break false e = by_active (m.quoted && not (is_active b))
replaced s m (Single text) before behind env h u =
    let c = cut before apostrophe ((text ++ (apostrophe ∷ [])) ++ behind) (lit< tt) u in
    let d = cut text apostrophe behind (lit< tt) (subst IsUtf8 (append_assoc text (apostrophe ∷ []) behind) c.behind) in
    join3 before text behind c.before d.before d.behind
replaced s m Quote before behind env h u = let c = cut before double_quote behind (lit< tt) u in IsUtf8-append before behind c.before c.behind
replaced s m (Plain name) before behind env h u =
    let c = cut before dollar_sign (name ++ behind) (lit< tt) u in
    let low = low_name name (and_parts (is_variable_name name) _ h).0 in
    join3 before (expand s m (record { name = name; number = None }) (dollar_sign ∷ name)) behind c.before (expanded s m (record { name = name; number = None }) (dollar_sign ∷ name) env (IsUtf8-append (dollar_sign ∷ []) name (text_one dollar_sign (lit< tt)) (text_low name low))) (behind_low name behind low c.behind)
replaced s m (Braced r) before behind env h u =
    let inside = spell_reference r ++ (close_brace ∷ []) in
    let low = all_append is_low (spell_reference r) (close_brace ∷ []) (low_reference r h) brace in
    let c = cut before dollar_sign (open_brace ∷ (inside ++ behind)) (lit< tt) u in
    let d = cut [] open_brace (inside ++ behind) (lit< tt) c.behind in
    join3 before (expand s m r (spell (Braced r))) behind c.before (expanded s m r (spell (Braced r)) env (IsUtf8-append (dollar_sign ∷ []) (open_brace ∷ inside) (text_one dollar_sign (lit< tt)) (IsUtf8-append (open_brace ∷ []) inside (text_one open_brace (lit< tt)) (text_low inside low)))) (behind_low inside behind low d.behind)
replaced s m (Command text) before behind env h u = u
replaced s m (Backquoted text) before behind env h u = u
replaced s m Dollar before behind env h u = u

value_in_place : (s : Scope) (ps : List Piece) (m : Mode) (before after : List ℕ) → GivesText s → are_value m ps after ≡ true → IsUtf8 (before ++ (spell_pieces ps ++ after)) → IsUtf8 (before ++ (give_all s m ps ++ after))
value_in_place s [] m before after env h u = u
value_in_place s (p ∷ ps) m before after env h u =
    let parts = and_parts (fits_here m p (spell_pieces ps ++ after)) (are_value (mode_after m p) ps after) h in
    let behind = spell_pieces ps ++ after in
    let one = replaced s m p before behind env parts.0 (subst (λ (x : List ℕ). IsUtf8 (before ++ x)) (append_assoc (spell p) (spell_pieces ps) after) u) in
    let all = value_in_place s ps (mode_after m p) (before ++ gives s m p) after env parts.1 (subst IsUtf8 (sym (append_assoc before (gives s m p) behind)) one) in
    subst (λ (x : List ℕ). IsUtf8 (before ++ x)) (sym (append_assoc (gives s m p) (give_all s (mode_after m p) ps) after))
    (subst IsUtf8 (append_assoc before (gives s m p) (give_all s (mode_after m p) ps ++ after)) all)

item_end : (b : ℕ) → (is_blank b || eqb b semicolon || eqb b line_feed) ≡ true → b < 128
item_end b h = grind (arith, nat_tests)

-- a text before the end of an item may be cut there
cut_at_end : (xs after : List ℕ) → ends_item after ≡ true → IsUtf8 (xs ++ after) → (IsUtf8 xs) × (IsUtf8 after)
cut_at_end xs [] h u = (subst IsUtf8 (append-nil xs) u, IsUtf8-nil)
cut_at_end xs (b ∷ bs) h u =
    let low = item_end b h in
    let c = cut xs b bs low u in
    (c.before, IsUtf8-append (b ∷ []) bs (text_one b low) c.behind)

value_ends : (ps : List Piece) (m : Mode) (after : List ℕ) → are_value m ps after ≡ true → ends_item after ≡ true
value_ends [] m after h = (and_parts (not m.quoted) (ends_item after) h).1
value_ends (p ∷ ps) m after h = value_ends ps (mode_after m p) after (and_parts (fits_here m p (spell_pieces ps ++ after)) (are_value (mode_after m p) ps after) h).1

item_text : (s : Scope) (i : AssignmentItem) (after : List ℕ) → GivesText s → is_item s i after ≡ true → IsUtf8 (spell_item i ++ after) → IsTextAssignment (assigned s i) × IsUtf8 after
item_text s i after env h u =
    let whole = and_parts (is_reference i.target) _ h in
    let valued = (and_parts (are_value (item_mode i) i.pieces after) _ whole.1).0 in
    let low = low_reference i.target whole.0 in
    let tail = equals_sign ∷ (spell_pieces i.pieces ++ after) in
    let flat = subst IsUtf8 (append_assoc (spell_reference i.target) (equals_sign ∷ spell_pieces i.pieces) after) u in
    let behind = cut [] equals_sign (spell_pieces i.pieces ++ after) (lit< tt) (behind_low (spell_reference i.target) tail low flat) in
    let value = cut_at_end (item_value s i) after (value_ends i.pieces (item_mode i) after valued) (value_in_place s i.pieces (item_mode i) [] after env valued behind.behind) in
    (record { name = text_low i.target.name (low_name i.target.name (and_parts (is_variable_name i.target.name) _ whole.0).0); value = value.0 }, value.1)

line_end_text : (text after : List ℕ) → ends_line after ≡ true → IsUtf8 (text ++ after) → IsUtf8 after
line_end_text text [] h u = IsUtf8-nil
line_end_text text (b ∷ bs) h u =
    let low : b < 128 = omega (arith, eqb-true b line_feed h) in
    IsUtf8-append (b ∷ []) bs (text_one b low) (cut text b bs low u).behind

push_all : (P : Assignment → Type 0) (xs : List Assignment) (x : Assignment) → AllByRecursion P xs → P x → AllByRecursion P (xs ++ (x ∷ []))
push_all P [] x all h = (h, tt)
push_all P (y ∷ ys) x all h = (all.0, push_all P ys x all.1 h)

unchanged : (xs : List Assignment) → AllByRecursion IsTextAssignment xs → AllByRecursion IsTextAssignment (xs ++ [])
unchanged xs all = subst (λ (x : List Assignment). AllByRecursion IsTextAssignment x) (sym (append-nil xs)) all

blank_low : (b : ℕ) → is_blank b ≡ true → b < 128
blank_low b h = grind (arith, nat_tests)

-- a token leaves text behind it, and what it assigns is text
token_text : (s : Scope) (t : Token) (after : List ℕ) → GivesText s → is_token s t after ≡ true → IsUtf8 (spell_token t ++ after) → AllByRecursion IsTextAssignment s.earlier → AllByRecursion IsTextAssignment (s.earlier ++ assigns s t) × IsUtf8 after
token_text s (Blank b) after env h u all = (unchanged s.earlier all, (cut [] b after (blank_low b h) u).behind)
token_text s Semicolon after env h u all = (unchanged s.earlier all, (cut [] semicolon after (lit< tt) u).behind)
token_text s LineEnd after env h u all = (unchanged s.earlier all, (cut [] line_feed after (lit< tt) u).behind)
token_text s (Comment text) after env h u all =
    (unchanged s.earlier all, line_end_text text after (and_parts (lacks line_feed text) (ends_line after) h).1 (cut [] hash_sign (text ++ after) (lit< tt) u).behind)
token_text s (Set i) after env h u all = let r = item_text s i after env h u in (push_all IsTextAssignment s.earlier (assigned s i) all r.0, r.1)

last_text : (xs : List Assignment) (name : List ℕ) (number : ℕ) (value : List ℕ) → AllByRecursion IsTextAssignment xs → last_value xs name number ≡ Some value → IsUtf8 value
unfolding last_value
last_text [] name number value all e = absurd (none-some value e)
last_text (x ∷ xs) name number value all e = by_later (last_value xs name number) refl e (λ v f. last_text xs name number v all.1 f)
  where
    by_later : (o : Option (List ℕ)) → last_value xs name number ≡ o → option_or o (cond (is_of name number x) (Some x.value) None) ≡ Some value → ((v : List ℕ) → last_value xs name number ≡ Some v → IsUtf8 v) → IsUtf8 value
    by_later None f g later = let picked = cond_some (is_of name number x) x.value value g in subst IsUtf8 picked.1 all.0.value
    by_later (Some v) f g later = subst IsUtf8 (same_Some v value g) (later v f)

given_text : (g : Given) (name : List ℕ) (number : ℕ) (value : List ℕ) → IsTextGiven g → given_value g name number ≡ Some value → IsUtf8 value
unfolding given_value
given_text g name number value t e =
    elim (chosen (eqb number 0) _ None (Some value) e) [
      | inr w ↦ absurd (none-some value w.1)
      | inl zeroth ↦
          elim (chosen (bytes_eq name (codes "kernelver")) (Some g.kernel) _ (Some value) zeroth.1) [
            | inl w ↦ subst IsUtf8 (same_Some g.kernel value w.1) t.kernel
            | inr a ↦
                elim (chosen (bytes_eq name (codes "kernel_source_dir")) (Some g.kernel_source_dir) _ (Some value) a.1) [
                  | inl w ↦ subst IsUtf8 (same_Some g.kernel_source_dir value w.1) t.kernel_source_dir
                  | inr b ↦
                      elim (chosen (bytes_eq name (codes "dkms_tree")) (Some g.dkms_tree) _ (Some value) b.1) [
                        | inl w ↦ subst IsUtf8 (same_Some g.dkms_tree value w.1) t.dkms_tree
                        | inr d ↦
                            elim (chosen (bytes_eq name (codes "source_tree")) (Some g.source_tree) _ (Some value) d.1) [
                              | inl w ↦ subst IsUtf8 (same_Some g.source_tree value w.1) t.source_tree
                              | inr f ↦
                                  elim (chosen (bytes_eq name (codes "arch")) (Some g.arch) None (Some value) f.1) [ inl w ↦ subst IsUtf8 (same_Some g.arch value w.1) t.arch | inr w ↦ absurd (none-some value w.1) ]
                            ]
                      ]
                ]
          ]
    ]

scope_text : (g : Given) (earlier : List Assignment) → IsTextGiven g → AllByRecursion IsTextAssignment earlier → GivesText (scope g earlier)
scope_text g earlier t all = record { text = λ r value e. by_given r value (given_value g r.name (unwrap_or r.number 0)) refl e }
  where
    by_given : (r : Reference) (value : List ℕ) (o : Option (List ℕ)) → given_value g r.name (unwrap_or r.number 0) ≡ o → option_or o (last_value earlier r.name (unwrap_or r.number 0)) ≡ Some value → IsUtf8 value
    by_given r value None f e = last_text earlier r.name (unwrap_or r.number 0) value all e
    by_given r value (Some v) f e = subst IsUtf8 (same_Some v value e) (given_text g r.name (unwrap_or r.number 0) v t f)

lines_text : (g : Given) (ts : List Token) (earlier : List Assignment) (position : LinePosition) → IsTextGiven g → AllByRecursion IsTextAssignment earlier → are_lines g earlier position ts [] ≡ true → IsUtf8 (spell_tokens ts ++ []) → AllByRecursion IsTextAssignment (assign_all g earlier ts)
lines_text g [] earlier position t all h u = all
lines_text g (k ∷ ks) earlier position t all h u =
    let s = scope g earlier in
    let parts = and_parts (may_stand position k && is_token s k (spell_tokens ks ++ [])) (are_lines g (earlier ++ assigns s k) (position_after position k) ks []) h in
    let whole = (and_parts (may_stand position k) (is_token s k (spell_tokens ks ++ [])) parts.0).1 in
    let one = token_text s k (spell_tokens ks ++ []) (scope_text g earlier t all) whole (subst IsUtf8 (append_assoc (spell_token k) (spell_tokens ks) []) u) all in
    lines_text g ks (earlier ++ assigns s k) (position_after position k) t one.0 parts.1 one.1

pub good_text : (g : Given) (text : List ℕ) (assignments : List Assignment) → IsTextGiven g → IsGood g text assignments → AllByRecursion IsTextAssignment assignments
good_text g text assignments t r =
    let n : length (spell_tokens r.tokens) ≡ length text = ap length (sym (append-nil (spell_tokens r.tokens)) ∙ sym r.spelled) in
    let valid : length text ≤ utf8_valid_len text = omega (arith, r.sound, n) in
    subst (λ (x : List Assignment). AllByRecursion IsTextAssignment x) (sym r.made) (lines_text g r.tokens [] line_start t tt r.lines (subst IsUtf8 r.spelled (valid_whole text valid)))
