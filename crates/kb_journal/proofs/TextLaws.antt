-- The fields of a journal's text, in which its words and changes follow one another.
use Rattle.std.proofs.Common.{◌≡◌, ℕ, ◌<◌, ◌^◌, true, List, [], ◌∷◌, ◌++◌, length, map, flat_map, codes, All, refl, sym, ap, ◌∙◌, append_assoc, append-nil}
use Rattle.std.specs.List.{slice_split}
use Rattle.std.specs.Cmp.Derive.{both_true}
use Rattle.std.proofs.lemmas.List.{length-map}
use Rattle.std.proofs.lemmas.List.Elements.{All-head, All-tail}
use Rattle.sha2.specs.Sha256.{sha256}
use Rattle.hex.proofs.OnLiterals.{hex_on_literals}
use Rattle.kb_world.specs.declared.child.Area.{Area}
use Rattle.kb_world.specs.declared.child.Area.TheVariants.{Nothing, Under, Names}
use Rattle.kb_world.specs.declared.child.Request.{Request}
use Rattle.kb_changes.specs.Text as rule
use Rattle.kb_changes.specs.declared.change.Change.{Change}
use Rattle.kb_changes.specs.declared.change.Change.TheVariants.{Dir, Put, Drop, DropDir, Wipe, Run}
use Rattle.kb_changes.specs.declared.change.Intent.{Intent}
use Rattle.kb_changes.specs.declared.change.RootName.{RootName}
use Rattle.kb_changes.specs.declared.change.RootName.TheVariants as root_name
use Rattle.kb_journal.specs.Reads.{IsNoText, is_field_end}
use Rattle.kb_journal.proofs.SplitLaws.{is_plain, are_plain, line_cut, plain_append, plain_each, plain_hex, plain_number, plain_path, plain_text}
use Rattle.kb_journal.proofs.WordLaws.{change_fields_are, change_rest, change_word}

-- ---- the fields of a change have no space and no line feed

plain_counted : {A : Type 0} (f : A → List ℕ) → ((x : A) → is_plain (f x) ≡ true) → (xs : List A) → length xs < 2 ^ 64 → are_plain (rule.counted_fields (map f xs)) ≡ true
plain_counted f each xs small = both_true (plain_number (length (map f xs)) (rw length-map small)) (plain_each f each xs)

plain_pair_list : (pairs : List (List ℕ × List ℕ)) → are_plain (flat_map rule.pair_field pairs) ≡ true
plain_pair_list [] = refl
plain_pair_list (pair ∷ pairs) = both_true (plain_text pair.0) (both_true (plain_text pair.1) (plain_pair_list pairs))

plain_pairs : (pairs : List (List ℕ × List ℕ)) → length pairs < 2 ^ 64 → are_plain (rule.pair_fields pairs) ≡ true
plain_pairs pairs small = both_true (plain_number (length pairs) small) (plain_pair_list pairs)

plain_area : (area : Area) → rule.IsTextArea area → are_plain (rule.area_fields area) ≡ true
plain_area Nothing good = refl
plain_area (Under directory) good = both_true (plain_path directory) refl
plain_area (Names directory names) good = both_true (plain_path directory) (plain_counted rule.text_field plain_text names good.2)

plain_request : (request : Request) → rule.IsTextRequest request → are_plain (rule.request_fields request) ≡ true
plain_request request good =
    let head : are_plain (rule.head_fields request) ≡ true = both_true (plain_text request.program) (both_true (plain_path request.dir) (plain_area request.area good.head.2)) in
    let args = plain_counted rule.text_field plain_text request.args good.args_counted in
    let env = plain_pairs request.env good.env_counted in
    let seen = plain_counted rule.path_field plain_path request.seen good.seen_counted in
    let first = rule.head_fields request ++ codes "args" ∷ rule.counted_fields (map rule.text_field request.args) in
    plain_append (first ++ codes "env" ∷ rule.pair_fields request.env) (codes "seen" ∷ rule.counted_fields (map rule.path_field request.seen))
    (plain_append first (codes "env" ∷ rule.pair_fields request.env)
    (plain_append (rule.head_fields request) (codes "args" ∷ rule.counted_fields (map rule.text_field request.args)) head args) env) seen

plain_root : (root : RootName) → is_plain (rule.root_field root) ≡ true
plain_root root_name.Dkms = refl
plain_root root_name.Src = refl
plain_root root_name.Modules = refl
plain_root root_name.Boot = refl

plain_change : (change : Change) → rule.IsTextChange change → are_plain (rule.change_fields change) ≡ true
plain_change (Dir path) good = both_true (plain_path path) refl
plain_change (Put root number target) good = both_true (plain_root root) (both_true (plain_number number good.0) (both_true (plain_path target) refl))
plain_change (Drop path) good = both_true (plain_path path) refl
plain_change (DropDir path) good = both_true (plain_path path) refl
plain_change (Wipe path) good = both_true (plain_path path) refl
plain_change (Run request) good = plain_request request good

-- ---- the whole text

changes_cut : (changes : List Change) (rest : List ℕ) → All rule.IsTextChange changes
    → slice_split is_field_end (rule.changes_text changes ++ rest) ≡ flat_map rule.change_fields changes ++ slice_split is_field_end rest
changes_cut [] rest good = refl
changes_cut (change ∷ changes) rest good =
    let fields = rule.change_fields change in
    ap (slice_split is_field_end) (append_assoc (rule.line_of_fields fields) (rule.changes_text changes) rest)
    ∙ line_cut fields (change_word change) (change_rest change) (rule.changes_text changes ++ rest) (change_fields_are change) (plain_change change (All-head rule.IsTextChange change changes good))
    ∙ ap (λ l. fields ++ l) (changes_cut changes rest (All-tail rule.IsTextChange change changes good))
    ∙ sym (append_assoc fields (flat_map rule.change_fields changes) (slice_split is_field_end rest))

-- the digest, and what stands behind the last line feed
abbrev pub last_fields : Intent → List (List ℕ)
last_fields intent = rule.digest_field (rule.intent_body intent) ∷ [] ∷ []

-- what stands behind the last word
abbrev pub fields_of_changes : Intent → List (List ℕ)
fields_of_changes intent = flat_map rule.change_fields intent.changes ++ codes "end" ∷ last_fields intent

end_cut : (body : List ℕ) → slice_split is_field_end (rule.end_line body) ≡ codes "end" ∷ rule.digest_field body ∷ [] ∷ []
end_cut body =
    ap (slice_split is_field_end) (sym (append-nil (rule.end_line body)))
    ∙ line_cut (codes "end" ∷ rule.digest_field body ∷ []) (codes "end") (rule.digest_field body ∷ []) [] refl (both_true (plain_hex (sha256 body)) refl)

pub intent_cut : (intent : Intent) → rule.AreTexts intent
    → slice_split is_field_end (rule.intent_text intent) ≡ codes "kmodboot" ∷ codes "intent" ∷ codes "1" ∷ codes "words" ∷ (map rule.text_field intent.words ++ fields_of_changes intent)
unfolding rule.intent_text
intent_cut intent good =
    let first = codes "kmodboot" ∷ codes "intent" ∷ codes "1" ∷ [] in
    let words = codes "words" ∷ map rule.text_field intent.words in
    let body = rule.intent_body intent in
    let behind = rule.changes_text intent.changes ++ rule.end_line body in
    ap (slice_split is_field_end)
    (append_assoc (rule.line_of_fields first ++ rule.words_line intent.words) (rule.changes_text intent.changes) (rule.end_line body)
    ∙ append_assoc (rule.line_of_fields first) (rule.words_line intent.words) behind)
    ∙ line_cut first (codes "kmodboot") (codes "intent" ∷ codes "1" ∷ []) (rule.words_line intent.words ++ behind) refl refl
    ∙ ap (λ l. first ++ l) (line_cut words (codes "words") (map rule.text_field intent.words) behind refl (plain_each rule.text_field plain_text intent.words))
    ∙ ap (λ l. first ++ (words ++ l)) (changes_cut intent.changes (rule.end_line body) good.changes)
    ∙ ap (λ l. first ++ (words ++ (flat_map rule.change_fields intent.changes ++ l))) (end_cut body)

-- ---- what ends the words

no_text : (change : Change) → IsNoText (change_word change)
unfolding hex_on_literals
no_text (Dir _) = (refl, refl)
no_text (Put _ _ _) = (refl, refl)
no_text (Drop _) = (refl, refl)
no_text (DropDir _) = (refl, refl)
no_text (Wipe _) = (refl, refl)
no_text (Run _) = (refl, refl)

end_is_no_text : IsNoText (codes "end")
unfolding hex_on_literals
end_is_no_text = (refl, refl)

pub after_words : (changes : List Change) (more : List (List ℕ))
    → (end : List ℕ) × (rest : List (List ℕ)) × IsNoText end × (flat_map rule.change_fields changes ++ codes "end" ∷ more ≡ end ∷ rest)
after_words [] more = (codes "end", more, end_is_no_text, refl)
after_words (change ∷ changes) more = (
  change_word change,
  change_rest change ++ flat_map rule.change_fields changes ++ codes "end" ∷ more,
  no_text change,
  ap (λ fields. fields ++ flat_map rule.change_fields changes ++ codes "end" ∷ more) (change_fields_are change),
)

-- the first field is passed over
abbrev pub IsPast : List (List ℕ) → List (List ℕ) → Type 0
IsPast old new = (field : List ℕ) (more : List (List ℕ)) → old ≡ field ∷ more → new ≡ more

-- behind four fields stand the words
pub words_left : (intent : Intent) (text : List ℕ) (fields one two three four : List (List ℕ)) → rule.AreTexts intent → text ≡ rule.intent_text intent → fields ≡ slice_split is_field_end text
    → IsPast fields one → IsPast one two → IsPast two three → IsPast three four → four ≡ map rule.text_field intent.words ++ fields_of_changes intent
words_left intent text fields one two three four good is cut a b d e =
    let behind = map rule.text_field intent.words ++ fields_of_changes intent in
    let past = a (codes "kmodboot") (codes "intent" ∷ codes "1" ∷ codes "words" ∷ behind) (cut ∙ ap (slice_split is_field_end) is ∙ intent_cut intent good) in
    e (codes "words") behind (d (codes "1") (codes "words" ∷ behind) (b (codes "intent") (codes "1" ∷ codes "words" ∷ behind) past))
