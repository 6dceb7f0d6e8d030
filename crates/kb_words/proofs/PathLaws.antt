-- Which path a word is the text of; and such a word is no part.
use Rattle.std.proofs.Common.{◌≡◌, ℕ, cond, [], ◌∷◌, Option, Some, None, nat_eq, refl, sym, ap, ◌∙◌, eqb-true}
use Rattle.std.specs.List.{list_all, slice_split}
use Rattle.std.specs.Str.{byte}
use Rattle.kb_world.specs.Names.{is_name}
use Rattle.kb_world.specs.Path.{Path, IsPath, path_text}
use Rattle.kb_world.proofs.PathText.{path_text_begins, names_of_text, path_text-slice_split, same_path}
use Rattle.kb_words.specs.declared.parts.DkmsAction.TheVariants as action
use Rattle.kb_words.specs.declared.parts.Seen.{Seen}
use Rattle.kb_words.specs.Words.{Word}
use Rattle.kb_words.specs.Reading.{nothing, names_if_all, names_behind_slash, path_read, seen_after, begun}
use Rattle.kb_words.proofs.PackageLaws.{no_option}
use Rattle.kb_words.proofs.PartLaws.{none_some, same_some, found_where}

abbrev SLASH : ℕ
SLASH = byte "/"

-- the path whose text the word is
pub path_into : (path : Path) (word : Word) → IsPath path → path_text path ≡ word → path_read word ≡ Some path
path_into path word named is =
    let begins = path_text_begins path in
    ap path_read (sym is ∙ begins.1) ∙ by_rest begins.0 begins.1
  where
    by_rest : (rest : Word) → path_text path ≡ SLASH ∷ rest → names_behind_slash rest ≡ Some path
    by_rest [] e = ap Some (same_path [] path refl named (sym e))
    by_rest (c ∷ rest) e =
        let names = names_of_text path (c ∷ rest) named e (λ h. cc) in
        ap names_if_all names ∙ ap (λ b. cond b (Some path) None) named

pub record IsTextOf (path : Path) (word : Word) : Type 0 where
  pub named : IsPath path
  pub is : path_text path ≡ word

pub path_from : (word : Word) (path : Path) → path_read word ≡ Some path → IsTextOf path word
path_from [] path h = absurd (none_some path h)
path_from (c ∷ rest) path h =
    let found = found_where (nat_eq c SLASH) (names_behind_slash rest) path h in
    by_rest rest found.1 (eqb-true c SLASH found.0)
  where
    by_rest : (rest : Word) → names_behind_slash rest ≡ Some path → c ≡ SLASH → IsTextOf path (c ∷ rest)
    by_rest [] h at = record { named = ap (list_all is_name) (sym (same_some [] path h)); is = ap path_text (sym (same_some [] path h)) ∙ ap (λ d. d ∷ []) (sym at) }
    by_rest (d ∷ rest) h at =
        let names = slice_split (λ c. nat_eq c SLASH) (d ∷ rest) in
        let found = found_where (list_all is_name names) (Some names) path h in
        let same = same_some names path found.1 in
        record {
          named = ap (list_all is_name) (sym same) ∙ found.0;
          is = ap path_text (sym same) ∙ path_text-slice_split (d ∷ rest) ∙ ap (λ e. e ∷ d ∷ rest) (sym at);
        }

-- a word with a slash in front is no part by itself, and no option
no_part : (rest : Word) (next : Seen) → seen_after (nothing action.Add) (SLASH ∷ rest) ≡ Some next → ⊥
no_part rest next h = none_some next (sym (ap (begun (nothing action.Add) (SLASH ∷ rest)) (no_option (SLASH ∷ rest) refl)) ∙ h)

-- what goes on as parts is no path
pub parts_no_path : (word : Word) (next : Seen) → seen_after (nothing action.Add) word ≡ Some next → path_read word ≡ None
parts_no_path word next h = by_case (path_read word) refl
  where
    by_case : (found : Option Path) → path_read word ≡ found → path_read word ≡ None
    by_case None e = e
    by_case (Some path) e =
        let of = path_from word path e in
        let begins = path_text_begins path in
        absurd (no_part begins.0 next (ap (seen_after (nothing action.Add)) (sym begins.1 ∙ of.is) ∙ h))
