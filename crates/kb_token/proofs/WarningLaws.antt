-- One line more of an install.conf.
use Rattle.std.proofs.Common.{◌≡◌, ◌++◌, ◌∷◌, [], List, ℕ, Option, Some, None, sym, ap, ◌∙◌, append_assoc, ◌+◌, ◌<◌, length, take, get_or}
use Rattle.std.specs.Prelude.{filter_map, flat_map}
use Rattle.std.specs.List.{cons_option}
use Rattle.std.proofs.lemmas.List.{append-nil, take_more}
use Rattle.std.proofs.lemmas.List.Concat.{flat_map-append}
use Rattle.kb_token.specs.declared.sources.Source.{Source}
use Rattle.std.proofs.lemmas.List.Elements.{filter_map-append}

-- the line gives a warning, or none
pub warned : (f : List ℕ → Option (List ℕ)) (before : List (List ℕ)) (lines : List (List ℕ)) (line warning : List ℕ) → f line ≡ Some warning
    → (before ++ filter_map f lines) ++ warning ∷ [] ≡ before ++ filter_map f (lines ++ line ∷ [])
warned f before lines line warning is =
    append_assoc before (filter_map f lines) (warning ∷ []) ∙ ap (λ t. before ++ t) (sym (filter_map-append f lines (line ∷ []) ∙ ap (λ o. filter_map f lines ++ cons_option o []) is))

pub not_warned : (f : List ℕ → Option (List ℕ)) (before : List (List ℕ)) (lines : List (List ℕ)) (line : List ℕ) → f line ≡ None
    → before ++ filter_map f lines ≡ before ++ filter_map f (lines ++ line ∷ [])
not_warned f before lines line is =
    ap (λ t. before ++ t) (sym (filter_map-append f lines (line ∷ []) ∙ ap (λ o. filter_map f lines ++ cons_option o []) is ∙ append-nil (filter_map f lines)))

-- one source more
pub more_warnings : (f : Source → List (List ℕ)) (sources : List Source) (i : ℕ) (d : Source) → i < length sources
    → flat_map f (take i sources) ++ f (get_or sources i d) ≡ flat_map f (take (i + 1) sources)
more_warnings f sources i d l =
    sym (ap (flat_map f) (take_more sources i d l) ∙ flat_map-append f (take i sources) (get_or sources i d ∷ []) ∙ ap (λ t. flat_map f (take i sources) ++ t) (append-nil (f (get_or sources i d))))
