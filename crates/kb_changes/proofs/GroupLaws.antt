-- The DropDirs before the first Dir or Put, and those behind it.
use Rattle.std.proofs.Common.{◌≡◌, ℕ, ◌+◌, ◌<◌, false, cond, List, [], ◌∷◌, ◌++◌, length, take, drop, get_or, Option, Some, None, refl, sym, ap, ◌∙◌, append_assoc}
use Rattle.std.specs.List.{cons_option}
use Rattle.std.proofs.lemmas.List.{take_more}
use Rattle.std.proofs.lemmas.List.Elements.{filter_map-append}
use Rattle.kb_world.specs.Path.{Path}
use Rattle.kb_changes.specs.Groups.{drop_dir_of, makes, drop_dirs_in, first_drop_dirs, second_drop_dirs}
use Rattle.kb_changes.specs.declared.change.Change.{Change}
use Rattle.kb_changes.proofs.StepLaws.{next_item}

-- one change more that is none of the two
pub first_more : (changes : List Change) (i : ℕ) (change : Change) → i < length changes → change ≡ get_or changes i change → makes change ≡ false →
    drop_dirs_in (take i changes) ++ first_drop_dirs (drop i changes) ≡ first_drop_dirs changes →
    drop_dirs_in (take (i + 1) changes) ++ first_drop_dirs (drop (i + 1) changes) ≡ first_drop_dirs changes
first_more changes i change within is none so =
    let rest = drop (i + 1) changes in
    let front : drop_dirs_in (take (i + 1) changes) ≡ drop_dirs_in (take i changes) ++ cons_option (drop_dir_of change) [] =
    ap drop_dirs_in (take_more changes i change within ∙ ap (λ c. take i changes ++ c ∷ []) (sym is)) ∙ filter_map-append drop_dir_of (take i changes) (change ∷ []) in
    let behind : first_drop_dirs (drop i changes) ≡ cons_option (drop_dir_of change) (first_drop_dirs rest) =
    ap first_drop_dirs (next_item changes i change within (sym is)) ∙ ap (λ b. cond b [] (cons_option (drop_dir_of change) (first_drop_dirs rest))) none in
    ap (λ ps. ps ++ first_drop_dirs rest) front ∙ append_assoc (drop_dirs_in (take i changes)) (cons_option (drop_dir_of change) []) (first_drop_dirs rest)
    ∙ ap (λ ps. drop_dirs_in (take i changes) ++ ps) (one_before (drop_dir_of change) (first_drop_dirs rest) ∙ sym behind) ∙ so
  where
    one_before : (o : Option Path) (ps : List Path) → cons_option o [] ++ ps ≡ cons_option o ps
    one_before None ps = refl
    one_before (Some p) ps = refl

pub second_more : (changes : List Change) (i : ℕ) (change : Change) → i < length changes → change ≡ get_or changes i change → makes change ≡ false →
    second_drop_dirs (drop i changes) ≡ second_drop_dirs changes → second_drop_dirs (drop (i + 1) changes) ≡ second_drop_dirs changes
second_more changes i change within is none so =
    sym (ap second_drop_dirs (next_item changes i change within (sym is)) ∙ ap (λ b. cond b (drop_dirs_in (drop (i + 1) changes)) (second_drop_dirs (drop (i + 1) changes))) none) ∙ so
