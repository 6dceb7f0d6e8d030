-- What a command says of its variables, as they are set one by one.
use Rattle.std.proofs.Common.{◌≡◌, ℕ, ◌+◌, ◌<◌, Bool, true, false, cond, List, [], ◌∷◌, ◌++◌, length, get_or, take, Option, Some, refl, sym, ap, ◌∙◌, bytes_eq}
use Rattle.std.specs.Process.{command_var, SameOtherVars}
use Rattle.std.specs.declared.process.command.Command.{Command}
use Rattle.std.proofs.lemmas.List.{take_more}
use Rattle.std.proofs.lemmas.List.Sums.{fold-append}
use Rattle.std.proofs.lemmas.Slice.Eq.{bytes_eq-Decides}
use Rattle.kb_real.specs.Children.{var_after}

-- a variable after one was set
pub one_var : {A : Type 0} (old new : Command A) (name set value : List ℕ) → command_var new set ≡ Some (Some value) → SameOtherVars old new set
    → command_var new name ≡ cond (bytes_eq set name) (Some (Some value)) (command_var old name)
one_var old new name set value is others = by_test (bytes_eq set name) refl
  where
    by_test : (test : Bool) → bytes_eq set name ≡ test → command_var new name ≡ cond (bytes_eq set name) (Some (Some value)) (command_var old name)
    by_test true same =
        ap (command_var new) (sym ((bytes_eq-Decides set name).0 same)) ∙ is ∙ sym (ap (λ test. cond test (Some (Some value)) (command_var old name)) same)
    by_test false apart =
        others name (λ e. let found = (bytes_eq-Decides set name).1 (sym e) in cc) ∙ sym (ap (λ test. cond test (Some (Some value)) (command_var old name)) apart)

-- a variable after one more of the list was set
pub one_more_var : {A : Type 0} (old new : Command A) (said : Option (Option (List ℕ))) (vars : List (List ℕ × List ℕ)) (i : ℕ) (var : List ℕ × List ℕ) (set value name : List ℕ)
    → i < length vars → var ≡ get_or vars i var → set ≡ var.0 → value ≡ var.1 → command_var old name ≡ var_after name said (take i vars)
    → command_var new set ≡ Some (Some value) → SameOtherVars old new set → command_var new name ≡ var_after name said (take (i + 1) vars)
one_more_var old new said vars i var set value name within at is_name is_value so_far is others =
    let more = take_more vars i var within ∙ ap (λ next. take i vars ++ next ∷ []) (sym at) in
    one_var old new name set value is others ∙ ap (λ told. cond (bytes_eq set name) (Some (Some value)) told) so_far
    ∙ ap (λ k. cond (bytes_eq k name) (Some (Some value)) (var_after name said (take i vars))) is_name
    ∙ ap (λ v. cond (bytes_eq var.0 name) (Some (Some v)) (var_after name said (take i vars))) is_value
    ∙ sym (ap (var_after name said) more ∙ fold-append (λ told (next : List ℕ × List ℕ). cond (bytes_eq next.0 name) (Some (Some next.1)) told) said (take i vars) (var ∷ []))
