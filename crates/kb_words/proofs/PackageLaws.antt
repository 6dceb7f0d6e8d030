-- Which part a word is by itself, and which option, if any.
use Rattle.std.proofs.Common.{◌≡◌, Bool, true, false, cond, not, ◌&&◌, [], ◌∷◌, Option, Some, None, codes, bytes_eq, refl, sym, ap, ◌∙◌, true≢false}
use Rattle.std.specs.Cmp.Lexicographic.{bytes_decides}
use Rattle.kb_world.specs.declared.job.Key.{Key}
use Rattle.kb_words.specs.declared.parts.Argument.{Argument}
use Rattle.kb_words.specs.declared.parts.Argument.TheVariants as argument
use Rattle.kb_words.specs.Words.{Word, has_slash, begins_with_dash, is_nonempty, with_slash, is_package, is_bare_module}
use Rattle.kb_words.specs.Reading.{before_slash, after_slash, package_split, argument_behind}
use Rattle.kb_words.proofs.SlashLaws.{before_is, after_is, plain_front, joined_again, slash_within, nothing_behind}

-- ---- truth values

not_true : (b : Bool) → not b ≡ true → b ≡ false
not_true true h = cc
not_true false h = refl

all_three : (a b c : Bool) → (a && b && c) ≡ true → (a ≡ true) × (b ≡ true) × (c ≡ true)
all_three true true true h = (refl, refl, refl)
all_three a b c h = absurd (true≢false (sym h))

all_four : (a b c d : Bool) → (a && b && c && d) ≡ true → (a ≡ true) × (b ≡ true) × (c ≡ true) × (d ≡ true)
all_four true true true true h = (refl, refl, refl, refl)
all_four a b c d h = absurd (true≢false (sym h))

all_five : (a b c d e : Bool) → (a && b && c && d && e) ≡ true → (a ≡ true) × (b ≡ true) × (c ≡ true) × (d ≡ true) × (e ≡ true)
all_five true true true true true h = (refl, refl, refl, refl, refl)
all_five a b c d e h = absurd (true≢false (sym h))

found_if : {T : Type 0} → (b : Bool) (x y : T) → cond b (Some x) None ≡ Some y → (b ≡ true) × (x ≡ y)
found_if true x y h = (refl, cc)
found_if false x y h = absurd (none_some y h)
  where
    none_some : {T : Type 0} → (y : T) → None ≡ Some y → ⊥
    none_some y h = cc

-- ---- packages

abbrev split_as : Word → Word → Option Key
split_as front back =
    let split : Key = record { «module» = front; version = back } in
    cond (not (begins_with_dash front) && is_nonempty front && is_nonempty back && not (has_slash back)) (Some split) None

pub package_from : (word : Word) (key : Key) → package_split word ≡ Some key → (is_package key ≡ true) × (word ≡ with_slash key.module key.version)
package_from word key h =
    let front : Word = before_slash word in
    let back : Word = after_slash word in
    let split : Key = record { «module» = front; version = back } in
    let got = found_if {T = Key} (not (begins_with_dash front) && is_nonempty front && is_nonempty back && not (has_slash back)) split key h in
    let each = all_four (not (begins_with_dash front)) (is_nonempty front) (is_nonempty back) (not (has_slash back)) got.0 in
    let is : is_package split ≡ true = (λ i. each.0 i && each.1 i && each.2 i && not (plain_front word i) && each.3 i) in
    (ap is_package (sym got.1) ∙ is, joined_again word (slash_within word each.2) ∙ ap (λ (key : Key). with_slash key.module key.version) got.1)

pub package_into : (key : Key) → is_package key ≡ true → package_split (with_slash key.module key.version) ≡ Some key
package_into key h =
    let each = all_five (not (begins_with_dash key.module)) (is_nonempty key.module) (is_nonempty key.version) (not (has_slash key.module)) (not (has_slash key.version)) h in
    let one = not_true (has_slash key.module) each.3 in
    let front = before_is key.module key.version one in
    let back = after_is key.module key.version one in
    (λ i. split_as (front i) (back i)) ∙ (λ i. cond (each.0 i && each.1 i && each.2 i && each.4 i) (Some key) None)

-- a bare module is no package
pub bare_no_package : (name : Word) → is_bare_module name ≡ true → package_split name ≡ None
bare_no_package name h =
    let each = all_three (is_nonempty name) (not (begins_with_dash name)) (not (has_slash name)) h in
    let split : Key = record { «module» = before_slash name; version = after_slash name } in
    let none = nothing_behind name (not_true (has_slash name) each.2) in
    ap (λ b. cond (not (begins_with_dash (before_slash name)) && is_nonempty (before_slash name) && b && not (has_slash (after_slash name))) (Some split) None) none
    ∙ no_third (not (begins_with_dash (before_slash name))) (is_nonempty (before_slash name)) (not (has_slash (after_slash name))) split
  where
    no_third : (a b c : Bool) (key : Key) → cond (a && b && false && c) (Some key) None ≡ None
    no_third true true true key = refl
    no_third true true false key = refl
    no_third true false true key = refl
    no_third true false false key = refl
    no_third false true true key = refl
    no_third false true false key = refl
    no_third false false true key = refl
    no_third false false false key = refl

-- ---- options

-- how an option is written
abbrev pub option_word : Argument → Word
option_word argument.Module = codes "-m"
option_word argument.Version = codes "-v"
option_word argument.Kernel = codes "-k"
option_word argument.Arch = codes "-a"

pub option_into : (it : Argument) → argument_behind (option_word it) ≡ Some it
option_into argument.Module = refl
option_into argument.Version = refl
option_into argument.Kernel = refl
option_into argument.Arch = refl

abbrev argument_by : Bool → Bool → Bool → Bool → Option Argument
argument_by m v k a = cond m (Some argument.Module) (cond v (Some argument.Version) (cond k (Some argument.Kernel) (cond a (Some argument.Arch) None)))

pub option_from : (word : Word) (it : Argument) → argument_behind word ≡ Some it → word ≡ option_word it
option_from word it h = by_case (bytes_eq word (codes "-m")) (bytes_eq word (codes "-v")) (bytes_eq word (codes "-k")) (bytes_eq word (codes "-a")) refl refl refl refl h
  where
    this : (known : Argument) → word ≡ option_word known → Some known ≡ Some it → word ≡ option_word it
    this known at e = let same : known ≡ it = cc in at ∙ ap option_word same

    by_case : (m v k a : Bool) → bytes_eq word (codes "-m") ≡ m → bytes_eq word (codes "-v") ≡ v → bytes_eq word (codes "-k") ≡ k → bytes_eq word (codes "-a") ≡ a
        → argument_by m v k a ≡ Some it → word ≡ option_word it
    by_case true v k a em ev ek ea e = this argument.Module ((bytes_decides word (codes "-m")).0 em) e
    by_case false true k a em ev ek ea e = this argument.Version ((bytes_decides word (codes "-v")).0 ev) e
    by_case false false true a em ev ek ea e = this argument.Kernel ((bytes_decides word (codes "-k")).0 ek) e
    by_case false false false true em ev ek ea e = this argument.Arch ((bytes_decides word (codes "-a")).0 ea) e
    by_case false false false false em ev ek ea e = cc

-- what begins with no dash is no option
pub no_option : (word : Word) → begins_with_dash word ≡ false → argument_behind word ≡ None
no_option word plain = by_case (argument_behind word) refl
  where
    dashed : (it : Argument) → begins_with_dash (option_word it) ≡ true
    dashed argument.Module = refl
    dashed argument.Version = refl
    dashed argument.Kernel = refl
    dashed argument.Arch = refl

    by_case : (found : Option Argument) → argument_behind word ≡ found → argument_behind word ≡ None
    by_case None e = e
    by_case (Some it) e = absurd (true≢false (sym (ap begins_with_dash (option_from word it e) ∙ dashed it) ∙ plain))

pub package_no_option : (key : Key) → is_package key ≡ true → argument_behind (with_slash key.module key.version) ≡ None
package_no_option key h =
    let each = all_five (not (begins_with_dash key.module)) (is_nonempty key.module) (is_nonempty key.version) (not (has_slash key.module)) (not (has_slash key.version)) h in
    no_option (with_slash key.module key.version) (as_module key.module key.version each.1 ∙ not_true (begins_with_dash key.module) each.0)
  where
    as_module : (name version : Word) → is_nonempty name ≡ true → begins_with_dash (with_slash name version) ≡ begins_with_dash name
    as_module [] version e = absurd (true≢false (sym e))
    as_module (c ∷ name) version e = refl

pub bare_no_option : (name : Word) → is_bare_module name ≡ true → argument_behind name ≡ None
bare_no_option name h =
    let each = all_three (is_nonempty name) (not (begins_with_dash name)) (not (has_slash name)) h in
    no_option name (not_true (begins_with_dash name) each.1)
