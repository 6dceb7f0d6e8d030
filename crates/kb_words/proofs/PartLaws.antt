-- What the words behind an action leave open, and how they are completed word by word.
use Rattle.std.proofs.Common.{◌≡◌, ◌⊎◌, Bool, true, false, cond, not, ◌&&◌, ◌||◌, List, [], ◌∷◌, ◌++◌, Option, Some, None, refl, sym, ap, ◌∙◌, subst, inl, inr, true≢false}
use Rattle.std.specs.List.{list_all, flat_map}
use Rattle.kb_world.specs.declared.job.Key.{Key}
use Rattle.kb_words.specs.declared.parts.Argument.{Argument}
use Rattle.kb_words.specs.declared.parts.Argument.TheVariants as argument
use Rattle.kb_words.specs.declared.parts.Seen.{Seen}
use Rattle.kb_words.specs.Words.{Word, Part, Package, BareModule, Module, Version, Kernel, KernelArch, Arch, has_slash, with_slash, written, is_bare_module, is_line_part, Line}
use Rattle.kb_words.specs.Reading.{package_split, package_or_bare, part_in, argument_behind, part_behind, spot_split, with_part, given, takes, takes_word, with_word, begun, gone_on, seen_after, command_of, line_for, ended_behind, ended_parts}
use Rattle.kb_words.proofs.SlashLaws.{before_is, after_is, plain_front, slash_between, split_again}
use Rattle.kb_words.proofs.PackageLaws.{package_from, package_into, bare_no_package, option_word, option_into, option_from, package_no_option, bare_no_option}

-- ---- lists and options

pub none_some : {T : Type 0} → (x : T) → None ≡ Some x → ⊥
none_some x h = cc

pub same_some : {T : Type 0} → (x y : T) → Some x ≡ Some y → x ≡ y
same_some x y h = cc

pub heads : {T : Type 0} → (x y : T) (xs ys : List T) → x ∷ xs ≡ y ∷ ys → x ≡ y
heads x y xs ys h = cc

pub tails : {T : Type 0} → (x y : T) (xs ys : List T) → x ∷ xs ≡ y ∷ ys → xs ≡ ys
tails x y xs ys h = cc

pub no_head : {T : Type 0} → (x : T) (xs : List T) → x ∷ xs ≡ [] → ⊥
no_head x xs h = cc

-- what is found only where a test holds
pub found_where : {T : Type 0} → (b : Bool) (found : Option T) (x : T) → cond b found None ≡ Some x → (b ≡ true) × (found ≡ Some x)
found_where true found x h = (refl, h)
found_where false found x h = absurd (none_some x h)

pub not_true : (b : Bool) → not b ≡ true → b ≡ false
not_true true h = cc
not_true false h = refl

pub both : (a b : Bool) → (a && b) ≡ true → (a ≡ true) × (b ≡ true)
both true true h = (refl, refl)
both a b h = absurd (true≢false (sym h))

-- ---- each part of a command line is one word, or an option and a word

record IsOneWord (part : Part) : Type 0 where
  word : Word
  is : written part ≡ word ∷ []
  no_option : argument_behind word ≡ None
  read : part_in word ≡ Some part

record IsTwoWords (part : Part) : Type 0 where
  it : Argument
  word : Word
  is : part ≡ part_behind it word

shape : (part : Part) → is_line_part part ≡ true → IsOneWord part ⊎ IsTwoWords part
shape (Package key) good =
    let word = with_slash key.module key.version in
    inl (record { word = word; is = refl; no_option = package_no_option key good; read = ap (package_or_bare word) (package_into key good) })
shape (BareModule name) good =
    inl (record {
      word = name;
      is = refl;
      no_option = bare_no_option name good;
      read = ap (package_or_bare name) (bare_no_package name good) ∙ ap (λ b. cond b (Some (BareModule name)) None) good;
    })
shape (Module name) good = inr (record { it = argument.Module; word = name; is = refl })
shape (Version name) good = inr (record { it = argument.Version; word = name; is = refl })
shape (Kernel name) good = inr (record { it = argument.Kernel; word = name; is = sym (ap (λ b. cond b (KernelArch (spot_split name)) (Kernel name)) (not_true (has_slash name) good)) })
shape (KernelArch spot) good =
    let word = with_slash spot.kernel spot.arch in
    let plain = not_true (has_slash spot.kernel) good in
    inr (record {
      it = argument.Kernel;
      word = word;
      is = sym (ap (λ b. cond b (KernelArch (spot_split word)) (Kernel word)) (slash_between spot.kernel spot.arch)
          ∙ ap KernelArch (λ i. record { kernel = before_is spot.kernel spot.arch plain i; arch = after_is spot.kernel spot.arch plain i }));
    })
shape (Arch name) good = inr (record { it = argument.Arch; word = name; is = refl })

-- the part that an option and the word behind it are
record IsBehind (it : Argument) (word : Word) (part : Part) : Type 0 where
  good : is_line_part part ≡ true
  is : written part ≡ option_word it ∷ word ∷ []

behind : (it : Argument) (word : Word) → IsBehind it word (part_behind it word)
behind argument.Module word = record { good = refl; is = refl }
behind argument.Version word = record { good = refl; is = refl }
behind argument.Arch word = record { good = refl; is = refl }
behind argument.Kernel word = by_case (has_slash word) refl
  where
    by_case : (b : Bool) → has_slash word ≡ b → IsBehind argument.Kernel word (cond b (KernelArch (spot_split word)) (Kernel word))
    by_case true e = record { good = ap not (plain_front word); is = ap (λ back. option_word argument.Kernel ∷ back ∷ []) (sym (split_again word e)) }
    by_case false e = record { good = ap not e; is = refl }

-- the part that a word is by itself
pub record IsPartIn (word : Word) (part : Part) : Type 0 where
  good : is_line_part part ≡ true
  is : written part ≡ word ∷ []

one_word : (word : Word) (part : Part) → part_in word ≡ Some part → IsPartIn word part
one_word word part h = by_case (package_split word) refl h
  where
    as_this : (known : Part) → IsPartIn word known → known ≡ part → IsPartIn word part
    as_this known of same = subst (IsPartIn word) same of

    by_case : (found : Option Key) → package_split word ≡ found → package_or_bare word found ≡ Some part → IsPartIn word part
    by_case (Some key) e h =
        let from = package_from word key e in
        as_this (Package key) (record { good = from.0; is = ap (λ w. w ∷ []) (sym from.1) }) (same_some (Package key) part h)
    by_case None e h =
        let bare = found_where (is_bare_module word) (Some (BareModule word)) part h in
        as_this (BareModule word) (record { good = bare.0; is = refl }) (same_some (BareModule word) part bare.1)

-- ---- whole parts

abbrev pub may_await : Seen → Argument → Bool
may_await seen it = takes seen.action it && not (given seen it)

abbrev pub may_stand : Seen → Part → Bool
may_stand seen part = not (given seen argument.Module || given seen argument.Version) && takes_word seen.action part

-- the part may stand behind those that were seen
abbrev pub takes_part : Seen → Part → Bool
takes_part seen (Package key) = may_stand seen (Package key)
takes_part seen (BareModule name) = may_stand seen (BareModule name)
takes_part seen (Module name) = may_await seen argument.Module
takes_part seen (Version name) = may_await seen argument.Version
takes_part seen (Kernel name) = may_await seen argument.Kernel
takes_part seen (KernelArch spot) = may_await seen argument.Kernel
takes_part seen (Arch name) = may_await seen argument.Arch

-- the line that the parts are, behind those that were seen
abbrev pub line_after : Seen → List Part → Option Line
line_after seen [] = line_for seen.bad (command_of seen)
line_after seen (part ∷ rest) = cond (takes_part seen part) (line_after (with_part seen part) rest) None

-- Behind what was seen these words are parts that make the line whole.
pub record Completes (seen : Seen) (words : List Word) (line : Line) : Type 0 where
  pub parts : List Part
  pub are : words ≡ flat_map written parts
  pub good : list_all is_line_part parts ≡ true
  pub line_is : line_after seen parts ≡ Some line

-- where the last word was an option, the first is its argument
abbrev pub Follows : Option Argument → Seen → List Word → Line → Type 0
Follows None seen words line = Completes seen words line
Follows (Some it) seen [] line = ⊥
Follows (Some it) seen (word ∷ rest) line = Completes (with_part seen (part_behind it word)) rest line

abbrev pub FollowsSeen : Seen → List Word → Line → Type 0
FollowsSeen seen words line = Follows seen.awaited seen words line

-- behind a whole part no word is awaited
none_awaited : (seen : Seen) (part : Part) → (with_part seen part).awaited ≡ None
none_awaited seen (Package key) = refl
none_awaited seen (BareModule name) = refl
none_awaited seen (Module name) = refl
none_awaited seen (Version name) = refl
none_awaited seen (Kernel name) = refl
none_awaited seen (KernelArch spot) = refl
none_awaited seen (Arch name) = refl

behind_part : (seen : Seen) (part : Part) (words : List Word) (line : Line) → Completes (with_part seen part) words line → FollowsSeen (with_part seen part) words line
behind_part seen part words line c = subst (λ it. Follows it (with_part seen part) words line) (sym (none_awaited seen part)) c

within_part : (seen : Seen) (part : Part) (words : List Word) (line : Line) → FollowsSeen (with_part seen part) words line → Completes (with_part seen part) words line
within_part seen part words line f = subst (λ it. Follows it (with_part seen part) words line) (none_awaited seen part) f

-- which word is awaited doesn't count behind a whole part
abbrev pub awaiting : Seen → Argument → Seen
awaiting seen it = record seen { awaited = Some it }

with_awaiting : (seen : Seen) (it : Argument) (part : Part) → with_part (awaiting seen it) part ≡ with_part seen part
with_awaiting seen it (Package key) = refl
with_awaiting seen it (BareModule name) = refl
with_awaiting seen it (Module name) = refl
with_awaiting seen it (Version name) = refl
with_awaiting seen it (Kernel name) = refl
with_awaiting seen it (KernelArch spot) = refl
with_awaiting seen it (Arch name) = refl

pub takes_behind : (seen : Seen) (it : Argument) (word : Word) → takes_part seen (part_behind it word) ≡ may_await seen it
takes_behind seen argument.Module word = refl
takes_behind seen argument.Version word = refl
takes_behind seen argument.Arch word = refl
takes_behind seen argument.Kernel word = by_case (has_slash word)
  where
    by_case : (b : Bool) → takes_part seen (cond b (KernelArch (spot_split word)) (Kernel word)) ≡ may_await seen argument.Kernel
    by_case true = refl
    by_case false = refl

two_words : (first second word : Word) → first ∷ second ∷ [] ≡ word ∷ [] → ⊥
two_words first second word h = cc

takes_one_word : (seen : Seen) (part : Part) (word : Word) → written part ≡ word ∷ [] → takes_part seen part ≡ may_stand seen part
takes_one_word seen (Package key) word is = refl
takes_one_word seen (BareModule name) word is = refl
takes_one_word seen (Module name) word is = absurd (two_words (option_word argument.Module) name word is)
takes_one_word seen (Version name) word is = absurd (two_words (option_word argument.Version) name word is)
takes_one_word seen (Kernel name) word is = absurd (two_words (option_word argument.Kernel) name word is)
takes_one_word seen (KernelArch spot) word is = absurd (two_words (option_word argument.Kernel) (with_slash spot.kernel spot.arch) word is)
takes_one_word seen (Arch name) word is = absurd (two_words (option_word argument.Arch) name word is)

-- ---- a word more

abbrev GoesOn : Option Argument → Seen → Word → List Word → Line → Type 0
GoesOn it seen word rest line = (next : Seen) × (gone_on seen word it ≡ Some next) × FollowsSeen next rest line

word_goes : (seen : Seen) (part : Part) → may_stand seen part ≡ true → with_word seen (Some part) ≡ Some (with_part seen part)
word_goes seen part may =
    let each = both (not (given seen argument.Module || given seen argument.Version)) (takes_word seen.action part) may in
    let free = not_true (given seen argument.Module || given seen argument.Version) each.0 in
    (λ i. cond (free i) None (cond (each.1 i) (Some (with_part seen part)) None))

-- the first word of a part, which stands behind those that were seen
begins_part : (seen : Seen) (part : Part) (more : List Word) (word : Word) (rest : List Word) (line : Line) → word ∷ rest ≡ written part ++ more → takes_part seen part ≡ true
    → Completes (with_part seen part) more line → IsOneWord part ⊎ IsTwoWords part → GoesOn None seen word rest line
begins_part seen part more word rest line are takes c (inl one) =
    let both_are : word ∷ rest ≡ one.word ∷ more = are ∙ ap (λ words. words ++ more) one.is in
    let at = heads word one.word rest more both_are in (
      with_part seen part,
      ap (begun seen word) (ap argument_behind at ∙ one.no_option) ∙ ap (with_word seen) (ap part_in at ∙ one.read) ∙ word_goes seen part (sym (takes_one_word seen part one.word one.is) ∙ takes),
      subst (λ words. FollowsSeen (with_part seen part) words line) (sym (tails word one.word rest more both_are)) (behind_part seen part more line c),
    )
begins_part seen part more word rest line are takes c (inr two) =
    let of = behind two.it two.word in
    let both_are : word ∷ rest ≡ option_word two.it ∷ two.word ∷ more = are ∙ ap (λ words. words ++ more) (ap written two.is ∙ of.is) in
    let at = heads word (option_word two.it) rest (two.word ∷ more) both_are in
    let may : may_await seen two.it ≡ true = sym (takes_behind seen two.it two.word) ∙ sym (ap (takes_part seen) two.is) ∙ takes in
    let next = awaiting seen two.it in
    let last : Completes (with_part next (part_behind two.it two.word)) more line =
    subst (λ s. Completes s more line) (ap (with_part seen) two.is ∙ sym (with_awaiting seen two.it (part_behind two.it two.word))) c in (
      next,
      ap (begun seen word) (ap argument_behind at ∙ option_into two.it) ∙ ap (λ b. cond b (Some next) None) may,
      subst (λ words. Follows (Some two.it) next words line) (sym (tails word (option_word two.it) rest (two.word ∷ more) both_are)) last,
    )

goes_by : (seen : Seen) (parts : List Part) (word : Word) (rest : List Word) (line : Line) → word ∷ rest ≡ flat_map written parts → list_all is_line_part parts ≡ true
    → line_after seen parts ≡ Some line → GoesOn None seen word rest line
goes_by seen [] word rest line are good is = absurd (no_head word rest are)
goes_by seen (part ∷ parts) word rest line are good is =
    let goods = both (is_line_part part) (list_all is_line_part parts) good in
    let found = found_where (takes_part seen part) (line_after (with_part seen part) parts) line is in
    begins_part seen part (flat_map written parts) word rest line are found.0 (record { parts = parts; are = refl; good = goods.1; line_is = found.1 }) (shape part goods.0)

pub parts_go_on : (seen : Seen) (word : Word) (rest : List Word) (line : Line) → FollowsSeen seen (word ∷ rest) line → (next : Seen) × (seen_after seen word ≡ Some next) × FollowsSeen next rest line
parts_go_on seen word rest line follows = by_argument seen.awaited follows
  where
    by_argument : (it : Option Argument) → Follows it seen (word ∷ rest) line → GoesOn it seen word rest line
    by_argument None c = goes_by seen c.parts word rest line c.are c.good c.line_is
    by_argument (Some it) c =
        let part = part_behind it word in
        (with_part seen part, refl, behind_part seen part rest line c)

-- ---- a word less

-- what one word more did: it was awaited, or an option, or a part by itself
pub data Steps (seen : Seen) (word : Word) (next : Seen) : Type 0 where
  Argued : (it : Argument) → seen.awaited ≡ Some it → next ≡ with_part seen (part_behind it word) → Steps seen word next
  Began : (it : Argument) → word ≡ option_word it → seen.awaited ≡ None → may_await seen it ≡ true → next ≡ awaiting seen it → Steps seen word next
  Stood : (part : Part) → IsPartIn word part → seen.awaited ≡ None → takes_part seen part ≡ true → next ≡ with_part seen part → Steps seen word next

pub steps : (seen next : Seen) (word : Word) → seen_after seen word ≡ Some next → Steps seen word next
steps seen next word is = by_argument seen.awaited refl is
  where
    as_next : (made : Seen) → Some made ≡ Some next → next ≡ made
    as_next made e = sym (same_some made next e)

    stands : (given takes : Bool) (found : Seen) → cond given None (cond takes (Some found) None) ≡ Some next → ((not given && takes) ≡ true) × (Some found ≡ Some next)
    stands true takes found h = absurd (none_some next h)
    stands false true found h = (refl, h)
    stands false false found h = absurd (none_some next h)

    by_part : (found : Option Part) → seen.awaited ≡ None → part_in word ≡ found → with_word seen found ≡ Some next → Steps seen word next
    by_part None none at h = absurd (none_some next h)
    by_part (Some part) none at h =
        let of = one_word word part at in
        let found = stands (given seen argument.Module || given seen argument.Version) (takes_word seen.action part) (with_part seen part) h in
        Stood part of none (takes_one_word seen part word of.is ∙ found.0) (as_next (with_part seen part) found.1)

    by_option : (it : Option Argument) → seen.awaited ≡ None → argument_behind word ≡ it → begun seen word it ≡ Some next → Steps seen word next
    by_option None none at h = by_part (part_in word) none refl h
    by_option (Some it) none at h =
        let found = found_where (may_await seen it) (Some (awaiting seen it)) next h in
        Began it (option_from word it at) none found.0 (as_next (awaiting seen it) found.1)

    by_argument : (it : Option Argument) → seen.awaited ≡ it → gone_on seen word it ≡ Some next → Steps seen word next
    by_argument None none h = by_option (argument_behind word) none refl h
    by_argument (Some it) at h = Argued it at (as_next (with_part seen (part_behind it word)) h)

-- with a whole part in front
part_comes : (seen : Seen) (part : Part) (words rest : List Word) (line : Line) → written part ≡ words → is_line_part part ≡ true → takes_part seen part ≡ true
    → Completes (with_part seen part) rest line → Completes seen (words ++ rest) line
part_comes seen part words rest line is good takes c = record {
  parts = part ∷ c.parts;
  are = ap (λ first. first ++ rest) (sym is) ∙ ap (λ last. written part ++ last) c.are;
  good = (λ i. good i && c.good i);
  line_is = ap (λ b. cond b (line_after (with_part seen part) c.parts) None) takes ∙ c.line_is;
}

-- with an option in front, behind which its word is awaited
option_comes : (seen : Seen) (it : Argument) (word : Word) (rest : List Word) (line : Line) → word ≡ option_word it → may_await seen it ≡ true
    → Follows (Some it) (awaiting seen it) rest line → Completes seen (word ∷ rest) line
option_comes seen it word [] line at may c = absurd c
option_comes seen it word (given ∷ rest) line at may c =
    let part = part_behind it given in
    let of = behind it given in
    part_comes seen part (word ∷ given ∷ []) rest line (of.is ∙ ap (λ first. first ∷ given ∷ []) (sym at)) of.good (takes_behind seen it given ∙ may)
    (subst (λ s. Completes s rest line) (with_awaiting seen it part) c)

pub parts_come_from : (seen next : Seen) (word : Word) (rest : List Word) (line : Line) → seen_after seen word ≡ Some next → FollowsSeen next rest line → FollowsSeen seen (word ∷ rest) line
parts_come_from seen next word rest line is follows = by_step (steps seen next word is)
  where
    behind_this : (made : Seen) → next ≡ made → FollowsSeen made rest line
    behind_this made same = subst (λ s. FollowsSeen s rest line) same follows

    at_awaited : (it : Option Argument) → seen.awaited ≡ it → Follows it seen (word ∷ rest) line → FollowsSeen seen (word ∷ rest) line
    at_awaited it at f = subst (λ o. Follows o seen (word ∷ rest) line) (sym at) f

    by_step : Steps seen word next → FollowsSeen seen (word ∷ rest) line
    by_step (Argued it at same) =
        let part = part_behind it word in
        at_awaited (Some it) at (within_part seen part rest line (behind_this (with_part seen part) same))
    by_step (Began it at none may same) = at_awaited None none (option_comes seen it word rest line at may (behind_this (awaiting seen it) same))
    by_step (Stood part of none may same) =
        at_awaited None none (part_comes seen part (word ∷ []) rest line of.is of.good may (within_part seen part rest line (behind_this (with_part seen part) same)))

-- ---- no word more

pub parts_end : (seen : Seen) (line : Line) → ended_parts seen ≡ Some line → FollowsSeen seen [] line
parts_end seen line is = by_argument seen.awaited is
  where
    by_argument : (it : Option Argument) → ended_behind it seen ≡ Some line → Follows it seen [] line
    by_argument None h = record { parts = []; are = refl; good = refl; line_is = h }
    by_argument (Some it) h = absurd (none_some line h)

no_words : (part : Part) (more : List Word) → [] ≡ written part ++ more → ⊥
no_words (Package key) more h = cc
no_words (BareModule name) more h = cc
no_words (Module name) more h = cc
no_words (Version name) more h = cc
no_words (Kernel name) more h = cc
no_words (KernelArch spot) more h = cc
no_words (Arch name) more h = cc

pub parts_ended : (seen : Seen) (line : Line) → FollowsSeen seen [] line → ended_parts seen ≡ Some line
parts_ended seen line follows = by_argument seen.awaited follows
  where
    by_parts : (parts : List Part) → [] ≡ flat_map written parts → line_after seen parts ≡ Some line → line_for seen.bad (command_of seen) ≡ Some line
    by_parts [] are is = is
    by_parts (part ∷ parts) are is = absurd (no_words part (flat_map written parts) are)

    by_argument : (it : Option Argument) → Follows it seen [] line → ended_behind it seen ≡ Some line
    by_argument None c = by_parts c.parts c.are c.line_is
    by_argument (Some it) c = absurd c
