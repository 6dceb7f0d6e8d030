-- What is seen of parts agrees, and can be completed to a line.
use Rattle.std.proofs.Common.{◌≡◌, Bool, true, false, not, ◌&&◌, ◌||◌, List, [], ◌∷◌, Option, Some, None, is_some, refl, sym, ap, ◌∙◌, subst, true≢false, codes}
use Rattle.std.specs.List.{list_all, flat_map}
use Rattle.kb_words.specs.declared.parts.DkmsAction.{DkmsAction}
use Rattle.kb_words.specs.declared.parts.DkmsAction.TheVariants as action
use Rattle.kb_words.specs.declared.parts.Argument.{Argument}
use Rattle.kb_words.specs.declared.parts.Argument.TheVariants as argument
use Rattle.kb_words.specs.declared.parts.Seen.{Seen}
use Rattle.kb_words.specs.Words.{Word, Part, Package, BareModule, Module, Version, Kernel, KernelArch, Arch, is_line_part, written, Line}
use Rattle.kb_words.specs.Reading.{nothing, with_part, part_behind, seen_after, given, takes, takes_word, takes_bare_module}
use Rattle.kb_words.proofs.PartLaws.{none_some, same_some, both, not_true, may_await, may_stand, takes_part, takes_behind, awaiting, Steps, Argued, Began, Stood, steps, line_after, Completes, Follows, FollowsSeen}

-- ---- what is seen agrees

-- A bare module stands only where the action takes one, and beside no version. A word is awaited only where there is
-- room for its part.
pub record Fits (seen : Seen) : Type 0 where
  pub name : seen.bare ≡ true → is_some seen.module ≡ true
  pub version : seen.bare ≡ true → seen.version ≡ None
  pub taken : seen.bare ≡ true → takes_bare_module seen.action ≡ true
  pub room : (it : Argument) → seen.awaited ≡ Some it → may_await seen it ≡ true

pub nothing_fits : (it : DkmsAction) → Fits (nothing it)
nothing_fits it = record { name = λ h. cc; version = λ h. refl; taken = λ h. cc; room = λ of h. absurd (none_some of h) }

neither : (a b : Bool) → (a || b) ≡ false → (a ≡ false) × (b ≡ false)
neither true b h = cc
neither false b h = (refl, h)

not_some : (o : Option Word) → is_some o ≡ false → o ≡ None
not_some None h = refl
not_some (Some x) h = cc

pub never : {T : Type 0} → (b : Bool) → b ≡ false → b ≡ true → T
never b f t = absurd (true≢false (sym t ∙ f))

-- what may stand in one word: neither the module nor the version is given, and the module isn't bare
pub record IsFree (seen : Seen) (part : Part) : Type 0 where
  pub no_module : is_some seen.module ≡ false
  pub no_version : is_some seen.version ≡ false
  pub no_bare : seen.bare ≡ false
  pub taken : takes_word seen.action part ≡ true

pub is_free : (seen : Seen) (part : Part) → may_stand seen part ≡ true → IsFree seen part
is_free seen part may =
    let each = both (not (given seen argument.Module || given seen argument.Version)) (takes_word seen.action part) may in
    let names = neither (given seen argument.Module) (given seen argument.Version) (not_true (given seen argument.Module || given seen argument.Version) each.0) in
    let versions = neither (is_some seen.version) seen.bare names.1 in
    record { no_module = names.0; no_version = versions.0; no_bare = versions.1; taken = each.1 }

pub free_may : (seen : Seen) (part : Part) → IsFree seen part → may_stand seen part ≡ true
free_may seen part free = (λ i. not (free.no_module i || (free.no_version i || free.no_bare i)) && free.taken i)

-- what a version needs
pub version_room : (seen : Seen) → may_await seen argument.Version ≡ true → (is_some seen.version ≡ false) × (seen.bare ≡ false)
version_room seen may =
    let each = both (takes seen.action argument.Version) (not (given seen argument.Version)) may in
    neither (is_some seen.version) seen.bare (not_true (given seen argument.Version) each.1)

-- a part that may stand keeps it
pub fits_on : (seen : Seen) (part : Part) → takes_part seen part ≡ true → Fits seen → Fits (with_part seen part)
fits_on seen part may fits = by_part part may
  where
    no_room : {T : Type 0} → (of : Argument) → None ≡ Some of → T
    no_room of h = absurd (none_some of h)

    by_part : (part : Part) → takes_part seen part ≡ true → Fits (with_part seen part)
    by_part (Package key) may =
        let free = is_free seen (Package key) may in
        record { name = λ h. refl; version = λ h. never seen.bare free.no_bare h; taken = λ h. never seen.bare free.no_bare h; room = λ of h. no_room of h }
    by_part (BareModule name) may =
        let free = is_free seen (BareModule name) may in
        record { name = λ h. refl; version = λ h. not_some seen.version free.no_version; taken = λ h. free.taken; room = λ of h. no_room of h }
    by_part (Module name) may = record { name = λ h. refl; version = fits.version; taken = fits.taken; room = λ of h. no_room of h }
    by_part (Version name) may =
        let room = version_room seen may in
        record { name = fits.name; version = λ h. never seen.bare room.1 h; taken = fits.taken; room = λ of h. no_room of h }
    by_part (Kernel name) may = record { name = fits.name; version = fits.version; taken = fits.taken; room = λ of h. no_room of h }
    by_part (KernelArch spot) may = record { name = fits.name; version = fits.version; taken = fits.taken; room = λ of h. no_room of h }
    by_part (Arch name) may = record { name = fits.name; version = fits.version; taken = fits.taken; room = λ of h. no_room of h }

-- so does an option with room for its part
awaiting_fits : (seen : Seen) (it : Argument) → may_await seen it ≡ true → Fits seen → Fits (awaiting seen it)
awaiting_fits seen it may fits = record {
  name = fits.name;
  version = fits.version;
  taken = fits.taken;
  room = λ of h. ap (may_await seen) (sym (same_some it of h)) ∙ may;
}

pub fits_after : (seen next : Seen) (word : Word) → seen_after seen word ≡ Some next → Fits seen → Fits next
fits_after seen next word is fits = by_step (steps seen next word is)
  where
    as_next : (made : Seen) → Fits made → next ≡ made → Fits next
    as_next made fits_made same = subst Fits (sym same) fits_made

    by_step : Steps seen word next → Fits next
    by_step (Argued it at same) = as_next (with_part seen (part_behind it word)) (fits_on seen (part_behind it word) (takes_behind seen it word ∙ fits.room it at) fits) same
    by_step (Began it at none may same) = as_next (awaiting seen it) (awaiting_fits seen it may fits) same
    by_step (Stood part of none may same) = as_next (with_part seen part) (fits_on seen part may fits) same

-- ---- whatever was seen can be completed

record CanEnd (seen : Seen) : Type 0 where
  parts : List Part
  good : list_all is_line_part parts ≡ true
  line : Line
  line_is : line_after seen parts ≡ Some line

abbrev seen_as : DkmsAction → Option Argument → Option Word → Option Word → Bool → List Word → List Word → Option Word → Seen
seen_as it awaited name version bare kernels arches bad = record {
  action = it;
  awaited = awaited;
  «module» = name;
  version = version;
  bare = bare;
  kernels = kernels;
  arches = arches;
  bad = bad;
}

can_end : (seen : Seen) → Fits seen → CanEnd seen
can_end seen fits = by_fields seen.action seen.awaited seen.module seen.version seen.bare seen.kernels seen.arches seen.bad fits
  where
    a_module : Part
    a_module = Module (codes "a")

    a_version : Part
    a_version = Version (codes "1")

    by_fields : (it : DkmsAction) (awaited : Option Argument) (name version : Option Word) (bare : Bool) (kernels arches : List Word) (bad : Option Word)
        → Fits (seen_as it awaited name version bare kernels arches bad) → CanEnd (seen_as it awaited name version bare kernels arches bad)
    by_fields action.Add awaited (Some name) (Some version) bare kernels arches bad fits = record { parts = []; good = refl; line = _; line_is = refl }
    by_fields action.Add awaited (Some name) None false kernels arches bad fits = record { parts = a_version ∷ []; good = refl; line = _; line_is = refl }
    by_fields action.Add awaited (Some name) None true kernels arches bad fits = absurd (true≢false (sym (fits.taken refl)))
    by_fields action.Add awaited None (Some version) bare kernels arches bad fits = record { parts = a_module ∷ []; good = refl; line = _; line_is = refl }
    by_fields action.Add awaited None None false kernels arches bad fits = record { parts = a_module ∷ a_version ∷ []; good = refl; line = _; line_is = refl }
    by_fields action.Add awaited None None true kernels arches bad fits = absurd (true≢false (sym (fits.taken refl)))
    by_fields action.Status awaited (Some name) (Some version) bare kernels arches bad fits = record { parts = []; good = refl; line = _; line_is = refl }
    by_fields action.Status awaited name None bare kernels arches bad fits = record { parts = []; good = refl; line = _; line_is = refl }
    by_fields action.Status awaited None (Some version) bare kernels arches bad fits = record { parts = a_module ∷ []; good = refl; line = _; line_is = refl }

pub parts_completed : (seen : Seen) → Fits seen → (words : List Word) × (line : Line) × FollowsSeen seen words line
parts_completed seen fits = by_argument seen.awaited refl
  where
    whole : (seen : Seen) (end : CanEnd seen) → Completes seen (flat_map written end.parts) end.line
    whole seen end = record { parts = end.parts; are = refl; good = end.good; line_is = end.line_is }

    by_argument : (it : Option Argument) → seen.awaited ≡ it → (words : List Word) × (line : Line) × Follows it seen words line
    by_argument None at =
        let end = can_end seen fits in
        (flat_map written end.parts, end.line, whole seen end)
    by_argument (Some it) at =
        let word = codes "a" in
        let part = part_behind it word in
        let end = can_end (with_part seen part) (fits_on seen part (takes_behind seen it word ∙ fits.room it at) fits) in
        (word ∷ flat_map written end.parts, end.line, whole (with_part seen part) end)
