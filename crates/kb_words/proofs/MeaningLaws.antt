-- What the parts of each action mean.
use Rattle.std.proofs.Common.{◌≡◌, Bool, true, false, cond, not, ◌&&◌, ◌||◌, List, [], ◌∷◌, Option, Some, None, is_some, refl, sym, ap, ◌∙◌}
use Rattle.std.specs.Option.{option_to_list}
use Rattle.std.specs.List.{list_all, list_any, filter_map}
use Rattle.kb_world.specs.declared.job.Filter.{Filter}
use Rattle.kb_world.specs.declared.job.Key.{Key}
use Rattle.kb_words.specs.declared.command.Command.{Command}
use Rattle.kb_words.specs.declared.command.Command.TheVariants as command
use Rattle.kb_words.specs.declared.parts.DkmsAction.{DkmsAction}
use Rattle.kb_words.specs.declared.parts.DkmsAction.TheVariants as action
use Rattle.kb_words.specs.declared.parts.Seen.{Seen}
use Rattle.kb_words.specs.Words.{Word, Part, Package, BareModule, Module, Version, Kernel, KernelArch, Arch, may_follow, is_bare, module_in, version_in, kernel_in, arch_in, first_bad, NamePackage, NameFilter, Line, ForCommand}
use Rattle.kb_words.specs.Reading.{nothing, add_of, command_by, line_for}
use Rattle.kb_words.proofs.PartLaws.{none_some, same_some, both, line_after}
use Rattle.kb_words.proofs.FitLaws.{nothing_fits, never}
use Rattle.kb_words.proofs.GatherLaws.{Gathers, Ends, all_out, all_in}

-- ---- what the parts of each action mean

-- behind this action these parts mean that, and are this line
pub record IsMeaning (it : DkmsAction) (IsMeant : List Part → Type 0) (asked : Command) (parts : List Part) (line : Line) : Type 0 where
  pub follow : list_all (may_follow it) parts ≡ true
  pub meant : IsMeant parts
  pub line_is : line ≡ ForCommand asked (first_bad parts)

abbrev pub MeansAdd : List Part → Line → Type 0
MeansAdd parts line = (key : Key) × IsMeaning action.Add (λ given. NamePackage given key) (command.Add key) parts line

abbrev pub MeansStatus : List Part → Line → Type 0
MeansStatus parts line = (filter : Filter) × IsMeaning action.Status (λ given. NameFilter given filter) (command.Status filter) parts line

-- the line of a command that is there
line_there : (bad : Option Word) (it : Command) (line : Line) → line_for bad (Some it) ≡ Some line → line ≡ ForCommand it bad
line_there bad it line h = sym (same_some (ForCommand it bad) line h)

pub add_out : (parts : List Part) (line : Line) → line_after (nothing action.Add) parts ≡ Some line → MeansAdd parts line
add_out parts line is =
    let out = all_out parts (nothing action.Add) line (nothing_fits action.Add) is in
    by_names out out.last.module out.last.version refl refl (ap (λ it. line_for out.last.bad (command_by it out.last)) out.gathers.action ∙ out.line_is)
  where
    by_names : (out : Ends (nothing action.Add) parts line) (name version : Option Word) → out.last.module ≡ name → out.last.version ≡ version → line_for out.last.bad (add_of name version) ≡ Some line → MeansAdd parts line
    by_names out (Some name) (Some version) en ev h =
        let key : Key = record { «module» = name; version = version } in (
          key,
          record {
            follow = out.gathers.follow;
            meant = record { module_once = out.gathers.name ∙ ap option_to_list en; version_once = out.gathers.version ∙ ap option_to_list ev };
            line_is = line_there out.last.bad (command.Add key) line h ∙ ap (ForCommand (command.Add key)) (sym out.gathers.bad);
          },
        )
    by_names out None version en ev h = absurd (none_some line h)
    by_names out (Some name) None en ev h = absurd (none_some line h)

-- what was seen behind all parts
abbrev seen_of : DkmsAction → Option Word → Option Word → List Part → Seen
seen_of it name version parts = record {
  action = it;
  awaited = None;
  «module» = name;
  version = version;
  bare = list_any is_bare parts;
  kernels = filter_map kernel_in parts;
  arches = filter_map arch_in parts;
  bad = first_bad parts;
}

gathers_all : (it : DkmsAction) (name version : Option Word) (parts : List Part) → list_all (may_follow it) parts ≡ true → filter_map module_in parts ≡ option_to_list name
    → filter_map version_in parts ≡ option_to_list version → Gathers (nothing it) parts (seen_of it name version parts)
gathers_all it name version parts follow names versions = record {
  action = refl;
  follow = follow;
  name = names;
  version = versions;
  bare = refl;
  kernels = refl;
  arches = refl;
  bad = refl;
}

-- no bare module stands among the parts of a package
no_bare : (parts : List Part) → list_all (may_follow action.Add) parts ≡ true → list_any is_bare parts ≡ false
no_bare [] h = refl
no_bare (part ∷ rest) h =
    let each = both (may_follow action.Add part) (list_all (may_follow action.Add) rest) h in
    (λ i. whole part each.0 i || no_bare rest each.1 i)
  where
    whole : (part : Part) → may_follow action.Add part ≡ true → is_bare part ≡ false
    whole (Package key) h = refl
    whole (BareModule name) h = cc
    whole (Module name) h = refl
    whole (Version name) h = refl
    whole (Kernel name) h = refl
    whole (KernelArch spot) h = refl
    whole (Arch name) h = refl

pub add_in : (parts : List Part) (key : Key) → list_all (may_follow action.Add) parts ≡ true → NamePackage parts key → line_after (nothing action.Add) parts ≡ Some (ForCommand (command.Add key) (first_bad parts))
add_in parts key follow named =
    all_in parts (nothing action.Add) (seen_of action.Add (Some key.module) (Some key.version) parts) (nothing_fits action.Add) (λ h. never (list_any is_bare parts) (no_bare parts follow) h)
    (gathers_all action.Add (Some key.module) (Some key.version) parts follow named.module_once named.version_once)

pub status_out : (parts : List Part) (line : Line) → line_after (nothing action.Status) parts ≡ Some line → MeansStatus parts line
status_out parts line is =
    let out = all_out parts (nothing action.Status) line (nothing_fits action.Status) is in
    let last = out.last in
    let filter : Filter = record { «module» = last.module; version = last.version; kernels = last.kernels; arches = last.arches } in
    let lone = is_some last.version && not (is_some last.module) in
    let found = by_lone (is_some last.version && not (is_some last.module)) last.bad filter (ap (λ it. line_for last.bad (command_by it last)) out.gathers.action ∙ out.line_is) in (
      filter,
      record {
        follow = out.gathers.follow;
        meant = record {
          module_at_most_once = out.gathers.name;
          version_at_most_once = out.gathers.version;
          version_of_module = λ none. no_version last.version last.module found.0 none;
          bare_alone = λ bare. out.fits.version (sym out.gathers.bare ∙ bare);
          kernels = sym out.gathers.kernels;
          arches = sym out.gathers.arches;
        };
        line_is = line_there last.bad (command.Status filter) line found.1 ∙ ap (ForCommand (command.Status filter)) (sym out.gathers.bad);
      },
    )
  where
    by_lone : (lone : Bool) (bad : Option Word) (filter : Filter) → line_for bad (cond lone None (Some (command.Status filter))) ≡ Some line → (lone ≡ false) × (line_for bad (Some (command.Status filter)) ≡ Some line)
    by_lone true bad filter h = absurd (none_some line h)
    by_lone false bad filter h = (refl, h)

    no_version : (version name : Option Word) → (is_some version && not (is_some name)) ≡ false → name ≡ None → version ≡ None
    no_version None name h none = refl
    no_version (Some x) None h none = cc
    no_version (Some x) (Some y) h none = cc

pub status_in : (parts : List Part) (filter : Filter) → list_all (may_follow action.Status) parts ≡ true → NameFilter parts filter
    → line_after (nothing action.Status) parts ≡ Some (ForCommand (command.Status filter) (first_bad parts))
status_in parts filter follow named =
    all_in parts (nothing action.Status) (seen_of action.Status filter.module filter.version parts) (nothing_fits action.Status) named.bare_alone
    (gathers_all action.Status filter.module filter.version parts follow named.module_at_most_once named.version_at_most_once)
    ∙ ap (λ b. line_for (first_bad parts) (cond b None (Some (command.Status given)))) (not_lone filter.version filter.module named.version_of_module)
    ∙ (λ i. Some (ForCommand (command.Status (record { «module» = filter.module; version = filter.version; kernels = sym named.kernels i; arches = sym named.arches i })) (first_bad parts)))
  where
    given : Filter
    given = record { «module» = filter.module; version = filter.version; kernels = filter_map kernel_in parts; arches = filter_map arch_in parts }

    not_lone : (version name : Option Word) → (name ≡ None → version ≡ None) → (is_some version && not (is_some name)) ≡ false
    not_lone None name h = refl
    not_lone (Some x) (Some y) h = refl
    not_lone (Some x) None h = absurd (none_some x (sym (h refl)))
