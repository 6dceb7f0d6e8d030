-- What the walk gathers of parts is what they name.
use Rattle.std.proofs.Common.{◌≡◌, Bool, true, false, cond, not, ◌&&◌, ◌||◌, List, [], ◌∷◌, ◌++◌, Option, Some, None, is_some, refl, sym, ap, ◌∙◌, true≢false, append_assoc}
use Rattle.std.proofs.lemmas.List.{append-nil}
use Rattle.std.specs.Option.{option_or, option_to_list}
use Rattle.std.specs.List.{list_all, list_any, filter_map}
use Rattle.kb_world.specs.Names.{is_word, is_version, is_kernel, is_arch}
use Rattle.kb_world.specs.declared.job.Key.{Key}
use Rattle.kb_world.specs.declared.job.Spot.{Spot}
use Rattle.kb_words.specs.declared.command.Command.TheVariants as command
use Rattle.kb_words.specs.declared.parts.DkmsAction.{DkmsAction}
use Rattle.kb_words.specs.declared.parts.DkmsAction.TheVariants as action
use Rattle.kb_words.specs.declared.parts.Argument.TheVariants as argument
use Rattle.kb_words.specs.declared.parts.Seen.{Seen}
use Rattle.kb_words.specs.Words.{Word, Part, Package, BareModule, Module, Version, Kernel, KernelArch, Arch, may_follow, is_bare, module_in, version_in, kernel_in, arch_in, first_bad, if_it_breaks, Line}
use Rattle.kb_words.specs.Reading.{with_part, given, takes, takes_bare_module, add_of, command_by, command_of, line_for}
use Rattle.kb_words.proofs.PartLaws.{found_where, both, takes_part, line_after}
use Rattle.kb_words.proofs.FitLaws.{Fits, fits_on, is_free, free_may, version_room}

-- ---- what the parts add to what was seen

pub record Gathers (seen : Seen) (parts : List Part) (last : Seen) : Type 0 where
  pub action : seen.action ≡ last.action
  pub follow : list_all (may_follow seen.action) parts ≡ true
  pub name : option_to_list seen.module ++ filter_map module_in parts ≡ option_to_list last.module
  pub version : option_to_list seen.version ++ filter_map version_in parts ≡ option_to_list last.version
  pub bare : (seen.bare || list_any is_bare parts) ≡ last.bare
  pub kernels : seen.kernels ++ filter_map kernel_in parts ≡ last.kernels
  pub arches : seen.arches ++ filter_map arch_in parts ≡ last.arches
  pub bad : option_or seen.bad (first_bad parts) ≡ last.bad

or_or : {T : Type 0} → (a b c : Option T) → option_or (option_or a b) c ≡ option_or a (option_or b c)
or_or None b c = refl
or_or (Some x) b c = refl

or_or_or : {T : Type 0} → (a b c d : Option T) → option_or (option_or (option_or a b) c) d ≡ option_or a (option_or (option_or b c) d)
or_or_or None b c d = refl
or_or_or (Some x) b c d = refl

or_none : {T : Type 0} → (a : Option T) → option_or a None ≡ a
or_none None = refl
or_none (Some x) = refl

or_false : (b : Bool) → (b || false) ≡ b
or_false true = refl
or_false false = refl

-- a name in front of others, where there was none
in_front : (known : Option Word) (name : Word) (more : List Word) → is_some known ≡ false → option_to_list known ++ name ∷ more ≡ name ∷ more
in_front None name more h = refl
in_front (Some other) name more h = cc

two_names : (a b : Word) (more : List Word) (last : Option Word) → a ∷ b ∷ more ≡ option_to_list last → ⊥
two_names a b more None h = cc
two_names a b more (Some c) h = cc

-- there was none before the last one
none_before : (known : Option Word) (name : Word) (more : List Word) (last : Option Word) → option_to_list known ++ name ∷ more ≡ option_to_list last → is_some known ≡ false
none_before None name more last h = refl
none_before (Some other) name more last h = absurd (two_names other name more last h)

named_last : (known : Option Word) (name : Word) (more : List Word) (last : Option Word) → option_to_list known ++ name ∷ more ≡ option_to_list last → last ≡ None → ⊥
named_last None name more None h e = cc
named_last (Some other) name more None h e = cc
named_last known name more (Some x) h e = cc

same_option : (a b : Option Word) → option_to_list a ++ [] ≡ option_to_list b → a ≡ b
same_option None None h = refl
same_option (Some x) (Some y) h = cc
same_option None (Some y) h = cc
same_option (Some x) None h = cc

none_first : (known : Option Word) (more : List Word) → option_to_list known ++ more ≡ [] → is_some known ≡ false
none_first None more h = refl
none_first (Some x) more h = cc

-- ---- the parts that the walk takes are those that may follow the action

package_follows : (it : DkmsAction) (key : Key) → may_follow it (Package key) ≡ true
package_follows action.Add key = refl
package_follows action.Status key = refl

bare_follows : (it : DkmsAction) (name : Word) → takes_bare_module it ≡ may_follow it (BareModule name)
bare_follows action.Add name = refl
bare_follows action.Status name = refl

module_follows : (it : DkmsAction) (name : Word) → takes it argument.Module ≡ may_follow it (Module name)
module_follows action.Add name = refl
module_follows action.Status name = refl

version_follows : (it : DkmsAction) (name : Word) → takes it argument.Version ≡ may_follow it (Version name)
version_follows action.Add name = refl
version_follows action.Status name = refl

kernel_follows : (it : DkmsAction) (name : Word) → takes it argument.Kernel ≡ may_follow it (Kernel name)
kernel_follows action.Add name = refl
kernel_follows action.Status name = refl

spot_follows : (it : DkmsAction) (spot : Spot) → takes it argument.Kernel ≡ may_follow it (KernelArch spot)
spot_follows action.Add spot = refl
spot_follows action.Status spot = refl

arch_follows : (it : DkmsAction) (name : Word) → takes it argument.Arch ≡ may_follow it (Arch name)
arch_follows action.Add name = refl
arch_follows action.Status name = refl

taken_by : (a b : Bool) → (a && not b) ≡ true → (a ≡ true) × (b ≡ false)
taken_by true false h = (refl, refl)
taken_by true true h = cc
taken_by false b h = cc

-- ---- one part

-- what was gathered behind a part that may stand is gathered from it on
step_out : (seen : Seen) (part : Part) (rest : List Part) (last : Seen) → takes_part seen part ≡ true → Gathers (with_part seen part) rest last → Gathers seen (part ∷ rest) last
step_out seen part rest last may g = by_part part may g
  where
    by_part : (part : Part) → takes_part seen part ≡ true → Gathers (with_part seen part) rest last → Gathers seen (part ∷ rest) last
    by_part (Package key) may g =
        let free = is_free seen (Package key) may in
        record {
          action = g.action;
          follow = (λ i. package_follows seen.action key i && g.follow i);
          name = in_front seen.module key.module (filter_map module_in rest) free.no_module ∙ g.name;
          version = in_front seen.version key.version (filter_map version_in rest) free.no_version ∙ g.version;
          bare = g.bare;
          kernels = g.kernels;
          arches = g.arches;
          bad = sym (or_or_or seen.bad (if_it_breaks is_word key.module) (if_it_breaks is_version key.version) (first_bad rest)) ∙ g.bad;
        }
    by_part (BareModule name) may g =
        let free = is_free seen (BareModule name) may in
        record {
          action = g.action;
          follow = (λ i. (sym (bare_follows seen.action name) ∙ free.taken) i && g.follow i);
          name = in_front seen.module name (filter_map module_in rest) free.no_module ∙ g.name;
          version = g.version;
          bare = ap (λ b. b || true) free.no_bare ∙ g.bare;
          kernels = g.kernels;
          arches = g.arches;
          bad = sym (or_or seen.bad (if_it_breaks is_word name) (first_bad rest)) ∙ g.bad;
        }
    by_part (Module name) may g =
        let room = taken_by (takes seen.action argument.Module) (is_some seen.module) may in
        record {
          action = g.action;
          follow = (λ i. (sym (module_follows seen.action name) ∙ room.0) i && g.follow i);
          name = in_front seen.module name (filter_map module_in rest) room.1 ∙ g.name;
          version = g.version;
          bare = g.bare;
          kernels = g.kernels;
          arches = g.arches;
          bad = sym (or_or seen.bad (if_it_breaks is_word name) (first_bad rest)) ∙ g.bad;
        }
    by_part (Version name) may g =
        let room = taken_by (takes seen.action argument.Version) (given seen argument.Version) may in
        record {
          action = g.action;
          follow = (λ i. (sym (version_follows seen.action name) ∙ room.0) i && g.follow i);
          name = g.name;
          version = in_front seen.version name (filter_map version_in rest) (version_room seen may).0 ∙ g.version;
          bare = g.bare;
          kernels = g.kernels;
          arches = g.arches;
          bad = sym (or_or seen.bad (if_it_breaks is_version name) (first_bad rest)) ∙ g.bad;
        }
    by_part (Kernel name) may g =
        let room = taken_by (takes seen.action argument.Kernel) false may in
        record {
          action = g.action;
          follow = (λ i. (sym (kernel_follows seen.action name) ∙ room.0) i && g.follow i);
          name = g.name;
          version = g.version;
          bare = g.bare;
          kernels = sym (append_assoc seen.kernels (name ∷ []) (filter_map kernel_in rest)) ∙ g.kernels;
          arches = g.arches;
          bad = sym (or_or seen.bad (if_it_breaks is_kernel name) (first_bad rest)) ∙ g.bad;
        }
    by_part (KernelArch spot) may g =
        let room = taken_by (takes seen.action argument.Kernel) false may in
        record {
          action = g.action;
          follow = (λ i. (sym (spot_follows seen.action spot) ∙ room.0) i && g.follow i);
          name = g.name;
          version = g.version;
          bare = g.bare;
          kernels = sym (append_assoc seen.kernels (spot.kernel ∷ []) (filter_map kernel_in rest)) ∙ g.kernels;
          arches = sym (append_assoc seen.arches (spot.arch ∷ []) (filter_map arch_in rest)) ∙ g.arches;
          bad = sym (or_or_or seen.bad (if_it_breaks is_kernel spot.kernel) (if_it_breaks is_arch spot.arch) (first_bad rest)) ∙ g.bad;
        }
    by_part (Arch name) may g =
        let room = taken_by (takes seen.action argument.Arch) false may in
        record {
          action = g.action;
          follow = (λ i. (sym (arch_follows seen.action name) ∙ room.0) i && g.follow i);
          name = g.name;
          version = g.version;
          bare = g.bare;
          kernels = g.kernels;
          arches = sym (append_assoc seen.arches (name ∷ []) (filter_map arch_in rest)) ∙ g.arches;
          bad = sym (or_or seen.bad (if_it_breaks is_arch name) (first_bad rest)) ∙ g.bad;
        }

-- what is gathered from a part on may stand
record GoesIn (seen : Seen) (part : Part) (rest : List Part) (last : Seen) : Type 0 where
  may : takes_part seen part ≡ true
  behind : Gathers (with_part seen part) rest last

not_bare : (seen_bare more last_bare : Bool) (version : Option Word) → (seen_bare || more) ≡ last_bare → (last_bare ≡ true → version ≡ None) → (version ≡ None → ⊥) → seen_bare ≡ false
not_bare false more last_bare version is alone named = refl
not_bare true more last_bare version is alone named = absurd (named (alone (sym is)))

not_named : (bare : Bool) (name : Option Word) → (bare ≡ true → is_some name ≡ true) → is_some name ≡ false → bare ≡ false
not_named false name fits none = refl
not_named true name fits none = absurd (true≢false (sym (fits refl) ∙ none))

step_in : (seen : Seen) (part : Part) (rest : List Part) (last : Seen) → Fits seen → (last.bare ≡ true → last.version ≡ None) → Gathers seen (part ∷ rest) last → GoesIn seen part rest last
step_in seen part rest last fits alone g = by_part part g
  where
    first : (part : Part) → (may_follow seen.action part && list_all (may_follow seen.action) rest) ≡ true → may_follow seen.action part ≡ true
    first part h = (both (may_follow seen.action part) (list_all (may_follow seen.action) rest) h).0

    others : (part : Part) → (may_follow seen.action part && list_all (may_follow seen.action) rest) ≡ true → list_all (may_follow seen.action) rest ≡ true
    others part h = (both (may_follow seen.action part) (list_all (may_follow seen.action) rest) h).1

    by_part : (part : Part) → Gathers seen (part ∷ rest) last → GoesIn seen part rest last
    by_part (Package key) g =
        let no_module = none_before seen.module key.module (filter_map module_in rest) last.module g.name in
        let no_version = none_before seen.version key.version (filter_map version_in rest) last.version g.version in
        let named = named_last seen.version key.version (filter_map version_in rest) last.version g.version in
        record {
          may = free_may seen (Package key) (record { no_module = no_module; no_version = no_version; no_bare = not_bare seen.bare (list_any is_bare rest) last.bare last.version g.bare alone named; taken = refl });
          behind = record {
            action = g.action;
            follow = others (Package key) g.follow;
            name = sym (in_front seen.module key.module (filter_map module_in rest) no_module) ∙ g.name;
            version = sym (in_front seen.version key.version (filter_map version_in rest) no_version) ∙ g.version;
            bare = g.bare;
            kernels = g.kernels;
            arches = g.arches;
            bad = or_or_or seen.bad (if_it_breaks is_word key.module) (if_it_breaks is_version key.version) (first_bad rest) ∙ g.bad;
          };
        }
    by_part (BareModule name) g =
        let no_module = none_before seen.module name (filter_map module_in rest) last.module g.name in
        let no_bare = not_named seen.bare seen.module fits.name no_module in
        let bare : true ≡ last.bare = sym (ap (λ b. b || true) no_bare) ∙ g.bare in
        let no_version = none_first seen.version (filter_map version_in rest) (g.version ∙ ap option_to_list (alone (sym bare))) in
        record {
          may = free_may seen (BareModule name) (record { no_module = no_module; no_version = no_version; no_bare = no_bare; taken = bare_follows seen.action name ∙ first (BareModule name) g.follow });
          behind = record {
            action = g.action;
            follow = others (BareModule name) g.follow;
            name = sym (in_front seen.module name (filter_map module_in rest) no_module) ∙ g.name;
            version = g.version;
            bare = bare;
            kernels = g.kernels;
            arches = g.arches;
            bad = or_or seen.bad (if_it_breaks is_word name) (first_bad rest) ∙ g.bad;
          };
        }
    by_part (Module name) g =
        let no_module = none_before seen.module name (filter_map module_in rest) last.module g.name in
        record {
          may = (λ i. (module_follows seen.action name ∙ first (Module name) g.follow) i && not (no_module i));
          behind = record {
            action = g.action;
            follow = others (Module name) g.follow;
            name = sym (in_front seen.module name (filter_map module_in rest) no_module) ∙ g.name;
            version = g.version;
            bare = g.bare;
            kernels = g.kernels;
            arches = g.arches;
            bad = or_or seen.bad (if_it_breaks is_word name) (first_bad rest) ∙ g.bad;
          };
        }
    by_part (Version name) g =
        let no_version = none_before seen.version name (filter_map version_in rest) last.version g.version in
        let named = named_last seen.version name (filter_map version_in rest) last.version g.version in
        let no_bare = not_bare seen.bare (list_any is_bare rest) last.bare last.version g.bare alone named in
        record {
          may = (λ i. (version_follows seen.action name ∙ first (Version name) g.follow) i && not (no_version i || no_bare i));
          behind = record {
            action = g.action;
            follow = others (Version name) g.follow;
            name = g.name;
            version = sym (in_front seen.version name (filter_map version_in rest) no_version) ∙ g.version;
            bare = g.bare;
            kernels = g.kernels;
            arches = g.arches;
            bad = or_or seen.bad (if_it_breaks is_version name) (first_bad rest) ∙ g.bad;
          };
        }
    by_part (Kernel name) g = record {
      may = (λ i. (kernel_follows seen.action name ∙ first (Kernel name) g.follow) i && true);
      behind = record {
        action = g.action;
        follow = others (Kernel name) g.follow;
        name = g.name;
        version = g.version;
        bare = g.bare;
        kernels = append_assoc seen.kernels (name ∷ []) (filter_map kernel_in rest) ∙ g.kernels;
        arches = g.arches;
        bad = or_or seen.bad (if_it_breaks is_kernel name) (first_bad rest) ∙ g.bad;
      };
    }
    by_part (KernelArch spot) g = record {
      may = (λ i. (spot_follows seen.action spot ∙ first (KernelArch spot) g.follow) i && true);
      behind = record {
        action = g.action;
        follow = others (KernelArch spot) g.follow;
        name = g.name;
        version = g.version;
        bare = g.bare;
        kernels = append_assoc seen.kernels (spot.kernel ∷ []) (filter_map kernel_in rest) ∙ g.kernels;
        arches = append_assoc seen.arches (spot.arch ∷ []) (filter_map arch_in rest) ∙ g.arches;
        bad = or_or_or seen.bad (if_it_breaks is_kernel spot.kernel) (if_it_breaks is_arch spot.arch) (first_bad rest) ∙ g.bad;
      };
    }
    by_part (Arch name) g = record {
      may = (λ i. (arch_follows seen.action name ∙ first (Arch name) g.follow) i && true);
      behind = record {
        action = g.action;
        follow = others (Arch name) g.follow;
        name = g.name;
        version = g.version;
        bare = g.bare;
        kernels = g.kernels;
        arches = append_assoc seen.arches (name ∷ []) (filter_map arch_in rest) ∙ g.arches;
        bad = or_or seen.bad (if_it_breaks is_arch name) (first_bad rest) ∙ g.bad;
      };
    }

-- ---- all parts

-- what was seen last, and the line that it makes
pub record Ends (seen : Seen) (parts : List Part) (line : Line) : Type 0 where
  pub last : Seen
  pub gathers : Gathers seen parts last
  pub fits : Fits last
  pub line_is : line_for last.bad (command_of last) ≡ Some line

pub all_out : (parts : List Part) (seen : Seen) (line : Line) → Fits seen → line_after seen parts ≡ Some line → Ends seen parts line
all_out [] seen line fits is = record {
  last = seen;
  gathers = record {
    action = refl;
    follow = refl;
    name = append-nil (option_to_list seen.module);
    version = append-nil (option_to_list seen.version);
    bare = or_false seen.bare;
    kernels = append-nil seen.kernels;
    arches = append-nil seen.arches;
    bad = or_none seen.bad;
  };
  fits = fits;
  line_is = is;
}
all_out (part ∷ rest) seen line fits is =
    let found = found_where (takes_part seen part) (line_after (with_part seen part) rest) line is in
    let out = all_out rest (with_part seen part) line (fits_on seen part found.0 fits) found.1 in
    record { last = out.last; gathers = step_out seen part rest out.last found.0 out.gathers; fits = out.fits; line_is = out.line_is }

-- a command is made of these fields
same_command : (it : DkmsAction) (a b : Seen) → a.module ≡ b.module → a.version ≡ b.version → a.kernels ≡ b.kernels → a.arches ≡ b.arches → command_by it a ≡ command_by it b
same_command action.Add a b name version kernels arches = (λ i. add_of (name i) (version i))
same_command action.Status a b name version kernels arches =
    (λ i. cond (is_some (version i) && not (is_some (name i))) None
    (Some (command.Status (record { «module» = name i; version = version i; kernels = kernels i; arches = arches i }))))

pub all_in : (parts : List Part) (seen last : Seen) → Fits seen → (last.bare ≡ true → last.version ≡ None) → Gathers seen parts last → line_after seen parts ≡ line_for last.bad (command_of last)
all_in [] seen last fits alone g =
    let name = same_option seen.module last.module g.name in
    let version = same_option seen.version last.version g.version in
    let kernels = sym (append-nil seen.kernels) ∙ g.kernels in
    let arches = sym (append-nil seen.arches) ∙ g.arches in
    let bad = sym (or_none seen.bad) ∙ g.bad in
    (λ i. line_for (bad i) (command_by (g.action i) seen)) ∙ ap (line_for last.bad) (same_command last.action seen last name version kernels arches)
all_in (part ∷ rest) seen last fits alone g =
    let goes = step_in seen part rest last fits alone g in
    ap (λ b. cond b (line_after (with_part seen part) rest) None) goes.may
    ∙ all_in rest (with_part seen part) last (fits_on seen part goes.may fits) alone goes.behind
