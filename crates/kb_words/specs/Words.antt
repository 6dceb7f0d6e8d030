-- Command lines. After dkms(8), and this project's own.
use Rattle.std.specs.Prelude.{◌≡◌, ℕ, ◌+◌, ◌<◌, ◌≤◌, Bool, true, false, cond, ◌&&◌, not, List, [], ◌∷◌, ◌++◌, length, take, nat_eq, Option, Some, None, Result, Ok, Err, codes, bytes_eq, ◌⊎◌}
use Rattle.std.specs.Option.{option_or, option_to_list}
use Rattle.std.specs.List.{list_all, list_any, filter_map, flat_map}
use Rattle.std.specs.Str.{byte}
use Rattle.kb_world.specs.Names.{is_name, is_word, is_version, is_kernel, is_arch}
use Rattle.kb_world.specs.Path.{IsPath, path_text}
use Rattle.kb_world.specs.Store.{is_key}
use Rattle.kb_world.specs.declared.job.Filter.{Filter}
use Rattle.kb_world.specs.declared.job.Key.{Key}
use Rattle.kb_world.specs.declared.job.Spot.{Spot}
use Rattle.kb_world.specs.declared.refusal.Refusal.{Refusal}
use Rattle.kb_world.specs.declared.refusal.Refusal.TheVariants as refusal
use Rattle.kb_words.specs.declared.command.Command.{Command}
use Rattle.kb_words.specs.declared.command.Command.TheVariants as command
use Rattle.kb_words.specs.declared.parts.DkmsAction.{DkmsAction}
use Rattle.kb_words.specs.declared.parts.DkmsAction.TheVariants as action

abbrev pub Word : Type 0
Word = List ℕ

-- ---- the parts of an action of dkms

abbrev pub has_slash : Word → Bool
has_slash word = list_any (λ c. nat_eq c (byte "/")) word

abbrev pub begins_with_dash : Word → Bool
begins_with_dash [] = false
begins_with_dash (c ∷ rest) = nat_eq c (byte "-")

abbrev pub is_nonempty : Word → Bool
is_nonempty [] = false
is_nonempty (c ∷ rest) = true

-- What stands behind an action, in one word or two.
pub data Part : Type 0 where
  -- `M/V`
  Package : Key → Part
  -- `M`
  BareModule : Word → Part
  -- `-m M`
  Module : Word → Part
  -- `-v V`
  Version : Word → Part
  -- `-k K`
  Kernel : Word → Part
  -- `-k K/A`
  KernelArch : Spot → Part
  -- `-a A`
  Arch : Word → Part

-- two names with a slash between them
abbrev pub with_slash : Word → Word → Word
with_slash front back = front ++ byte "/" ∷ back

abbrev pub written : Part → List Word
written (Package key) = with_slash key.module key.version ∷ []
written (BareModule name) = name ∷ []
written (Module name) = codes "-m" ∷ name ∷ []
written (Version name) = codes "-v" ∷ name ∷ []
written (Kernel name) = codes "-k" ∷ name ∷ []
written (KernelArch spot) = codes "-k" ∷ with_slash spot.kernel spot.arch ∷ []
written (Arch name) = codes "-a" ∷ name ∷ []

-- one word with one `/`, which stands at no end, and no dash in front
abbrev pub is_package : Key → Bool
is_package key =
    not (begins_with_dash key.module) && is_nonempty key.module && is_nonempty key.version && not (has_slash key.module) && not (has_slash key.version)

-- one word without `/`, and no dash in front
abbrev pub is_bare_module : Word → Bool
is_bare_module name = is_nonempty name && not (begins_with_dash name) && not (has_slash name)

-- The word behind an option is its argument, whatever it is, also an empty one. A kernel and an architecture are split
-- at the first `/`.
abbrev pub is_line_part : Part → Bool
is_line_part (Package key) = is_package key
is_line_part (BareModule name) = is_bare_module name
is_line_part (Module name) = true
is_line_part (Version name) = true
is_line_part (Kernel name) = not (has_slash name)
is_line_part (KernelArch spot) = not (has_slash spot.kernel)
is_line_part (Arch name) = true

-- a part that names a package, or its module or version by an option
abbrev pub is_of_package : Part → Bool
is_of_package (Package key) = true
is_of_package (Module name) = true
is_of_package (Version name) = true
is_of_package other = false

-- the parts that may stand behind an action: a package behind `add`, and all behind `status`
abbrev pub may_follow : DkmsAction → Part → Bool
may_follow action.Add part = is_of_package part
may_follow action.Status part = true

abbrev pub is_bare : Part → Bool
is_bare (BareModule name) = true
is_bare other = false

-- the module, the version, the kernel and the architecture that a part names
abbrev pub module_in : Part → Option Word
module_in (Package key) = Some key.module
module_in (BareModule name) = Some name
module_in (Module name) = Some name
module_in other = None

abbrev pub version_in : Part → Option Word
version_in (Package key) = Some key.version
version_in (Version name) = Some name
version_in other = None

abbrev pub kernel_in : Part → Option Word
kernel_in (Kernel name) = Some name
kernel_in (KernelArch spot) = Some spot.kernel
kernel_in other = None

abbrev pub arch_in : Part → Option Word
arch_in (KernelArch spot) = Some spot.arch
arch_in (Arch name) = Some name
arch_in other = None

-- the name, where it breaks this rule
abbrev pub if_it_breaks : (Word → Bool) → Word → Option Word
if_it_breaks rule name = cond (rule name) None (Some name)

-- the first name in a part that breaks its rule
abbrev pub bad_in : Part → Option Word
bad_in (Package key) = option_or (if_it_breaks is_word key.module) (if_it_breaks is_version key.version)
bad_in (BareModule name) = if_it_breaks is_word name
bad_in (Module name) = if_it_breaks is_word name
bad_in (Version name) = if_it_breaks is_version name
bad_in (Kernel name) = if_it_breaks is_kernel name
bad_in (KernelArch spot) = option_or (if_it_breaks is_kernel spot.kernel) (if_it_breaks is_arch spot.arch)
bad_in (Arch name) = if_it_breaks is_arch name

-- the first in all parts, from left to right
abbrev pub first_bad : List Part → Option Word
first_bad [] = None
first_bad (part ∷ rest) = option_or (bad_in part) (first_bad rest)

-- the words are these parts, in any order, which may stand behind the action
pub record AreParts (it : DkmsAction) (words : List Word) (parts : List Part) : Type 0 where
  pub are : words ≡ flat_map written parts
  pub good : list_all is_line_part parts ≡ true
  pub behind : list_all (may_follow it) parts ≡ true

-- the parts name the package's module once and its version once
pub record NamePackage (parts : List Part) (key : Key) : Type 0 where
  pub module_once : filter_map module_in parts ≡ key.module ∷ []
  pub version_once : filter_map version_in parts ≡ key.version ∷ []

-- The parts name the filter's module and version at most once, a version only beside a module that isn't bare, and
-- its kernels and architectures in their order. Nothing is filled in.
pub record NameFilter (parts : List Part) (filter : Filter) : Type 0 where
  pub module_at_most_once : filter_map module_in parts ≡ option_to_list filter.module
  pub version_at_most_once : filter_map version_in parts ≡ option_to_list filter.version
  pub version_of_module : filter.module ≡ None → filter.version ≡ None
  pub bare_alone : list_any is_bare parts ≡ true → filter.version ≡ None
  pub kernels : filter.kernels ≡ filter_map kernel_in parts
  pub arches : filter.arches ≡ filter_map arch_in parts

-- ---- command lines

-- dkms(8)'s actions on archives
abbrev pub is_archive : Word → Bool
is_archive word =
    list_any (bytes_eq word) (
    codes "mktarball" ∷ codes "ldtarball" ∷ codes "mkrpm" ∷ codes "mkdeb" ∷ codes "mkbmdeb" ∷ codes "mkdsc" ∷ codes "mkdriverdisk" ∷ codes "mkkmp" ∷ []
    )

abbrev pub action_word : DkmsAction → Word
action_word action.Add = codes "add"
action_word action.Status = codes "status"

-- The words are this action of dkms and parts behind it, in which this name is the first that breaks its rule. The
-- parts mean what is asked of them.
pub record IsActionLine (it : DkmsAction) (IsMeant : List Part → Type 0) (words : List Word) (bad : Option Word) : Type 0 where
  pub behind : List Word
  pub parts : List Part
  pub are : words ≡ codes "dkms" ∷ action_word it ∷ behind
  pub follow : AreParts it behind parts
  pub meant : IsMeant parts
  pub bad_is : bad ≡ first_bad parts

-- A command, with the first name that breaks its rule; or one of the actions on archives.
pub data Line : Type 0 where
  ForCommand : Command → Option Word → Line
  ForArchive : Word → Line

-- these words are this line
abbrev pub IsLine : List Word → Line → Type 0
IsLine words (ForCommand command.Help bad) = (words ≡ codes "help" ∷ []) × (bad ≡ None)
IsLine words (ForCommand command.Recover bad) = (words ≡ codes "recover" ∷ []) × (bad ≡ None)
IsLine words (ForCommand (command.Add key) bad) = IsActionLine action.Add (λ parts. NamePackage parts key) words bad
IsLine words (ForCommand (command.AddTree path) bad) = IsPath path × (words ≡ codes "dkms" ∷ codes "add" ∷ path_text path ∷ []) × (bad ≡ None)
IsLine words (ForCommand (command.Status filter) bad) = IsActionLine action.Status (λ parts. NameFilter parts filter) words bad
IsLine words (ForArchive action) = (behind : List Word) × (words ≡ codes "dkms" ∷ action ∷ behind) × (is_archive action ≡ true)

-- some command line begins with these words
abbrev pub CanBegin : List Word → Type 0
CanBegin first = (more : List Word) × (line : Line) × IsLine (first ++ more) line

-- The place of a usage error: one more than the length of the longest list of first words that some command line
-- begins with.
pub record IsPlace (words : List Word) (place : ℕ) : Type 0 where
  pub longest : ℕ
  pub place_is : place ≡ longest + 1
  pub within : longest ≤ length words
  pub begins : CanBegin (take longest words)
  pub no_longer : (n : ℕ) → longest < n → n ≤ length words → CanBegin (take n words) → ⊥

-- what is answered to a line
abbrev pub answer_to : Line → Result Command Refusal
answer_to (ForCommand it None) = Ok it
answer_to (ForCommand it (Some name)) = Err (refusal.BadName name)
answer_to (ForArchive action) = Err (refusal.Archive action)

-- the words are no command line, and this is the place
abbrev pub IsUsage : List Word → ℕ → Type 0
IsUsage words place = ((line : Line) → IsLine words line → ⊥) × IsPlace words place

-- How words are read: as the command line that they are, or refused as none.
abbrev pub IsReadAs : List Word → Result Command Refusal → Type 0
IsReadAs words answer = ((line : Line) × IsLine words line × (answer ≡ answer_to line)) ⊎ ((place : ℕ) × IsUsage words place × (answer ≡ Err (refusal.Usage place)))

-- the names of a filter keep their rules
abbrev pub filter_keeps_rules : Filter → Bool
filter_keeps_rules filter =
    list_all is_word (option_to_list filter.module) && list_all is_version (option_to_list filter.version) && list_all is_kernel filter.kernels
    && list_all is_arch filter.arches

-- the names in a command keep their rules
abbrev pub names_keep_rules : Command → Bool
names_keep_rules command.Help = true
names_keep_rules command.Recover = true
names_keep_rules (command.Add key) = is_key key
names_keep_rules (command.AddTree path) = list_all is_name path
names_keep_rules (command.Status filter) = filter_keeps_rules filter
