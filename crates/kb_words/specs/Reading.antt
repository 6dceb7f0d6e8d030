-- The reading of words as a function: one walk from left to right.
use Rattle.std.specs.Prelude.{ℕ, ◌+◌, Bool, true, false, cond, ◌&&◌, ◌||◌, not, List, [], ◌∷◌, ◌++◌, nat_eq, Option, Some, None, is_some, option_map, Result, Err, codes, bytes_eq}
use Rattle.std.specs.Option.{option_or}
use Rattle.std.specs.List.{before_first, after_first, list_all, slice_split}
use Rattle.std.specs.Str.{byte}
use Rattle.kb_world.specs.Names.{is_name, is_word, is_version, is_kernel, is_arch}
use Rattle.kb_world.specs.Path.{Path}
use Rattle.kb_world.specs.declared.job.Key.{Key}
use Rattle.kb_world.specs.declared.job.Spot.{Spot}
use Rattle.kb_world.specs.declared.refusal.Refusal.{Refusal}
use Rattle.kb_world.specs.declared.refusal.Refusal.TheVariants as refusal
use Rattle.kb_words.specs.declared.command.Command.{Command}
use Rattle.kb_words.specs.declared.command.Command.TheVariants as command
use Rattle.kb_words.specs.declared.parts.DkmsAction.{DkmsAction}
use Rattle.kb_words.specs.declared.parts.DkmsAction.TheVariants as action
use Rattle.kb_words.specs.declared.parts.Argument.{Argument}
use Rattle.kb_words.specs.declared.parts.Argument.TheVariants as argument
use Rattle.kb_words.specs.declared.parts.Seen.{Seen}
use Rattle.kb_words.specs.declared.progress.Progress.{Progress}
use Rattle.kb_words.specs.declared.progress.Progress.TheVariants as progress
use Rattle.kb_words.specs.Words.{Word, Part, Package, BareModule, Module, Version, Kernel, KernelArch, Arch, has_slash, begins_with_dash, is_nonempty, is_bare_module, if_it_breaks, is_archive, Line, ForCommand, ForArchive, answer_to}

-- ---- the part that words are

abbrev pub before_slash : Word → Word
before_slash word = before_first (λ c. nat_eq c (byte "/")) word

abbrev pub after_slash : Word → Word
after_slash word = after_first (λ c. nat_eq c (byte "/")) word

-- the package that a word is, split at its first `/`
abbrev pub package_split : Word → Option Key
package_split word =
    let key : Key = record { «module» = before_slash word; version = after_slash word } in
    cond (not (begins_with_dash key.module) && is_nonempty key.module && is_nonempty key.version && not (has_slash key.version)) (Some key) None

-- the kernel and the architecture that a word is, split at its first `/`
abbrev pub spot_split : Word → Spot
spot_split word = record { kernel = before_slash word; arch = after_slash word }

-- the part that a word is by itself: a package, or a bare module
abbrev pub package_or_bare : Word → Option Key → Option Part
package_or_bare word None = cond (is_bare_module word) (Some (BareModule word)) None
package_or_bare word (Some key) = Some (Package key)

abbrev pub part_in : Word → Option Part
part_in word = package_or_bare word (package_split word)

-- what the next word is, where this one is an option
abbrev pub argument_behind : Word → Option Argument
argument_behind word =
    cond (bytes_eq word (codes "-m")) (Some argument.Module)
    (cond (bytes_eq word (codes "-v")) (Some argument.Version)
    (cond (bytes_eq word (codes "-k")) (Some argument.Kernel)
    (cond (bytes_eq word (codes "-a")) (Some argument.Arch) None)))

-- the part that an option and the word behind it are
abbrev pub part_behind : Argument → Word → Part
part_behind argument.Module word = Module word
part_behind argument.Version word = Version word
part_behind argument.Kernel word = cond (has_slash word) (KernelArch (spot_split word)) (Kernel word)
part_behind argument.Arch word = Arch word

-- ---- what the words of the parts read so far say

abbrev pub nothing : DkmsAction → Seen
nothing it = record { action = it; awaited = None; «module» = None; version = None; bare = false; kernels = []; arches = []; bad = None }

abbrev pub with_module : Seen → Word → Seen
with_module seen word = record seen { awaited = None; «module» = Some word; bad = option_or seen.bad (if_it_breaks is_word word) }

abbrev pub with_version : Seen → Word → Seen
with_version seen word = record seen { awaited = None; version = Some word; bad = option_or seen.bad (if_it_breaks is_version word) }

abbrev pub with_kernel : Seen → Word → Seen
with_kernel seen word = record seen { awaited = None; kernels = seen.kernels ++ word ∷ []; bad = option_or seen.bad (if_it_breaks is_kernel word) }

abbrev pub with_arch : Seen → Word → Seen
with_arch seen word = record seen { awaited = None; arches = seen.arches ++ word ∷ []; bad = option_or seen.bad (if_it_breaks is_arch word) }

abbrev pub with_part : Seen → Part → Seen
with_part seen (Package key) = with_version (with_module seen key.module) key.version
with_part seen (BareModule name) = record (with_module seen name) { bare = true }
with_part seen (Module name) = with_module seen name
with_part seen (Version name) = with_version seen name
with_part seen (Kernel name) = with_kernel seen name
with_part seen (KernelArch spot) = with_arch (with_kernel seen spot.kernel) spot.arch
with_part seen (Arch name) = with_arch seen name

-- the action has an option with this argument
abbrev pub takes : DkmsAction → Argument → Bool
takes action.Add argument.Module = true
takes action.Add argument.Version = true
takes action.Add argument.Kernel = false
takes action.Add argument.Arch = false
takes action.Status it = true

-- a module may stand alone behind the action
abbrev pub takes_bare_module : DkmsAction → Bool
takes_bare_module action.Add = false
takes_bare_module action.Status = true

-- a part names it already, or leaves no room for it
abbrev pub given : Seen → Argument → Bool
given seen argument.Module = is_some seen.module
given seen argument.Version = is_some seen.version || seen.bare
given seen argument.Kernel = false
given seen argument.Arch = false

-- with an option, where the action has it and there is room for its part
abbrev pub with_option : Seen → Argument → Option Seen
with_option seen it = cond (takes seen.action it && not (given seen it)) (Some (record seen { awaited = Some it })) None

-- the action takes such a word
abbrev pub takes_word : DkmsAction → Part → Bool
takes_word it (BareModule name) = takes_bare_module it
takes_word it part = true

-- with a part in one word, where nothing else names the module or the version
abbrev pub with_word : Seen → Option Part → Option Seen
with_word seen None = None
with_word seen (Some part) = cond (given seen argument.Module || given seen argument.Version) None (cond (takes_word seen.action part) (Some (with_part seen part)) None)

-- with the first word of a part
abbrev pub begun : Seen → Word → Option Argument → Option Seen
begun seen word None = with_word seen (part_in word)
begun seen word (Some it) = with_option seen it

abbrev pub gone_on : Seen → Word → Option Argument → Option Seen
gone_on seen word None = begun seen word (argument_behind word)
gone_on seen word (Some it) = Some (with_part seen (part_behind it word))

-- what is seen with one word more, where some command line goes on so
abbrev pub seen_after : Seen → Word → Option Seen
seen_after seen word = gone_on seen word seen.awaited

-- ---- where the words read so far end

abbrev pub after_start : Word → Option Progress
after_start word =
    cond (bytes_eq word (codes "help")) (Some progress.Help)
    (cond (bytes_eq word (codes "recover")) (Some progress.Recover) (cond (bytes_eq word (codes "dkms")) (Some progress.Dkms) None))

abbrev pub action_named : Word → Option DkmsAction
action_named word = cond (bytes_eq word (codes "add")) (Some action.Add) (cond (bytes_eq word (codes "status")) (Some action.Status) None)

-- where the walk stands behind an action
abbrev pub behind_action : DkmsAction → Progress
behind_action action.Add = progress.Add
behind_action action.Status = progress.Parts (nothing action.Status)

abbrev pub action_or_archive : Word → Option DkmsAction → Option Progress
action_or_archive word None = cond (is_archive word) (Some (progress.Archive word)) None
action_or_archive word (Some it) = Some (behind_action it)

abbrev pub after_dkms : Word → Option Progress
after_dkms word = action_or_archive word (action_named word)

-- the names behind a slash and between the others, where each is one; nothing stands behind the slash of the root
abbrev pub names_if_all : Path → Option Path
names_if_all names = cond (list_all is_name names) (Some names) None

abbrev pub names_behind_slash : Word → Option Path
names_behind_slash [] = Some []
names_behind_slash (c ∷ rest) = names_if_all (slice_split (λ d. nat_eq d (byte "/")) (c ∷ rest))

-- the path whose text the word is
abbrev pub path_read : Word → Option Path
path_read [] = None
path_read (c ∷ rest) = cond (nat_eq c (byte "/")) (names_behind_slash rest) None

abbrev pub after_part : Seen → Word → Option Progress
after_part seen word = option_map progress.Parts (seen_after seen word)

abbrev pub tree_or_part : Word → Option Path → Option Progress
tree_or_part word None = after_part (nothing action.Add) word
tree_or_part word (Some path) = Some (progress.Tree path)

abbrev pub after_add : Word → Option Progress
after_add word = tree_or_part word (path_read word)

-- with one word more, where some command line goes on so
abbrev pub after_word : Progress → Word → Option Progress
after_word progress.Start word = after_start word
after_word progress.Help word = None
after_word progress.Recover word = None
after_word progress.Dkms word = after_dkms word
after_word (progress.Archive action) word = Some (progress.Archive action)
after_word progress.Add word = after_add word
after_word (progress.Tree path) word = None
after_word (progress.Parts seen) word = after_part seen word

-- the command of an action, where these are given
abbrev pub add_of : Option Word → Option Word → Option Command
add_of (Some name) (Some version) = Some (command.Add (record { «module» = name; version = version }))
add_of name version = None

abbrev pub status_of : Seen → Option Command
status_of seen =
    cond (is_some seen.version && not (is_some seen.module)) None
    (Some (command.Status (record { «module» = seen.module; version = seen.version; kernels = seen.kernels; arches = seen.arches })))

abbrev pub command_by : DkmsAction → Seen → Option Command
command_by action.Add seen = add_of seen.module seen.version
command_by action.Status seen = status_of seen

abbrev pub command_of : Seen → Option Command
command_of seen = command_by seen.action seen

abbrev pub line_for : Option Word → Option Command → Option Line
line_for bad None = None
line_for bad (Some it) = Some (ForCommand it bad)

-- the words may not end where the last one was an option
abbrev pub ended_behind : Option Argument → Seen → Option Line
ended_behind None seen = line_for seen.bad (command_of seen)
ended_behind (Some it) seen = None

abbrev pub ended_parts : Seen → Option Line
ended_parts seen = ended_behind seen.awaited seen

-- the line that the words are, where they end here
abbrev pub ended : Progress → Option Line
ended progress.Start = None
ended progress.Help = Some (ForCommand command.Help None)
ended progress.Recover = Some (ForCommand command.Recover None)
ended progress.Dkms = None
ended (progress.Archive action) = Some (ForArchive action)
ended progress.Add = None
ended (progress.Tree path) = Some (ForCommand (command.AddTree path) None)
ended (progress.Parts seen) = ended_parts seen

abbrev pub line_behind : (Progress → Option Line) → Option Progress → Option Line
line_behind line None = None
line_behind line (Some next) = line next

-- the line that the words are from here on
unfoldable pub line_from : Progress → List Word → Option Line
line_from state [] = ended state
line_from state (word ∷ rest) = line_behind (λ next. line_from next rest) (after_word state word)

abbrev pub known_behind : (Progress → ℕ) → Option Progress → ℕ
known_behind count None = 0
known_behind count (Some next) = 1 + count next

-- how many of the words some command line has from here on
unfoldable pub known : Progress → List Word → ℕ
known state [] = 0
known state (word ∷ rest) = known_behind (λ next. known next rest) (after_word state word)

abbrev pub read_line : ℕ → Option Line → Result Command Refusal
read_line place None = Err (refusal.Usage place)
read_line place (Some line) = answer_to line

abbrev pub reading : List Word → Result Command Refusal
reading words = read_line (known progress.Start words + 1) (line_from progress.Start words)
