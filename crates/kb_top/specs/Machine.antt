-- The command machine: what words do to a store and the foreign tree, behind a recovery. This project's own.
use Rattle.std.specs.Prelude.{ℕ, Bool, true, false, cond, List, [], ◌++◌, Option, Some, None, Result, Ok, Err, option_map, codes}
use Rattle.std.specs.List.{join_by}
use Rattle.kb_world.specs.Names.{is_kernel, is_arch}
use Rattle.kb_world.specs.Path.{Path}
use Rattle.kb_world.specs.Tree.{Tree, node_at, is_dir}
use Rattle.kb_world.specs.Public.{intent_path, public_tree, foreign_tree}
use Rattle.kb_world.specs.Script.{Script}
use Rattle.kb_machine.specs.Outcome.{Outcome, Action, refuse_if, unless, print, warn, reads, ◌or◌, ◌then◌}
use Rattle.kb_world.specs.declared.child.Request.{Request}
use Rattle.kb_world.specs.declared.roots.Roots.{Roots}
use Rattle.kb_world.specs.declared.job.Filter.{Filter}
use Rattle.kb_world.specs.declared.job.Host.{Host}
use Rattle.kb_world.specs.declared.refusal.Refusal.{Refusal}
use Rattle.kb_world.specs.declared.refusal.Refusal.TheVariants as refusal
use Rattle.kb_changes.specs.Change.{requests_of}
use Rattle.kb_changes.specs.declared.change.Intent.{Intent}
use Rattle.kb_words.specs.declared.command.Command.{Command}
use Rattle.kb_words.specs.declared.command.Command.TheVariants as command
use Rattle.kb_words.specs.Words.{Word}
use Rattle.kb_words.specs.Reading.{reading}
use Rattle.kb_store.specs.Read.{read_of}
use Rattle.kb_status.specs.Status.{text_of_status}
use Rattle.kb_dkms.specs.Add.{add}
use Rattle.kb_dkms.specs.AddTree.{add_tree}

unfoldable pub help_text : List ℕ
help_text = codes "usage: kmodboot COMMAND\ncommands: dkms, kernel-install, kernel-hook, recover, selftest, help\n"

-- ---- the machine that a command runs on: a kernel or an architecture that breaks its rule counts as unknown

abbrev pub known_kernel : Option (List ℕ) → Option (List ℕ)
known_kernel None = None
known_kernel (Some kernel) = cond (is_kernel kernel) (Some kernel) None

abbrev pub known_arch : List ℕ → List ℕ
known_arch arch = cond (is_arch arch) arch (codes "unknown")

abbrev pub known_host : Host → Host
known_host host = record { kernel = known_kernel host.kernel; arch = known_arch host.arch; roots = host.roots }

-- ---- what is told of a recovery, by the words of the journal that was ended, if one was

-- the words, a space between each two, in a line
abbrev pub recovered_line : List Word → List ℕ
recovered_line words = codes "recovered: " ++ join_by (λ word. word) (codes " ") words ++ codes "\n"

-- on standard output
abbrev pub recovery_printed : Option (List Word) → List ℕ
recovery_printed None = codes "nothing to recover\n"
recovery_printed (Some words) = recovered_line words

-- on standard error
abbrev pub recovery_warned : Option (List Word) → List ℕ
recovery_warned None = []
recovery_warned (Some words) = recovered_line words

-- the command asks for a recovery alone
abbrev pub asks_recovery : Command → Bool
asks_recovery command.Help = false
asks_recovery command.Recover = true
asks_recovery (command.Add key) = false
asks_recovery (command.AddTree path) = false
asks_recovery (command.Status filter) = false

-- words were read as that command
abbrev pub is_recovery : {E : Type 0} → Result Command E → Bool
is_recovery (Ok it) = asks_recovery it
is_recovery (Err error) = false

-- a recovery is told: it is printed where the words ask for it, and else standard error has its line
abbrev pub telling : Option (List Word) → Bool → Action
telling found true = print (recovery_printed found)
telling found false = warn (recovery_warned found)

-- ---- commands

-- a root that the command needs isn't a directory
abbrev pub no_root : Path → Tree → Option Refusal
no_root path tree = cond (is_dir (node_at tree path)) None (Some (refusal.NoRoot path))

-- the roots that `dkms add` needs, the first that isn't a directory
abbrev pub no_roots_of_add : Roots → Tree → Option Refusal
no_roots_of_add roots = no_root roots.dkms or no_root roots.src

-- The store is read once: where it is damaged, or too large to be read, the command is refused.
abbrev pub add_to_store : Roots → Action → Action
add_to_store roots added = reads (read_of roots) (λ store. added)

-- `dkms add`, of a package or of a directory
abbrev pub perform_add : Roots → Action → Action
perform_add roots added = unless (no_roots_of_add roots) then add_to_store roots added

-- the status of the store that is read is printed
abbrev pub print_status : Roots → Filter → Action
print_status roots filter = reads (read_of roots) (λ store. print (text_of_status store filter))

-- `dkms status` needs the root dkms alone
abbrev pub perform_status : Roots → Filter → Action
perform_status roots filter = unless (no_root roots.dkms) then print_status roots filter

-- a recovery is done and told before
abbrev pub perform : Host → Script → Command → Action
perform host script command.Help = print help_text
perform host script command.Recover = print []
perform host script (command.Add key) = perform_add host.roots (add host script key)
perform host script (command.AddTree path) = perform_add host.roots (add_tree host script path)
perform host script (command.Status filter) = perform_status host.roots filter

abbrev pub perform_read : Host → Script → Result Command Refusal → Action
perform_read host script (Ok it) = perform host script it
perform_read host script (Err why) = refuse_if (Some why)

-- The recovery is told, of which these are the words, and then what the words are is done.
abbrev pub machine : Host → Script → List Word → Option (List Word) → Action
machine host script words found = telling found (is_recovery (reading words)) then perform_read (known_host host) script (reading words)

-- ---- the whole call, which begins with a recovery

-- the words of the journal that was found
abbrev pub journal_words : Option Intent → Option (List Word)
journal_words found = option_map (λ (intent : Intent). intent.words) found

-- the requests of its children over the tree in which it stood
abbrev pub requests_found : Roots → Script → Option Intent → Tree → List Request
requests_found roots script None tree = []
requests_found roots script (Some intent) tree = requests_of roots script intent.changes tree

-- an outcome, where these children ran before
abbrev pub behind : List Request → Outcome → Outcome
behind requests outcome = record outcome { requests = requests ++ outcome.requests }

-- What words do to a tree: the children of the journal run, and then the machine goes on from the tree that is ready.
abbrev pub outcome_of : Host → Script → List Word → Tree → Tree → Option Intent → Outcome
outcome_of host script words tree ready found =
    behind (requests_found host.roots script found tree) (machine host script words (journal_words found) (public_tree host.roots ready) (foreign_tree host.roots ready))

-- they are refused where what stands at the journal's path is damaged
abbrev pub damaged_outcome : Roots → Tree → Outcome
damaged_outcome roots tree = refuse_if (Some (refusal.Damaged (intent_path roots))) (public_tree roots tree) (foreign_tree roots tree)
