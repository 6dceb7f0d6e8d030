-- The action `dkms add` of a directory: its refusals in their order, its warnings, its transaction and its script. After
-- dkms(8); which directories are no source, and the limits, are this project's own.
use Rattle.std.specs.Prelude.{Bool, cond, ◌∷◌, codes, Option, Some, None, is_some, Result, Ok, Err}
use Rattle.std.specs.List.{list_any}
use Rattle.kb_world.specs.Path.{Path, is_under}
use Rattle.kb_world.specs.Tree.{Tree, node_at}
use Rattle.kb_world.specs.TreeLaws.{same_path}
use Rattle.kb_world.specs.Roots.{based_roots}
use Rattle.kb_world.specs.Script.{Script}
use Rattle.kb_world.specs.Store.{source_path}
use Rattle.kb_world.specs.Steps.{add_tree_step}
use Rattle.kb_machine.specs.Outcome.{Action, unless, warn, reads, transaction, ◌or◌, ◌then◌}
use Rattle.kb_world.specs.declared.roots.Roots.{Roots}
use Rattle.kb_world.specs.declared.job.Key.{Key}
use Rattle.kb_world.specs.declared.job.Host.{Host}
use Rattle.kb_world.specs.declared.refusal.Refusal.{Refusal}
use Rattle.kb_world.specs.declared.refusal.Refusal.TheVariants as refusal
pub use Rattle.kb_walk.specs.Copy.{met_below, too_many, too_large, too_much}
use Rattle.kb_conf.specs.declared.conf.Conf.{Conf}
use Rattle.kb_conf.specs.Load.{loaded_conf}
use Rattle.kb_dkms.specs.Add.{already_added, unused_lines, blocked, added_line, add}
use Rattle.kb_dkms.specs.Scripts.{host_given, run_script}

-- ---- the directory

-- a root is at or under it
abbrev pub holds_root : Roots → Path → Bool
holds_root roots from = list_any (λ root. is_under root from) (roots.boot ∷ based_roots roots)

-- its conf, or the first refusal of it: a directory that holds a root is no source
abbrev pub tree_conf : Host → Path → Tree → Result Conf Refusal
tree_conf host from whole = cond (holds_root host.roots from) (Err (refusal.NoSource from)) (loaded_conf from None (host_given host) whole)

-- something stands at the package's source, where it is to be copied
abbrev pub source_there : Path → Tree → Option Refusal
source_there source whole = cond (is_some (node_at whole source)) (Some (refusal.SourceThere source)) None

-- ---- the action

-- the package is added already, or something stands at its source
abbrev pub package_there : Roots → Key → Tree → Option Refusal
package_there roots key = already_added roots key or source_there (source_path roots key)

-- what refuses the copy, behind the conf
abbrev pub no_copy : Roots → Key → Path → Tree → Option Refusal
no_copy roots key from = package_there roots key or too_much from or blocked roots key

-- the transaction, its line, and the script that the conf names for it, which runs in the copy
abbrev pub copy_and_run : Host → Script → Path → Conf → Action
copy_and_run host script from conf =
    reads Ok (λ whole. transaction (add_tree_step host.roots conf.key from whole) (added_line conf.key)
    then run_script host.roots script (host_given host) conf.key (codes "POST_ADD") conf.scripts.post_add)

-- what follows once the conf of a directory that isn't the package's source is read
abbrev pub add_copy : Host → Script → Path → Conf → Action
add_copy host script from conf = warn (unused_lines conf.unused) then (unless (no_copy host.roots conf.key from) then copy_and_run host script from conf)

-- the package's own source is added as the package is
abbrev pub add_tree_with : Host → Script → Path → Conf → Action
add_tree_with host script from conf = cond (same_path from (source_path host.roots conf.key)) (add host script conf.key) (add_copy host script from conf)

-- `dkms add` of a directory: what it is the source of is said by its conf
abbrev pub add_tree : Host → Script → Path → Action
add_tree host script from = reads (tree_conf host from) (add_tree_with host script from)
