-- The action `dkms add`: its refusals in their order, its warnings, its transaction and its script. After dkms(8), and
-- this project's own.
use Rattle.std.specs.Prelude.{ℕ, cond, List, ◌++◌, flat_map, Option, Some, None, Result, codes}
use Rattle.std.specs.Option.{option_map}
use Rattle.kb_world.specs.Job.{key_text}
use Rattle.kb_world.specs.Tree.{Tree}
use Rattle.kb_world.specs.Script.{Script}
use Rattle.kb_world.specs.Store.{source_path, is_added}
use Rattle.kb_world.specs.Steps.{add_blocked, add_step}
use Rattle.kb_machine.specs.Outcome.{Action, unless, warn, reads, transaction, ◌then◌}
use Rattle.kb_world.specs.declared.roots.Roots.{Roots}
use Rattle.kb_world.specs.declared.job.Key.{Key}
use Rattle.kb_world.specs.declared.job.Host.{Host}
use Rattle.kb_world.specs.declared.refusal.Refusal.{Refusal}
use Rattle.kb_world.specs.declared.refusal.Refusal.TheVariants as refusal
use Rattle.kb_conf.specs.declared.conf.Conf.{Conf}
use Rattle.kb_conf.specs.Load.{loaded_conf}
use Rattle.kb_dkms.specs.Scripts.{host_given, warning_line, run_script}

abbrev pub already_added : Roots → Key → Tree → Option Refusal
already_added roots key tree = cond (is_added roots key tree) (Some (refusal.AlreadyAdded key)) None

-- the conf of the package's source, or the first refusal of it
abbrev pub source_conf : Host → Key → Tree → Result Conf Refusal
source_conf host key = loaded_conf (source_path host.roots key) (Some key) (host_given host)

-- a warning for each name of the conf that this profile doesn't use
abbrev pub unused_lines : List (List ℕ) → List ℕ
unused_lines names = flat_map (λ name. warning_line (codes "dkms.conf: " ++ name ++ codes " is not used")) names

-- something else stands where the step needs a directory
abbrev pub blocked : Roots → Key → Tree → Option Refusal
blocked roots key tree = option_map refusal.Damaged (add_blocked roots key tree)

-- the line that is printed once the package is added
abbrev pub added_line : Key → List ℕ
added_line key = key_text key ++ codes ": added\n"

-- the transaction, its line, and the script that the conf names for it
abbrev pub add_and_run : Host → Script → Key → Conf → Action
add_and_run host script key conf =
    transaction (add_step host.roots key) (added_line key)
    then run_script host.roots script (host_given host) key (codes "POST_ADD") conf.scripts.post_add

-- what follows once the conf is read
abbrev pub add_with : Host → Script → Key → Conf → Action
add_with host script key conf = warn (unused_lines conf.unused) then (unless (blocked host.roots key) then add_and_run host script key conf)

-- `dkms add` of a package
abbrev pub add : Host → Script → Key → Action
add host script key = unless (already_added host.roots key) then reads (source_conf host key) (add_with host script key)
