-- The scripts of a package, and what is said of a child that failed without ending the command. After dkms(8); the
-- texts are this project's own.
use Rattle.std.specs.Prelude.{ℕ, cond, List, [], ◌∷◌, ◌++◌, Option, Some, None, codes, decimal, nat_eq}
use Rattle.kb_world.specs.Refusal.{LINE_FEED}
use Rattle.kb_world.specs.Script.{Script}
use Rattle.kb_world.specs.Store.{source_path}
use Rattle.kb_machine.specs.Outcome.{Action, warn, asks}
use Rattle.kb_world.specs.declared.roots.Roots.{Roots}
use Rattle.kb_world.specs.declared.job.Key.{Key}
use Rattle.kb_world.specs.declared.job.Host.{Host}
use Rattle.kb_world.specs.declared.child.Area.TheVariants as areas
use Rattle.kb_world.specs.declared.child.Request.{Request}
use Rattle.kb_conf.specs.declared.given.Given.{Given}
use Rattle.kb_conf.specs.Given.{given_for, environment}

-- what a conf is read for on the machine that a command runs on
abbrev pub host_given : Host → Given
host_given host = given_for host.roots host.kernel host.arch

-- `warning: ` and the text, as a line
abbrev pub warning_line : List ℕ → List ℕ
warning_line text = codes "warning: " ++ text ++ LINE_FEED ∷ []

-- what is said of a child that ended with this code
abbrev pub ended_line : List ℕ → ℕ → List ℕ
ended_line which code = cond (nat_eq code 0) [] (warning_line (which ++ codes " ended with " ++ decimal code))

-- the shell's words for a script
abbrev pub script_args : List ℕ → List (List ℕ)
script_args script = codes "-c" ∷ (codes "./" ++ script) ∷ []

-- a script of the package's source, with its words: it runs there, sees what is there, and may change nothing
abbrev pub script_request : Roots → Given → Key → List ℕ → Request
script_request roots given key script = record {
  program = codes "/bin/sh";
  args = script_args script;
  env = environment given key;
  dir = source_path roots key;
  area = areas.Nothing;
  seen = source_path roots key ∷ [];
}

-- the child is run, and a code that isn't 0 gives a warning
abbrev pub run_warned : Roots → Script → List ℕ → Request → Action
run_warned roots script which request = asks roots script request (λ reply. warn (ended_line which reply.code))

-- the script, where there is one
abbrev pub run_script : Roots → Script → Given → Key → List ℕ → Option (List ℕ) → Action
run_script roots script given key which None = warn []
run_script roots script given key which (Some words) = run_warned roots script which (script_request roots given key words)
