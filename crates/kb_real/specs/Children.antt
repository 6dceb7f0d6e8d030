-- How a request for a child becomes a command, and how a child's end becomes a reply. This project's own.
use Rattle.std.specs.Prelude.{◌≡◌, ℕ, ◌+◌, ◌/◌, ◌%◌, ◌==◌, min, true, List, Option, Some, None, bytes_eq, codes, cond, if◌then◌else◌}
use Rattle.std.specs.List.{fold}
use Rattle.std.specs.Process.{command_program, command_args, command_var, command_dir, clears_env}
use Rattle.std.specs.declared.process.command.Command.{Command}
use Rattle.kb_world.specs.Path.{path_text}
use Rattle.kb_world.specs.declared.child.Request.{Request}

-- what a command says of a variable once these are set, in order
abbrev pub var_after : List ℕ → Option (Option (List ℕ)) → List (List ℕ × List ℕ) → Option (Option (List ℕ))
var_after name = fold (λ said var. cond (bytes_eq var.0 name) (Some (Some var.1)) said)

-- where a child's program is looked for, and what the child finds as its `PATH`
abbrev pub search_path : List ℕ
search_path = codes "/usr/sbin:/usr/bin:/sbin:/bin"

-- A child has the variables of its request, and `PATH`.
abbrev pub var_of : Request → List ℕ → Option (Option (List ℕ))
var_of request name = cond (bytes_eq (codes "PATH") name) (Some (Some search_path)) (var_after name None request.env)

-- the command runs the request's program with its arguments in its directory, and with these variables alone
pub record IsCommand (request : Request) {A : Type 0} (command : Command A) : Type 0 where
  pub program : command_program command ≡ request.program
  pub args : command_args command ≡ request.args
  pub nothing_else : clears_env command ≡ true
  pub vars : (name : List ℕ) → command_var command name ≡ var_of request name
  pub dir : command_dir command ≡ Some (path_text request.dir)

-- The reply's code, from the status that wait(2) gives: the code of a child that ended itself, or 128 and the number of
-- the signal that ended it.
abbrev pub reply_code : ℕ → ℕ
reply_code status = if status % 128 == 0 then status / 256 % 256 else min (128 + status % 128) 255
