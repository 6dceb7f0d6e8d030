-- The variables so far are set.
use Rattle.std.proofs.Common.{◌≡◌, ℕ, List, take}
use Rattle.std.specs.Process.{command_var, clears_env, SameProgramAndArgs}
use Rattle.kb_real.specs.Children.{var_after}
use Rattle.kb_real.proofs.children.set_vars.Given as goal

abbrev pub invariant-loop-name : goal.invariant-loop-name
invariant-loop-name l = record {
  vars : (name : List ℕ) → command_var l.command name ≡ var_after name (command_var l.initial.command name) (take l.name-index l.vars);
  call : SameProgramAndArgs l.initial.command l.command;
  clears : clears_env l.command ≡ clears_env l.initial.command;
}
