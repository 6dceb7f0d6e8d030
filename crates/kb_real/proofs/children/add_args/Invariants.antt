-- The arguments so far are added.
use Rattle.std.proofs.Common.{◌≡◌, ◌++◌, take}
use Rattle.std.specs.Process.{command_program, command_args, SameEnv}
use Rattle.kb_real.proofs.children.add_args.Given as goal

abbrev pub invariant-loop-arg : goal.invariant-loop-arg
invariant-loop-arg l = record {
  args : command_args l.command ≡ command_args l.initial.command ++ take l.arg-index l.args;
  program : command_program l.command ≡ command_program l.initial.command;
  env : SameEnv l.initial.command l.command;
}
