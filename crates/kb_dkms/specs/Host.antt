-- The machine that a command runs on. This project's own.
use Rattle.std.specs.Prelude.{ℕ, Bool, true, ◌&&◌, List, Option, Some, None}
use Rattle.kb_world.specs.Names.{is_kernel, is_arch}
use Rattle.kb_world.specs.declared.job.Host.{Host}

abbrev pub is_kernel_if_any : Option (List ℕ) → Bool
is_kernel_if_any None = true
is_kernel_if_any (Some kernel) = is_kernel kernel

-- its kernel, where it is known, and its architecture keep their rules
abbrev pub host_keeps_rules : Host → Bool
host_keeps_rules host = is_kernel_if_any host.kernel && is_arch host.arch
