-- Assignments, and what a variable stands for behind them.
use Rattle.std.specs.Prelude.{ℕ, Bool, ◌&&◌, List, [], ◌∷◌, Option, Some, None, ◌==◌, if◌then◌else◌, codes}
use Rattle.std.specs.Option.{option_or}
use Rattle.std.specs.Str.{bytes_eq}
-- what the caller gives a conf: the kernel, its architecture, and three directories
pub use Rattle.kb_conf.specs.declared.given.Given.{Given}

pub record Assignment : Type 0 where
  pub name : List ℕ
  pub number : ℕ
  pub value : List ℕ

-- the last assignment of a name and number wins
abbrev pub is_of : List ℕ → ℕ → Assignment → Bool
is_of name number a = bytes_eq a.name name && a.number == number

unfoldable pub last_value : List Assignment → List ℕ → ℕ → Option (List ℕ)
last_value [] name number = None
last_value (a ∷ later) name number =
    option_or (last_value later name number) (if is_of name number a then Some a.value else None)

-- the given fields have the number 0
unfoldable pub given_value : Given → List ℕ → ℕ → Option (List ℕ)
given_value g name number =
    if number == 0 then (
    if bytes_eq name (codes "kernelver") then Some g.kernel
    else if bytes_eq name (codes "kernel_source_dir") then Some g.kernel_source_dir
    else if bytes_eq name (codes "dkms_tree") then Some g.dkms_tree
    else if bytes_eq name (codes "source_tree") then Some g.source_tree
    else if bytes_eq name (codes "arch") then Some g.arch
    else None)
    else None
