-- The machine that a program's surroundings tell of, and which settings tell of none. This project's own.
use Rattle.std.specs.Prelude.{◌≡◌, ◌⊎◌, ℕ, List, [], Option, Some, None, codes, unwrap_or}
use Rattle.kb_world.specs.Path.{Path, IsPath, path_text}
use Rattle.kb_world.specs.Roots.{AreApart, roots_under}
use Rattle.kb_world.specs.declared.roots.Roots.{Roots}
use Rattle.kb_world.specs.declared.job.Host.{Host}
use Rattle.kb_top.specs.declared.setting.Setting.{Setting}

abbrev pub IsPathOf : List ℕ → Path → Type 0
IsPathOf text path = IsPath path × (path_text path ≡ text)

abbrev pub IsNoPath : List ℕ → Type 0
IsNoPath text = (path : Path) → IsPathOf text path → ⊥

-- the root's path where the root is set, else the root directory
abbrev pub IsBase : Option (List ℕ) → Path → Type 0
IsBase None base = base ≡ []
IsBase (Some text) base = IsPathOf text base

abbrev pub with_boot : Path → Roots → Roots
with_boot boot roots = record {
  base = roots.base;
  dkms = roots.dkms;
  src = roots.src;
  modules = roots.modules;
  boot = boot;
  etc = roots.etc;
  lib = roots.lib;
  proc = roots.proc;
}

-- the usual roots below the base, with the boot that is set in place of the usual one
abbrev pub HasBoot : Option (List ℕ) → Path → Roots → Type 0
HasBoot None base roots = roots ≡ roots_under base
HasBoot (Some text) base roots = (boot : Path) × IsPathOf text boot × (roots ≡ with_boot boot (roots_under base))

pub record IsHostOf (setting : Setting) (host : Host) : Type 0 where
  pub base : Path
  pub base_is : IsBase setting.root base
  pub roots_are : HasBoot setting.boot base host.roots
  pub apart : AreApart host.roots
  pub kernel_is : host.kernel ≡ setting.release
  pub arch_is : host.arch ≡ unwrap_or setting.machine (codes "unknown")

-- the root is set, and no path has its text
abbrev pub IsBadBase : Option (List ℕ) → Type 0
IsBadBase None = ⊥
IsBadBase (Some text) = IsNoPath text

abbrev pub IsBadRoot : Setting → Type 0
IsBadRoot setting = IsBadBase setting.root

-- the boot is set, and no path has its text, or it can't be a root beside the others
abbrev pub IsBadBootFor : Path → Option (List ℕ) → Type 0
IsBadBootFor base None = ⊥
IsBadBootFor base (Some text) = IsNoPath text ⊎ ((boot : Path) × IsPathOf text boot × ¬ AreApart (with_boot boot (roots_under base)))

-- the root is good, and the boot isn't
pub record IsBadBoot (setting : Setting) : Type 0 where
  pub base : Path
  pub base_is : IsBase setting.root base
  pub bad : IsBadBootFor base setting.boot
