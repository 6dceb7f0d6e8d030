-- What a conf is read for, and the variables that a package's children have. After dkms(8).
use Rattle.std.specs.Prelude.{ℕ, List, [], ◌∷◌, Option, Some, None, codes, unwrap_or}
use Rattle.kb_world.specs.Path.{child, path_text}
use Rattle.kb_world.specs.declared.roots.Roots.{Roots}
use Rattle.kb_world.specs.declared.job.Key.{Key}
use Rattle.kb_conf.specs.Assignment.{Given}

-- where a kernel's headers are: its link `build`; nothing without a kernel
abbrev pub source_dir_of : Roots → Option (List ℕ) → List ℕ
source_dir_of roots None = []
source_dir_of roots (Some kernel) = path_text (child (child roots.modules kernel) (codes "build"))

-- for a kernel, which may be absent, and an architecture
abbrev pub given_for : Roots → Option (List ℕ) → List ℕ → Given
given_for roots kernel arch = record {
  kernel = unwrap_or kernel [];
  arch = arch;
  kernel_source_dir = source_dir_of roots kernel;
  dkms_tree = path_text roots.dkms;
  source_tree = path_text roots.src;
}

abbrev pub Variable : Type 0
Variable = List ℕ × List ℕ

-- the variables of a package's build children and scripts, in order
abbrev pub environment : Given → Key → List Variable
environment given key =
    (codes "arch", given.arch) ∷ (codes "dkms_tree", given.dkms_tree) ∷ (codes "kernel_source_dir", given.kernel_source_dir) ∷ (codes "kernelver", given.kernel)
    ∷ (codes "module", key.module) ∷ (codes "module_version", key.version) ∷ (codes "source_tree", given.source_tree) ∷ []
