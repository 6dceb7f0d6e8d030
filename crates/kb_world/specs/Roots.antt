-- The roots: where everything stands. This project's own, after the places that dkms(8), kernel-install(8) and the
-- File Hierarchy Standard name.
use Rattle.std.specs.Prelude.{Bool, true, ◌&&◌, not, List, [], ◌∷◌, codes, IsTrue}
use Rattle.std.specs.List.{list_all, list_any}
use Rattle.kb_world.specs.Path.{Path, child, is_under, are_apart}
use Rattle.kb_world.specs.declared.roots.Roots.{Roots}

abbrev pub roots_under : Path → Roots
roots_under base = record {
  base = base;
  dkms = child (child (child base (codes "var")) (codes "lib")) (codes "dkms");
  src = child (child base (codes "usr")) (codes "src");
  modules = child (child base (codes "lib")) (codes "modules");
  boot = child base (codes "boot");
  etc = child base (codes "etc");
  lib = child (child base (codes "usr")) (codes "lib");
  proc = child base (codes "proc");
}

-- the roots that are below the base
abbrev pub based_roots : Roots → List Path
based_roots roots = roots.dkms ∷ roots.src ∷ roots.modules ∷ roots.etc ∷ roots.lib ∷ roots.proc ∷ []

abbrev pub each_apart : List Path → Bool
each_apart [] = true
each_apart (path ∷ paths) = list_all (are_apart path) paths && each_apart paths

-- the path lies below the directory
abbrev pub is_below : Path → Path → Bool
is_below path directory = is_under path directory && not (is_under directory path)

-- no root is at or under another, and every root but boot is below the base
abbrev pub AreApart : Roots → Type 0
AreApart roots = IsTrue (each_apart (roots.boot ∷ based_roots roots) && list_all (λ root. is_below root roots.base) (based_roots roots))

-- both lie below one of the roots
abbrev pub share_root : Roots → Path → Path → Bool
share_root roots a b = list_any (λ root. is_below a root && is_below b root) (roots.boot ∷ based_roots roots)
