-- Which packages are built, as a set to be looked up in.
use Rattle.std.specs.Prelude.{◌≡◌}
use Rattle.std.specs.Ordering.{ordering_then, nat_cmp}
use Rattle.std.specs.Cmp.Lexicographic.{slice_cmp}
use Rattle.std.specs.BTreeSet.{BTreeSet, contains}
use Rattle.std.specs.declared.cmp.Ordering.{Ordering}
use Rattle.kb_world.specs.declared.job.Key.{Key}
use Rattle.kb_store.specs.declared.store.Store.{Store}
use Rattle.kb_status.specs.Lines.{has_build}
use Rattle.kb_status.specs.declared.built.Package.{Package}

abbrev pub package_of : Key → Package
package_of key = record { «module» = key.module; version = key.version }

-- the order of packages, as it is derived
abbrev pub package_cmp : Package → Package → Ordering
package_cmp a b = ordering_then (slice_cmp nat_cmp a.module b.module) (slice_cmp nat_cmp a.version b.version)

-- the set has the packages of the store's builds
abbrev pub AreBuilt : Store → BTreeSet Package → Type 0
AreBuilt store built = (key : Key) → contains package_cmp built (package_of key) ≡ has_build store key
