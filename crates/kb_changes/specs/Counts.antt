-- How many files and links are staged below each root. This project's own.
use Rattle.std.specs.Prelude.{ℕ, ◌+◌}
use Rattle.kb_changes.specs.declared.change.RootName.{RootName}
use Rattle.kb_changes.specs.declared.change.RootName.TheVariants as root_name
use Rattle.kb_changes.specs.declared.counts.Counts.{Counts}

-- so many nodes are staged below the root
abbrev pub count_below : Counts → RootName → ℕ
count_below counts root_name.Dkms = counts.dkms
count_below counts root_name.Src = counts.src
count_below counts root_name.Modules = counts.modules
count_below counts root_name.Boot = counts.boot

-- one more is
abbrev pub one_more : RootName → Counts → Counts
one_more root_name.Dkms counts = record counts { dkms = counts.dkms + 1 }
one_more root_name.Src counts = record counts { src = counts.src + 1 }
one_more root_name.Modules counts = record counts { «modules» = counts.modules + 1 }
one_more root_name.Boot counts = record counts { boot = counts.boot + 1 }

-- none is
abbrev pub none_counted : Counts
none_counted = record { dkms = 0; src = 0; «modules» = 0; boot = 0 }
