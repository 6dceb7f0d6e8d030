-- Which lines a store has by a filter. After `dkms status` of the tool dkms.
use Rattle.std.specs.Prelude.{Bool, ◌&&◌, not, cond, List, ◌++◌, map, filter as keep, Some, None}
use Rattle.std.specs.List.{list_any}
use Rattle.kb_world.specs.Store.{same_key}
use Rattle.kb_world.specs.declared.job.Filter.{Filter}
use Rattle.kb_world.specs.declared.job.Key.{Key}
use Rattle.kb_store.specs.Accessors.{added_in, builds_in, kept_in, is_installed_build}
use Rattle.kb_store.specs.declared.store.Build.{Build}
use Rattle.kb_store.specs.declared.store.Store.{Store}
use Rattle.kb_status.specs.Filter.{is_empty, wants_key, wants_spot, wants_all_spots}
use Rattle.kb_status.specs.declared.line.Line.{Line}
use Rattle.kb_status.specs.declared.line.State.{State}
use Rattle.kb_status.specs.declared.line.State.TheVariants.{Added, Built, Installed}

-- one of the builds is of the package
abbrev pub has_build : Store → Key → Bool
has_build store key = list_any (λ build. same_key build.key key) (builds_in store)

-- an added version has a line where no build is of it, and the filter wants it and names no kernel and no architecture
abbrev pub has_line : Store → Filter → Key → Bool
has_line store filter key = wants_all_spots filter && wants_key filter key && not (has_build store key)

abbrev pub is_build_wanted : Filter → Build → Bool
is_build_wanted filter build = wants_key filter build.key && wants_spot filter build.spot

-- files are kept of the build's module for its spot
abbrev pub has_kept : Store → Build → Bool
has_kept store build = not (is_empty (kept_in store build.key.module build.spot))

-- installed where its version is the one that is installed of its module for its spot, else built
abbrev pub line_state : Store → Build → State
line_state store build = cond (is_installed_build store build) (Installed (has_kept store build)) Built

abbrev pub line_of_added : Key → Line
line_of_added key = record { key = key; spot = None; state = Added }

abbrev pub build_line : Store → Build → Line
build_line store build = record { key = build.key; spot = Some build.spot; state = line_state store build }

abbrev pub added_lines : Store → Filter → List Line
added_lines store filter = map line_of_added (keep (has_line store filter) (added_in store))

abbrev pub build_lines : Store → Filter → List Line
build_lines store filter = map (build_line store) (keep (is_build_wanted filter) (builds_in store))

-- those of the added versions, then those of the builds, each as the store has them
abbrev pub status_lines : Store → Filter → List Line
status_lines store filter = added_lines store filter ++ build_lines store filter
