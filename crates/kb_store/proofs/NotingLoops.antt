-- How noting goes on over paths.
use Rattle.std.proofs.Common.{◌≡◌, ℕ, ◌+◌, not, List, [], ◌∷◌, ◌++◌, codes, map, take, Some, Result, sym, ap, ◌∙◌, append_assoc}
use Rattle.std.proofs.lemmas.List.{map-append}
use Rattle.std.proofs.lemmas.List.Elements.{filter-append}
use Rattle.std.specs.Prelude.{filter, option_and_then}
use Rattle.std.specs.Option.{ForSome}
use Rattle.kb_world.specs.Path.{Path, child}
use Rattle.kb_world.specs.Tree.{Tree, node_at, is_file}
use Rattle.kb_world.specs.State.{State, Looks}
use Rattle.kb_world.specs.Targets.{last_name, targets_of}
use Rattle.kb_world.specs.Boxes.{in_box, targets_path}
use Rattle.kb_world.specs.Tree.{file_bytes}
use Rattle.kb_world.specs.declared.roots.Roots.{Roots}
use Rattle.kb_world.specs.declared.job.Key.{Key}
use Rattle.kb_world.specs.declared.job.Spot.{Spot}
use Rattle.kb_world.specs.declared.world.WorldError.{WorldError}
use Rattle.kb_store.specs.Contents.{build_of}
use Rattle.kb_store.specs.Notes.{harmed, noted_all, absence_noted, files_noted, places_noted, box_noted}
use Rattle.kb_store.specs.declared.notes.Notes.{Notes}
use Rattle.kb_store.specs.declared.store.Build.{Build}
use Rattle.kb_walk.specs.declared.walking.Met.{Met}
use Rattle.kb_world.proofs.LookLaws.{Quiet, quiet_then}
use Rattle.kb_store.proofs.NotesOfPlaces.{harmed_then}

-- the modules' files that are no files
abbrev pub lost_files : Tree → Path → List Path → List Path
lost_files tree modules places = filter (λ file. not (is_file (node_at tree file))) (map (λ place. child modules (last_name place)) places)

-- the files of the first places were noted
pub record HasNotedFiles (old new : State) (before after : Notes) (modules : Path) (places : List Path) (count : ℕ) : Type 0 where
  pub quiet : Quiet old new
  pub noted : ForSome old.tree (λ tree. after ≡ harmed before (lost_files tree modules (take count places)))

-- the first entries were noted
pub record HasNoted (old new : State) (roots : Roots) (before after : Notes) (met : List Met) (count : ℕ) : Type 0 where
  pub quiet : Quiet old new
  pub noted : ForSome old.tree (λ tree. after ≡ noted_all roots tree before (map (λ entry. entry.path) (take count met)))

lost-append : (tree : Tree) (modules : Path) (xs ys : List Path) → lost_files tree modules (xs ++ ys) ≡ lost_files tree modules xs ++ lost_files tree modules ys
lost-append tree modules xs ys =
    ap (filter (λ file. not (is_file (node_at tree file)))) (map-append (λ place. child modules (last_name place)) xs ys)
    ∙ filter-append (λ file. not (is_file (node_at tree file))) (map (λ place. child modules (last_name place)) xs) (map (λ place. child modules (last_name place)) ys)

-- the file of one more place
pub files_more : {T : Type 0} (old mid new : State) (result : Result T WorldError) (before here after : Notes) (modules : Path) (places : List Path) (count : ℕ) (place : Path)
    → HasNotedFiles old mid before here modules places count → take (count + 1) places ≡ take count places ++ place ∷ [] → Looks mid new result
    → ForSome mid.tree (λ tree. after ≡ harmed here (lost_files tree modules (place ∷ []))) → HasNotedFiles old new before after modules places (count + 1)
files_more old mid new result before here after modules places count place so_far more looks one = record {
  quiet = quiet_then old mid new result so_far.quiet looks;
  noted = λ tree told.
      one tree (so_far.quiet.unchanged.tree ∙ told) ∙ ap (λ n. harmed n (lost_files tree modules (place ∷ []))) (so_far.noted tree told)
      ∙ harmed_then before (lost_files tree modules (take count places)) (lost_files tree modules (place ∷ []))
      ∙ ap (harmed before) (sym (lost-append tree modules (take count places) (place ∷ [])) ∙ ap (lost_files tree modules) (sym more));
}

-- the files of a build's modules
files_are : (roots : Roots) (tree : Tree) (notes : Notes) (key : Key) (spot : Spot) (places : List Path) → harmed notes (lost_files tree (in_box roots key spot (codes "module" ∷ [])) places) ≡ files_noted roots tree notes key spot places
files_are roots tree notes key spot places = λ i.
    harmed notes (filter (λ file. not (is_file (node_at tree file))) (map (λ place. append_assoc roots.dkms (key.module ∷ key.version ∷ spot.kernel ∷ spot.arch ∷ codes "module" ∷ []) (last_name place ∷ []) i) places))

-- a build was noted
pub box_done : (roots : Roots) (tree : Tree) (notes absent files : Notes) (key : Key) (spot : Spot) (builds : List Build) (places : List Path) (path modules : Path)
    → absent ≡ absence_noted roots tree notes key → path ≡ targets_path roots key spot → Some places ≡ option_and_then targets_of (file_bytes (node_at tree path)) → modules ≡ in_box roots key spot (codes "module" ∷ [])
    → files ≡ harmed absent (lost_files tree modules places) → builds ≡ files.builds ++ build_of key spot places ∷ []
    → ◌≡◌ {A = Notes} (record { added = files.added; builds = builds; installed = files.installed; hurt = files.hurt }) (box_noted roots tree notes key spot)
box_done roots tree notes absent files key spot builds places path modules absence here told there lost pushed =
    let build = build_of key spot places in
    let marked = lost ∙ ap (λ m. harmed absent (lost_files tree m places)) there ∙ ap (λ n. harmed n (lost_files tree (in_box roots key spot (codes "module" ∷ [])) places)) absence ∙ files_are roots tree (absence_noted roots tree notes key) key spot places in
    (λ i. record { added = files.added; builds = pushed i; installed = files.installed; hurt = files.hurt })
    ∙ ap (λ (n : Notes). record n { builds = n.builds ++ build ∷ [] }) marked
    ∙ ap (places_noted roots tree (absence_noted roots tree notes key) key spot) (told ∙ ap (λ p. option_and_then targets_of (file_bytes (node_at tree p))) here)
