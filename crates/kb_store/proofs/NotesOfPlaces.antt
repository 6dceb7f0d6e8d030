-- What is noted at a path, by what the path is for.
use Rattle.std.proofs.Common.{◌≡◌, true, false, Bool, cond, List, [], ◌∷◌, ◌++◌, Option, Some, None, is_some, refl, sym, ap, ◌∙◌}
use Rattle.std.proofs.lemmas.List.{append-nil}
use Rattle.std.specs.Prelude.{option_and_then, ℕ, Result, Ok, Err, OnOk}
use Rattle.std.specs.Option.{ForSome, option_map}
use Rattle.kb_world.specs.Path.{Path}
use Rattle.kb_world.specs.StorePath.{store_path}
use Rattle.kb_world.specs.Tree.{Tree, node_at}
use Rattle.kb_world.specs.Store.{is_added, link_path, added_by}
use Rattle.kb_world.specs.Boxes.{targets_path, places_at, kernel_link_path}
use Rattle.kb_world.specs.Damage.{least, unless_sound, files_harm, harm_of}
use Rattle.kb_world.specs.declared.roots.Roots.{Roots}
use Rattle.kb_world.specs.declared.job.Key.{Key}
use Rattle.kb_world.specs.declared.job.Spot.{Spot}
use Rattle.kb_world.specs.declared.store_path.StorePath.{StorePath}
use Rattle.kb_world.specs.declared.store_path.StorePath.TheVariants.{SourceLink, InScratch, Targets, InBox, KernelLink, InChest}
use Rattle.kb_store.specs.Contents.{build_by, build_of, installation_by, installation_of}
use Rattle.kb_store.specs.Notes.{linked, list_of, first_of_two, noted, harmed, source_noted, version_noted, places_noted, place_noted}
use Rattle.kb_store.specs.declared.store.Build.{Build}
use Rattle.kb_store.specs.declared.store.Installation.{Installation}
use Rattle.kb_store.specs.declared.notes.Notes.{Notes}
use Rattle.kb_store.proofs.NotesOfLists.{first_none, first_assoc, least-append}

-- the notes with these parts and damaged paths
abbrev told : Notes → Option Key → Option Build → Option Installation → List Path → Notes
told notes key build installation harm = record {
  added = notes.added ++ list_of key;
  builds = notes.builds ++ list_of build;
  installed = notes.installed ++ list_of installation;
  hurt = first_of_two notes.hurt (least harm);
}

-- damage alone
told_harm : (notes : Notes) (harm : List Path) → told notes None None None harm ≡ harmed notes harm
told_harm notes harm = λ i. record { added = append-nil notes.added i; builds = append-nil notes.builds i; installed = append-nil notes.installed i; hurt = first_of_two notes.hurt (least harm) }

-- no damage changes nothing
pub harmed_none : (notes : Notes) → harmed notes [] ≡ notes
harmed_none notes = λ i. record { added = notes.added; builds = notes.builds; installed = notes.installed; hurt = first_none notes.hurt i }

-- a path that tells nothing
told_none : (notes : Notes) → told notes None None None [] ≡ notes
told_none notes = told_harm notes [] ∙ harmed_none notes

-- an added package
told_key : (notes : Notes) (key : Key) → told notes (Some key) None None [] ≡ record notes { added = notes.added ++ key ∷ [] }
told_key notes key = λ i. record { added = notes.added ++ key ∷ []; builds = append-nil notes.builds i; installed = append-nil notes.installed i; hurt = first_none notes.hurt i }

-- an installation
told_installed : (notes : Notes) (installation : Installation) → told notes None None (Some installation) [] ≡ record notes { installed = notes.installed ++ installation ∷ [] }
told_installed notes installation = λ i. record { added = append-nil notes.added i; builds = append-nil notes.builds i; installed = notes.installed ++ installation ∷ []; hurt = first_none notes.hurt i }

-- a build, and damage
told_built : (notes : Notes) (build : Build) (harm : List Path) → told notes None (Some build) None harm ≡ record notes { builds = notes.builds ++ build ∷ []; hurt = first_of_two notes.hurt (least harm) }
told_built notes build harm = λ i. record { added = append-nil notes.added i; builds = notes.builds ++ build ∷ []; installed = append-nil notes.installed i; hurt = first_of_two notes.hurt (least harm) }

-- damaged paths after others
pub harmed_then : (notes : Notes) (xs ys : List Path) → harmed (harmed notes xs) ys ≡ harmed notes (xs ++ ys)
harmed_then notes xs ys = ap (λ h. record notes { hurt = h }) (first_assoc notes.hurt (least xs) (least ys) ∙ ap (first_of_two notes.hurt) (sym (least-append xs ys)))

-- ---- by what the path is for

module _ (roots : Roots) (tree : Tree) (notes : Notes) where
  -- a version's link
  source_is : (key : Key) (added : Bool) → is_added roots key tree ≡ added → told notes (cond added (Some key) None) None None (unless_sound added (link_path roots key)) ≡ source_noted roots tree notes key
  source_is key true e = told_key notes key ∙ sym (ap (λ b. cond b (record notes { added = notes.added ++ key ∷ [] }) (harmed notes (link_path roots key ∷ []))) e)
  source_is key false e = told_harm notes (link_path roots key ∷ []) ∙ sym (ap (λ b. cond b (record notes { added = notes.added ++ key ∷ [] }) (harmed notes (link_path roots key ∷ []))) e)

  -- a spot's link
  link_is : (word : List ℕ) (spot : Spot) (version : Option (List ℕ)) → told notes None None (option_map (installation_of word spot) version) (unless_sound (is_some version) (kernel_link_path roots word spot)) ≡ version_noted roots notes word spot version
  link_is word spot None = told_harm notes (kernel_link_path roots word spot ∷ [])
  link_is word spot (Some version) = told_installed notes (installation_of word spot version)

  -- a build's `targets`
  box_is : (key : Key) (spot : Spot) (lost : List Path) (places : Option (List Path))
      → told notes None (option_map (build_of key spot) places) None (lost ++ files_harm roots tree key spot places) ≡ places_noted roots tree (harmed notes lost) key spot places
  box_is key spot lost None = told_harm notes (lost ++ targets_path roots key spot ∷ []) ∙ sym (harmed_then notes lost (targets_path roots key spot ∷ []))
  box_is key spot lost (Some places) =
      let build = build_of key spot places in
      let files = files_harm roots tree key spot (Some places) in
      told_built notes build (lost ++ files) ∙ sym (ap (λ (n : Notes). record n { builds = n.builds ++ build ∷ [] }) (harmed_then notes lost files))

  -- what is told of a path that is for this
  abbrev told_of : Option StorePath → Notes
  told_of place = told notes (option_and_then (added_by roots tree) place) (option_and_then (build_by (places_at roots tree)) place) (option_and_then (installation_by (linked roots tree)) place) (harm_of roots tree place)

  place_is : (place : StorePath) → told_of (Some place) ≡ place_noted roots tree notes place
  place_is (SourceLink key) = source_is key (is_added roots key tree) refl
  place_is (Targets key spot) = box_is key spot (unless_sound (is_some (node_at tree (link_path roots key))) (link_path roots key)) (places_at roots tree key spot)
  place_is (KernelLink word spot) = link_is word spot (linked roots tree word spot)
  place_is (InScratch key rest) = told_none notes
  place_is (InBox key spot rest) = told_none notes
  place_is (InChest word spot rest) = told_none notes

  pub noted_place : (path : Path) (place : StorePath) → store_path roots path ≡ Some place → place_noted roots tree notes place ≡ noted roots tree notes path
  noted_place path place e = sym (ap told_of e ∙ place_is place)

  pub noted_nowhere : (path : Path) → store_path roots path ≡ None → notes ≡ noted roots tree notes path
  noted_nowhere path e = sym (ap told_of e ∙ told_none notes)

-- notes that are one thing are what that is
pub told_as : {T E : Type 0} (result : Result T E) (tree : Option Tree) (notes : Notes) (f g : Tree → Notes) → OnOk result (ForSome tree (λ t. notes ≡ f t)) → ((t : Tree) → f t ≡ g t) → OnOk result (ForSome tree (λ t. notes ≡ g t))
told_as (Ok value) tree notes f g h same = λ t is. h t is ∙ same t
told_as (Err error) tree notes f g h same = h
