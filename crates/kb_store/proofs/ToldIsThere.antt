-- Where nothing is damaged, what the paths tell of a store is there.
use Rattle.std.proofs.Common.{◌≡◌, ℕ, Bool, true, false, cond, List, Option, Some, None, is_some, refl, sym, ap, ◌∙◌}
use Rattle.std.specs.Prelude.{filter_map, option_and_then}
use Rattle.std.specs.FinMap.{keys}
use Rattle.std.specs.Cmp.Derive.{both_true}
use Rattle.kb_world.specs.Names.{is_word}
use Rattle.kb_world.specs.Path.{Path}
use Rattle.kb_world.specs.Tree.{Tree, node_at, link_text, file_bytes}
use Rattle.kb_world.specs.Store.{is_key, is_added}
use Rattle.kb_world.specs.Targets.{targets_of}
use Rattle.kb_world.specs.Boxes.{is_spot, key_of, boxed, is_built, has_files, places_at, targets_path, installed, linked_at, kernel_link_path, version_of}
use Rattle.kb_world.specs.Damage.{hurt}
use Rattle.kb_world.specs.declared.roots.Roots.{Roots}
use Rattle.kb_world.specs.declared.job.Key.{Key}
use Rattle.kb_world.specs.declared.job.Spot.{Spot}
use Rattle.kb_world.specs.declared.tree.Node.{Node}
use Rattle.kb_world.proofs.DamageLaws.{sound_from}
use Rattle.kb_world.proofs.SoundLaws.{told-version}
use Rattle.kb_store.specs.Contents.{at_place, build_by, installation_by}
use Rattle.kb_store.specs.Notes.{linked, told_build, told_installation}
use Rattle.kb_store.proofs.ToldByEntries.{place_same, build_same, installation_same}

-- `targets` that is read stands
told-stands : (at : Option Node) (places : List Path) → option_and_then targets_of (file_bytes at) ≡ Some places → is_some at ≡ true
told-stands None places h = let none : None ≡ Some places = h in absurd (cc)
told-stands (Some at) places h = refl

-- the version that a link gives is the one it says, and built
pub linked_version : (built : List ℕ → Bool) (told : Option (List ℕ)) (version : List ℕ) → option_and_then (λ v. cond (built v) (Some v) None) told ≡ Some version → (told ≡ Some version) × (built version ≡ true)
linked_version built None version h = let none : None ≡ Some version = h in absurd (cc)
linked_version built (Some v) version h = by (built v) refl
  where
    by : (b : Bool) → built v ≡ b → (Some v ≡ Some version) × (built version ≡ true)
    by true e =
        let some : Some v ≡ Some version = sym (ap (λ b. cond b (Some v) None) e) ∙ h in
        let is : v ≡ version = cc in
        (some, ap built (sym is) ∙ e)
    by false e = let none : None ≡ Some version = sym (ap (λ b. cond b (Some v) None) e) ∙ h in absurd (cc)

-- a step that gives back what it was told
then_itself : {A : Type 0} (f : A → Option A) (told : Option A) → ((x : A) → told ≡ Some x → f x ≡ Some x) → told ≡ option_and_then f told
then_itself f None same = refl
then_itself f (Some x) same = sym (same x refl)

-- a test of which both sides are alike doesn't count
either_none : (b : Bool) (nothing : Option (List Path)) → cond b nothing nothing ≡ nothing
either_none true nothing = refl
either_none false nothing = refl

module _ (roots : Roots) (tree : Tree) (unhurt : hurt roots tree ≡ None) where
  -- a build that is told has all its files, below an added version
  whole_box : (key : Key) (spot : Spot) → is_key key ≡ true → is_spot spot ≡ true → places_at roots tree key spot ≡ boxed roots tree key spot
  whole_box key spot named spotted = by (places_at roots tree key spot) refl
    where
      whole : Option (List Path) → Option (List Path)
      whole told = option_and_then (λ places. cond (has_files roots tree key spot places) (Some places) None) told

      by : (told : Option (List Path)) → places_at roots tree key spot ≡ told → places_at roots tree key spot ≡ boxed roots tree key spot
      by None e = e ∙ sym (ap (λ o. cond (is_added roots key tree) (whole o) None) e ∙ either_none (is_added roots key tree) None)
      by (Some places) e =
          let sound = sound_from roots tree unhurt in
          let box = sound.boxes key.module key.version spot.kernel spot.arch named spotted (told-stands (node_at tree (targets_path roots key spot)) places e) in
          let there = sound.sources key.module key.version named box.stands in
          let told = box.told in
          told ∙ sym ((λ i. cond (there i) (whole (told i)) None) ∙ ap (λ b. cond b (Some box.places) None) box.files)

  -- so a link to a build is one to a build that is whole
  whole_link : (word : List ℕ) (spot : Spot) → is_word word ≡ true → is_spot spot ≡ true → linked_at roots tree (kernel_link_path roots word spot) word spot ≡ installed roots tree word spot
  whole_link word spot named spotted =
      let path : Path = kernel_link_path roots word spot in
      let said = option_and_then (version_of spot) (link_text (node_at tree path)) in
      then_itself (λ version. cond (is_some (boxed roots tree (key_of word version) spot)) (Some version) None) (linked_at roots tree path word spot) (λ version e.
      let linked = linked_version (λ v. is_built roots tree (key_of word v) spot) said version e in
      let named_so = both_true named (told-version spot (link_text (node_at tree path)) version linked.0) in
      ap (λ b. cond b (Some version) None) (sym (ap is_some (whole_box (key_of word version) spot named_so spotted)) ∙ linked.1))

  -- a build that is told is there
  pub told_builds_held : filter_map (told_build roots tree) (keys tree) ≡ filter_map (at_place roots (build_by (boxed roots tree))) (keys tree)
  told_builds_held = λ i. filter_map (λ path. place_same roots (build_by (places_at roots tree)) (build_by (boxed roots tree)) (build_same (places_at roots tree) (boxed roots tree) whole_box) path i) (keys tree)

  -- and a link that is told is an installed version
  pub told_installations_held : filter_map (told_installation roots tree) (keys tree) ≡ filter_map (at_place roots (installation_by (installed roots tree))) (keys tree)
  told_installations_held = λ i.
      filter_map (λ path. place_same roots (installation_by (linked roots tree)) (installation_by (installed roots tree)) (installation_same (linked roots tree) (installed roots tree) whole_link) path i) (keys tree)
