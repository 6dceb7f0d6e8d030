-- What keeps a store sound: changes elsewhere, directories that go, links that go, files for files.
use Rattle.std.proofs.Common.{◌≡◌, ℕ, Bool, true, false, cond, ◌&&◌, List, [], ◌∷◌, ◌++◌, ◌-◌, length, take, Option, Some, None, is_some, codes, refl, sym, ap, ◌∙◌}
use Rattle.std.specs.Prelude.{bytes_eq, option_and_then}
use Rattle.std.specs.List.{list_all}
use Rattle.std.specs.Cmp.{first_so, second_so}
use Rattle.std.specs.Cmp.Derive.{both_true}
use Rattle.std.specs.Cmp.Lexicographic.{bytes_decides}
use Rattle.kb_world.specs.Names.{is_word, is_version}
use Rattle.kb_world.specs.Path.{Path}
use Rattle.kb_world.specs.Tree.{Tree, node_at, is_dir, is_file, link_text, file_bytes}
use Rattle.kb_world.specs.Store.{is_added, link_path, source_text, says}
use Rattle.kb_world.specs.Targets.{last_name, targets_of}
use Rattle.kb_world.specs.Boxes.{targets_path, module_file, is_built, spot_of_link, spot_tail, version_of, kernel_link_text, key_of}
use Rattle.kb_world.specs.declared.roots.Roots.{Roots}
use Rattle.kb_world.specs.declared.job.Spot.{Spot}
use Rattle.kb_world.specs.declared.tree.Node.{Node}
use Rattle.kb_world.specs.declared.tree.Node.TheVariants as node
use Rattle.kb_world.proofs.DamageLaws.{spot_of, IsSound}

-- ---- which entries below the dkms root tell of links and builds

-- by its names below the dkms root
abbrev pub tells : Path → Bool
tells [] = false
tells (word ∷ []) = false
tells (word ∷ name ∷ []) = is_some (spot_of_link name)
tells (word ∷ version ∷ name ∷ []) = is_version version && bytes_eq name (codes "source")
tells (word ∷ version ∷ kernel ∷ arch ∷ []) = false
tells (word ∷ version ∷ kernel ∷ arch ∷ name ∷ []) = is_version version && bytes_eq name (codes "targets")
tells (word ∷ version ∷ kernel ∷ arch ∷ name ∷ file ∷ []) = is_version version && bytes_eq name (codes "module")
tells (word ∷ version ∷ kernel ∷ arch ∷ name ∷ file ∷ more ∷ rest) = false

-- an entry that may go: a directory, and a spot's link
abbrev pub may_go : Path → Option Node → Bool
may_go [] at = is_dir at
may_go (word ∷ []) at = is_dir at
may_go (word ∷ name ∷ []) at = true
may_go (word ∷ version ∷ name ∷ rest) at = is_dir at

-- the entry of a module's file
abbrev pub is_module_entry : Path → Bool
is_module_entry [] = false
is_module_entry (word ∷ []) = false
is_module_entry (word ∷ version ∷ []) = false
is_module_entry (word ∷ version ∷ kernel ∷ []) = false
is_module_entry (word ∷ version ∷ kernel ∷ arch ∷ []) = false
is_module_entry (word ∷ version ∷ kernel ∷ arch ∷ name ∷ []) = false
is_module_entry (word ∷ version ∷ kernel ∷ arch ∷ name ∷ file ∷ rest) = true

-- what stands at an entry afterwards: the same; nothing, where it may go; or a file for a module
pub data Kept (names : Path) (old new : Option Node) : Type 0 where
  same : new ≡ old → Kept names old new
  gone : new ≡ None → may_go names old ≡ true → Kept names old new
  filed : is_file new ≡ true → is_module_entry names ≡ true → Kept names old new

abbrev pub Keeps : Roots → Tree → Tree → Type 0
Keeps roots old new = (names : Path) → tells names ≡ true → Kept names (node_at old (roots.dkms ++ names)) (node_at new (roots.dkms ++ names))

nothing : (at : Option Node) → at ≡ None → is_some at ≡ true → ⊥
nothing at e h = let impossible : true ≡ false = sym h ∙ ap is_some e in cc

untrue : false ≡ true → ⊥
untrue e = cc

-- a link or a build's `targets` that stands afterwards stood before
kept-some : (names : Path) (old new : Option Node) → is_module_entry names ≡ false → Kept names old new → is_some new ≡ true → new ≡ old
kept-some names old new flat (same e) h = e
kept-some names old new flat (gone e g) h = absurd (nothing new e h)
kept-some names old new flat (filed f m) h = absurd (untrue (sym flat ∙ m))

-- what is no directory stays at the other entries
kept-firm : (names : Path) (old new : Option Node) → is_module_entry names ≡ false → may_go names old ≡ false → Kept names old new → new ≡ old
kept-firm names old new flat firm (same e) = e
kept-firm names old new flat firm (gone e g) = absurd (untrue (sym firm ∙ g))
kept-firm names old new flat firm (filed f m) = absurd (untrue (sym flat ∙ m))

pub kept-file : (names : Path) (old new : Option Node) → may_go names old ≡ false → is_file old ≡ true → Kept names old new → is_file new ≡ true
kept-file names old new firm file (same e) = ap is_file e ∙ file
kept-file names old new firm file (gone e g) = absurd (untrue (sym firm ∙ g))
kept-file names old new firm file (filed f m) = f

link-firm : (text : List ℕ) (at : Option Node) → says text (link_text at) ≡ true → is_dir at ≡ false
link-firm text None h = refl
link-firm text (Some node.Dir) h = absurd (untrue h)
link-firm text (Some (node.File bytes exec)) h = refl
link-firm text (Some (node.Link told)) h = refl

pub link-stands : (text : List ℕ) (at : Option Node) → says text (link_text at) ≡ true → is_some at ≡ true
link-stands text None h = h
link-stands text (Some at) h = refl

pub file-firm : (at : Option Node) → is_file at ≡ true → is_dir at ≡ false
file-firm None h = refl
file-firm (Some node.Dir) h = absurd (untrue h)
file-firm (Some (node.File bytes exec)) h = refl
file-firm (Some (node.Link told)) h = refl

-- `targets` that is read is a file
told-firm : (at : Option Node) → is_some (option_and_then targets_of (file_bytes at)) ≡ true → is_dir at ≡ false
told-firm None h = refl
told-firm (Some node.Dir) h = absurd (untrue h)
told-firm (Some (node.File bytes exec)) h = refl
told-firm (Some (node.Link told)) h = refl

pub list_all-so : {X : Type 0} (p q : X → Bool) (xs : List X) → ((x : X) → p x ≡ true → q x ≡ true) → list_all p xs ≡ true → list_all q xs ≡ true
list_all-so p q [] so h = refl
list_all-so p q (x ∷ xs) so h = both_true (so x (first_so (p x) (list_all p xs) h)) (list_all-so p q xs so (second_so (p x) (list_all p xs) h))

pub version-of : (spot : Spot) (text version : List ℕ) → version_of spot text ≡ Some version → (is_version version ≡ true) × (text ≡ kernel_link_text version spot)
version-of spot text version h = by (bytes_eq text (kernel_link_text front spot) && is_version front) refl
  where
    front : List ℕ
    front = take (length text - length (spot_tail spot)) text

    no_version : None ≡ Some version → ⊥
    no_version e = cc

    by : (b : Bool) → (bytes_eq text (kernel_link_text front spot) && is_version front) ≡ b → (is_version version ≡ true) × (text ≡ kernel_link_text version spot)
    by true e =
        let some : Some front ≡ Some version = sym (ap (λ b. cond b (Some front) None) e) ∙ h in
        let is : front ≡ version = cc in (
          ap is_version (sym is) ∙ second_so (bytes_eq text (kernel_link_text front spot)) (is_version front) e,
          (bytes_decides text (kernel_link_text front spot)).0 (first_so (bytes_eq text (kernel_link_text front spot)) (is_version front) e) ∙ ap (λ v. kernel_link_text v spot) is,
        )
    by false e = let none : None ≡ Some version = sym (ap (λ b. cond b (Some front) None) e) ∙ h in absurd (no_version none)

-- where the versions that a link may say stay built, the link stays one
pub linked-so : (roots : Roots) (old new : Tree) (word : List ℕ) (spot : Spot) (told : Option (List ℕ))
    → ((version : List ℕ) → told ≡ Some version → is_built roots old (key_of word version) spot ≡ true → is_built roots new (key_of word version) spot ≡ true)
    → is_some (option_and_then (λ version. cond (is_built roots old (key_of word version) spot) (Some version) None) told) ≡ true
    → is_some (option_and_then (λ version. cond (is_built roots new (key_of word version) spot) (Some version) None) told) ≡ true
linked-so roots old new word spot None so h = h
linked-so roots old new word spot (Some version) so h = by (is_built roots old (key_of word version) spot) refl
  where
    by : (b : Bool) → is_built roots old (key_of word version) spot ≡ b → is_some (cond (is_built roots new (key_of word version) spot) (Some version) None) ≡ true
    by true e = ap (λ b. is_some (cond b (Some version) None)) (so version refl e)
    by false e = absurd (untrue (sym (ap (λ b. is_some (cond b (Some version) None)) e) ∙ h))

-- the versions that a text may say keep their rule
pub told-version : (spot : Spot) (text : Option (List ℕ)) (version : List ℕ) → option_and_then (version_of spot) text ≡ Some version → is_version version ≡ true
told-version spot None version h = absurd (no h)
  where
    no : None ≡ Some version → ⊥
    no e = cc
told-version spot (Some text) version h = (version-of spot text version h).0

-- ---- what keeps every entry that tells keeps the store sound

module _ (roots : Roots) (old new : Tree) (kept : Keeps roots old new) where
  pub source-kept : (word version : List ℕ) → is_version version ≡ true → Kept (word ∷ version ∷ codes "source" ∷ []) (node_at old (link_path roots (key_of word version))) (node_at new (link_path roots (key_of word version)))
  source-kept word version named = kept (word ∷ version ∷ codes "source" ∷ []) (both_true named refl)

  pub added-kept : (word version : List ℕ) → is_version version ≡ true → is_added roots (key_of word version) old ≡ true → node_at new (link_path roots (key_of word version)) ≡ node_at old (link_path roots (key_of word version))
  added-kept word version named added =
      kept-firm (word ∷ version ∷ codes "source" ∷ []) _ _ refl (link-firm (source_text roots (key_of word version)) (node_at old (link_path roots (key_of word version))) added) (source-kept word version named)

  pub built-kept : (word version : List ℕ) (spot : Spot) → is_version version ≡ true → is_built roots old (key_of word version) spot ≡ true
      → node_at new (targets_path roots (key_of word version) spot) ≡ node_at old (targets_path roots (key_of word version) spot)
  built-kept word version spot named built =
      kept-firm (word ∷ version ∷ spot.kernel ∷ spot.arch ∷ codes "targets" ∷ []) _ _ refl (told-firm (node_at old (targets_path roots (key_of word version) spot)) built)
      (kept (word ∷ version ∷ spot.kernel ∷ spot.arch ∷ codes "targets" ∷ []) (both_true named refl))

  pub sound_kept : IsSound roots old → IsSound roots new
  sound_kept s = record {
    sources = λ word version named stands.
        let is = second_so (is_word word) (is_version version) named in
        let e = kept-some (word ∷ version ∷ codes "source" ∷ []) _ _ refl (source-kept word version is) stands in
        ap (λ at. says (source_text roots (key_of word version)) (link_text at)) e ∙ s.sources word version named (ap is_some (sym e) ∙ stands);
    boxes = λ word version kernel arch named spotted stands.
        let is = second_so (is_word word) (is_version version) named in
        let key = key_of word version in
        let spot = spot_of kernel arch in
        let e = kept-some (word ∷ version ∷ kernel ∷ arch ∷ codes "targets" ∷ []) _ _ refl (kept (word ∷ version ∷ kernel ∷ arch ∷ codes "targets" ∷ []) (both_true is refl)) stands in
        let b = s.boxes word version kernel arch named spotted (ap is_some (sym e) ∙ stands) in
        record {
          stands = ap is_some (added-kept word version is (s.sources word version named b.stands)) ∙ b.stands;
          places = b.places;
          told = ap (λ at. option_and_then targets_of (file_bytes at)) e ∙ b.told;
          files = list_all-so (λ place. is_file (node_at old (module_file roots key spot place))) (λ place. is_file (node_at new (module_file roots key spot place))) b.places
              (λ place file. kept-file (word ∷ version ∷ kernel ∷ arch ∷ codes "module" ∷ last_name place ∷ []) _ _ (file-firm (node_at old (module_file roots key spot place)) file) file
              (kept (word ∷ version ∷ kernel ∷ arch ∷ codes "module" ∷ last_name place ∷ []) (both_true is refl))) b.files;
        };
    links = λ word name spot named told stands.
        let path : Path = roots.dkms ++ word ∷ name ∷ [] in
        let e = kept-some (word ∷ name ∷ []) (node_at old path) (node_at new path) refl (kept (word ∷ name ∷ []) (ap is_some told)) stands in
        let before = s.links word name spot named told (ap is_some (sym e) ∙ stands) in
        let text = option_and_then (version_of spot) (link_text (node_at old path)) in
        ap (λ at. is_some (option_and_then (λ version. cond (is_built roots new (key_of word version) spot) (Some version) None) (option_and_then (version_of spot) (link_text at)))) e
        ∙ linked-so roots old new word spot text (λ version says_so built.
        ap (λ at. is_some (option_and_then targets_of (file_bytes at))) (built-kept word version spot (told-version spot (link_text (node_at old path)) version says_so) built) ∙ built) before;
  }
