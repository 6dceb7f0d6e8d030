-- A link, a build's `targets` and a version's link that are put keep a store sound.
use Rattle.std.proofs.Common.{◌≡◌, ◌≢◌, ℕ, Bool, true, false, cond, List, [], ◌∷◌, ◌++◌, Some, None, is_some, codes, refl, sym, ap, ◌∙◌}
use Rattle.std.proofs.lemmas.List.{append_cancel_left}
use Rattle.std.specs.Prelude.{bytes_eq, option_and_then}
use Rattle.std.specs.Cmp.{first_so, second_so}
use Rattle.std.specs.Cmp.Lexicographic.{bytes_decides}
use Rattle.kb_world.specs.Names.{is_word, is_version, is_kernel, is_arch}
use Rattle.kb_world.specs.Path.{Path}
use Rattle.kb_world.specs.Tree.{Tree, node_at, with_node, is_file, link_text, file_bytes}
use Rattle.kb_world.specs.TreeLaws.{same_path, same_path-true, node_at-with_node, with_node-apart}
use Rattle.kb_world.specs.Store.{is_key, is_added, link_path, source_text, says}
use Rattle.kb_world.specs.Targets.{last_name, are_targets, targets_text, targets_of}
use Rattle.kb_world.specs.Boxes.{is_spot, targets_path, module_file, is_built, has_files, kernel_link_name, spot_of_link, kernel_link_path, kernel_link_text, version_of, linked_at, key_of}
use Rattle.kb_world.specs.declared.roots.Roots.{Roots}
use Rattle.kb_world.specs.declared.job.Key.{Key}
use Rattle.kb_world.specs.declared.job.Spot.{Spot}
use Rattle.kb_world.specs.declared.tree.Node.{Node}
use Rattle.kb_world.specs.declared.tree.Node.TheVariants as node
use Rattle.kb_world.proofs.DamageLaws.{spot_of, IsSoundBox, IsSound}
use Rattle.kb_world.proofs.SoundLaws.{list_all-so, linked-so, told-version, link-stands}
use Rattle.kb_world.proofs.SpotLaws.{link_read, text_read}
use Rattle.kb_world.proofs.TargetsLaws.{printed}

-- a build stays sound where its link stands and its files stay
pub box-so : (roots : Roots) (old new : Tree) (key : Key) (spot : Spot) → is_some (node_at new (link_path roots key)) ≡ true → node_at new (targets_path roots key spot) ≡ node_at old (targets_path roots key spot)
    → ((place : Path) → is_file (node_at old (module_file roots key spot place)) ≡ true → is_file (node_at new (module_file roots key spot place)) ≡ true)
    → IsSoundBox roots old key spot → IsSoundBox roots new key spot
box-so roots old new key spot stands targets files b = record {
  stands = stands;
  places = b.places;
  told = ap (λ at. option_and_then targets_of (file_bytes at)) targets ∙ b.told;
  files = list_all-so (λ place. is_file (node_at old (module_file roots key spot place))) (λ place. is_file (node_at new (module_file roots key spot place))) b.places files b.files;
}

pub built-so : (roots : Roots) (old new : Tree) (key : Key) (spot : Spot) → node_at new (targets_path roots key spot) ≡ node_at old (targets_path roots key spot) → is_built roots old key spot ≡ true → is_built roots new key spot ≡ true
built-so roots old new key spot targets built = ap (λ at. is_some (option_and_then targets_of (file_bytes at))) targets ∙ built

-- a link stays sound where it stays, and what it says stays built
pub link-so : (roots : Roots) (old new : Tree) (word : List ℕ) (spot : Spot) (path : Path) → node_at new path ≡ node_at old path
    → ((version : List ℕ) → is_version version ≡ true → option_and_then (version_of spot) (link_text (node_at old path)) ≡ Some version → is_built roots old (key_of word version) spot ≡ true → is_built roots new (key_of word version) spot ≡ true)
    → is_some (linked_at roots old path word spot) ≡ true → is_some (linked_at roots new path word spot) ≡ true
link-so roots old new word spot path stays built before =
    ap (λ at. is_some (option_and_then (λ version. cond (is_built roots new (key_of word version) spot) (Some version) None) (option_and_then (version_of spot) (link_text at)))) stays
    ∙ linked-so roots old new word spot (option_and_then (version_of spot) (link_text (node_at old path)))
    (λ version told was. built version (told-version spot (link_text (node_at old path)) version told) told was) before

module _ (roots : Roots) (tree : Tree) where
  -- elsewhere it stays
  other : (names : Path) (at : Node) (q : Path) → q ≢ names → node_at (with_node (roots.dkms ++ names) at tree) (roots.dkms ++ q) ≡ node_at tree (roots.dkms ++ q)
  other names at q apart = with_node-apart tree (roots.dkms ++ names) at (roots.dkms ++ q) (λ e. apart (append_cancel_left roots.dkms q names e))

  -- a version's link comes to stand
  pub source_put : (word version : List ℕ) → IsSound roots tree → IsSound roots (with_node (link_path roots (key_of word version)) (node.Link (source_text roots (key_of word version))) tree)
  source_put word version s = record {
    sources = λ w v named stands. at_source w v named (same_path (roots.dkms ++ w ∷ v ∷ codes "source" ∷ []) (roots.dkms ++ here)) refl stands;
    boxes = λ w v k a named spotted stands.
        let e = other here at (w ∷ v ∷ k ∷ a ∷ codes "targets" ∷ []) (λ e. cc) in
        let b = s.boxes w v k a named spotted (ap is_some (sym e) ∙ stands) in
        box-so roots tree new (key_of w v) (spot_of k a) (stays w v (same_path (roots.dkms ++ w ∷ v ∷ codes "source" ∷ []) (roots.dkms ++ here)) refl b.stands) e
        (λ place file. ap is_file (other here at (w ∷ v ∷ k ∷ a ∷ codes "module" ∷ last_name place ∷ []) (λ e. cc)) ∙ file) b;
    links = λ w name spot named told stands.
        let e = other here at (w ∷ name ∷ []) (λ e. cc) in
        link-so roots tree new w spot (roots.dkms ++ w ∷ name ∷ []) e
        (λ v is told_too was. built-so roots tree new (key_of w v) spot (other here at (w ∷ v ∷ spot.kernel ∷ spot.arch ∷ codes "targets" ∷ []) (λ e. cc)) was)
        (s.links w name spot named told (ap is_some (sym e) ∙ stands));
  }
    where
      at : Node
      at = node.Link (source_text roots (key_of word version))

      here : Path
      here = word ∷ version ∷ codes "source" ∷ []

      new : Tree
      new = with_node (roots.dkms ++ here) at tree

      put : (w v : List ℕ) → node_at new (roots.dkms ++ w ∷ v ∷ codes "source" ∷ []) ≡ cond (same_path (roots.dkms ++ w ∷ v ∷ codes "source" ∷ []) (roots.dkms ++ here)) (Some at) (node_at tree (roots.dkms ++ w ∷ v ∷ codes "source" ∷ []))
      put w v = node_at-with_node tree (roots.dkms ++ here) at (roots.dkms ++ w ∷ v ∷ codes "source" ∷ [])

      stays : (w v : List ℕ) (b : Bool) → same_path (roots.dkms ++ w ∷ v ∷ codes "source" ∷ []) (roots.dkms ++ here) ≡ b → is_some (node_at tree (link_path roots (key_of w v))) ≡ true → is_some (node_at new (link_path roots (key_of w v))) ≡ true
      stays w v true e was = ap is_some (put w v) ∙ ap (λ b. is_some (cond b (Some at) (node_at tree (roots.dkms ++ w ∷ v ∷ codes "source" ∷ [])))) e
      stays w v false e was =
          ap is_some (put w v) ∙ ap (λ b. is_some (cond b (Some at) (node_at tree (roots.dkms ++ w ∷ v ∷ codes "source" ∷ [])))) e
          ∙ was

      at_source : (w v : List ℕ) → is_key (key_of w v) ≡ true → (b : Bool) → same_path (roots.dkms ++ w ∷ v ∷ codes "source" ∷ []) (roots.dkms ++ here) ≡ b → is_some (node_at new (link_path roots (key_of w v))) ≡ true → is_added roots (key_of w v) new ≡ true
      at_source w v named true e stands =
          let is = append_cancel_left roots.dkms (w ∷ v ∷ codes "source" ∷ []) here (same_path-true (roots.dkms ++ w ∷ v ∷ codes "source" ∷ []) (roots.dkms ++ here) e) in
          let w_is : w ≡ word = cc in
          let v_is : v ≡ version = cc in
          let texts : source_text roots (key_of w v) ≡ source_text roots (key_of word version) = ap (λ x. source_text roots (key_of x v)) w_is ∙ ap (λ x. source_text roots (key_of word x)) v_is in
          ap (λ n. says (source_text roots (key_of w v)) (link_text n)) (put w v)
          ∙ ap (λ b. says (source_text roots (key_of w v)) (link_text (cond b (Some at) (node_at tree (roots.dkms ++ w ∷ v ∷ codes "source" ∷ []))))) e
          ∙ (bytes_decides (source_text roots (key_of word version)) (source_text roots (key_of w v))).1 (sym texts)
      at_source w v named false e stands =
          let same_node = put w v ∙ ap (λ b. cond b (Some at) (node_at tree (roots.dkms ++ w ∷ v ∷ codes "source" ∷ []))) e in
          ap (λ n. says (source_text roots (key_of w v)) (link_text n)) same_node ∙ s.sources w v named (ap is_some (sym same_node) ∙ stands)

  -- a build's `targets` comes to stand, behind its files
  pub targets_put : (word version : List ℕ) (spot : Spot) (places : List Path) → is_added roots (key_of word version) tree ≡ true → are_targets places ≡ true → has_files roots tree (key_of word version) spot places ≡ true
      → IsSound roots tree → IsSound roots (with_node (targets_path roots (key_of word version) spot) (node.File (targets_text places) false) tree)
  targets_put word version spot places added fit files s = record {
    sources = λ w v named stands.
        let e = source_same w v in
        ap (λ n. says (source_text roots (key_of w v)) (link_text n)) e ∙ s.sources w v named (ap is_some (sym e) ∙ stands);
    boxes = λ w v k a named spotted stands. at_box w v k a named spotted (same_path (targets_path roots (key_of w v) (spot_of k a)) (roots.dkms ++ here)) refl stands;
    links = λ w name link_spot named told stands.
        let e = other here at (w ∷ name ∷ []) (λ e. cc) in
        link-so roots tree new w link_spot (roots.dkms ++ w ∷ name ∷ []) e
        (λ v is told_too was. built w v link_spot (same_path (targets_path roots (key_of w v) link_spot) (roots.dkms ++ here)) refl was)
        (s.links w name link_spot named told (ap is_some (sym e) ∙ stands));
  }
    where
      at : Node
      at = node.File (targets_text places) false

      here : Path
      here = word ∷ version ∷ spot.kernel ∷ spot.arch ∷ codes "targets" ∷ []

      new : Tree
      new = with_node (roots.dkms ++ here) at tree

      source_same : (w v : List ℕ) → node_at new (link_path roots (key_of w v)) ≡ node_at tree (link_path roots (key_of w v))
      source_same w v = other here at (w ∷ v ∷ codes "source" ∷ []) (λ e. cc)

      no_module : bytes_eq (codes "module") (codes "targets") ≡ false
      no_module = refl

      file_same : (w v k a file : List ℕ) → node_at new (roots.dkms ++ w ∷ v ∷ k ∷ a ∷ codes "module" ∷ file ∷ []) ≡ node_at tree (roots.dkms ++ w ∷ v ∷ k ∷ a ∷ codes "module" ∷ file ∷ [])
      file_same w v k a file = other here at (w ∷ v ∷ k ∷ a ∷ codes "module" ∷ file ∷ []) (λ e. cc)

      read_here : option_and_then targets_of (file_bytes (Some at)) ≡ Some places
      read_here = printed places fit

      put : (p : Path) → node_at new p ≡ cond (same_path p (roots.dkms ++ here)) (Some at) (node_at tree p)
      put p = node_at-with_node tree (roots.dkms ++ here) at p

      built : (w v : List ℕ) (link_spot : Spot) (b : Bool) → same_path (targets_path roots (key_of w v) link_spot) (roots.dkms ++ here) ≡ b → is_built roots tree (key_of w v) link_spot ≡ true → is_built roots new (key_of w v) link_spot ≡ true
      built w v link_spot true e was =
          ap (λ n. is_some (option_and_then targets_of (file_bytes n))) (put (targets_path roots (key_of w v) link_spot) ∙ ap (λ b. cond b (Some at) (node_at tree (targets_path roots (key_of w v) link_spot))) e) ∙ ap is_some read_here
      built w v link_spot false e was =
          built-so roots tree new (key_of w v) link_spot (put (targets_path roots (key_of w v) link_spot) ∙ ap (λ b. cond b (Some at) (node_at tree (targets_path roots (key_of w v) link_spot))) e) was

      at_box : (w v k a : List ℕ) → is_key (key_of w v) ≡ true → is_spot (spot_of k a) ≡ true → (b : Bool) → same_path (targets_path roots (key_of w v) (spot_of k a)) (roots.dkms ++ here) ≡ b
          → is_some (node_at new (targets_path roots (key_of w v) (spot_of k a))) ≡ true → IsSoundBox roots new (key_of w v) (spot_of k a)
      at_box w v k a named spotted true e stands =
          let is = append_cancel_left roots.dkms (w ∷ v ∷ k ∷ a ∷ codes "targets" ∷ []) here (same_path-true (targets_path roots (key_of w v) (spot_of k a)) (roots.dkms ++ here) e) in
          let w_is : word ≡ w = cc in
          let v_is : version ≡ v = cc in
          let k_is : spot.kernel ≡ k = cc in
          let a_is : spot.arch ≡ a = cc in
          let moved : has_files roots tree (key_of w v) (spot_of k a) places ≡ true =
          ap (λ x. has_files roots tree (key_of x v) (spot_of k a) places) (sym w_is) ∙ ap (λ x. has_files roots tree (key_of word x) (spot_of k a) places) (sym v_is)
          ∙ ap (λ x. has_files roots tree (key_of word version) (spot_of x a) places) (sym k_is) ∙ ap (λ x. has_files roots tree (key_of word version) (spot_of spot.kernel x) places) (sym a_is) ∙ files in
          let added_here : is_added roots (key_of w v) tree ≡ true = ap (λ x. is_added roots (key_of x v) tree) (sym w_is) ∙ ap (λ x. is_added roots (key_of word x) tree) (sym v_is) ∙ added in
          record {
            stands = ap is_some (source_same w v) ∙ link-stands (source_text roots (key_of w v)) (node_at tree (link_path roots (key_of w v))) added_here;
            places = places;
            told = ap (λ n. option_and_then targets_of (file_bytes n)) (put (targets_path roots (key_of w v) (spot_of k a)) ∙ ap (λ b. cond b (Some at) (node_at tree (targets_path roots (key_of w v) (spot_of k a)))) e) ∙ read_here;
            files = list_all-so (λ place. is_file (node_at tree (module_file roots (key_of w v) (spot_of k a) place))) (λ place. is_file (node_at new (module_file roots (key_of w v) (spot_of k a) place))) places
                (λ place file. ap is_file (file_same w v k a (last_name place)) ∙ file) moved;
          }
      at_box w v k a named spotted false e stands =
          let same_node = put (targets_path roots (key_of w v) (spot_of k a)) ∙ ap (λ b. cond b (Some at) (node_at tree (targets_path roots (key_of w v) (spot_of k a)))) e in
          let b = s.boxes w v k a named spotted (ap is_some (sym same_node) ∙ stands) in
          box-so roots tree new (key_of w v) (spot_of k a) (ap is_some (source_same w v) ∙ b.stands) same_node (λ place file. ap is_file (file_same w v k a (last_name place)) ∙ file) b

  -- the link of a built version comes to stand
  pub link_put : (word version kernel arch : List ℕ) → is_version version ≡ true → is_spot (spot_of kernel arch) ≡ true → is_built roots tree (key_of word version) (spot_of kernel arch) ≡ true
      → IsSound roots tree → IsSound roots (with_node (kernel_link_path roots word (spot_of kernel arch)) (node.Link (kernel_link_text version (spot_of kernel arch))) tree)
  link_put word version kernel arch named_version spotted_here built s = record {
    sources = λ w v named stands.
        let e = other here at (w ∷ v ∷ codes "source" ∷ []) (λ e. cc) in
        ap (λ n. says (source_text roots (key_of w v)) (link_text n)) e ∙ s.sources w v named (ap is_some (sym e) ∙ stands);
    boxes = λ w v k a named spotted stands.
        let e = other here at (w ∷ v ∷ k ∷ a ∷ codes "targets" ∷ []) (λ e. cc) in
        let b = s.boxes w v k a named spotted (ap is_some (sym e) ∙ stands) in
        let source = other here at (w ∷ v ∷ codes "source" ∷ []) (λ e. cc) in
        box-so roots tree new (key_of w v) (spot_of k a) (ap is_some source ∙ b.stands) e (λ place file. ap is_file (other here at (w ∷ v ∷ k ∷ a ∷ codes "module" ∷ last_name place ∷ []) (λ e. cc)) ∙ file) b;
    links = λ w name link_spot named told stands. at_link w name link_spot named told (same_path (roots.dkms ++ w ∷ name ∷ []) (roots.dkms ++ here)) refl stands;
  }
    where
      spot : Spot
      spot = spot_of kernel arch

      at : Node
      at = node.Link (kernel_link_text version spot)

      here : Path
      here = word ∷ kernel_link_name spot ∷ []

      new : Tree
      new = with_node (roots.dkms ++ here) at tree

      targets_same : (key : Key) (s : Spot) → node_at new (targets_path roots key s) ≡ node_at tree (targets_path roots key s)
      targets_same key s = other here at (key.module ∷ key.version ∷ s.kernel ∷ s.arch ∷ codes "targets" ∷ []) (λ e. cc)

      said : is_some (option_and_then (λ v. cond (is_built roots new (key_of word v) spot) (Some v) None) (option_and_then (version_of spot) (link_text (Some at)))) ≡ true
      said =
          ap (λ o. is_some (option_and_then (λ v. cond (is_built roots new (key_of word v) spot) (Some v) None) o)) (text_read spot version named_version)
          ∙ ap (λ b. is_some (cond b (Some version) None)) (built-so roots tree new (key_of word version) spot (targets_same (key_of word version) spot) built)

      at_link : (w name : List ℕ) (link_spot : Spot) → is_word w ≡ true → spot_of_link name ≡ Some link_spot → (b : Bool) → same_path (roots.dkms ++ w ∷ name ∷ []) (roots.dkms ++ here) ≡ b
          → is_some (node_at new (roots.dkms ++ w ∷ name ∷ [])) ≡ true → is_some (linked_at roots new (roots.dkms ++ w ∷ name ∷ []) w link_spot) ≡ true
      at_link w name link_spot named told true e stands =
          let is = append_cancel_left roots.dkms (w ∷ name ∷ []) here (same_path-true (roots.dkms ++ w ∷ name ∷ []) (roots.dkms ++ here) e) in
          let w_is : w ≡ word = cc in
          let name_is : name ≡ kernel_link_name spot = cc in
          let spots : Some link_spot ≡ Some spot = sym told ∙ ap spot_of_link name_is ∙ link_read kernel arch (first_so (is_kernel kernel) (is_arch arch) spotted_here) (second_so (is_kernel kernel) (is_arch arch) spotted_here) in
          let spot_is : link_spot ≡ spot = cc in
          let node_is : node_at new (roots.dkms ++ w ∷ name ∷ []) ≡ Some at = node_at-with_node tree (roots.dkms ++ here) at (roots.dkms ++ w ∷ name ∷ []) ∙ ap (λ b. cond b (Some at) (node_at tree (roots.dkms ++ w ∷ name ∷ []))) e in
          ap (λ n. is_some (option_and_then (λ v. cond (is_built roots new (key_of w v) link_spot) (Some v) None) (option_and_then (version_of link_spot) (link_text n)))) node_is
          ∙ ap (λ x. is_some (option_and_then (λ v. cond (is_built roots new (key_of w v) x) (Some v) None) (option_and_then (version_of x) (link_text (Some at))))) spot_is
          ∙ ap (λ x. is_some (option_and_then (λ v. cond (is_built roots new (key_of x v) spot) (Some v) None) (option_and_then (version_of spot) (link_text (Some at))))) w_is ∙ said
      at_link w name link_spot named told false e stands =
          let same_node = node_at-with_node tree (roots.dkms ++ here) at (roots.dkms ++ w ∷ name ∷ []) ∙ ap (λ b. cond b (Some at) (node_at tree (roots.dkms ++ w ∷ name ∷ []))) e in
          link-so roots tree new w link_spot (roots.dkms ++ w ∷ name ∷ []) same_node
          (λ v is told_too was. built-so roots tree new (key_of w v) link_spot (targets_same (key_of w v) link_spot) was)
          (s.links w name link_spot named told (ap is_some (sym same_node) ∙ stands))
