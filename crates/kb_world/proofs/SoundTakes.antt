-- A version's link, a spot's link and a build that are taken away leave a store sound, where nothing stands on them.
use Rattle.std.proofs.Common.{◌≡◌, ◌≢◌, ℕ, Bool, true, false, cond, ◌&&◌, not, List, [], ◌∷◌, ◌++◌, Option, Some, None, is_some, codes, refl, sym, ap, ◌∙◌}
use Rattle.std.proofs.lemmas.List.{append_cancel_left}
use Rattle.std.specs.Prelude.{option_and_then}
use Rattle.kb_world.specs.Path.{Path, is_under}
use Rattle.kb_world.specs.Tree.{Tree, node_at, is_file, is_leaf, link_text}
use Rattle.kb_world.specs.TreeLaws.{same_path, same_path-true, same_path-refl, same_path-false, node_at-retain}
use Rattle.kb_world.specs.Store.{link_path, source_text, says}
use Rattle.kb_world.specs.Targets.{last_name}
use Rattle.kb_world.specs.Boxes.{is_spot, targets_path, is_built, kernel_link_name, spot_of_link, kernel_link_path, version_of, linked_at, key_of}
use Rattle.kb_world.specs.Patch.{dropped, wiped}
use Rattle.kb_world.specs.declared.roots.Roots.{Roots}
use Rattle.kb_world.specs.declared.job.Spot.{Spot}
use Rattle.kb_world.specs.declared.tree.Node.{Node}
use Rattle.kb_world.specs.declared.tree.Node.TheVariants as node
use Rattle.kb_world.proofs.PathLaws.{under-beside, by_test}
use Rattle.kb_world.proofs.DamageLaws.{spot_of, IsSound, under-split}
use Rattle.kb_world.proofs.PatchLaws.{dropped-at}
use Rattle.kb_world.proofs.SoundLaws.{may_go, Kept, same, gone, filed, Keeps}
use Rattle.kb_world.proofs.SoundPuts.{box-so, built-so, link-so}
use Rattle.kb_world.proofs.SpotLaws.{link_named}

untrue : false ≡ true → ⊥
untrue e = cc

-- what stands elsewhere when a file or a link of an entry goes, and when all of an entry goes
module _ (roots : Roots) (names : Path) (tree : Tree) where
  dropped_at : (q : Path) → node_at (dropped (roots.dkms ++ names) tree) (roots.dkms ++ q) ≡ cond (same_path (roots.dkms ++ q) (roots.dkms ++ names) && is_leaf (node_at tree (roots.dkms ++ q))) None (node_at tree (roots.dkms ++ q))
  dropped_at q = dropped-at (roots.dkms ++ names) tree (roots.dkms ++ q)

  dropped_other : (q : Path) → same_path (roots.dkms ++ q) (roots.dkms ++ names) ≡ false → node_at (dropped (roots.dkms ++ names) tree) (roots.dkms ++ q) ≡ node_at tree (roots.dkms ++ q)
  dropped_other q e = dropped_at q ∙ ap (λ b. cond (b && is_leaf (node_at tree (roots.dkms ++ q))) None (node_at tree (roots.dkms ++ q))) e

  dropped_apart : (q : Path) → q ≢ names → node_at (dropped (roots.dkms ++ names) tree) (roots.dkms ++ q) ≡ node_at tree (roots.dkms ++ q)
  dropped_apart q apart = dropped_other q (same_path-false (roots.dkms ++ q) (roots.dkms ++ names) (λ e. apart (append_cancel_left roots.dkms q names e)))

  -- what is left there stood there
  dropped_stands : (q : Path) → is_some (node_at (dropped (roots.dkms ++ names) tree) (roots.dkms ++ q)) ≡ true → node_at (dropped (roots.dkms ++ names) tree) (roots.dkms ++ q) ≡ node_at tree (roots.dkms ++ q)
  dropped_stands q stands = by (same_path (roots.dkms ++ q) (roots.dkms ++ names) && is_leaf (node_at tree (roots.dkms ++ q))) (dropped_at q)
    where
      by : (b : Bool) → node_at (dropped (roots.dkms ++ names) tree) (roots.dkms ++ q) ≡ cond b None (node_at tree (roots.dkms ++ q)) → node_at (dropped (roots.dkms ++ names) tree) (roots.dkms ++ q) ≡ node_at tree (roots.dkms ++ q)
      by true e = absurd (untrue (sym (ap is_some e) ∙ stands))
      by false e = e

  left-at : (q : Path) → node_at (wiped (roots.dkms ++ names) tree) (roots.dkms ++ q) ≡ cond (not (is_under q names)) (node_at tree (roots.dkms ++ q)) None
  left-at q = node_at-retain tree (λ other. not (is_under other (roots.dkms ++ names))) (roots.dkms ++ q) ∙ ap (λ b. cond (not b) (node_at tree (roots.dkms ++ q)) None) (under-beside roots.dkms q names)

  left-apart : (q : Path) → is_under q names ≡ false → node_at (wiped (roots.dkms ++ names) tree) (roots.dkms ++ q) ≡ node_at tree (roots.dkms ++ q)
  left-apart q e = left-at q ∙ ap (λ b. cond (not b) (node_at tree (roots.dkms ++ q)) None) e

  -- what is left there isn't below
  left-stands : (q : Path) → is_some (node_at (wiped (roots.dkms ++ names) tree) (roots.dkms ++ q)) ≡ true → is_under q names ≡ false
  left-stands q stands = by_test (is_under q names) (λ e. untrue (sym (ap is_some (left-at q ∙ ap (λ b. cond (not b) (node_at tree (roots.dkms ++ q)) None) e)) ∙ stands))

-- ---- a version's link

abbrev pub HasNoBuilds : Roots → Tree → List ℕ → List ℕ → Type 0
HasNoBuilds roots tree word version = (kernel arch : List ℕ) → is_spot (spot_of kernel arch) ≡ true → is_some (node_at tree (targets_path roots (key_of word version) (spot_of kernel arch))) ≡ false

pub source_dropped : (roots : Roots) (word version : List ℕ) (tree : Tree) → HasNoBuilds roots tree word version → IsSound roots tree → IsSound roots (dropped (link_path roots (key_of word version)) tree)
source_dropped roots word version tree unbuilt s = record {
  sources = λ w v named stands.
      let e = dropped_stands roots names tree (w ∷ v ∷ codes "source" ∷ []) stands in
      ap (λ n. says (source_text roots (key_of w v)) (link_text n)) e ∙ s.sources w v named (ap is_some (sym e) ∙ stands);
  boxes = λ w v k a named spotted stands.
      let e = dropped_apart roots names tree (w ∷ v ∷ k ∷ a ∷ codes "targets" ∷ []) (λ e. cc) in
      let stood = ap is_some (sym e) ∙ stands in
      let b = s.boxes w v k a named spotted stood in
      let apart : same_path (roots.dkms ++ w ∷ v ∷ codes "source" ∷ []) (roots.dkms ++ names) ≡ false = by_test _ (λ one.
      let is = append_cancel_left roots.dkms (w ∷ v ∷ codes "source" ∷ []) names (same_path-true (roots.dkms ++ w ∷ v ∷ codes "source" ∷ []) (roots.dkms ++ names) one) in
      let w_is : w ≡ word = cc in
      let v_is : v ≡ version = cc in
      let none : is_some (node_at tree (targets_path roots (key_of w v) (spot_of k a))) ≡ false =
      ap (λ x. is_some (node_at tree (targets_path roots (key_of x v) (spot_of k a)))) w_is ∙ ap (λ x. is_some (node_at tree (targets_path roots (key_of word x) (spot_of k a)))) v_is ∙ unbuilt k a spotted in
      untrue (sym none ∙ stood)) in
      box-so roots tree new (key_of w v) (spot_of k a) (ap is_some (dropped_other roots names tree (w ∷ v ∷ codes "source" ∷ []) apart) ∙ b.stands) e
      (λ place file. ap is_file (dropped_apart roots names tree (w ∷ v ∷ k ∷ a ∷ codes "module" ∷ last_name place ∷ []) (λ e. cc)) ∙ file) b;
  links = λ w name spot named told stands.
      let e = dropped_apart roots names tree (w ∷ name ∷ []) (λ e. cc) in
      link-so roots tree new w spot (roots.dkms ++ w ∷ name ∷ []) e
      (λ v is told_too was. built-so roots tree new (key_of w v) spot (dropped_apart roots names tree (w ∷ v ∷ spot.kernel ∷ spot.arch ∷ codes "targets" ∷ []) (λ e. cc)) was)
      (s.links w name spot named told (ap is_some (sym e) ∙ stands));
}
  where
    names : Path
    names = word ∷ version ∷ codes "source" ∷ []

    new : Tree
    new = dropped (roots.dkms ++ names) tree

-- ---- a spot's link

pub link_dropped : (roots : Roots) (word : List ℕ) (spot : Spot) (tree : Tree) → Keeps roots tree (dropped (kernel_link_path roots word spot) tree)
link_dropped roots word spot tree names h = by (same_path (roots.dkms ++ names) (roots.dkms ++ link)) (is_leaf (node_at tree (roots.dkms ++ names))) refl (dropped_at roots link tree names)
  where
    link : Path
    link = word ∷ kernel_link_name spot ∷ []

    by : (s l : Bool) → same_path (roots.dkms ++ names) (roots.dkms ++ link) ≡ s → node_at (dropped (roots.dkms ++ link) tree) (roots.dkms ++ names) ≡ cond (s && l) None (node_at tree (roots.dkms ++ names))
        → Kept names (node_at tree (roots.dkms ++ names)) (node_at (dropped (roots.dkms ++ link) tree) (roots.dkms ++ names))
    by true true s e =
        let is = append_cancel_left roots.dkms names link (same_path-true (roots.dkms ++ names) (roots.dkms ++ link) s) in
        gone e (ap (λ n. may_go n (node_at tree (roots.dkms ++ names))) is)
    by true false s e = same e
    by false l s e = same e

-- no link stands there
abbrev pub IsLinkless : Roots → List ℕ → Spot → Tree → Type 0
IsLinkless roots word spot tree = link_text (node_at tree (kernel_link_path roots word spot)) ≡ None

pub dropped_linkless : (roots : Roots) (word : List ℕ) (spot : Spot) (tree : Tree) → IsLinkless roots word spot (dropped (kernel_link_path roots word spot) tree)
dropped_linkless roots word spot tree =
    ap link_text (dropped_at roots link tree link ∙ ap (λ b. cond (b && is_leaf (node_at tree (roots.dkms ++ link))) None (node_at tree (roots.dkms ++ link))) (same_path-refl (roots.dkms ++ link)))
    ∙ by (node_at tree (roots.dkms ++ link))
  where
    link : Path
    link = word ∷ kernel_link_name spot ∷ []

    by : (at : Option Node) → link_text (cond (is_leaf at) None at) ≡ None
    by None = refl
    by (Some node.Dir) = refl
    by (Some (node.File bytes exec)) = refl
    by (Some (node.Link text)) = refl

pub still_linkless : (word name : List ℕ) (old new : Option Node) → link_text old ≡ None → Kept (word ∷ name ∷ []) old new → link_text new ≡ None
still_linkless word name old new none (same e) = ap link_text e ∙ none
still_linkless word name old new none (gone e g) = ap link_text e
still_linkless word name old new none (filed f m) = absurd (untrue m)

-- ---- a build

-- no link says that the version is installed for the spot
abbrev pub IsUnlinked : Roots → Tree → List ℕ → List ℕ → Spot → Type 0
IsUnlinked roots tree word version spot = linked_at roots tree (kernel_link_path roots word spot) word spot ≡ Some version → ⊥

pub linkless-unlinked : (roots : Roots) (tree : Tree) (word version : List ℕ) (spot : Spot) → IsLinkless roots word spot tree → IsUnlinked roots tree word version spot
linkless-unlinked roots tree word version spot none linked =
    let impossible : None ≡ Some version = sym (ap (λ text. option_and_then (λ v. cond (is_built roots tree (key_of word v) spot) (Some v) None) (option_and_then (version_of spot) text)) none) ∙ linked in cc

pub box_gone : (roots : Roots) (word version kernel arch : List ℕ) (tree : Tree) → IsUnlinked roots tree word version (spot_of kernel arch) → IsSound roots tree
    → IsSound roots (wiped (roots.dkms ++ word ∷ version ∷ kernel ∷ arch ∷ []) tree)
box_gone roots word version kernel arch tree unlinked s = record {
  sources = λ w v named stands.
      let e = source_same w v in
      ap (λ n. says (source_text roots (key_of w v)) (link_text n)) e ∙ s.sources w v named (ap is_some (sym e) ∙ stands);
  boxes = λ w v k a named spotted stands.
      let apart = left-stands roots names tree (w ∷ v ∷ k ∷ a ∷ codes "targets" ∷ []) stands in
      let e = left-apart roots names tree (w ∷ v ∷ k ∷ a ∷ codes "targets" ∷ []) apart in
      let b = s.boxes w v k a named spotted (ap is_some (sym e) ∙ stands) in
      box-so roots tree new (key_of w v) (spot_of k a) (ap is_some (source_same w v) ∙ b.stands) e
      (λ place file. ap is_file (left-apart roots names tree (w ∷ v ∷ k ∷ a ∷ codes "module" ∷ last_name place ∷ []) apart) ∙ file) b;
  links = λ w name link_spot named told stands.
      let e = left-apart roots names tree (w ∷ name ∷ []) (shorter w name) in
      link-so roots tree new w link_spot (roots.dkms ++ w ∷ name ∷ []) e
      (λ v is told_too was. built-so roots tree new (key_of w v) link_spot
      (left-apart roots names tree (w ∷ v ∷ link_spot.kernel ∷ link_spot.arch ∷ codes "targets" ∷ []) (by_test (is_under (w ∷ v ∷ link_spot.kernel ∷ link_spot.arch ∷ codes "targets" ∷ []) names) (λ under. linked w name link_spot told v told_too was under))) was)
      (s.links w name link_spot named told (ap is_some (sym e) ∙ stands));
}
  where
    names : Path
    names = word ∷ version ∷ kernel ∷ arch ∷ []

    new : Tree
    new = wiped (roots.dkms ++ names) tree

    spot : Spot
    spot = spot_of kernel arch

    shorter : (w name : List ℕ) → is_under (w ∷ name ∷ []) names ≡ false
    shorter w name = by_test (is_under (w ∷ name ∷ []) names) (λ e. let split = under-split (w ∷ name ∷ []) names e in cc)

    short_source : (w v : List ℕ) → is_under (w ∷ v ∷ codes "source" ∷ []) names ≡ false
    short_source w v = by_test (is_under (w ∷ v ∷ codes "source" ∷ []) names) (λ e. let split = under-split (w ∷ v ∷ codes "source" ∷ []) names e in cc)

    source_same : (w v : List ℕ) → node_at new (link_path roots (key_of w v)) ≡ node_at tree (link_path roots (key_of w v))
    source_same w v = left-apart roots names tree (w ∷ v ∷ codes "source" ∷ []) (short_source w v)

    -- a link that says a build that goes would say the version
    linked : (w name : List ℕ) (link_spot : Spot) → spot_of_link name ≡ Some link_spot → (v : List ℕ) → option_and_then (version_of link_spot) (link_text (node_at tree (roots.dkms ++ w ∷ name ∷ []))) ≡ Some v
        → is_built roots tree (key_of w v) link_spot ≡ true → is_under (w ∷ v ∷ link_spot.kernel ∷ link_spot.arch ∷ codes "targets" ∷ []) names ≡ true → ⊥
    linked w name link_spot told v told_too was under =
        let split = under-split (w ∷ v ∷ link_spot.kernel ∷ link_spot.arch ∷ codes "targets" ∷ []) names under in
        let w_is : w ≡ word = cc in
        let v_is : v ≡ version = cc in
        let k_is : link_spot.kernel ≡ kernel = cc in
        let a_is : link_spot.arch ≡ arch = cc in
        let spot_is : link_spot ≡ spot = λ i. record { kernel = k_is i; arch = a_is i } in
        let name_is : name ≡ kernel_link_name spot = link_named name link_spot told ∙ ap kernel_link_name spot_is in
        let said : linked_at roots tree (roots.dkms ++ w ∷ name ∷ []) w link_spot ≡ Some v =
        ap (option_and_then (λ x. cond (is_built roots tree (key_of w x) link_spot) (Some x) None)) told_too ∙ ap (λ b. cond b (Some v) None) was in
        let moved : linked_at roots tree (kernel_link_path roots word spot) word spot ≡ Some version =
        ap (λ n. linked_at roots tree (roots.dkms ++ word ∷ n ∷ []) word spot) (sym name_is) ∙ ap (λ x. linked_at roots tree (roots.dkms ++ x ∷ name ∷ []) x spot) (sym w_is)
        ∙ ap (λ x. linked_at roots tree (roots.dkms ++ w ∷ name ∷ []) w x) (sym spot_is) ∙ said ∙ ap Some v_is in
        unlinked moved
