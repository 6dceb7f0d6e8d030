-- The claims that a store tells are the installed targets of its tree.
use Rattle.std.proofs.Common.{◌≡◌, ◌⊎◌, inl, inr, ℕ, Bool, true, false, cond, ◌&&◌, ◌||◌, not, List, [], ◌∷◌, ◌++◌, map, Option, Some, None, is_some, refl, sym, ap, ◌∙◌, subst}
use Rattle.std.specs.Prelude.{bytes_eq, filter, filter_map, flat_map, option_and_then}
use Rattle.std.specs.List.{find, list_any, cons_option}
use Rattle.std.specs.FinMap.{keys}
use Rattle.std.specs.Ordering.{is_lt}
use Rattle.std.specs.Cmp.{first_so, second_so}
use Rattle.std.specs.Cmp.Derive.{both_true}
use Rattle.std.specs.Cmp.Lexicographic.{bytes_decides}
use Rattle.kb_world.specs.Names.{is_word, is_version}
use Rattle.kb_world.specs.Path.{Path}
use Rattle.kb_world.specs.Tree.{Tree, node_at, link_text}
use Rattle.kb_world.specs.TreeLaws.{same_path, same_path-true, same_path-refl}
use Rattle.kb_world.specs.Store.{is_key, says}
use Rattle.kb_world.specs.Targets.{last_name}
use Rattle.kb_world.specs.Boxes.{is_spot, key_of, boxed, is_built, installed, linked_at, kernel_link_path, version_of}
use Rattle.kb_world.specs.declared.roots.Roots.{Roots}
use Rattle.kb_world.specs.declared.job.Key.{Key}
use Rattle.kb_world.specs.declared.job.Spot.{Spot}
use Rattle.kb_world.proofs.PathLaws.{by_test}
use Rattle.kb_world.proofs.SoundLaws.{told-version}
use Rattle.kb_world.proofs.SpotLaws.{not_true}
use Rattle.kb_world.proofs.StorePathLaws.{mapped_from}
use Rattle.kb_store.specs.Accessors.{is_build, is_other, is_installed_build, installed_in, claims_at, claims_of, claims_in, claim_cmp, claimant_in, builds_in}
use Rattle.kb_store.specs.Claims.{IsClaim, IsLeastClaim}
use Rattle.kb_store.specs.Contents.{at_place, build_of, build_by, store_of}
use Rattle.kb_store.specs.declared.store.Build.{Build}
use Rattle.kb_store.specs.declared.store.Store.{Store}
use Rattle.kb_store.proofs.ClaimLaws.{Told, IsIn, IsLeast, all_at, in_front, in_back, up_to, least_is}
use Rattle.kb_store.proofs.ContentsLaws.{key_is, spot_is, builds_are, installed_is}
use Rattle.kb_store.proofs.EntryLaws.{build_place, build_tells, path_told}
use Rattle.kb_walk.proofs.OrderLaws.{untrue}
use Rattle.kb_store.proofs.ToldIsThere.{linked_version}

-- ---- claims of lists

some_same : {A : Type 0} (x y : A) → Some x ≡ Some y → x ≡ y
some_same x y e = cc

none_some : {A : Type 0} (x : A) → None ≡ Some x → ⊥
none_some x e = cc

-- a claim at one of the places with the file's name
pub record IsAt (file word : List ℕ) (places : List Path) (claim : Told) : Type 0 where
  pub by : claim.1 ≡ word
  pub among : list_any (same_path claim.0) places ≡ true
  pub named : last_name claim.0 ≡ file

or_right : (a b : Bool) → b ≡ true → (a || b) ≡ true
or_right true b e = refl
or_right false b e = e

claim_from : (file word : List ℕ) (places : List Path) (claim : Told) → IsIn claim (claims_at file word places) → IsAt file word places claim
claim_from file word [] claim h = absurd h
claim_from file word (place ∷ places) claim h = by (bytes_eq (last_name place) file) refl h (claim_from file word places claim)
  where
    later : IsAt file word places claim → IsAt file word (place ∷ places) claim
    later is = record { by = is.by; among = or_right (same_path claim.0 place) (list_any (same_path claim.0) places) is.among; named = is.named }

    by : (b : Bool) → bytes_eq (last_name place) file ≡ b → IsIn claim (map (λ place. (place, word)) (cond b (place ∷ filter (λ place. bytes_eq (last_name place) file) places) (filter (λ place. bytes_eq (last_name place) file) places)))
        → (IsIn claim (claims_at file word places) → IsAt file word places claim) → IsAt file word (place ∷ places) claim
    by true e (inl is) rest = record {
      by = ap (λ (c : Told). c.1) is;
      among = ap (λ b. b || list_any (same_path claim.0) places) (ap (λ (c : Told). same_path claim.0 c.0) (sym is) ∙ same_path-refl claim.0);
      named = ap (λ (c : Told). last_name c.0) is ∙ (bytes_decides (last_name place) file).0 e;
    }
    by true e (inr h) rest = later (rest h)
    by false e h rest = later (rest h)

claim_there : (file word : List ℕ) (places : List Path) (path : Path) → list_any (same_path path) places ≡ true → last_name path ≡ file → IsIn (path, word) (claims_at file word places)
claim_there file word [] path h named = absurd (untrue h)
claim_there file word (place ∷ places) path h named = by (same_path path place) refl (bytes_eq (last_name place) file) refl (λ more. claim_there file word places path more named)
  where
    rest : List Path
    rest = filter (λ place. bytes_eq (last_name place) file) places

    by : (s : Bool) → same_path path place ≡ s → (b : Bool) → bytes_eq (last_name place) file ≡ b → (list_any (same_path path) places ≡ true → IsIn (path, word) (claims_at file word places))
        → IsIn (path, word) (map (λ place. (place, word)) (cond (bytes_eq (last_name place) file) (place ∷ rest) rest))
    by true s true e later =
        subst (λ b. IsIn (path, word) (map (λ place. (place, word)) (cond b (place ∷ rest) rest))) (sym e) (inl (ap (λ p. (p, word)) (same_path-true path place s)))
    by true s false e later = absurd (untrue (sym e ∙ (bytes_decides (last_name place) file).1 (ap last_name (sym (same_path-true path place s)) ∙ named)))
    by false s true e later =
        subst (λ b. IsIn (path, word) (map (λ place. (place, word)) (cond b (place ∷ rest) rest))) (sym e) (inr (later (sym (ap (λ b. b || list_any (same_path path) places) s) ∙ h)))
    by false s false e later =
        subst (λ b. IsIn (path, word) (map (λ place. (place, word)) (cond b (place ∷ rest) rest))) (sym e) (later (sym (ap (λ b. b || list_any (same_path path) places) s) ∙ h))

in_cond : (test : Bool) (claims : List Told) (claim : Told) → IsIn claim (cond test claims []) → (test ≡ true) × IsIn claim claims
in_cond true claims claim h = (refl, h)
in_cond false claims claim h = absurd h

in_some : (claim : Told) (a b : List Told) → IsIn claim (a ++ b) → IsIn claim a ⊎ IsIn claim b
in_some claim [] b h = inr h
in_some claim (first ∷ a) b (inl is) = inl (inl is)
in_some claim (first ∷ a) b (inr later) = elim (in_some claim a b later) [
  | inl there ↦ inl (inr there)
  | inr there ↦ inr there
]

-- a build of the list, and a claim of it
pub record IsFrom (f : Path → Option Build) (claims : Build → List Told) (claim : Told) : Type 0 where
  pub path : Path
  pub build : Build
  pub given : f path ≡ Some build
  pub there : IsIn claim (claims build)

claim_of_some : (f : Path → Option Build) (claims : Build → List Told) (paths : List Path) (claim : Told) → IsIn claim (flat_map claims (filter_map f paths)) → IsFrom f claims claim
claim_of_some f claims [] claim h = absurd h
claim_of_some f claims (path ∷ paths) claim h = by (f path) refl h (claim_of_some f claims paths claim)
  where
    by : (o : Option Build) → f path ≡ o → IsIn claim (flat_map claims (cons_option o (filter_map f paths))) → (IsIn claim (flat_map claims (filter_map f paths)) → IsFrom f claims claim) → IsFrom f claims claim
    by None e h rest = rest h
    by (Some build) e h rest = elim (in_some claim (claims build) (flat_map claims (filter_map f paths)) h) [
      | inl there ↦ record { path = path; build = build; given = e; there = there }
      | inr later ↦ rest later
    ]

found_claim : (test : Build → Bool) (claims : Build → List Told) (builds : List Build) (build : Build) (claim : Told) → find test builds ≡ Some build → IsIn claim (claims build) → IsIn claim (flat_map claims builds)
found_claim test claims [] build claim e h = absurd (none_some build e)
found_claim test claims (first ∷ builds) build claim e h = by (test first) refl (λ later. found_claim test claims builds build claim later h)
  where
    by : (b : Bool) → test first ≡ b → (find test builds ≡ Some build → IsIn claim (flat_map claims builds)) → IsIn claim (claims first ++ flat_map claims builds)
    by true t rest =
        let is = some_same first build (sym (ap (λ b. cond b (Some first) (find test builds)) t) ∙ e) in
        in_front claim (claims first) (flat_map claims builds) (subst (λ b. IsIn claim (claims b)) (sym is) h)
    by false t rest = in_back claim (claims first) (flat_map claims builds) (rest (sym (ap (λ b. cond b (Some first) (find test builds)) t) ∙ e))

found_passes : (test : Build → Bool) (builds : List Build) (build : Build) → find test builds ≡ Some build → test build ≡ true
found_passes test [] build e = absurd (none_some build e)
found_passes test (first ∷ builds) build e = by (test first) refl (found_passes test builds build)
  where
    by : (b : Bool) → test first ≡ b → (find test builds ≡ Some build → test build ≡ true) → test build ≡ true
    by true t rest = ap test (sym (some_same first build (sym (ap (λ b. cond b (Some first) (find test builds)) t) ∙ e))) ∙ t
    by false t rest = rest (sym (ap (λ b. cond b (Some first) (find test builds)) t) ∙ e)

said : (text : List ℕ) (told : Option (List ℕ)) → says text told ≡ true → told ≡ Some text
said text None h = absurd (untrue h)
said text (Some told) h = ap Some ((bytes_decides told text).0 h)

-- ---- claims of a tree

module _ (roots : Roots) (tree : Tree) (kernel file word arch : List ℕ) where
  abbrev store : Store
  store = store_of roots tree

  abbrev claims : Build → List Told
  claims = claims_of store kernel file word arch

  -- a claim that the store tells is one
  told_claim : (claim : Told) → IsIn claim (claims_in store kernel file word arch) → IsClaim roots tree kernel file word arch claim
  unfolding store_of
  told_claim claim h =
      let from : IsFrom (at_place roots (build_by (boxed roots tree))) claims claim = claim_of_some (at_place roots (build_by (boxed roots tree))) claims (keys tree) claim h in
      let build = from.build in
      let origin = path_told roots tree (build_by (boxed roots tree)) build_place (build_tells (boxed roots tree)) from.path build from.given in
      let keyed = first_so (is_key build.key) (is_spot build.spot) origin.0 in
      let spotted = second_so (is_key build.key) (is_spot build.spot) origin.0 in
      let worded = first_so (is_word build.key.module) (is_version build.key.version) keyed in
      let made = mapped_from (build_of build.key build.spot) (boxed roots tree build.key build.spot) build origin.2 in
      let open_to = in_cond (is_other kernel word arch build && is_installed_build store build) (claims_at file build.key.module build.targets) claim from.there in
      let other = first_so (is_other kernel word arch build) (is_installed_build store build) open_to.0 in
      let at = claim_from file build.key.module build.targets claim open_to.1 in
      let stands = sym (installed_is roots tree build.key.module build.spot worded spotted) ∙ said build.key.version (installed_in store build.key.module build.spot) (second_so (is_other kernel word arch build) (is_installed_build store build) open_to.0) in
      record {
        spot = build.spot;
        version = build.key.version;
        places = build.targets;
        worded = ap is_word at.by ∙ worded;
        spotted = spotted;
        for_kernel = (bytes_decides build.spot.kernel kernel).0 (first_so (bytes_eq build.spot.kernel kernel) (not (bytes_eq build.key.module word && bytes_eq build.spot.arch arch)) other);
        other = λ same_word same_arch. untrue (sym (not_true (bytes_eq build.key.module word && bytes_eq build.spot.arch arch) (second_so (bytes_eq build.spot.kernel kernel) (not (bytes_eq build.key.module word && bytes_eq build.spot.arch arch)) other))
            ∙ both_true ((bytes_decides build.key.module word).1 (sym at.by ∙ same_word)) ((bytes_decides build.spot.arch arch).1 same_arch));
        installed_there = ap (λ w. installed roots tree w build.spot) at.by ∙ stands;
        built_there = ap (λ w. boxed roots tree (key_of w build.key.version) build.spot) at.by ∙ made.1 ∙ ap (λ (b : Build). Some b.targets) made.2;
        among = at.among;
        named = at.named;
      }

  -- and each is told
  claim_told : (claim : Told) → IsClaim roots tree kernel file word arch claim → IsIn claim (claims_in store kernel file word arch)
  unfolding store_of
  claim_told claim is =
      let key = key_of claim.1 is.version in
      let versioned = told-version is.spot (link_text (node_at tree (kernel_link_path roots claim.1 is.spot))) is.version
      (linked_version (λ v. is_built roots tree (key_of claim.1 v) is.spot) (option_and_then (version_of is.spot) (link_text (node_at tree (kernel_link_path roots claim.1 is.spot)))) is.version
      (installed_linked (linked_at roots tree (kernel_link_path roots claim.1 is.spot) claim.1 is.spot) is.installed_there)).0 in
      let there = builds_are roots tree key is.spot (both_true is.worded versioned) is.spotted ∙ is.built_there in
      let found = mapped_from (λ (build : Build). build.targets) (find (is_build key is.spot) (builds_in store)) is.places there in
      let build = found.0 in
      let passes = found_passes (is_build key is.spot) (builds_in store) build found.1 in
      let key_same = key_is build.key key (first_so _ _ passes) in
      let spot_same = spot_is build.spot is.spot (second_so _ _ passes) in
      let other : is_other kernel word arch build ≡ true =
      both_true ((bytes_decides build.spot.kernel kernel).1 (ap (λ (s : Spot). s.kernel) spot_same ∙ is.for_kernel))
      (ap not (by_test (bytes_eq build.key.module word && bytes_eq build.spot.arch arch) (λ both.
      is.other (sym (ap (λ (k : Key). k.module) key_same) ∙ (bytes_decides build.key.module word).0 (first_so (bytes_eq build.key.module word) (bytes_eq build.spot.arch arch) both))
      (sym (ap (λ (s : Spot). s.arch) spot_same) ∙ (bytes_decides build.spot.arch arch).0 (second_so (bytes_eq build.key.module word) (bytes_eq build.spot.arch arch) both))))) in
      let installed_so : is_installed_build store build ≡ true =
      (λ i. says ((key_same i).version) (installed_in store ((key_same i).module) (spot_same i)))
      ∙ ap (says is.version) (installed_is roots tree claim.1 is.spot is.worded is.spotted ∙ is.installed_there) ∙ (bytes_decides is.version is.version).1 refl in
      let at : IsIn claim (claims_at file build.key.module build.targets) =
      subst (λ (w : List ℕ). IsIn claim (claims_at file w build.targets)) (sym (ap (λ (k : Key). k.module) key_same))
      (subst (λ (ps : List Path). IsIn claim (claims_at file claim.1 ps)) (sym found.2) (claim_there file claim.1 is.places claim.0 is.among is.named)) in
      found_claim (is_build key is.spot) claims (builds_in store) build claim found.1
      (subst (λ b. IsIn claim (cond b (claims_at file build.key.module build.targets) [])) (sym (both_true other installed_so)) at)
    where
      installed_linked : (told : Option (List ℕ)) → option_and_then (λ version. cond (is_some (boxed roots tree (key_of claim.1 version) is.spot)) (Some version) None) told ≡ Some is.version → told ≡ Some is.version
      installed_linked told e = (linked_version (λ version. is_some (boxed roots tree (key_of claim.1 version) is.spot)) told is.version e).0

-- the claimant that a store tells is the least of them
pub claimant_is : (roots : Roots) (tree : Tree) (kernel file word arch : List ℕ) → IsLeastClaim roots tree kernel file word arch (claimant_in (store_of roots tree) kernel file word arch)
claimant_is roots tree kernel file word arch = by (claimant_in (store_of roots tree) kernel file word arch) (least_is (claims_in (store_of roots tree) kernel file word arch))
  where
    by : (told : Option Told) → IsLeast (claims_in (store_of roots tree) kernel file word arch) told → IsLeastClaim roots tree kernel file word arch told
    by None none = λ claim is. absurd (subst (IsIn claim) none (claim_told roots tree kernel file word arch claim is))
    by (Some least) first = (
      told_claim roots tree kernel file word arch least first.0,
      λ claim is. not_true (is_lt (claim_cmp claim least)) (all_at (up_to least) (claims_in (store_of roots tree) kernel file word arch) claim first.1 (claim_told roots tree kernel file word arch claim is)),
    )
