-- What the step Add does to a store.
use Rattle.std.proofs.Common.{◌≡◌, ◌≢◌, ℕ, ◌+◌, Bool, true, false, ◌||◌, List, [], ◌∷◌, ◌++◌, length, Option, Some, None, refl, sym, ap, ◌∙◌, subst, arith, length-append, append_assoc}
use Rattle.std.specs.Prelude.{bytes_eq, codes}
use Rattle.std.proofs.lemmas.List.{append_cancel_left}
use Rattle.std.specs.Option.{option_or}
use Rattle.std.specs.Cmp.{first_so, second_so}
use Rattle.std.specs.Cmp.Derive.{both_true}
use Rattle.std.specs.Cmp.Lexicographic.{bytes_decides}
use Rattle.kb_world.specs.Path.{Path}
use Rattle.kb_world.specs.StorePath.{key_of, names_of, path_of}
use Rattle.kb_world.specs.Tree.{Tree, node_at, with_node, is_dir, link_text}
use Rattle.kb_world.specs.TreeLaws.{same_path, same_path-true, same_path-refl, with_node-here, with_node-apart}
use Rattle.kb_world.specs.Store.{is_added, same_key, says, module_path, version_path, link_path, source_text}
use Rattle.kb_world.specs.Patch.{above, dirs_of, emptied_of, in_order, patched, with_directory, with_directories, with_nodes, all_tidied, is_listed}
use Rattle.kb_world.specs.Steps.{blocking, add_patch, add_step, add_blocked}
use Rattle.kb_world.specs.declared.roots.Roots.{Roots}
use Rattle.kb_world.specs.declared.job.Key.{Key}
use Rattle.kb_world.specs.declared.tree.Node.TheVariants as node
use Rattle.kb_world.specs.declared.store_path.StorePath.TheVariants.{SourceLink}
use Rattle.kb_world.proofs.AboveLaws.{above-dkms}
use Rattle.kb_world.proofs.ListedLaws.{listed-reverse, listed-in_order, no_path_listed}
use Rattle.kb_world.proofs.PatchLaws.{with_directories-same}
use Rattle.kb_world.proofs.StepLaws.{directory-here, directory-apart, blocking-same}
use Rattle.kb_world.proofs.PathLaws.{by_test}

-- two packages with one link are one
one_link : (roots : Roots) (a b : Key) → link_path roots a ≡ link_path roots b → (a.module ≡ b.module) × (a.version ≡ b.version)
one_link roots a b e = let same = append_cancel_left roots.dkms (names_of (SourceLink a)) (names_of (SourceLink b)) e in (cc, cc)

-- Add makes the two directories and then the link
pub add_step-is : (roots : Roots) (key : Key) (store : Tree)
    → add_step roots key store ≡ with_node (link_path roots key) (node.Link (source_text roots key)) (with_directory (version_path roots key) (with_directory (module_path roots key) store))
unfolding add_step patched
add_step-is roots key store =
    ap (λ paths. all_tidied paths (with_nodes (add_patch roots key).puts (with_directories (dirs_of roots (add_patch roots key)) store))) none_emptied
    ∙ ap (with_node (link_path roots key) (node.Link (source_text roots key))) (with_directories-same (dirs_of roots (add_patch roots key)) (module_path roots key ∷ version_path roots key ∷ []) store made)
  where
    none_emptied : emptied_of roots (add_patch roots key) ≡ []
    none_emptied = no_path_listed (emptied_of roots (add_patch roots key)) (λ q. listed-reverse q (in_order []) ∙ listed-in_order q [])

    above_link : above roots (link_path roots key) ≡ module_path roots key ∷ version_path roots key ∷ []
    above_link =
        above-dkms roots (key.module ∷ key.version ∷ codes "source" ∷ [])
        ∙ ap (λ p. module_path roots key ∷ p ∷ []) (append_assoc roots.dkms (key.module ∷ []) (key.version ∷ []))

    made : (q : Path) → is_listed q (dirs_of roots (add_patch roots key)) ≡ is_listed q (module_path roots key ∷ version_path roots key ∷ [])
    made q = listed-in_order q ((above roots (link_path roots key) ++ []) ++ []) ∙ ap (λ paths. is_listed q ((paths ++ []) ++ [])) above_link

pub elsewhere : (roots : Roots) (key : Key) (store : Tree) (path : Path) → path ≢ module_path roots key → path ≢ version_path roots key → path ≢ link_path roots key
    → node_at (add_step roots key store) path ≡ node_at store path
elsewhere roots key store path no_module no_version no_link =
    ap (λ t. node_at t path) (add_step-is roots key store)
    ∙ with_node-apart (with_directory (version_path roots key) (with_directory (module_path roots key) store)) (link_path roots key) (node.Link (source_text roots key)) path no_link
    ∙ directory-apart (version_path roots key) (with_directory (module_path roots key) store) path no_version ∙ directory-apart (module_path roots key) store path no_module

here : (roots : Roots) (key : Key) (store : Tree) → node_at (add_step roots key store) (link_path roots key) ≡ Some (node.Link (source_text roots key))
here roots key store =
    ap (λ t. node_at t (link_path roots key)) (add_step-is roots key store)
    ∙ with_node-here (with_directory (version_path roots key) (with_directory (module_path roots key) store)) (link_path roots key) (node.Link (source_text roots key))

-- a link is no directory above another package's link
longer : (roots : Roots) (a b : Key) → length (link_path roots a) ≡ length roots.dkms + 3
longer roots a b = omega (arith, length-append roots.dkms (names_of (SourceLink a)))

pub directories : (roots : Roots) (key : Key) (store : Tree) → add_blocked roots key store ≡ None → is_dir (node_at (add_step roots key store) (version_path roots key)) ≡ true
directories roots key store free =
    let below : version_path roots key ≢ link_path roots key = λ same. let names = append_cancel_left roots.dkms (key.module ∷ key.version ∷ []) (names_of (SourceLink key)) same in cc in
    let above : version_path roots key ≢ module_path roots key = λ same. let names = append_cancel_left roots.dkms (key.module ∷ key.version ∷ []) (key.module ∷ []) same in cc in
    let once = with_directory (module_path roots key) store in
    let open_to = blocking-same (version_path roots key) once store (directory-apart (module_path roots key) store (version_path roots key) above) ∙ second_free (blocking (module_path roots key) store) _ free in
    ap (λ t. is_dir (node_at t (version_path roots key))) (add_step-is roots key store)
    ∙ ap is_dir (with_node-apart (with_directory (version_path roots key) once) (link_path roots key) (node.Link (source_text roots key)) (version_path roots key) below)
    ∙ directory-here (version_path roots key) once open_to
  where
    second_free : (a b : Option Path) → option_or a b ≡ None → b ≡ None
    second_free None b e = e
    second_free (Some x) b e = let impossible : Some x ≡ None = e in cc

same_text : (text : List ℕ) → bytes_eq text text ≡ true
same_text text = (bytes_decides text text).1 refl

pub added : (roots : Roots) (key other : Key) (store : Tree) → is_added roots other (add_step roots key store) ≡ (same_key other key || is_added roots other store)
added roots key other store = by_path (same_path (link_path roots other) (link_path roots key)) refl
  where
    apart_paths : same_path (link_path roots other) (link_path roots key) ≡ false → link_path roots other ≡ link_path roots key → ⊥
    apart_paths e same = let impossible : true ≡ false = sym (same_path-refl (link_path roots key)) ∙ sym (ap (λ p. same_path p (link_path roots key)) same) ∙ e in cc

    not_named : same_path (link_path roots other) (link_path roots key) ≡ false → same_key other key ≡ false
    not_named e = by_test (same_key other key) (λ named.
        let modules = (bytes_decides other.module key.module).0 (first_so (bytes_eq other.module key.module) (bytes_eq other.version key.version) named) in
        let versions = (bytes_decides other.version key.version).0 (second_so (bytes_eq other.module key.module) (bytes_eq other.version key.version) named) in
        apart_paths e (λ i. path_of roots (SourceLink (key_of (modules i) (versions i)))))

    by_path : (same : Bool) → same_path (link_path roots other) (link_path roots key) ≡ same
        → is_added roots other (add_step roots key store) ≡ (same_key other key || is_added roots other store)
    by_path true e =
        let one = one_link roots other key (same_path-true (link_path roots other) (link_path roots key) e) in
        let keys : other ≡ key = λ i. record { «module» = one.0 i; version = one.1 i } in
        let named : same_key other key ≡ true = both_true ((bytes_decides other.module key.module).1 one.0) ((bytes_decides other.version key.version).1 one.1) in
        let stands : is_added roots key (add_step roots key store) ≡ true = ap (λ at. says (source_text roots key) (link_text at)) (here roots key store) ∙ same_text (source_text roots key) in
        subst (λ k. is_added roots k (add_step roots key store) ≡ true) (sym keys) stands ∙ sym (ap (λ b. b || is_added roots other store) named)
    by_path false e =
        let other_link : link_path roots other ≢ link_path roots key = λ same. apart_paths e same in
        let no_module : link_path roots other ≢ module_path roots key = λ same. absurd (omega (arith, longer roots other key, ap length same, length-append roots.dkms (key.module ∷ []))) in
        let no_version : link_path roots other ≢ version_path roots key = λ same.
        absurd (omega (arith, longer roots other key, ap length same, length-append roots.dkms (key.module ∷ key.version ∷ []))) in
        let stays = elsewhere roots key store (link_path roots other) no_module no_version other_link in
        ap (λ at. says (source_text roots other) (link_text at)) stays ∙ sym (ap (λ b. b || is_added roots other store) (not_named e))
