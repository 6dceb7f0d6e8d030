-- What the refusals and the step of `dkms add` read and change is public.
use Rattle.std.proofs.Common.{◌≡◌, ◌≢◌, ℕ, true, false, cond, List, [], ◌∷◌, ◌++◌, Option, Some, None, is_some, refl, sym, ap, ◌∙◌, subst, append_assoc}
use Rattle.std.specs.Prelude.{codes}
use Rattle.std.specs.Option.{option_or, option_map}
use Rattle.std.specs.Cmp.{first_so}
use Rattle.kb_world.specs.Names.{is_word, is_version, begins_alphanumeric}
use Rattle.kb_world.specs.Path.{Path, is_under}
use Rattle.kb_world.specs.Tree.{Tree, node_at, link_text}
use Rattle.kb_world.specs.Roots.{AreApart}
use Rattle.kb_world.specs.Public.{public_tree}
use Rattle.kb_world.specs.Layout.{whole_tree}
use Rattle.kb_world.specs.Damage.{hurt}
use Rattle.kb_world.specs.Store.{is_key, says, module_path, version_path, link_path, source_path, source_text}
use Rattle.kb_world.specs.Steps.{blocking, add_step}
use Rattle.kb_world.specs.declared.roots.Roots.{Roots}
use Rattle.kb_world.specs.declared.job.Key.{Key}
use Rattle.kb_world.specs.declared.refusal.Refusal.{Refusal}
use Rattle.kb_world.specs.declared.refusal.Refusal.TheVariants as refusal
use Rattle.kb_world.specs.declared.store_path.StorePath.TheVariants.{SourceLink}
use Rattle.kb_world.specs.declared.tree.Node.{Node}
use Rattle.kb_world.proofs.AddLaws.{elsewhere as stays}
use Rattle.kb_world.proofs.DamageLaws.{sound_from}
use Rattle.kb_world.proofs.NameLaws.{known, begins-append}
use Rattle.kb_world.proofs.PathLaws.{elsewhere, under-append, apart-back}
use Rattle.kb_world.proofs.PublicPlaces.{public_place}
use Rattle.kb_world.proofs.StorePathLaws.{link_no_scratch}
use Rattle.kb_world.proofs.LayoutLaws.{whole_shown}
use Rattle.kb_world.proofs.PublicLaws.{IsAlwaysPublic, written_apart, in_dkms, in_src, shown}
use Rattle.kb_world.proofs.StepLaws.{blocking-same}
use Rattle.kb_conf.specs.Load.{conf_below, loaded_conf}
use Rattle.kb_conf.specs.declared.given.Given.{Given}
use Rattle.kb_dkms.specs.Add.{already_added, blocked}
use Rattle.kb_dkms.specs.declared.places.Places.{Places}
use Rattle.kb_dkms.specs.Places.{package_places, standing, place_blocked}

-- each place of a package is public, whatever stands there
pub record ArePublic (roots : Roots) (places : Places) : Type 0 where
  pub package_directory : IsAlwaysPublic roots places.module
  pub version : IsAlwaysPublic roots places.version
  pub link : IsAlwaysPublic roots places.link
  pub source : IsAlwaysPublic roots places.source
  pub conf : IsAlwaysPublic roots (conf_below places.source)

at_path : (roots : Roots) (a b : Path) → a ≡ b → IsAlwaysPublic roots b → IsAlwaysPublic roots a
at_path roots a b same open_b = subst (IsAlwaysPublic roots) (sym same) open_b

pub are_public : (roots : Roots) → AreApart roots → (key : Key) → is_key key ≡ true → ArePublic roots (package_places roots key)
are_public roots apart key good =
    let is_module = first_so (is_word key.module) (is_version key.version) good in
    let plain = (known key.module is_module).begins in
    let begins : begins_alphanumeric (key.module ++ codes "-" ++ key.version) ≡ true = begins_on (codes "-") key.version plain in
    record {
      package_directory = in_dkms roots apart (key.module ∷ []) plain refl;
      version = in_dkms roots apart (key.module ∷ key.version ∷ []) plain (link_no_scratch key.module key.version);
      link = public_place roots apart (SourceLink key) good refl;
      source = in_src roots apart ((key.module ++ codes "-" ++ key.version) ∷ []) begins;
      conf = at_path roots _ _ (append_assoc roots.src ((key.module ++ codes "-" ++ key.version) ∷ []) (codes "dkms.conf" ∷ []))
          (in_src roots apart ((key.module ++ codes "-" ++ key.version) ∷ codes "dkms.conf" ∷ []) begins);
    }
  where
    begins_on : (dash version : List ℕ) → begins_alphanumeric key.module ≡ true → begins_alphanumeric (key.module ++ dash ++ version) ≡ true
    begins_on dash version plain = begins-append (key.module ++ dash) version (begins-append key.module dash plain)

-- ---- what is read

-- in a store with no damage what stands at a version's link says that it is added
standing_is_added : (roots : Roots) (key : Key) → is_key key ≡ true → (store : Tree) → hurt roots store ≡ None → standing key (link_path roots key) store ≡ already_added roots key store
standing_is_added roots key good store sound = by_case (node_at store (link_path roots key)) refl
  where
    by_case : (at : Option Node) → node_at store (link_path roots key) ≡ at → standing key (link_path roots key) store ≡ already_added roots key store
    by_case None e =
        ap (λ (at : Option Node). cond (is_some at) (Some (refusal.AlreadyAdded key)) None) e
        ∙ sym (ap (λ (at : Option Node). cond (says (source_text roots key) (link_text at)) (Some (refusal.AlreadyAdded key)) None) e)
    by_case (Some node) e =
        let stands : is_some (node_at store (link_path roots key)) ≡ true = ap is_some e in
        let added = (sound_from roots store sound).sources key.module key.version good stands in
        ap (λ b. cond b (Some (refusal.AlreadyAdded key)) None) stands ∙ sym (ap (λ b. cond b (Some (refusal.AlreadyAdded key)) None) added)

-- what stands at a version's link
pub standing_shown : (roots : Roots) → AreApart roots → (key : Key) → is_key key ≡ true → (tree : Tree) → hurt roots (public_tree roots tree) ≡ None
    → standing key (link_path roots key) tree ≡ already_added roots key (whole_tree roots tree)
standing_shown roots apart key good tree sound =
    let link = (are_public roots apart key good).link in
    let store = sym (shown roots tree (link_path roots key) link) in
    ap (λ (at : Option Node). cond (is_some at) (Some (refusal.AlreadyAdded key)) None) store
    ∙ standing_is_added roots key good (public_tree roots tree) sound
    ∙ ap (λ (at : Option Node). cond (says (source_text roots key) (link_text at)) (Some (refusal.AlreadyAdded key)) None) (sym store ∙ sym (whole_shown roots tree (link_path roots key) link))

-- the conf is read of what is public
pub conf_shown : (roots : Roots) → AreApart roots → (key : Key) → is_key key ≡ true → (given : Given) (tree : Tree)
    → loaded_conf (source_path roots key) (Some key) given tree ≡ loaded_conf (source_path roots key) (Some key) given (whole_tree roots tree)
unfolding loaded_conf
conf_shown roots apart key good given tree =
    let open_to = are_public roots apart key good in
    same_conf (source_path roots key) tree (whole_tree roots tree) (sym (whole_shown roots tree _ open_to.source)) (sym (whole_shown roots tree _ open_to.conf))
  where
    same_conf : (dir : Path) (a b : Tree) → node_at a dir ≡ node_at b dir → node_at a (conf_below dir) ≡ node_at b (conf_below dir)
        → loaded_conf dir (Some key) given a ≡ loaded_conf dir (Some key) given b
    same_conf dir a b source conf = cc

first_some : {A : Type 0} (a b : Option A) (f : A → Refusal) → option_or (option_map f a) (option_map f b) ≡ option_map f (option_or a b)
first_some None b f = refl
first_some (Some x) b f = refl

pub blocked_shown : (roots : Roots) → AreApart roots → (key : Key) → is_key key ≡ true → (tree : Tree)
    → place_blocked (package_places roots key) tree ≡ blocked roots key (whole_tree roots tree)
blocked_shown roots apart key good tree =
    let open_to = are_public roots apart key good in
    let whole = whole_tree roots tree in
    first_some (blocking (module_path roots key) tree) (blocking (version_path roots key) tree) refusal.Damaged
    ∙ ap (λ path. option_map refusal.Damaged (option_or path (blocking (version_path roots key) tree))) (blocking-same (module_path roots key) tree whole (sym (whole_shown roots tree _ open_to.package_directory)))
    ∙ ap (λ path. option_map refusal.Damaged (option_or (blocking (module_path roots key) whole) path)) (blocking-same (version_path roots key) tree whole (sym (whole_shown roots tree _ open_to.version)))

-- ---- what the step leaves

-- the step leaves the directory of the source as it was
pub add_keeps_source : (roots : Roots) → AreApart roots → (key : Key) → (store : Tree) → node_at (add_step roots key store) (source_path roots key) ≡ node_at store (source_path roots key)
add_keeps_source roots apart key store =
    stays roots key store (source_path roots key) (outside _ (under-append roots.dkms (key.module ∷ [])))
    (outside _ (under-append roots.dkms (key.module ∷ key.version ∷ [])))
    (outside _ (under-append roots.dkms (key.module ∷ key.version ∷ codes "source" ∷ [])))
  where
    outside : (path : Path) → is_under path roots.dkms ≡ true → source_path roots key ≢ path
    outside path under same =
        let beside = elsewhere (source_path roots key) roots.src roots.dkms (apart-back roots.dkms roots.src (written_apart roots apart).dkms_src) (under-append roots.src _) in
        let impossible : true ≡ false = sym under ∙ ap (λ p. is_under p roots.dkms) (sym same) ∙ beside in cc
