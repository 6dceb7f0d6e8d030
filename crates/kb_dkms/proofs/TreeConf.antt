-- The conf of a directory is read of what isn't private, and a private directory has none.
use Rattle.std.proofs.Common.{◌≡◌, ℕ, Bool, true, false, ◌&&◌, ◌||◌, cond, List, [], ◌∷◌, ◌++◌, length, drop, Option, Some, None, refl, sym, ap, ◌∙◌, subst, inl, inr, ◌⊎◌, reverse, append_assoc}
use Rattle.std.proofs.lemmas.Bool.{cases_Bool, true≢false}
use Rattle.std.proofs.lemmas.List.{reverse-append}
use Rattle.std.specs.Prelude.{Result, Ok, Err, IfOk, codes, bytes_eq}
use Rattle.std.specs.Cmp.{first_so, second_so}
use Rattle.std.specs.Cmp.Lexicographic.{bytes_decides}
use Rattle.std.specs.List.{list_any, AllByRecursion}
use Rattle.kb_world.specs.Read.{Gives, IsAnswer}
use Rattle.kb_world.specs.Layout.{whole_tree}
use Rattle.kb_world.specs.Path.{Path, child, is_under}
use Rattle.kb_world.specs.Public.{is_private, private_places}
use Rattle.kb_world.specs.State.{State}
use Rattle.kb_world.specs.StorePath.{store_path, path_of, is_in_scratch, is_ruled}
use Rattle.kb_world.specs.Tree.{Tree, node_at}
use Rattle.kb_world.specs.declared.job.Host.{Host}
use Rattle.kb_world.specs.declared.job.Key.{Key}
use Rattle.kb_world.specs.declared.refusal.Refusal.TheVariants as refusal
use Rattle.kb_world.specs.declared.roots.Roots.{Roots}
use Rattle.kb_world.specs.declared.stop.Stop.{Stop}
use Rattle.kb_world.specs.declared.stop.Stop.TheVariants.{Refused, Fault}
use Rattle.kb_world.specs.declared.store_path.StorePath.{StorePath}
use Rattle.kb_world.specs.declared.store_path.StorePath.TheVariants.{InScratch}
use Rattle.kb_world.proofs.CallLaws.{unchanged_none, cause_other, no_cause}
use Rattle.kb_world.proofs.LayoutLaws.{node_at-whole, whole_at}
use Rattle.kb_world.proofs.PathLaws.{under-root, under-append, under-split, by_test}
use Rattle.kb_world.proofs.StorePathLaws.{place_back, place_there}
use Rattle.kb_walk.specs.PrivateLaws.{either_more}
use Rattle.kb_conf.specs.declared.conf.Conf.{Conf}
use Rattle.kb_conf.specs.declared.given.Given.{Given}
use Rattle.kb_conf.specs.Load.{conf_below, loaded_conf}
use Rattle.kb_dkms.specs.AddTree.{holds_root, tree_conf}
use Rattle.kb_dkms.specs.Scripts.{host_given}

-- ---- where a conf is private so is its directory

-- with one name more a path is at or under a directory only where it was, or where it is that directory
under_child : (p a : Path) (name : List ℕ) → is_under (p ++ name ∷ []) a ≡ true → (is_under p a ≡ true) ⊎ (a ≡ p ++ name ∷ [])
under_child p [] name h = inl (under-root p)
under_child [] (x ∷ []) name h = inr (ap (λ n. n ∷ []) ((bytes_decides x name).0 (first_so (bytes_eq x name) true h)))
under_child [] (x ∷ y ∷ more) name h = absurd (true≢false (sym (second_so (bytes_eq x name) false h)))
under_child (q ∷ p) (x ∷ a) name h =
    let same = first_so (bytes_eq x q) (is_under (p ++ name ∷ []) a) h in
    elim (under_child p a name (second_so (bytes_eq x q) (is_under (p ++ name ∷ []) a) h)) [
      | inl under ↦ inl (ap (λ b. b && is_under p a) same ∙ under)
      | inr is ↦ inr (ap (λ n. n ∷ a) ((bytes_decides x q).0 same) ∙ ap (λ n. q ∷ n) is)
    ]

last_same : (a b : Path) (x y : List ℕ) → a ++ x ∷ [] ≡ b ++ y ∷ [] → x ≡ y
last_same a b x y e = first (sym (reverse-append a (x ∷ [])) ∙ ap reverse e ∙ reverse-append b (y ∷ []))
  where
    first : x ∷ reverse a ≡ y ∷ reverse b → x ≡ y
    first same = cc

abbrev conf_name : List ℕ
conf_name = codes "dkms.conf"

-- a place whose last name is another
record IsNamedOtherwise (place : Path) : Type 0 where
  root : Path
  name : List ℕ
  is : place ≡ root ++ name ∷ []
  apart : bytes_eq name conf_name ≡ false

module _ (from : Path) where
  under_place : (place : Path) → IsNamedOtherwise place → is_under (conf_below from) place ≡ true → is_under from place ≡ true
  under_place place named h = elim (under_child from place conf_name h) [
    | inl is ↦ is
    | inr same ↦ absurd (true≢false (sym ((bytes_decides named.name conf_name).1 (last_same named.root from named.name conf_name (sym named.is ∙ same))) ∙ named.apart))
  ]

  under_places : (places : List Path) → AllByRecursion IsNamedOtherwise places → list_any (is_under (conf_below from)) places ≡ true → list_any (is_under from) places ≡ true
  under_places [] all h = h
  under_places (place ∷ places) all h =
      either_more (is_under (conf_below from) place) (list_any (is_under (conf_below from)) places) (is_under from place) (list_any (is_under from) places)
      (under_place place all.0) (under_places places all.1) h

  module _ (roots : Roots) where
    private_named : AllByRecursion IsNamedOtherwise (private_places roots)
    private_named =
        let place : (root : Path) (name : List ℕ) → bytes_eq name conf_name ≡ false → IsNamedOtherwise (child root name) =
        λ root name apart. record { root = root; name = name; is = refl; apart = apart } in
        (place roots.dkms (codes ".intent") refl, (place roots.dkms (codes ".intent.new") refl, (place roots.dkms (codes ".kb-staged") refl, (place roots.src (codes ".kb-staged") refl, (place roots.modules (codes ".kb-staged") refl, (place roots.boot (codes ".kb-staged") refl, (place roots.boot (codes ".kb-plugins") refl, tt)))))))

    abbrev scratch_of : Key → Path
    scratch_of key = roots.dkms ++ key.module ∷ key.version ∷ codes "build" ∷ []

    in_scratch : (key : Key) (rest : Path) → is_ruled (InScratch key rest) ≡ true → is_under from (scratch_of key) ≡ true → is_in_scratch (store_path roots from) ≡ true
    in_scratch key rest ruled under =
        let more = drop (length (scratch_of key)) from in
        let is : from ≡ path_of roots (InScratch key more) =
        under-split from (scratch_of key) under ∙ append_assoc roots.dkms (key.module ∷ key.version ∷ codes "build" ∷ []) more in
        ap (λ p. is_in_scratch (store_path roots p)) is ∙ ap is_in_scratch (place_there roots (InScratch key more) ruled)

    under_scratch : (key : Key) (rest : Path) → conf_below from ≡ path_of roots (InScratch key rest) → is_under from (scratch_of key) ≡ true
    under_scratch key rest is =
        let within : is_under (conf_below from) (scratch_of key) ≡ true =
        ap (λ p. is_under p (scratch_of key)) (is ∙ sym (append_assoc roots.dkms (key.module ∷ key.version ∷ codes "build" ∷ []) rest)) ∙ under-append (scratch_of key) rest in
        under_place (scratch_of key) (record { root = roots.dkms ++ key.module ∷ key.version ∷ []; name = codes "build"; is = sym (append_assoc roots.dkms (key.module ∷ key.version ∷ []) (codes "build" ∷ [])); apart = refl }) within

    scratch_less : is_in_scratch (store_path roots (conf_below from)) ≡ true → is_in_scratch (store_path roots from) ≡ true
    scratch_less h = by (store_path roots (conf_below from)) refl h
      where
        by : (told : Option StorePath) → store_path roots (conf_below from) ≡ told → is_in_scratch told ≡ true → is_in_scratch (store_path roots from) ≡ true
        by (Some (InScratch key rest)) e h =
            let back = place_back roots (conf_below from) (InScratch key rest) e in
            in_scratch key rest back.ruled (under_scratch key rest back.is)
        by other e h = let impossible : false ≡ true = h in absurd (cc)

    conf_is_private : is_private roots (conf_below from) ≡ true → is_private roots from ≡ true
    conf_is_private = either_more (list_any (is_under (conf_below from)) (private_places roots)) (is_in_scratch (store_path roots (conf_below from)))
        (list_any (is_under from) (private_places roots)) (is_in_scratch (store_path roots from))
        (under_places (private_places roots) private_named) scratch_less

    conf_is_open : is_private roots from ≡ false → is_private roots (conf_below from) ≡ false
    conf_is_open opens = by_test (is_private roots (conf_below from)) (λ hidden. true≢false (sym (conf_is_private hidden) ∙ opens))

-- ---- what is read

module _ (host : Host) (from : Path) (given : Given) (is : given ≡ host_given host) (tree : Tree) where
  abbrev whole : Tree
  whole = whole_tree host.roots tree

  -- a directory of the tool's own isn't there for it
  private_conf : is_private host.roots from ≡ true → loaded_conf from None given whole ≡ Err (refusal.NoSource from)
  unfolding loaded_conf
  private_conf hidden = no_directory (node_at-whole host.roots tree from ∙ ap (λ h. cond h None (node_at tree from)) hidden)
    where
      no_directory : node_at whole from ≡ None → loaded_conf from None given whole ≡ Err (refusal.NoSource from)
      no_directory none = cc

  open_conf : is_private host.roots from ≡ false → loaded_conf from None given tree ≡ loaded_conf from None given whole
  unfolding loaded_conf
  open_conf opens = same_conf (sym (whole_at host.roots tree from opens)) (sym (whole_at host.roots tree (conf_below from) (conf_is_open from host.roots opens)))
    where
      same_conf : node_at tree from ≡ node_at whole from → node_at tree (conf_below from) ≡ node_at whole (conf_below from)
          → loaded_conf from None given tree ≡ loaded_conf from None given whole
      same_conf source conf = cc

  pub no_source_of : (holds_root host.roots from || is_private host.roots from) ≡ true → tree_conf host from whole ≡ Err (refusal.NoSource from)
  no_source_of h = elim (cases_Bool (holds_root host.roots from)) [
    | inl holds ↦ ap (λ b. cond b (Err (refusal.NoSource from)) (loaded_conf from None (host_given host) whole)) holds
    | inr clear ↦ ap (λ b. cond b (Err (refusal.NoSource from)) (loaded_conf from None (host_given host) whole)) clear
        ∙ ap (λ g. loaded_conf from None g whole) (sym is) ∙ private_conf (sym (ap (λ b. b || is_private host.roots from) clear) ∙ h)
  ]

  pub source_of : (holds_root host.roots from || is_private host.roots from) ≡ false → loaded_conf from None given tree ≡ tree_conf host from whole
  source_of h = elim (cases_Bool (holds_root host.roots from)) [
    | inl holds ↦ absurd (true≢false (sym (ap (λ b. b || is_private host.roots from) holds) ∙ h))
    | inr clear ↦ open_conf (sym (ap (λ b. b || is_private host.roots from) clear) ∙ h) ∙ ap (λ g. loaded_conf from None g whole) is
        ∙ sym (ap (λ b. cond b (Err (refusal.NoSource from)) (loaded_conf from None (host_given host) whole)) clear)
  ]

abbrev stopped : Path → Result Conf Stop
stopped path = Err (Refused (refusal.NoSource path))

-- it is refused before the world is asked anything
pub refuses_directory : (host : Host) (from path : Path) (given : Given) (old : State) → path ≡ from → given ≡ host_given host
    → (holds_root host.roots from || is_private host.roots from) ≡ true → Gives (λ tree. tree_conf host from (whole_tree host.roots tree)) old old (stopped path)
refuses_directory host from path given old same is h = record {
  answers = λ tree told. no_source_of host from given is tree h ∙ ap (λ p. Err (refusal.NoSource p)) (sym same);
  unchanged = unchanged_none old;
  cause = cause_other old old (Ok from) (stopped path) (no_cause old from) (λ e. let impossible : stopped path ≡ Err Fault = e in cc);
}

pub reads_directory : (host : Host) (from : Path) (given : Given) (old new : State) (result : Result Conf Stop) → given ≡ host_given host
    → (holds_root host.roots from || is_private host.roots from) ≡ false → Gives (loaded_conf from None given) old new result
    → Gives (λ tree. tree_conf host from (whole_tree host.roots tree)) old new result
reads_directory host from given old new result is h g = record {
  answers = λ tree told. subst (IsAnswer result) (source_of host from given is tree h) (g.answers tree told);
  unchanged = g.unchanged;
  cause = g.cause;
}

-- what is read isn't the tool's own
pub not_own : {A : Type 0} (result : Result A Stop) (holds own : Bool) → (holds || own) ≡ false → IfOk result (λ conf. own ≡ false)
not_own (Ok conf) false own e = e
not_own (Ok conf) true own e = let impossible : true ≡ false = e in cc
not_own (Err stop) holds own e = tt
