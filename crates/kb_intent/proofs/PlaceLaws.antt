-- Where the tool's own paths lie: each below its root, apart from one another.
use Rattle.std.proofs.Common.{◌≡◌, ◌⊎◌, ℕ, ◌+◌, true, false, ◌&&◌, not, List, [], ◌∷◌, ◌++◌, codes, refl, sym, ap, ◌∙◌, inl, inr}
use Rattle.std.specs.Prelude.{bytes_eq}
use Rattle.std.specs.List.{list_all, list_any}
use Rattle.std.specs.Cmp.{first_so, second_so}
use Rattle.std.specs.Cmp.Derive.{both_true}
use Rattle.std.specs.Fmt.{decimal}
use Rattle.std.proofs.lemmas.Bool.{true≢false, or_left, or_right}
use Rattle.kb_world.specs.Path.{Path, child, is_under, are_apart}
use Rattle.kb_world.specs.Public.{intent_path, staging_path}
use Rattle.kb_world.specs.Roots.{AreApart, based_roots, each_apart}
use Rattle.kb_world.specs.declared.roots.Roots.{Roots}
use Rattle.kb_world.specs.declared.tree.Node.{Node}
use Rattle.kb_world.proofs.PathLaws.{under-append, under-beside, elsewhere, elsewhere-below, apart-back}
use Rattle.kb_world.proofs.PublicLaws.{WrittenApart, written_apart}
use Rattle.kb_changes.specs.Change.{root_path, staged_path}
use Rattle.kb_changes.specs.Changes.{Staged, staged_below}
use Rattle.kb_changes.specs.Valid.{new_intent_path}
use Rattle.kb_changes.specs.declared.change.RootName.{RootName}
use Rattle.kb_changes.specs.declared.change.RootName.TheVariants as root_name
use Rattle.kb_again.specs.Within.{staging_paths}
use Rattle.kb_again.proofs.PathLaws.{is_listed, listed_cons, listed_more}
use Rattle.kb_again.proofs.RootLaws.{inside, inside_some, is_staging, untouched_private}
use Rattle.kb_machine.specs.Aside.{is_aside}
use Rattle.kb_changes.specs.Counts.{count_below, one_more}
use Rattle.kb_changes.specs.declared.counts.Counts.{Counts}
use Rattle.kb_intent.specs.Txn.{with_staged, left_places}

-- ---- two entries

pub apart_one : (x : Path) (m n : List ℕ) → bytes_eq m n ≡ false → bytes_eq n m ≡ false → are_apart (child x m) (child x n) ≡ true
apart_one x m n e f =
    both_true (ap not (under-beside x (m ∷ []) (n ∷ []) ∙ ap (λ b. b && true) f)) (ap not (under-beside x (n ∷ []) (m ∷ []) ∙ ap (λ b. b && true) e))

pub apart_two : (x y : Path) (m n : List ℕ) → are_apart x y ≡ true → are_apart (child x m) (child y n) ≡ true
apart_two x y m n apart =
    both_true (ap not (elsewhere-below (child x m) x y (n ∷ []) apart (under-append x (m ∷ []))))
    (ap not (elsewhere-below (child y n) y x (m ∷ []) (apart-back x y apart) (under-append y (n ∷ []))))

-- ---- what is private

module _ (roots : Roots) (apart : AreApart roots) where
  w : WrittenApart roots
  w = written_apart roots apart

  pub modules_boot : are_apart roots.modules roots.boot ≡ true
  modules_boot =
      let all = first_so (each_apart (roots.boot ∷ based_roots roots)) _ apart in
      let boot = first_so (list_all (are_apart roots.boot) (based_roots roots)) _ all in
      let behind = second_so (are_apart roots.boot roots.src) _ (second_so (are_apart roots.boot roots.dkms) _ boot) in
      apart-back roots.boot roots.modules (first_so (are_apart roots.boot roots.modules) _ behind)

  -- what isn't committed lies beside the journal
  each_left : (place : Path) → is_listed place (left_places roots) ≡ true → are_apart place (intent_path roots) ≡ true
  each_left place listed = elim (listed_cons place (new_intent_path roots) (staging_paths roots) listed) [
    | inl is ↦ ap (λ p. are_apart p (intent_path roots)) is ∙ apart_one roots.dkms (codes ".intent.new") (codes ".intent") refl refl
    | inr l1 ↦ elim (listed_cons place (staging_path roots.dkms) (staging_path roots.src ∷ staging_path roots.modules ∷ staging_path roots.boot ∷ []) l1) [
      | inl is ↦ ap (λ p. are_apart p (intent_path roots)) is ∙ apart_one roots.dkms (codes ".kb-staged") (codes ".intent") refl refl
      | inr l2 ↦ elim (listed_cons place (staging_path roots.src) (staging_path roots.modules ∷ staging_path roots.boot ∷ []) l2) [
        | inl is ↦ ap (λ p. are_apart p (intent_path roots)) is ∙ apart_two roots.src roots.dkms (codes ".kb-staged") (codes ".intent") (apart-back roots.dkms roots.src w.dkms_src)
        | inr l3 ↦ elim (listed_cons place (staging_path roots.modules) (staging_path roots.boot ∷ []) l3) [
          | inl is ↦ ap (λ p. are_apart p (intent_path roots)) is ∙ apart_two roots.modules roots.dkms (codes ".kb-staged") (codes ".intent") (apart-back roots.dkms roots.modules w.dkms_modules)
          | inr l4 ↦ elim (listed_cons place (staging_path roots.boot) [] l4) [
            | inl is ↦ ap (λ p. are_apart p (intent_path roots)) is ∙ apart_two roots.boot roots.dkms (codes ".kb-staged") (codes ".intent") (apart-back roots.dkms roots.boot w.dkms_boot)
            | inr none ↦ absurd (true≢false (sym none))
          ]
        ]
      ]
    ]
  ]

  pub left_aside : (q : Path) → list_any (is_under q) (left_places roots) ≡ true → is_aside roots q ≡ true
  left_aside q under =
      let place = inside_some (left_places roots) q under in
      both_true (or_left _ _ (untouched_private roots q (or_right _ _ under))) (ap not (elsewhere q place.0 (intent_path roots) (each_left place.0 place.1) place.2))

  pub staging_left : (root : RootName) (q : Path) → is_under q (staging_path (root_path roots root)) ≡ true → list_any (is_under q) (left_places roots) ≡ true
  staging_left root q under =
      inside (left_places roots) (staging_path (root_path roots root)) q (listed_more (staging_path (root_path roots root)) (new_intent_path roots) (staging_paths roots) (is_staging roots root)) under

  pub staging_aside : (root : RootName) (q : Path) → is_under q (staging_path (root_path roots root)) ≡ true → is_aside roots q ≡ true
  staging_aside root q under = left_aside q (staging_left root q under)

-- ---- the root of one more node, and another

-- it is this root, and one node more is staged and counted below it
pub record IsOwn (root other : RootName) (node : Node) (staged : Staged) (counts : Counts) : Type 0 where
  pub same : other ≡ root
  pub nodes : staged_below (with_staged root node staged) other ≡ staged_below staged other ++ node ∷ []
  pub count : count_below (one_more root counts) other ≡ count_below counts other + 1

-- it is apart from it, and nothing is changed below it
pub record IsOther (roots : Roots) (root other : RootName) (node : Node) (staged : Staged) (counts : Counts) : Type 0 where
  pub apart : are_apart (root_path roots other) (root_path roots root) ≡ true
  pub nodes : staged_below (with_staged root node staged) other ≡ staged_below staged other
  pub count : count_below (one_more root counts) other ≡ count_below counts other

module _ (roots : Roots) (roots_apart : AreApart roots) (node : Node) (staged : Staged) (counts : Counts) where
  is : WrittenApart roots
  is = written_apart roots roots_apart

  pub by_root : (root other : RootName) → IsOwn root other node staged counts ⊎ IsOther roots root other node staged counts
  by_root root_name.Dkms root_name.Dkms = inl (record { same = refl; nodes = refl; count = refl })
  by_root root_name.Dkms root_name.Src = inr (record { apart = apart-back roots.dkms roots.src is.dkms_src; nodes = refl; count = refl })
  by_root root_name.Dkms root_name.Modules = inr (record { apart = apart-back roots.dkms roots.modules is.dkms_modules; nodes = refl; count = refl })
  by_root root_name.Dkms root_name.Boot = inr (record { apart = apart-back roots.dkms roots.boot is.dkms_boot; nodes = refl; count = refl })
  by_root root_name.Src root_name.Dkms = inr (record { apart = is.dkms_src; nodes = refl; count = refl })
  by_root root_name.Src root_name.Src = inl (record { same = refl; nodes = refl; count = refl })
  by_root root_name.Src root_name.Modules = inr (record { apart = apart-back roots.src roots.modules is.src_modules; nodes = refl; count = refl })
  by_root root_name.Src root_name.Boot = inr (record { apart = apart-back roots.src roots.boot is.src_boot; nodes = refl; count = refl })
  by_root root_name.Modules root_name.Dkms = inr (record { apart = is.dkms_modules; nodes = refl; count = refl })
  by_root root_name.Modules root_name.Src = inr (record { apart = is.src_modules; nodes = refl; count = refl })
  by_root root_name.Modules root_name.Modules = inl (record { same = refl; nodes = refl; count = refl })
  by_root root_name.Modules root_name.Boot = inr (record { apart = apart-back roots.modules roots.boot (modules_boot roots roots_apart); nodes = refl; count = refl })
  by_root root_name.Boot root_name.Dkms = inr (record { apart = is.dkms_boot; nodes = refl; count = refl })
  by_root root_name.Boot root_name.Src = inr (record { apart = is.src_boot; nodes = refl; count = refl })
  by_root root_name.Boot root_name.Modules = inr (record { apart = modules_boot roots roots_apart; nodes = refl; count = refl })
  by_root root_name.Boot root_name.Boot = inl (record { same = refl; nodes = refl; count = refl })

-- what is staged below a root lies in its staging directory
pub staged_under : (roots : Roots) (root : RootName) (number : ℕ) → is_under (staged_path roots root number) (staging_path (root_path roots root)) ≡ true
staged_under roots root number = under-append (staging_path (root_path roots root)) (decimal number ∷ [])
