-- What the changes of a fitting patch touch is never foreign.
use Rattle.std.proofs.Common.{◌≡◌, ◌⊎◌, true, false, ◌||◌, not, List, [], ◌∷◌, ◌++◌, map, is_some, refl, sym, ap, ◌∙◌, subst, inl, inr}
use Rattle.std.proofs.lemmas.List.Folds.{list_any-append}
use Rattle.std.specs.List.{list_any, AllByRecursion}
use Rattle.kb_world.specs.Patch.{Patch, dirs_of, emptied_of, is_listed, put_at}
use Rattle.kb_world.specs.Path.{Path, is_under}
use Rattle.kb_world.specs.Public.{IsAlwaysPublic, IsNeverForeign}
use Rattle.kb_world.specs.Roots.{AreApart}
use Rattle.kb_world.specs.Tree.{Tree}
use Rattle.kb_world.specs.TreeLaws.{same_path, same_path-true}
use Rattle.kb_world.specs.declared.roots.Roots.{Roots}
use Rattle.kb_world.specs.declared.tree.Node.{Node}
use Rattle.kb_world.proofs.AboveLaws.{each-listed}
use Rattle.kb_world.proofs.OrderLaws.{any-found}
use Rattle.kb_changes.specs.Changes.{changes_of, drops_of, numbered_puts, scratches}
use Rattle.kb_changes.specs.Fit.{IsInOwnRoot, IsFit, IsFitPut}
use Rattle.kb_changes.specs.declared.change.Change.{Change}
use Rattle.kb_changes.specs.declared.change.Change.TheVariants.{Dir, Drop, DropDir, Wipe}
use Rattle.kb_changes.proofs.PatchForeign.{public-own, private-own}
use Rattle.kb_changes.proofs.PatchParents.{either}
use Rattle.kb_changes.proofs.PatchPlaces.{emptied_place, found-filter, scratch_private, wipe_place, wiped_own}
use Rattle.kb_machine.specs.Behind.{may_touch, touched_by}

-- ---- what a group touches

touched_drops : (q : Path) (paths : List Path) → touched_by (map Drop paths) q ≡ is_listed q paths
touched_drops q [] = refl
touched_drops q (path ∷ paths) = ap (λ b. same_path q path || b) (touched_drops q paths)

touched_wipes : (q : Path) (paths : List Path) → touched_by (map Wipe paths) q ≡ list_any (is_under q) paths
touched_wipes q [] = refl
touched_wipes q (path ∷ paths) = ap (λ b. is_under q path || b) (touched_wipes q paths)

touched_dirs : (q : Path) (paths : List Path) → touched_by (map Dir paths) q ≡ is_listed q paths
touched_dirs q [] = refl
touched_dirs q (path ∷ paths) = ap (λ b. same_path q path || b) (touched_dirs q paths)

touched_emptied : (q : Path) (paths : List Path) → touched_by (map DropDir paths) q ≡ is_listed q paths
touched_emptied q [] = refl
touched_emptied q (path ∷ paths) = ap (λ b. same_path q path || b) (touched_emptied q paths)

touched_puts : (roots : Roots) (q : Path) (earlier puts : List (Path × Node)) → touched_by (numbered_puts roots earlier puts) q ≡ is_listed q (map (λ (put : Path × Node). put.0) puts)
touched_puts roots q earlier [] = refl
touched_puts roots q earlier (put ∷ puts) = ap (λ b. same_path q put.0 || b) (touched_puts roots q (earlier ++ put ∷ []) puts)

one_of : (q : Path) (first second : List Change) → touched_by (first ++ second) q ≡ true → (touched_by first q ≡ true) ⊎ (touched_by second q ≡ true)
one_of q first second touched = either (touched_by first q) (touched_by second q) (sym (list_any-append (may_touch q) first second) ∙ touched)

target_opens : (roots : Roots) (patch : Patch) (tree : Tree) (q : Path) (puts : List (Path × Node)) → AllByRecursion (IsFitPut roots patch tree) puts
    → is_listed q (map (λ (put : Path × Node). put.0) puts) ≡ true → IsAlwaysPublic roots q
target_opens roots patch tree q [] all listed = let impossible : false ≡ true = listed in absurd (cc)
target_opens roots patch tree q (put ∷ puts) all listed = elim (either (same_path q put.0) _ listed) [
  | inl here ↦ subst (IsAlwaysPublic roots) (sym (same_path-true q put.0 here)) all.0.opens
  | inr later ↦ target_opens roots patch tree q puts all.1 later
]

-- ---- a fitting patch

module _ (roots : Roots) (apart : AreApart roots) (patch : Patch) (tree : Tree) (fit : IsFit roots patch tree) (q : Path) where
  abbrev emptied : List Path
  emptied = emptied_of roots patch

  of_drops : is_listed q (drops_of patch) ≡ true → IsNeverForeign roots q
  of_drops listed = public-own roots q (each-listed (IsAlwaysPublic roots) patch.drops fit.drops q (found-filter roots apart (λ path. not (is_some (put_at path patch.puts))) patch.drops q listed).1)

  of_wipes : list_any (is_under q) (patch.wipes ++ scratches roots emptied) ≡ true → IsNeverForeign roots q
  of_wipes under = elim (either (list_any (is_under q) patch.wipes) (list_any (is_under q) (scratches roots emptied)) (sym (list_any-append (is_under q) patch.wipes (scratches roots emptied)) ∙ under)) [
    | inl wiped ↦
        let found = any-found (is_under q) patch.wipes wiped in
        wiped_own roots apart found.0 (wipe_place roots apart found.0 (each-listed (IsInOwnRoot roots) patch.wipes fit.wipes found.0 found.2)) q found.1
    | inr scratch ↦ private-own roots q (scratch_private roots emptied q scratch)
  ]

  of_dirs : is_listed q (dirs_of roots patch) ≡ true → IsNeverForeign roots q
  of_dirs listed = public-own roots q (fit.dirs q listed).opens

  of_emptied : is_listed q emptied ≡ true → IsNeverForeign roots q
  of_emptied listed = public-own roots q (emptied_place roots apart patch fit.drops fit.wipes q listed).opens

  pub patch_spares : touched_by (changes_of roots patch) q ≡ true → IsNeverForeign roots q
  unfolding changes_of
  patch_spares touched = elim (one_of q drops behind_drops touched) [
    | inl in_drops ↦ of_drops (sym (touched_drops q (drops_of patch)) ∙ in_drops)
    | inr later ↦ elim (one_of q wipes behind_wipes later) [
      | inl in_wipes ↦ of_wipes (sym (touched_wipes q (patch.wipes ++ scratches roots emptied)) ∙ in_wipes)
      | inr more ↦ elim (one_of q dirs behind_dirs more) [
        | inl in_dirs ↦ of_dirs (sym (touched_dirs q (dirs_of roots patch)) ∙ in_dirs)
        | inr last ↦ elim (one_of q puts (map DropDir emptied) last) [
          | inl in_puts ↦ public-own roots q (target_opens roots patch tree q patch.puts fit.puts (sym (touched_puts roots q [] patch.puts) ∙ in_puts))
          | inr in_emptied ↦ of_emptied (sym (touched_emptied q emptied) ∙ in_emptied)
        ]
      ]
    ]
  ]
    where
      drops : List Change
      drops = map Drop (drops_of patch)

      wipes : List Change
      wipes = map Wipe (patch.wipes ++ scratches roots emptied)

      dirs : List Change
      dirs = map Dir (dirs_of roots patch)

      puts : List Change
      puts = numbered_puts roots [] patch.puts

      behind_dirs : List Change
      behind_dirs = puts ++ map DropDir emptied

      behind_wipes : List Change
      behind_wipes = dirs ++ behind_dirs

      behind_drops : List Change
      behind_drops = wipes ++ behind_wipes
