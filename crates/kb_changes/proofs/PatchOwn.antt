-- Public paths below the roots dkms, src and modules, and the directories above them.
use Rattle.std.proofs.Common.{◌≡◌, ◌⊎◌, Bool, true, false, cond, ◌&&◌, ◌||◌, not, List, [], ◌∷◌, ◌++◌, length, drop, map, None, codes, refl, sym, ap, ◌∙◌, inl, inr}
use Rattle.std.specs.Prelude.{flat_map}
use Rattle.std.specs.List.{list_any, AllByRecursion}
use Rattle.std.specs.Cmp.{first_so}
use Rattle.std.specs.Cmp.Derive.{both_true}
use Rattle.kb_world.specs.Path.{Path, child, is_under}
use Rattle.kb_world.specs.Patch.{Patch, above, dirs_of, is_listed}
use Rattle.kb_world.specs.Public.{is_private, private_places, intent_path, staging_path}
use Rattle.kb_world.specs.Roots.{AreApart, is_below}
use Rattle.kb_world.specs.StorePath.{store_path, is_in_scratch}
use Rattle.kb_world.specs.Tree.{sole}
use Rattle.kb_world.specs.TreeLaws.{same_path}
use Rattle.kb_world.specs.declared.roots.Roots.{Roots}
use Rattle.kb_world.specs.declared.tree.Node.{Node}
use Rattle.kb_world.proofs.PathLaws.{under-self, by_test}
use Rattle.kb_world.proofs.AboveLaws.{above-below, each-listed}
use Rattle.kb_world.proofs.ListedLaws.{or_first, or_second, listed-append}
use Rattle.kb_world.proofs.OrderLaws.{any-found, any-of}
use Rattle.kb_changes.specs.Change.{root_path}
use Rattle.kb_changes.specs.Changes.{root_of}
use Rattle.kb_changes.specs.Fit.{IsInOwnRoot, IsPlacedPath}
use Rattle.kb_changes.specs.Valid.{written_roots, new_intent_path, is_kept_out, is_initrd, is_initrd_name}
use Rattle.kb_changes.specs.declared.change.RootName.{RootName}
use Rattle.kb_changes.proofs.PatchParents.{found-flat_map, dir_from, rooted_at, directories-over}
use Rattle.kb_changes.proofs.PatchPuts.{root-under, open_no_private}
use Rattle.kb_changes.proofs.PatchPlaces.{under-trans, private_down, listed_root, public_there, wipe_place}

untrue : false ≡ true → ⊥
untrue e = cc

-- three roots are among the four
three_of_four : (a b c d : Bool) → (a || (b || (c || false))) ≡ true → (a || (b || (c || (d || false)))) ≡ true
three_of_four true b c d e = refl
three_of_four false true c d e = refl
three_of_four false false true d e = refl
three_of_four false false false d e = absurd (untrue e)

-- seven tests of which none holds, and those of them that a change is kept from
six_of : (i n a b c d p : Bool) → (i || (n || (a || (b || (c || (d || (p || false))))))) ≡ false → ((i || (a || (b || (c || (d || false))))) ≡ false) × (n ≡ false)
six_of i n a b c d p e =
    let hi = or_first i _ e in
    let e1 = or_second i _ e in
    let e2 = or_second n _ e1 in
    let e3 = or_second a _ e2 in
    let e4 = or_second b _ e3 in
    let e5 = or_second c _ e4 in (
      (λ t. hi t || (or_first a _ e2 t || (or_first b _ e3 t || (or_first c _ e4 t || (or_first d _ e5 t || false))))),
      or_first n _ e1,
    )

module _ (roots : Roots) (apart : AreApart roots) where
  not_boot : (q : Path) → IsInOwnRoot roots q → is_under q roots.boot ≡ false
  not_boot q own = (wipe_place roots apart q own).no_boot q (under-self q)

  pub own_no_initrd : (q : Path) → IsInOwnRoot roots q → is_initrd roots q ≡ false
  own_no_initrd q own = ap (λ b. is_initrd_name (cond b (sole (drop (length roots.boot) q)) None)) (not_boot q own)

  pub own_placed : (q : Path) → IsInOwnRoot roots q → IsPlacedPath roots q
  own_placed q own =
      let none : is_private roots q ≡ false = by_test (is_private roots q) (open_no_private roots q own.opens) in
      let six = six_of (is_under q (intent_path roots)) (is_under q (new_intent_path roots)) (is_under q (staging_path roots.dkms)) (is_under q (staging_path roots.src)) (is_under q (staging_path roots.modules))
      (is_under q (staging_path roots.boot)) (is_under q (child roots.boot (codes ".kb-plugins"))) (or_first (list_any (is_under q) (private_places roots)) (is_in_scratch (store_path roots q)) none) in
      record {
        opens = own.opens;
        placed = all (list_any (is_below q) (written_roots roots)) (is_kept_out roots q) (is_under q (new_intent_path roots)) (is_initrd roots q)
            (three_of_four (is_below q roots.dkms) (is_below q roots.src) (is_below q roots.modules) (is_below q roots.boot) own.placed) six.0 six.1 (own_no_initrd q own);
      }
    where
      all : (a b c d : Bool) → a ≡ true → b ≡ false → c ≡ false → d ≡ false → (a && not b && not c && not d) ≡ true
      all a b c d p q r s = λ i. p i && not (q i) && not (r i) && not (s i)

  -- a directory over such a path, below its root, is one too
  over_own : (p q root : Path) → IsInOwnRoot roots p → is_under p q ≡ true → is_listed root (written_roots roots) ≡ true → is_below p root ≡ true → is_below q root ≡ true → IsInOwnRoot roots q
  over_own p q root own over written p_below below = record {
    opens = λ at. public_there roots apart q at (any-of (is_under q) (written_roots roots) root under written)
        (by_test (is_under q roots.boot) (λ boot. untrue (sym (not_boot p own) ∙ under-trans p q roots.boot over boot)))
        (by_test (is_private roots q) (λ private. open_no_private roots p own.opens (private_down roots q p private over)));
    placed = any-of (is_below q) (roots.dkms ∷ roots.src ∷ roots.modules ∷ []) found.0 (ap (is_below q) (sym one) ∙ below) found.2;
  }
    where
      under : is_under q root ≡ true
      under = first_so (is_under q root) _ below

      found : (r : Path) × (is_below p r ≡ true) × (is_listed r (roots.dkms ∷ roots.src ∷ roots.modules ∷ []) ≡ true)
      found = any-found (is_below p) (roots.dkms ∷ roots.src ∷ roots.modules ∷ []) own.placed

      named : (r : Path) → is_listed r (written_roots roots) ≡ true → is_below p r ≡ true → (n : RootName) × (r ≡ root_path roots n) × (root_of roots p ≡ n)
      named r listed b =
          let n = listed_root roots r listed in (n.0, n.1, root-under roots apart n.0 p (ap (is_under p) (sym n.1) ∙ first_so (is_under p r) _ b))

      here : (n : RootName) × (root ≡ root_path roots n) × (root_of roots p ≡ n)
      here = named root written p_below

      there : (n : RootName) × (found.0 ≡ root_path roots n) × (root_of roots p ≡ n)
      there = named found.0 (three_of_four (same_path found.0 roots.dkms) (same_path found.0 roots.src) (same_path found.0 roots.modules) (same_path found.0 roots.boot) found.2) found.1

      one : root ≡ found.0
      one = here.1 ∙ ap (root_path roots) (sym here.2 ∙ there.2) ∙ sym there.1

  pub dirs_own : (patch : Patch) → AllByRecursion (IsInOwnRoot roots) (patch.dirs ++ map (λ put. put.0) patch.puts) → (q : Path) → is_listed q (dirs_of roots patch) ≡ true → IsInOwnRoot roots q
  dirs_own patch own q listed = by (dir_from roots patch q listed)
    where
      targets : List Path
      targets = map (λ (put : Path × Node). put.0) patch.puts

      sources : List Path
      sources = patch.dirs ++ map (λ (put : Path × Node). put.0) patch.puts

      with_true : (path : Path) → IsInOwnRoot roots path → list_any (λ root. is_below path root && true) (written_roots roots) ≡ true
      with_true path o =
          let found = any-found (is_below path) (written_roots roots) (three_of_four (is_below path roots.dkms) (is_below path roots.src) (is_below path roots.modules) (is_below path roots.boot) o.placed) in
          any-of (λ root. is_below path root && true) (written_roots roots) found.0 (both_true found.1 refl) found.2

      by : (is_listed q (flat_map (above roots) sources) ≡ true) ⊎ (is_listed q patch.dirs ≡ true) → IsInOwnRoot roots q
      by (inr mine) = each-listed (IsInOwnRoot roots) sources own q (listed-append q patch.dirs targets ∙ ap (λ b. b || is_listed q targets) mine)
      by (inl made) =
          let found = found-flat_map (above roots) sources q made in
          let o = each-listed (IsInOwnRoot roots) sources own found.0 found.1 in
          let r = rooted_at roots apart (λ root. true) found.0 (with_true found.0 o) in
          over_own found.0 q r.root o (first_so (is_under found.0 q) _ (above-below roots found.0 q found.2)) r.written r.below
          (directories-over r.root (drop (length r.root) found.0) q (sym (ap (is_listed q) r.above_is) ∙ found.2))
