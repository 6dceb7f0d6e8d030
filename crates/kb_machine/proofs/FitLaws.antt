-- A patch that fits a tree fits it after work aside.
use Rattle.std.proofs.Common.{◌≡◌, Bool, true, false, ◌&&◌, ◌||◌, not, cond, [], ◌∷◌, None, refl, ap, ◌∙◌}
use Rattle.std.specs.List.{list_any}
use Rattle.kb_world.specs.Path.{Path, is_under}
use Rattle.kb_world.specs.Patch.{Patch, is_listed}
use Rattle.kb_world.specs.Public.{IsAlwaysPublic, is_private}
use Rattle.kb_world.specs.Roots.{AreApart, is_below}
use Rattle.kb_world.specs.Tree.{Tree, node_at, is_dir, is_leaf, IsFormed}
use Rattle.kb_world.specs.declared.roots.Roots.{Roots}
use Rattle.kb_world.proofs.AboveLaws.{AreAll}
use Rattle.kb_changes.specs.Fit.{IsFit, IsFitPut, is_rooted}
use Rattle.kb_changes.specs.Valid.{written_roots}
use Rattle.kb_again.proofs.RootLaws.{are_roots, at_0, at_1, at_2, at_3, written_is_root}
use Rattle.kb_again.proofs.SoftLaws.{root_open}
use Rattle.kb_machine.specs.Aside.{is_aside, IsSameBut}

-- what is public isn't aside
open_aside : (roots : Roots) (path : Path) → IsAlwaysPublic roots path → is_aside roots path ≡ false
open_aside roots path opens = by _ (is_private roots path) _ _ (opens None)
  where
    by : (a b c d : Bool) → (a && not b && not c) ≡ true → (b && d) ≡ false
    by true true c d h = let impossible : false ≡ true = h in cc
    by true false c d h = refl
    by false b c d h = let impossible : false ≡ true = h in cc

-- nor is a root that is written
pub root_aside : (roots : Roots) → AreApart roots → (root : Path) → is_listed root (written_roots roots) ≡ true → is_aside roots root ≡ false
root_aside roots apart root written = by (is_private roots root) _ (root_open roots (are_roots roots apart) root (written_is_root roots root written))
  where
    by : (b d : Bool) → not b ≡ true → (b && d) ≡ false
    by true d h = let impossible : false ≡ true = h in cc
    by false d h = refl

module _ (roots : Roots) (apart : AreApart roots) (patch : Patch) (tree now : Tree) (same : IsSameBut (is_aside roots) tree now) where
  at_open : (path : Path) → IsAlwaysPublic roots path → node_at now path ≡ node_at tree path
  at_open path opens = same path (open_aside roots path opens)

  at_root : (root : Path) → is_listed root (written_roots roots) ≡ true → node_at now root ≡ node_at tree root
  at_root root written = same root (root_aside roots apart root written)

  rooted_same : (path : Path) → is_rooted roots tree path ≡ true → is_rooted roots now path ≡ true
  rooted_same path h = (λ i.
      is_below path roots.dkms && is_dir (at_root roots.dkms (at_0 roots.dkms (roots.src ∷ roots.modules ∷ roots.boot ∷ [])) i)
      || (is_below path roots.src && is_dir (at_root roots.src (at_1 roots.dkms roots.src (roots.modules ∷ roots.boot ∷ [])) i)
      || (is_below path roots.modules && is_dir (at_root roots.modules (at_2 roots.dkms roots.src roots.modules (roots.boot ∷ [])) i)
      || (is_below path roots.boot && is_dir (at_root roots.boot (at_3 roots.dkms roots.src roots.modules roots.boot []) i) || false)))) ∙ h

  pub fit_aside : IsFormed now → IsFit roots patch tree → IsFit roots patch now
  fit_aside formed fit = record {
    formed = formed;
    drops = fit.drops;
    wipes = fit.wipes;
    dirs = λ path listed.
        let dir = fit.dirs path listed in
        record {
          opens = dir.opens;
          free = ap (λ at. is_leaf (cond (list_any (is_under path) patch.wipes || is_listed path patch.drops && is_leaf at) None at)) (at_open path dir.opens) ∙ dir.free;
        };
    puts = AreAll (IsFitPut roots patch tree) (IsFitPut roots patch now) (λ put fits. record {
      opens = fits.opens;
      leaf = fits.leaf;
      free = ap is_dir (at_open put.0 fits.opens) ∙ fits.free;
      no_dir = fits.no_dir;
    }) patch.puts fit.puts;
    rooted = AreAll (λ path. is_rooted roots tree path ≡ true) (λ path. is_rooted roots now path ≡ true) rooted_same _ fit.rooted;
    counted = fit.counted;
  }
