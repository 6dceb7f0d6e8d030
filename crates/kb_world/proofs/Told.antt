-- What a world that tells its tree told before a change.
use Rattle.std.proofs.Common.{◌≡◌, Option, Some, None, refl, sym, ◌∙◌}
use Rattle.std.specs.Prelude.{option_map}
use Rattle.kb_world.specs.Tree.{Tree}

-- the tree before, and that the one now is it, changed
pub record ToldBefore (change : Tree → Tree) (old : Option Tree) (now : Tree) : Type 0 where
  pub tree : Tree
  pub was : old ≡ Some tree
  pub changed : now ≡ change tree

pub told_before : (change : Tree → Tree) (old mid : Option Tree) (now : Tree) → mid ≡ option_map change old → mid ≡ Some now → ToldBefore change old now
told_before change None mid now e h = let impossible : None ≡ Some now = sym e ∙ h in cc
told_before change (Some tree) mid now e h = let same : Some now ≡ Some (change tree) = sym h ∙ e in record { tree = tree; was = refl; changed = cc }
