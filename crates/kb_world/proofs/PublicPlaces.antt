-- What is for something below the dkms root is public, but for scratch trees.
use Rattle.std.proofs.Common.{◌≡◌, true, false, ◌&&◌, not, Some, ap, ◌∙◌}
use Rattle.std.specs.Cmp.{first_so}
use Rattle.kb_world.specs.Names.{is_word, is_version}
use Rattle.kb_world.specs.Roots.{AreApart}
use Rattle.kb_world.specs.StorePath.{is_key, is_spot, is_targets, names_of, is_ruled, path_of, is_in_scratch}
use Rattle.kb_world.specs.declared.roots.Roots.{Roots}
use Rattle.kb_world.specs.declared.store_path.StorePath.{StorePath}
use Rattle.kb_world.specs.declared.store_path.StorePath.TheVariants.{SourceLink, InScratch, Targets, InBox, KernelLink, InChest}
use Rattle.kb_world.proofs.NameLaws.{known}
use Rattle.kb_world.proofs.PublicLaws.{IsAlwaysPublic, begins_plainly, in_dkms}
use Rattle.kb_world.proofs.StorePathLaws.{told_there}

-- its names begin with a module, which begins with a letter or digit
pub begins : (place : StorePath) → is_ruled place ≡ true → begins_plainly (names_of place) ≡ true
begins (SourceLink key) h = (known key.module (first_so (is_word key.module) (is_version key.version) h)).begins
begins (InScratch key rest) h = (known key.module (first_so (is_word key.module) (is_version key.version) h)).begins
begins (Targets key spot) h = (known key.module (first_so (is_word key.module) (is_version key.version) (first_so (is_key key) (is_spot spot) h))).begins
begins (InBox key spot rest) h =
    (known key.module (first_so (is_word key.module) (is_version key.version) (first_so (is_key key) (is_spot spot) (first_so (is_key key && is_spot spot) (not (is_targets rest)) h)))).begins
begins (KernelLink word spot) h = (known word (first_so (is_word word) (is_spot spot) h)).begins
begins (InChest word spot rest) h = (known word (first_so (is_word word) (is_spot spot) h)).begins

pub public_place : (roots : Roots) → AreApart roots → (place : StorePath) → is_ruled place ≡ true → is_in_scratch (Some place) ≡ false → IsAlwaysPublic roots (path_of roots place)
public_place roots apart place ruled open_to = in_dkms roots apart (names_of place) (begins place ruled) (ap is_in_scratch (told_there place ruled) ∙ open_to)
