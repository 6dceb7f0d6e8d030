-- Where the parts of a package stand, gathered, and what is read and made there.
use Rattle.std.specs.Prelude.{cond, Option, Some, None, is_some}
use Rattle.std.specs.Option.{option_map}
use Rattle.kb_world.specs.Path.{Path}
use Rattle.kb_world.specs.Tree.{Tree, node_at}
use Rattle.kb_machine.specs.Outcome.{◌or◌}
use Rattle.kb_world.specs.Steps.{blocking}
use Rattle.kb_world.specs.Store.{module_path, version_path, link_path, source_path, source_text}
use Rattle.kb_world.specs.declared.roots.Roots.{Roots}
use Rattle.kb_world.specs.declared.job.Key.{Key}
use Rattle.kb_world.specs.declared.refusal.Refusal.{Refusal}
use Rattle.kb_world.specs.declared.refusal.Refusal.TheVariants as refusal
use Rattle.kb_dkms.specs.declared.places.Places.{Places}

abbrev pub package_places : Roots → Key → Places
package_places roots key = record {
  «module» = module_path roots key;
  version = version_path roots key;
  link = link_path roots key;
  source = source_path roots key;
  text = source_text roots key;
}

-- something stands at the version's link
abbrev pub standing : Key → Path → Tree → Option Refusal
standing key link tree = cond (is_some (node_at tree link)) (Some (refusal.AlreadyAdded key)) None

-- something else stands where the step needs a directory
abbrev pub blocked_by : Path → Tree → Option Refusal
blocked_by path tree = option_map refusal.Damaged (blocking path tree)

abbrev pub place_blocked : Places → Tree → Option Refusal
place_blocked places = blocked_by places.module or blocked_by places.version
