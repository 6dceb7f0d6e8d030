-- What `dkms add` adds, as the code tells a package from a directory. This project's own.
use Rattle.std.specs.Prelude.{Bool, true}
use Rattle.kb_machine.specs.Outcome.{Action}
use Rattle.kb_world.specs.Script.{Script}
use Rattle.kb_world.specs.Store.{is_key}
use Rattle.kb_world.specs.declared.job.Host.{Host}
use Rattle.kb_dkms.specs.Add.{add}
use Rattle.kb_dkms.specs.AddTree.{add_tree}
use Rattle.kb_top.specs.declared.adding.Addition.{Addition}
use Rattle.kb_top.specs.declared.adding.Addition.TheVariants.{Package, Directory}

-- the names of a package keep their rules
abbrev pub is_addition_named : Addition → Bool
is_addition_named (Package key) = is_key key.now
is_addition_named (Directory path) = true

abbrev pub adding : Host → Script → Addition → Action
adding host script (Package key) = add host script key.now
adding host script (Directory path) = add_tree host script path.now
