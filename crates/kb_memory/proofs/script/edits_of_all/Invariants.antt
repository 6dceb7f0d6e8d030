use Rattle.std.proofs.Common.{◌≡◌, map, take, ◌+◌, ◌-◌, ◌*◌, ◌<◌, ◌≤◌, length}
use Rattle.std.specs.List.{find, list_all, list_any}
use Rattle.std.specs.Option.{option_copied}
use Rattle.kb_world.specs.Path.{is_under}
use Rattle.kb_world.specs.Tree.{node_at, is_file}
use Rattle.kb_world.specs.View as view
use Rattle.kb_world.specs.Script as script
use Rattle.kb_memory.proofs.script.edits_of_all.Given as goal

abbrev pub invariant-loop-effect : goal.invariant-loop-effect
invariant-loop-effect l = l.edits.items ≡ map (script.edit_of (view.view_of l.roots l.request l.nodes)) (take l.effect-index l.effects)
