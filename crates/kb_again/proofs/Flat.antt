-- All groups as one list.
use Rattle.std.specs.Prelude.{List, ◌++◌, map}
use Rattle.kb_world.specs.Tree.{Tree}
use Rattle.kb_world.specs.Path.{Path}
use Rattle.kb_again.proofs.Ends.{Move, drop_at, wipe_at, drop_dir_at, make_dir_at, move_at, in_turn}
use Rattle.kb_again.proofs.Parts.{Groups}

-- what is done at one path, or from one path to another
pub data Act : Type 0 where
  to_drop : Path → Act
  to_wipe : Path → Act
  to_drop_dir : Path → Act
  to_make : Path → Act
  to_put : Path → Path → Act

abbrev pub do_act : Act → Tree → Tree
do_act (to_drop p) t = drop_at p t
do_act (to_wipe p) t = wipe_at p t
do_act (to_drop_dir p) t = drop_dir_at p t
do_act (to_make p) t = make_dir_at p t
do_act (to_put staged target) t = move_at (staged, target) t

abbrev pub do_acts : List Act → Tree → Tree
do_acts cs t = in_turn do_act cs t

abbrev pub put_of : Move → Act
put_of m = to_put m.0 m.1

-- the groups in their order
abbrev pub acts_of : Groups → List Act
acts_of g =
    map to_drop g.drops ++
    (map to_wipe g.wipes ++ (map to_drop_dir g.first ++ (map to_make g.dirs ++ (map put_of g.puts ++ map to_drop_dir g.second))))
