-- So many paths are read.
use Rattle.std.proofs.Common.{◌≡◌, ◌<◌, ◌^◌, List, ℕ, [], ◌∷◌, ◌++◌, All, length, map}
use Rattle.kb_world.specs.Path.{Path}
use Rattle.kb_changes.specs.Text as rule
use Rattle.kb_journal.proofs.LeftLaws.{AreLeft}
use Rattle.kb_journal.proofs.read_list.read_paths.Given as goal

abbrev pub invariant-loop : goal.invariant-loop
invariant-loop l =
    (paths : List Path) (more : List (List ℕ)) → All rule.IsTextPath paths → length paths < 2 ^ 64 → l.fn.fields ≡ rule.counted_fields (map rule.path_field paths) ++ more
    → AreLeft (λ path. rule.path_field path ∷ []) rule.IsTextPath paths l.paths more l.fields l.counter
