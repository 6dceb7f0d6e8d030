use Rattle.std.proofs.Common.{◌≡◌, map, take, filter}
use Rattle.kb_conf.specs.PathValue.{is_path_part}
use Rattle.kb_conf.proofs.path_value.path_parts.Given as goal

abbrev pub invariant-loop-piece : goal.invariant-loop-piece
invariant-loop-piece l = map (λ part. part.now) l.parts.items ≡ filter is_path_part (map (λ piece. piece.now) (take l.piece-index l.piece-items))
