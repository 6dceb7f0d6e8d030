use Rattle.std.proofs.Common.{sym, arith}
use Rattle.kb_conf.specs.Views.{mode_view, view_piece}
use Rattle.kb_conf.proofs.PieceLaws.{piece_shortens, piece_next}
use Rattle.kb_conf.proofs.piece.next_piece.Goals as goal

pub overflow_sub-text : goal.overflow_sub-text
overflow_sub-text c = omega (arith, piece_shortens (mode_view c.args.mode) c.args.text.now (view_piece c.in_ok-piece.piece) c.in_ok-piece.rest.now (sym c.in_ok-piece.ensures))

pub returns : goal.returns
returns c = piece_next (mode_view c.args.mode) c.args.text.now (view_piece c.in_ok-piece.piece) c.split_at.result.0.now c.in_ok-piece.rest.now (sym c.in_ok-piece.ensures) c.split_at.ensures.front
