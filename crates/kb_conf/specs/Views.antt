-- The reader's values, seen without where they lie in memory.
use Rattle.std.specs.Prelude.{ℕ, List, Option, option_map, Vec}
use Rattle.std.specs.declared.alloc.Global.{Global}
use Rattle.std.specs.Borrow.{Bor}
use Rattle.kb_conf.specs.Name.{Reference}
use Rattle.kb_conf.specs.Piece as grammar
use Rattle.kb_conf.specs.declared.name.Reference as code_reference
use Rattle.kb_conf.specs.declared.piece.Mode as code_mode
use Rattle.kb_conf.specs.declared.piece.Piece as code_piece
use Rattle.kb_conf.specs.declared.piece.Piece.TheVariants.{Bare, Escaped, Single, Quote, Plain, Braced, Command, Backquoted, Dollar}

abbrev pub rest_view : Option (Bor (List ℕ)) → Option (List ℕ)
rest_view o = option_map (λ (r : Bor (List ℕ)). r.now) o

abbrev pub split_view : Option (Bor (List ℕ) × Bor (List ℕ)) → Option (List ℕ × List ℕ)
split_view o = option_map (λ (p : Bor (List ℕ) × Bor (List ℕ)). (p.0.now, p.1.now)) o

abbrev pub number_view : Option (ℕ × Bor (List ℕ)) → Option (ℕ × List ℕ)
number_view o = option_map (λ (p : ℕ × Bor (List ℕ)). (p.0, p.1.now)) o

abbrev pub subscript_view : Option (Option ℕ × Bor (List ℕ)) → Option (Option ℕ × List ℕ)
subscript_view o = option_map (λ (p : Option ℕ × Bor (List ℕ)). (p.0, p.1.now)) o

abbrev pub view_reference : code_reference.Reference → Reference
view_reference r = record { name = r.name.now; number = r.number }

abbrev pub reference_view : Option (code_reference.Reference × Bor (List ℕ)) → Option (Reference × List ℕ)
reference_view o = option_map (λ (p : code_reference.Reference × Bor (List ℕ)). (view_reference p.0, p.1.now)) o

abbrev pub mode_view : code_mode.Mode → grammar.Mode
mode_view m = record { quoted = m.quoted; command = m.command }

abbrev pub view_piece : code_piece.Piece → grammar.Piece
view_piece (Bare b) = grammar.Bare b
view_piece (Escaped b) = grammar.Escaped b
view_piece (Single text) = grammar.Single text.now
view_piece Quote = grammar.Quote
view_piece (Plain name) = grammar.Plain name.now
view_piece (Braced r) = grammar.Braced (view_reference r)
view_piece (Command text) = grammar.Command text.now
view_piece (Backquoted text) = grammar.Backquoted text.now
view_piece Dollar = grammar.Dollar

abbrev pub pieces_view : Option (code_piece.Piece × Bor (List ℕ)) → Option (grammar.Piece × List ℕ)
pieces_view o = option_map (λ (p : code_piece.Piece × Bor (List ℕ)). (view_piece p.0, p.1.now)) o

abbrev pub value_view : Option (Vec ℕ Global × Bor (List ℕ)) → Option (List ℕ × List ℕ)
value_view o = option_map (λ (p : Vec ℕ Global × Bor (List ℕ)). (p.0.items, p.1.now)) o
