-- What the pieces of a text stand for.
use Rattle.std.specs.Prelude.{ℕ, List, [], ⊤}
use Rattle.std.specs.Str.Parse.{digits_value, AllDigits}
use Rattle.kb_version.specs.declared.piece.Piece.{Piece}
use Rattle.kb_version.specs.declared.piece.Piece.TheVariants as piece
use Rattle.kb_version.specs.Items.{Item, Tilde, End, Dash, Caret, Dot, Letters, Number, items}

abbrev pub item_of : Piece → Item
item_of piece.Tilde = Tilde
item_of piece.End = End
item_of piece.Dash = Dash
item_of piece.Caret = Caret
item_of piece.Dot = Dot
item_of (piece.Letters run) = Letters run.now
item_of (piece.Digits run) = Number (digits_value 10 run.now)

-- a piece of digits has digits alone
abbrev pub HasDigitsAlone : Piece → Type 0
HasDigitsAlone (piece.Digits run) = AllDigits 10 run.now
HasDigitsAlone other = ⊤

-- the items after an item, in the text behind it: none after the end
abbrev pub items_behind : Item → List ℕ → List Item
items_behind End rest = []
items_behind item rest = items rest
