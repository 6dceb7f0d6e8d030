-- The text of the status. After `dkms status` of the tool dkms; the order is this project's own.
use Rattle.std.specs.Prelude.{◌≡◌, ℕ, cond, List, [], ◌∷◌, flat_map}
use Rattle.std.specs.List.Sorted.{IsPermutation, IsSorted, IsStable}
use Rattle.std.specs.Ordering.{is_lt}
use Rattle.kb_world.specs.declared.job.Filter.{Filter}
use Rattle.kb_store.specs.declared.store.Store.{Store}
use Rattle.kb_status.specs.Line.{full_line}
use Rattle.kb_status.specs.Lines.{status_lines}
use Rattle.kb_status.specs.Order.{line_order}
use Rattle.kb_status.specs.declared.line.Line.{Line}

-- The text is that of these lines of the store, sorted. Lines that the order calls equal keep their order, so that
-- there is one such list.
pub record IsStatus (store : Store) (filter : Filter) (text : List ℕ) : Type 0 where
  pub lines : List Line
  pub each_once : IsPermutation (status_lines store filter) lines
  pub sorted : IsSorted line_order lines
  pub stable : IsStable line_order (status_lines store filter) lines
  pub is : text ≡ flat_map full_line lines

-- ---- as a function

-- the line in front of the first of these that doesn't come before it
abbrev pub placed_line : Line → List Line → List Line
placed_line line [] = line ∷ []
placed_line line (next ∷ rest) = cond (is_lt (line_order next line)) (next ∷ placed_line line rest) (line ∷ next ∷ rest)

-- sorted; lines that the order calls equal keep their order
abbrev pub sorted_lines : List Line → List Line
sorted_lines [] = []
sorted_lines (line ∷ rest) = placed_line line (sorted_lines rest)

-- the text of the one status that the store has by the filter
abbrev pub text_of_status : Store → Filter → List ℕ
text_of_status store filter = flat_map full_line (sorted_lines (status_lines store filter))
