-- What the functions over books require of their arguments. Assumes nothing.
use Rattle.std.specs.Prelude.{◌≡◌, Bool, true, false, [], ◌∷◌, ℕ, ◌+◌, ◌*◌, ◌≤◌, length}
use Rattle.frames.specs.Cells.{Rows, Words}
use Rattle.frames.specs.Frame.{pairs_fine, frame_words}
use Rattle.order.specs.Order.{cmp_row, is_less}
use Rattle.order.specs.Requires.{RowsIn}
use Rattle.order.specs.declared.options.Options.{Options}

-- The next row is the festival's where it is less than the house's next, and where the house has none.
abbrev pub takes_festival : Options → Rows → Rows → Bool
takes_festival o house [] = false
takes_festival o [] (f ∷ festival) = true
takes_festival o (h ∷ house) (f ∷ festival) = is_less (cmp_row o f h)

-- n rows are there, and i is one of them or their end.
pub record NextRoom (o : Options) (w n i : ℕ) (vs ms : Words) : Type 0 where
  pub rows : RowsIn o w n vs ms
  pub within : i ≤ n

-- The words of a book: n rows, each mark fitting its value.
pub record Book (o : Options) (w n : ℕ) (vs ms : Words) : Type 0 where
  pub rows : RowsIn o w n vs ms
  pub paired : length vs ≤ length ms
  pub fine : pairs_fine vs ms ≡ true

-- Both books are there, and m cells, which are theirs, have room.
pub record CellsRoom (o : Options) (w nh : ℕ) (hv hm : Words) (nf : ℕ) (fv fm : Words) (m : ℕ) (out : Words) : Type 0 where
  pub house : Book o w nh hv hm
  pub festival : Book o w nf fv fm
  pub counted : m ≡ (nh + nf) * w
  pub room : 2 + 2 * m ≤ length out

-- Both books are there, of at most 4 by-columns, the key and 8 carried columns, and the output has room for the merged table.
pub record MergeRoom (o : Options) (w nh : ℕ) (hv hm : Words) (nf : ℕ) (fv fm out : Words) : Type 0 where
  pub house : Book o w nh hv hm
  pub festival : Book o w nf fv fm
  pub narrow : w ≤ 13
  pub room : frame_words (nh + nf) w ≤ length out
