-- Where a frame's cells stand among its words, and what a reader is told of them. Assumes nothing.
use Rattle.std.proofs.Common.{◌≡◌, ℕ, ◌+◌, ◌*◌, ◌<◌, ◌≤◌, true, false, ltb, [], length, get_or, drop, ℤ, pos, sym, refl, ◌∙◌, arith, get_or-drop, get_or-take, le-ltb, lt-ltb}
use Rattle.frames.specs.Cells.{Words, cell_of, row_from}
use Rattle.frames.specs.Frame.{is_frame, row_count, frame_words, values_in, marks_in, frame_rows}
use Rattle.frames.proofs.FrameLaws.{frame_length, frame_rows_lem, frame_wide, values_length}
use Rattle.order.proofs.RowLaws.{row_room, rows_from, row_cell}
use Rattle.rows.specs.view.View.{Inside, value_at, mark_at, told, found_in, found_at}
use Rattle.rows.specs.declared.view.Found.TheVariants.{Nothing}

module _ (f : Words) (rows c row column : ℕ) (h : Inside f rows c row column) where
  -- The frame's length by the view's rows.
  pub whole_length : length f ≡ frame_words rows c
  whole_length = rw h.viewed.counted (frame_length c f h.viewed.framed)

  -- The cell is one of so many.
  pub cell_room : row * c + column < rows * c
  cell_room = omega (arith, row_room row rows c h.among_rows, h.among_columns)

  -- A view's counts are the frame's.
  pub by_count : Inside f (row_count f) c row column
  by_count =
      let e : rows ≡ row_count f = h.viewed.counted in
      record { viewed = record { framed = h.viewed.framed; counted = refl }; among_rows = omega (arith, h.among_rows); among_columns = h.among_columns }

  -- Its value stands behind the first two words.
  pub value_place : get_or f (2 + (row * c + column)) (pos 0) ≡ value_at c f row column
  unfolding value_at
  value_place =
      let e : rows ≡ row_count f = h.viewed.counted in
      let l : row * c + column < row_count f * c = rw (← e) cell_room in
      sym (get_or-take (row_count f * c) (drop 2 f) (row * c + column) (pos 0) l ∙ get_or-drop 2 f (row * c + column) (pos 0))

  -- Its mark stands behind all values.
  pub mark_place : get_or f (2 + rows * c + (row * c + column)) (pos 0) ≡ mark_at c f row column
  unfolding mark_at
  mark_place = let e : rows ≡ row_count f = h.viewed.counted in rw e (sym (get_or-drop (2 + row_count f * c) f (row * c + column) (pos 0)))

  -- The cell that the two words tell is the one of the frame's rows.
  pub cell_found : told (cell_of (value_at c f row column) (mark_at c f row column)) ≡ found_at c f row column
  unfolding found_at found_in frame_rows value_at mark_at
  cell_found =
      let framed = h.viewed.framed in
      let e : rows ≡ row_count f = h.viewed.counted in
      let l : row * c + column < length (values_in c f) = rw (values_length c f framed, ← e) cell_room in
      let k : row < row_count f = omega (arith, h.among_rows) in
      let r : get_or (frame_rows c f) row [] ≡ row_from c (row * c) (values_in c f) (marks_in c f) = rows_from c (row_count f) row (values_in c f) (marks_in c f) k in
      let a : ltb row (length (frame_rows c f)) ≡ true = rw (frame_rows_lem c f framed) (lt-ltb row (row_count f) k) in
      let b : ltb column (length (get_or (frame_rows c f) row [])) ≡ true = rw (frame_wide c f framed row k) (lt-ltb column c h.among_columns) in
      rw (framed, a, b, r, row_cell c (row * c) column (values_in c f) (marks_in c f) h.among_columns l)

-- ---- a view of the frame f, as `view` makes it: of words g, which are f's, with their rows and columns
module _ (f g : Words) (rows c w row column : ℕ) (same : g ≡ f) (counted : rows ≡ row_count f) (wide : w ≡ c) (h : Inside f (row_count f) c row column) where
  -- What `value` and `mark` ask of it.
  pub view_inside : Inside g rows w row column
  view_inside = rw (same, counted, wide) h

  -- What the two words that they answer tell.
  pub view_found : (x y : ℤ) → x ≡ value_at w g row column → y ≡ mark_at w g row column → told (cell_of x y) ≡ found_at c f row column
  view_found x y p q = rw (p, q, same, wide) (cell_found f (row_count f) c row column h)

-- ---- no such cell: the words are no frame, the row is below the last, the column beside the last
module _ (c : ℕ) (f : Words) (row column : ℕ) where
  pub found_none : is_frame c f ≡ false → found_at c f row column ≡ Nothing
  unfolding found_at
  found_none e = rw e

  pub found_below : is_frame c f ≡ true → row_count f ≤ row → found_at c f row column ≡ Nothing
  unfolding found_at found_in
  found_below e h = let a : ltb row (length (frame_rows c f)) ≡ false = rw (frame_rows_lem c f e) (le-ltb row (row_count f) h) in rw (e, a)

  pub found_beside : is_frame c f ≡ true → row < row_count f → c ≤ column → found_at c f row column ≡ Nothing
  unfolding found_at found_in
  found_beside e l h =
      let a : ltb row (length (frame_rows c f)) ≡ true = rw (frame_rows_lem c f e) (lt-ltb row (row_count f) l) in
      let b : ltb column (length (get_or (frame_rows c f) row [])) ≡ false = rw (frame_wide c f e row l) (le-ltb column c h) in
      rw (e, a, b)
