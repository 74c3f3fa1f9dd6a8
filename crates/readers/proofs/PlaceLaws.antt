-- Where the words of a place stand, and that a view reads as the reader does. Assumes nothing.
use Rattle.frames.specs.declared.refusals.Refusal.{Refusal}
use Rattle.std.specs.Prelude.{Result, Ok}
use mathlib.Core.Path.{◌≡◌, refl, sym, ap, ◌∙◌}
use mathlib.Core.Bool.{Bool, true, false}
use mathlib.Core.List.{List, [], ◌∷◌}
use Prim.Native.Nat.{ℕ, zero, suc, ◌+◌, ◌*◌, ◌≤◌, ◌<◌}
use native.Mathlib.Omega.{arith}
use borrow.Author.Tests.{lt-ltb, le-ltb, le-leb, ltb-true, ltb-false}
use lib.Dec.{ltb, leb}
use lib.IntN.{ℤ, pos}
use lib.ListN.{length, drop, get_or}
use lib.Seq.{get_or-take, get_or-drop}
use Rattle.frames.specs.Cells.{Cell, null, cell, mark_word, Words}
use Rattle.frames.specs.Frame.{row_count, frame_words, values_in, marks_in, is_frame, frame_rows}
use Rattle.frames.proofs.FrameLaws.{frame_length, values_length, marks_length, frame_rows_lem, frame_wide}
use Rattle.frames.proofs.FrontLaws.{frame_parts}
use Rattle.order.specs.Requires.{cell_at}
use Rattle.order.proofs.RowLaws.{row_cell, rows_from, row_room}
use Rattle.tables.proofs.CellLaws.{fine_at}
use Rattle.readers.specs.declared.View.{View}
use Rattle.readers.specs.declared.CellWords.{CellWords}
use Rattle.readers.specs.Reader.{words_shown}
use Rattle.readers.specs.Reader.{cell_in, shown, read_in, read_by}
use Rattle.readers.specs.Places.{Place, place_words, null_words, shown_at}
use Rattle.readers.specs.Laws.{pair_of, ViewsRead}
use Rattle.readers.proofs.ViewLaws.{view_told}

-- ---- by counts and words alone
module _ (rows columns : ℕ) (f : Words) (row column : ℕ) where
  -- The place is one of so many, and both its words are there.
  pub place_room : Place rows columns f row column → row * columns + column < rows * columns
  place_room h = omega (arith, row_room row rows columns h.among_rows, h.among_columns)

  pub shown_below : rows ≤ row → shown_at rows columns f row column ≡ null_words
  unfolding shown_at
  shown_below h = rw (le-ltb row rows h)

  pub shown_beside : row < rows → columns ≤ column → shown_at rows columns f row column ≡ null_words
  unfolding shown_at
  shown_beside l h = rw (lt-ltb row rows l, le-ltb column columns h)

  pub shown_short : row < rows → column < columns → leb (frame_words rows columns) (length f) ≡ false → shown_at rows columns f row column ≡ null_words
  unfolding shown_at
  shown_short l k h = rw (lt-ltb row rows l, lt-ltb column columns k, h)

  pub shown_inside : Place rows columns f row column → shown_at rows columns f row column ≡ place_words rows columns f row column
  unfolding shown_at
  shown_inside h = rw (lt-ltb row rows h.among_rows, lt-ltb column columns h.among_columns, le-leb (frame_words rows columns) (length f) h.long)

-- ---- in a frame
past : {A : Type 0} (xs : List A) (n : ℕ) (d : A) → length xs ≤ n → get_or xs n d ≡ d
past [] n d h = refl
past (x ∷ xs) zero d h = absurd (omega arith)
past (x ∷ xs) (suc n) d h = past xs n d (omega arith)

module _ (c : ℕ) (f : Words) (h : is_frame c f ≡ true) (row column : ℕ) where
  inside : row < row_count f → column < c → Place (row_count f) c f row column
  inside l k = record { among_rows = l; among_columns = k; long = omega (arith, frame_length c f h) }

  -- The two words of a place are those of its cell.
  cell_words : row < row_count f → column < c → shown (cell_in (frame_rows c f) row column) ≡ pair_of (place_words (row_count f) c f row column)
  unfolding frame_rows
  cell_words l k =
      let vs : Words = values_in c f in
      let ms : Words = marks_in c f in
      let q = place_room (row_count f) c f row column (inside l k) in
      let lv = values_length c f h in
      let lm = marks_length c f h in
      let e : cell_in (frame_rows c f) row column ≡ cell_at (row * c + column) vs ms = ap (cell column) (rows_from c (row_count f) row vs ms l) ∙ row_cell c (row * c) column vs ms k (omega arith) in
      let g = fine_at vs ms (row * c + column) (omega arith) (omega arith) (frame_parts c f h).fine in
      let v : get_or vs (row * c + column) (pos 0) ≡ get_or f (2 + (row * c + column)) (pos 0) = get_or-take (row_count f * c) (drop 2 f) (row * c + column) (pos 0) q ∙ get_or-drop 2 f (row * c + column) (pos 0) in
      let m : get_or ms (row * c + column) (pos 0) ≡ get_or f (2 + row_count f * c + (row * c + column)) (pos 0) = get_or-drop (2 + row_count f * c) f (row * c + column) (pos 0) in
      ap shown e ∙ ap (λ (x : ℤ). Ok (words_shown x (mark_word (cell_at (row * c + column) vs ms)))) (g.0 ∙ v) ∙ ap (λ (x : ℤ). Ok (words_shown (get_or f (2 + (row * c + column)) (pos 0)) x)) (g.1 ∙ m)

  -- Each place of a frame, inside and outside, by its counts.
  pub frame_shown : shown (cell_in (frame_rows c f) row column) ≡ pair_of (shown_at (row_count f) c f row column)
  frame_shown = by (ltb row (row_count f)) (ltb column c) refl refl
    where
      by : (a b : Bool) → ltb row (row_count f) ≡ a → ltb column c ≡ b → shown (cell_in (frame_rows c f) row column) ≡ pair_of (shown_at (row_count f) c f row column)
      by true true d e =
          let l = ltb-true row (row_count f) d in
          let k = ltb-true column c e in
          cell_words l k ∙ sym (ap pair_of (shown_inside (row_count f) c f row column (inside l k)))
      by true false d e =
          let l = ltb-true row (row_count f) d in
          let k = ltb-false column c e in
          ap shown (past (get_or (frame_rows c f) row []) column null (omega (arith, frame_wide c f h row l))) ∙ sym (ap pair_of (shown_beside (row_count f) c f row column l k))
      by false b d e =
          let l = ltb-false row (row_count f) d in
          ap (λ (r : List Cell). shown (cell column r)) (past (frame_rows c f) row [] (omega (arith, frame_rows_lem c f h))) ∙ sym (ap pair_of (shown_below (row_count f) c f row column l))

-- ---- a view reads as the reader does
pub views_read : ViewsRead
unfolding read_by
views_read knows p f = record {
  reads = λ n c e row column.
      let t = view_told knows p f n c e in
      ap (λ (v : Result View Refusal). read_in v f row column) e ∙ rw t.1 (frame_shown c f t.0 row column);
  refuses = λ r e row column. ap (λ (v : Result View Refusal). read_in v f row column) e;
}
