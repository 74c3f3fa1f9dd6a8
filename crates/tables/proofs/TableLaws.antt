-- A table's words from its rows: how many they are, that they are a table, and that its rows are read back. Every frame is a table. Assumes nothing.
use mathlib.Core.Path.{◌≡◌, refl, ◌∙◌}
use mathlib.Core.Bool.{Bool, true, false, ◌&&◌}
use mathlib.Core.List.{List, [], ◌∷◌, ◌++◌, map}
use Prim.Native.Nat.{ℕ, suc, ◌+◌, ◌*◌, ◌≤◌}
use native.Mathlib.Omega.{arith}
use borrow.Author.Tests.{le-leb, eq-eqb}
use lib.IntN.{ℤ, pos}
use lib.Signed.{le_z}
use lib.ListN.{length, take, drop, get_or, length-append, length-map}
use lib.Seq.{take_at, drop_at, take-length}
use Rattle.frames.specs.Cells.{Cell, null, value, value_word, mark_word, rows_of, Rows, Words}
use Rattle.frames.specs.Frame.{same_z, row_count, frame_words, pair_fine, pairs_fine, values_in, marks_in, frame_rows, is_table}
use Rattle.order.proofs.SortedLaws.{All}
use Rattle.frames.proofs.WordLaws.{cells_back, part_copied}
use Rattle.tables.specs.Table.{words_of, table_of, laid}

-- Each row has c cells.
abbrev pub Wide : ℕ → Rows → Type 0
Wide c rs = All (λ r. length r ≡ c) rs

pub words_length : (word : Cell → ℤ) (c : ℕ) (rs : Rows) → Wide c rs → length (words_of word rs) ≡ length rs * c
unfolding words_of
words_length word c [] h = omega arith
words_length word c (r ∷ rs) h =
    let a = length-append (map word r) (words_of word rs) in
    let b = length-map r word in
    let d = words_length word c rs h.1 in
    let e : length r ≡ c = h.0 in
    omega arith

pub rows_back : (c : ℕ) (rs : Rows) → Wide c rs → rows_of c (length rs) (words_of value_word rs) (words_of mark_word rs) ≡ rs
unfolding words_of rows_of
rows_back c [] h = refl
rows_back c (r ∷ rs) h =
    let v : length (map value_word r) ≡ c = length-map r value_word ∙ h.0 in
    let m : length (map mark_word r) ≡ c = length-map r mark_word ∙ h.0 in
    rw (
      take_at (map value_word r) (words_of value_word rs) c v,
      take_at (map mark_word r) (words_of mark_word rs) c m,
      drop_at (map value_word r) (words_of value_word rs) c v,
      drop_at (map mark_word r) (words_of mark_word rs) c m,
      cells_back r,
      rows_back c rs h.1,
    )

pair_fine_lem : (x : Cell) → pair_fine (value_word x) (mark_word x) ≡ true
pair_fine_lem null = refl
pair_fine_lem (value v) = refl

fine_row : (r : List Cell) (vs ms : Words) → pairs_fine vs ms ≡ true → pairs_fine (map value_word r ++ vs) (map mark_word r ++ ms) ≡ true
unfolding pairs_fine
fine_row [] vs ms e = e
fine_row (x ∷ r) vs ms e = rw (pair_fine_lem x) (fine_row r vs ms e)

fine_rows_lem : (rs : Rows) → pairs_fine (words_of value_word rs) (words_of mark_word rs) ≡ true
unfolding pairs_fine words_of
fine_rows_lem [] = refl
fine_rows_lem (r ∷ rs) = fine_row r (words_of value_word rs) (words_of mark_word rs) (fine_rows_lem rs)

all_three : (a b : Bool) → (a && b) ≡ true → (true && a && b && true && true) ≡ true
all_three true true e = refl
all_three true false e = e
all_three false b e = e

module _ (c : ℕ) (rs : Rows) (h : Wide c rs) where
  pub table_length : length (table_of c rs) ≡ frame_words (length rs) c
  unfolding table_of
  table_length =
      let a = length-append (words_of value_word rs) (words_of mark_word rs) in
      let b = words_length value_word c rs h in
      let d = words_length mark_word c rs h in
      omega arith

  pub table_count : row_count (table_of c rs) ≡ length rs
  unfolding table_of
  table_count = refl

  table_values_lem : values_in c (table_of c rs) ≡ words_of value_word rs
  unfolding table_of
  table_values_lem = take_at (words_of value_word rs) (words_of mark_word rs) (length rs * c) (words_length value_word c rs h)

  drop_two : (n : ℕ) (a b : ℤ) (ws : Words) → drop (2 + n) (a ∷ b ∷ ws) ≡ drop n ws
  drop_two n a b ws = let z : 2 + n ≡ suc (suc n) = omega arith in rw z

  table_marks : marks_in c (table_of c rs) ≡ words_of mark_word rs
  unfolding table_of
  table_marks =
      drop_two (length rs * c) (pos (length rs)) (pos c) (words_of value_word rs ++ words_of mark_word rs)
      ∙ drop_at (words_of value_word rs) (words_of mark_word rs) (length rs * c) (words_length value_word c rs h)

  -- What is written is read back.
  pub table_rows_lem : frame_rows c (table_of c rs) ≡ rs
  unfolding frame_rows
  table_rows_lem = rw (table_values_lem, table_marks, table_count) (rows_back c rs h)

  table_head : (le_z (pos 0) (get_or (table_of c rs) 0 (pos 0)) && same_z (get_or (table_of c rs) 1 (pos 0)) (pos c)) ≡ true
  unfolding table_of
  table_head = rw (eq-eqb c c refl, le-leb 0 (length rs) (omega arith))

  pub table_is : is_table c (table_of c rs) ≡ true
  unfolding is_table
  table_is =
      rw (
        table_values_lem,
        table_marks,
        fine_rows_lem rs,
        eq-eqb (length (table_of c rs)) (frame_words (row_count (table_of c rs)) c) (table_length ∙ rw table_count),
        le-leb 2 (length (table_of c rs)) (omega (arith, table_length)),
      )
      (all_three (le_z (pos 0) (get_or (table_of c rs) 0 (pos 0))) (same_z (get_or (table_of c rs) 1 (pos 0)) (pos c)) table_head)

  -- The words written, cut out of the output.
  pub laid_take : (out : Words) → frame_words (length rs) c ≤ length out → take (frame_words (length rs) c) (laid (table_of c rs) out) ≡ table_of c rs
  unfolding laid
  laid_take out l =
      rw (← table_length)
      (part_copied out 0 (table_of c rs) (length (table_of c rs)) (omega arith) (omega arith) ∙ take-length (table_of c rs))
