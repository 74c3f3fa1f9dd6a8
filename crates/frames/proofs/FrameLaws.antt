-- What the frame rule says of a frame's words: its length, its values and marks, its rows. Assumes nothing.
use mathlib.Core.Path.{◌≡◌, ap, ◌∙◌}
use mathlib.Core.Bool.{true, ◌&&◌}
use mathlib.Core.List.{[], ◌++◌}
use Prim.Native.Nat.{ℕ, ◌+◌, ◌*◌, ◌≤◌, ◌<◌}
use native.Mathlib.Omega.{arith}
use borrow.Author.Tests.{leb-true, eqb-true}
use lib.Dec.{leb, eqb}
use lib.IntN.{pos, nat_abs}
use lib.Signed.{le_z}
use lib.ListN.{length, drop, get_or, length-drop, get_or-append}
use lib.Seq.{length-take-le}
use Rattle.frames.specs.Cells.{Words}
use Rattle.frames.specs.Frame.{same_z, row_count, frame_words, pairs_fine, values_in, marks_in, is_table, frame_limit, is_frame, frame_rows}
use Rattle.frames.proofs.BoolLaws.{and-true}
use Rattle.frames.proofs.WordLaws.{rows_length, rows_wide}

-- The parts of the table rule.
pub record Parts (c : ℕ) (f : Words) : Type 0 where
  pub long : 2 ≤ length f
  pub counted : le_z (pos 0) (get_or f 0 (pos 0)) ≡ true
  pub columns : same_z (get_or f 1 (pos 0)) (pos c) ≡ true
  pub exact : length f ≡ frame_words (row_count f) c
  pub fine : pairs_fine (values_in c f) (marks_in c f) ≡ true

pub table_parts : (c : ℕ) (f : Words) → is_table c f ≡ true → Parts c f
unfolding is_table
table_parts c f h =
    let a = leb 2 (length f) in
    let b = le_z (pos 0) (get_or f 0 (pos 0)) in
    let d = same_z (get_or f 1 (pos 0)) (pos c) in
    let e = eqb (length f) (frame_words (row_count f) c) in
    let p = and-true (a && b && d && e) (pairs_fine (values_in c f) (marks_in c f)) h in
    let q = and-true (a && b && d) e p.0 in
    let r = and-true (a && b) d q.0 in
    let s = and-true a b r.0 in
    record { long = leb-true 2 (length f) s.0; counted = s.1; columns = r.1; exact = eqb-true (length f) (frame_words (row_count f) c) q.1; fine = p.1 }

module _ (c : ℕ) (f : Words) (h : is_frame c f ≡ true) where
  pub frame_length : length f ≡ frame_words (row_count f) c
  unfolding is_frame
  frame_length = (table_parts c f (and-true (is_table c f) (le_z (get_or f 0 (pos 0)) (pos frame_limit)) h).0).exact

  pub values_length : length (values_in c f) ≡ row_count f * c
  values_length = length-take-le (row_count f * c) (drop 2 f) (rw (length-drop 2 f) (omega (arith, frame_length)))

  pub marks_length : length (marks_in c f) ≡ row_count f * c
  marks_length = length-drop (2 + row_count f * c) f ∙ omega (arith, frame_length)

  pub frame_rows_lem : length (frame_rows c f) ≡ row_count f
  unfolding frame_rows
  frame_rows_lem = rows_length c (row_count f) (values_in c f) (marks_in c f)

  pub frame_wide : (i : ℕ) → i < row_count f → length (get_or (frame_rows c f) i []) ≡ c
  unfolding frame_rows
  frame_wide i l = rows_wide c (row_count f) i (values_in c f) (marks_in c f) l (omega (arith, values_length)) (omega (arith, marks_length))

  -- More words behind a frame leave its row count.
  pub count_append : (g : Words) → row_count (f ++ g) ≡ row_count f
  count_append g = ap nat_abs (get_or-append f g (pos 0) 0 (omega (arith, frame_length)))
