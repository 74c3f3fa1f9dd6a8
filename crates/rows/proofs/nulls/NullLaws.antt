-- Nulls among rows are zeros among their marks. Assumes nothing.
use Rattle.std.proofs.Common.{◌≡◌, ℕ, zero, suc, ◌*◌, ◌≤◌, Bool, true, false, ◌||◌, List, [], ◌∷◌, ◌++◌, length, take, drop, sym, refl, ap, ◌∙◌, arith, length-drop, take-append-drop, length-take-le}
use Rattle.frames.specs.Cells.{Cell, cell, is_null, is_zero, cell_of, cells_of, Words, rows_of}
use Rattle.order.specs.Order.{null_in}
use Rattle.order.proofs.RowLaws.{null_mark}
use Rattle.rows.specs.nulls.Nulls.{any_null, any_zero}

-- A null among the cells of a row, its first cell taken by itself.
null_first : (n : ℕ) (x : Cell) (r : List Cell) → null_in (suc n) (x ∷ r) ≡ (is_null x || null_in n r)
unfolding null_in
null_first zero x r = by (is_null x)
  where
    by : (b : Bool) → (false || b) ≡ (b || false)
    by true = refl
    by false = refl
null_first (suc n) x r = rw (null_first n x r) (by (is_null x) (null_in n r) (is_null (cell n r)))
  where
    by : (a b c : Bool) → ((a || b) || c) ≡ (a || (b || c))
    by true b c = refl
    by false b c = refl

row_zero : (w : ℕ) (vs ms : Words) → length vs ≡ w → length ms ≡ w → null_in w (cells_of vs ms) ≡ any_zero ms
unfolding null_in cells_of any_zero
row_zero zero [] [] h l = refl
row_zero zero (v ∷ vs) ms h l = absurd (omega arith)
row_zero zero [] (m ∷ ms) h l = absurd (omega arith)
row_zero (suc w) [] ms h l = absurd (omega arith)
row_zero (suc w) (v ∷ vs) [] h l = absurd (omega arith)
row_zero (suc w) (v ∷ vs) (m ∷ ms) h l = null_first w (cell_of v m) (cells_of vs ms) ∙ rw (null_mark v m, row_zero w vs ms (omega arith) (omega arith))

zero_append : (a b : Words) → any_zero (a ++ b) ≡ (any_zero a || any_zero b)
unfolding any_zero
zero_append [] b = refl
zero_append (m ∷ a) b = rw (zero_append a b) (by (is_zero m) (any_zero a) (any_zero b))
  where
    by : (x y z : Bool) → (x || (y || z)) ≡ ((x || y) || z)
    by true y z = refl
    by false y z = refl

-- Boundaries have a null where one of their marks says so.
pub rows_zero : (w n : ℕ) (vs ms : Words) → length vs ≡ n * w → length ms ≡ n * w → any_null w (rows_of w n vs ms) ≡ any_zero ms
unfolding any_null rows_of any_zero
rows_zero w zero vs [] h l = refl
rows_zero w zero vs (m ∷ ms) h l = absurd (omega arith)
rows_zero w (suc n) vs ms h l =
    let x : w ≤ length vs = omega arith in
    let y : w ≤ length ms = omega arith in
    rw (
      row_zero w (take w vs) (take w ms) (length-take-le w vs x) (length-take-le w ms y),
      rows_zero w n (drop w vs) (drop w ms) (length-drop w vs ∙ omega arith) (length-drop w ms ∙ omega arith),
    )
    (sym (zero_append (take w ms) (drop w ms)) ∙ ap any_zero (take-append-drop w ms))
