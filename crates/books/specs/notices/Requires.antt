-- A notice by the last row of its group and key; what the functions over notices ask of what they are handed. Assumes nothing.
use Rattle.std.specs.Prelude.{◌≡◌, true, cond, not, ◌&&◌, List, [], ◌∷◌, ℕ, ◌+◌, ◌*◌, ◌^◌, ◌≤◌, ◌<◌, eqb, pos, length}
use Rattle.frames.specs.Cells.{Cell, null, value, Rows, Words, rows_of}
use Rattle.order.specs.options.Options.{columns}
use Rattle.order.specs.declared.options.Options.{Options}
use Rattle.order.specs.Order.{sorted}
use Rattle.order.specs.Requires.{RowsIn}
use Rattle.books.specs.Standing.{nameless, withdrawn, corrects}

-- What is said of row i = r, if `last` is the last row of its group and key.
unfoldable pub notice_by : Options → ℕ → ℕ → ℕ → List Cell → List Cell
notice_by o q i last r =
    cond (nameless o r) (value (pos 0) ∷ null ∷ [])
    (cond (eqb last i && not (withdrawn o q r)) (value (pos 1) ∷ null ∷ [])
    (value (pos 0) ∷ value (pos last) ∷ []))

-- The last row of the group and key of row i = r, by the rows behind it: on a sorted table the next row decides. `last` is the last row of the next row's.
abbrev pub last_by : Options → List Cell → ℕ → ℕ → Rows → ℕ
last_by o r i last [] = i
last_by o r i last (s ∷ rs) = cond (corrects o s r) last i

-- Row i is there, with a carried column of that place, and its two cells have room.
pub record NoticeRoom (o : Options) (w i column last m : ℕ) (vs ms out : Words) : Type 0 where
  pub few : o.by ≤ 4
  pub wide : columns o + column < w
  pub values : i * w + w ≤ length vs
  pub marks : i * w + w ≤ length ms
  pub number : last < 2 ^ 63
  pub there : 2 * i + 1 < m
  pub room : 2 + 2 * m ≤ length out

-- n sorted rows are there, with a carried column of that place, and all cells have room.
pub record ListRoom (o : Options) (w n column m : ℕ) (vs ms out : Words) : Type 0 where
  pub rows : RowsIn o w n vs ms
  pub wide : columns o + column < w
  pub in_order : sorted o (rows_of w n vs ms) ≡ true
  pub counted : m ≡ 2 * n
  pub room : 2 + 2 * m ≤ length out
