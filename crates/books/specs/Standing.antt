-- Which notice stands. Assumes nothing.
use Rattle.std.specs.Prelude.{◌≡◌, Bool, true, false, cond, not, ◌&&◌, ◌||◌, List, [], ◌∷◌, ◌⊎◌, ℕ, suc, ◌+◌, ◌<◌, eqb, pos, length, drop, get_or, Option, Some, None}
use Rattle.frames.specs.Cells.{Cell, null, value, cell, Rows}
use Rattle.frames.specs.Frame.{same_z}
use Rattle.order.specs.options.Options.{strategy_of}
use Rattle.order.specs.Order.{cmp_row, is_equal, null_key, null_group}
use Rattle.order.specs.declared.options.Options.{Options}
use Rattle.order.specs.declared.options.Strategy.TheVariants.{Backward, Nearest}
use Rattle.matching.specs.Match.{whole_table}

-- A cell says 1.
abbrev pub is_one : Cell → Bool
is_one null = false
is_one (value v) = same_z v (pos 1)

-- SCOPE 19.12: a notice is withdrawn where carried column q, counted from 0 behind the key, is 1.
abbrev pub withdrawn : Options → ℕ → List Cell → Bool
withdrawn o q r = is_one (cell (suc o.by + q) r)

-- SCOPE 19.12: one notice corrects another if it comes later and has the same group and key.
abbrev pub corrects : Options → List Cell → List Cell → Bool
corrects o s r = is_equal (cmp_row o s r)

-- Some row behind r corrects it: r is not the last with its group and key.
unfoldable pub corrected : Options → List Cell → Rows → Bool
corrected o r [] = false
corrected o r (s ∷ rs) = corrects o s r || corrected o r rs

-- The number of the last row of r's group and key, where the rows behind are numbered from i and n is the last so far.
unfoldable pub last_of : Options → List Cell → ℕ → ℕ → Rows → ℕ
last_of o r n i [] = n
last_of o r n i (s ∷ rs) = last_of o r (cond (corrects o s r) i n) (suc i) rs

-- Null keys and null groups never stand.
abbrev pub nameless : Options → List Cell → Bool
nameless o r = null_key o r || null_group o r

-- SCOPE 19.13: a row stands if no later one corrects it and it does not withdraw. The rows behind r are rs.
unfoldable pub stands : Options → ℕ → List Cell → Rows → Bool
stands o q r rs = not (nameless o r) && not (corrected o r rs) && not (withdrawn o q r)

-- SCOPE 19.14: the output's row for row i. A row that stands: 1 and null. A row that does not: 0 and the number of the last row with its group and key, its own if it is that row
-- and withdraws; 0 and null if its key or group is null.
unfoldable pub notice_of : Options → ℕ → ℕ → List Cell → Rows → List Cell
notice_of o q i r rs =
    cond (stands o q r rs) (value (pos 1) ∷ null ∷ [])
    (cond (nameless o r) (value (pos 0) ∷ null ∷ [])
    (value (pos 0) ∷ value (pos (last_of o r i (suc i) rs)) ∷ []))

-- The output has a row for each right row; the first is numbered i.
unfoldable pub notices : Options → ℕ → ℕ → Rows → Rows
notices o q i [] = []
notices o q i (r ∷ rs) = notice_of o q i r rs ∷ notices o q (suc i) rs

-- SCOPE 19.15: the rows that stand, as a table.
unfoldable pub standing : Options → ℕ → Rows → Rows
standing o q [] = []
standing o q (r ∷ rs) = cond (stands o q r rs) (r ∷ standing o q rs) (standing o q rs)

-- Their numbers in the whole table.
unfoldable pub places : Options → ℕ → ℕ → Rows → List ℕ
places o q i [] = []
places o q i (r ∷ rs) = cond (stands o q r rs) (i ∷ places o q (suc i) rs) (places o q (suc i) rs)

-- No row is withdrawn.
unfoldable pub none_withdrawn : Options → ℕ → Rows → Bool
none_withdrawn o q [] = true
none_withdrawn o q (r ∷ rs) = not (withdrawn o q r) && none_withdrawn o q rs

-- A row number of the standing table, translated to the whole.
abbrev pub translated : List ℕ → Option ℕ → Option ℕ
translated ns (Some k) = Some (get_or ns k 0)
translated ns None = None

-- SCOPE 19.15, the statement: if nothing is withdrawn, a left row has the same notice over the standing table as over all rows, by Backward and by Nearest; the numbers differ by the rows left out before it.
abbrev pub SamePicks : Type 0
SamePicks =
    (o : Options) (q : ℕ) (rows : Rows) → (strategy_of o ≡ Backward) ⊎ (strategy_of o ≡ Nearest) → none_withdrawn o q rows ≡ true
    → (x : List Cell) → whole_table o rows x ≡ translated (places o q 0 rows) (whole_table o (standing o q rows) x)

-- Row n is the last row of row i's group and key.
pub record LastIs (o : Options) (rows : Rows) (i n : ℕ) : Type 0 where
  pub there : n < length rows
  pub alike : corrects o (get_or rows n []) (get_or rows i []) ≡ true
  pub last : (k : ℕ) → n < k → k < length rows → corrects o (get_or rows k []) (get_or rows i []) ≡ false

-- The number that row i names, or would name.
abbrev pub named_by : Options → Rows → ℕ → ℕ
named_by o rows i = last_of o (get_or rows i []) i (suc i) (drop (suc i) rows)

-- The statement: no later row has its group and key, and it is row i itself exactly if no later row corrects row i.
pub record NamesLast (o : Options) (rows : Rows) (i : ℕ) : Type 0 where
  pub named : LastIs o rows i (named_by o rows i)
  pub itself : corrected o (get_or rows i []) (drop (suc i) rows) ≡ not (eqb (named_by o rows i) i)
