-- Values that a list lacks, row by row: what a walk over the rows has left to do, and the parts of a table that it is handed. Assumes nothing.
use mathlib.Core.Path.{◌≡◌, refl, sym}
use mathlib.Core.Bool.{true, false}
use mathlib.Core.List.{[]}
use mathlib.Core.Logic.{◌⊎◌, inl, inr}
use Prim.Native.Nat.{ℕ, ◌+◌, ◌-◌, ◌*◌, ◌≤◌, ◌<◌}
use native.Mathlib.Numerals.{add-one}
use native.Mathlib.Omega.{arith}
use lib.IntN.{pos}
use lib.ListN.{length, take, drop, get_or, drop_of_length-le, length-take, length-drop}
use lib.Seq.{drop-cons}
use Rattle.frames.specs.Cells.{is_zero, cell, rows_of, Rows, Words}
use Rattle.frames.specs.Frame.{row_count, is_table, frame_rows}
use Rattle.frames.proofs.FrameLaws.{table_parts}
use Rattle.frames.proofs.WordLaws.{rows_length}
use Rattle.frames.proofs.FrontLaws.{values_part, marks_part}
use Rattle.order.specs.ranks.Ranks.{codes_of, code_at, listed}
use Rattle.order.proofs.ranks.RankLaws.{tell, none_listed, Good, good_ranks}
use Rattle.order.proofs.ranks.KeptLaws.{Kept, kept}
use Rattle.order.specs.options.Options.{Few}
use Rattle.order.specs.declared.options.Options.{Options}
use Rattle.order.specs.Listed.{lacks, unlisted_in, lacks_code}
use Rattle.order.specs.Requires.{cell_at}
use Rattle.order.proofs.RowLaws.{row_cell, rows_from, row_room}
use Rattle.searching.specs.Requires.{ColumnIn}

-- A list has its first code.
pub first_listed : (cs : Words) → 0 < length cs → listed cs (code_at cs 0) ≡ true
first_listed cs h = by (tell (listed cs (code_at cs 0)))
  where
    by : (listed cs (code_at cs 0) ≡ true) ⊎ (listed cs (code_at cs 0) ≡ false) → listed cs (code_at cs 0) ≡ true
    by (inl e) = e
    by (inr e) = absurd (none_listed cs (code_at cs 0) e 0 h refl)

-- ---- rows that are left, from row i on
module _ (cs : Words) (j : ℕ) (rs : Rows) (i : ℕ) where
  -- A first row that lacks a code is enough.
  row_found : i < length rs → lacks cs (cell j (get_or rs i [])) ≡ true → unlisted_in cs j (drop i rs) ≡ true
  unfolding unlisted_in
  row_found h e = rw (drop-cons rs i [] h, e)

  -- One that lacks none is passed.
  row_passed : i < length rs → lacks cs (cell j (get_or rs i [])) ≡ false → unlisted_in cs j (drop i rs) ≡ unlisted_in cs j (drop (i + 1) rs)
  unfolding unlisted_in
  row_passed h e = rw (drop-cons rs i [] h, e, add-one i)

  -- No row is left.
  rows_done : length rs ≤ i → unlisted_in cs j (drop i rs) ≡ false
  unfolding unlisted_in
  rows_done h = rw (drop_of_length-le rs h)

-- ---- the same by the words of n rows, each w wide
module _ (cs : Words) (j w n : ℕ) (vs ms : Words) (x : ColumnIn j w n vs ms) where
  abbrev rows : Rows
  rows = rows_of w n vs ms

  -- Row i, whose cell in column j stands at place k.
  module _ (i k : ℕ) (h : i < n) (at : k ≡ i * w + j) where
    pub value_there : k < length vs
    value_there = omega (arith, row_room i n w h, x.wide, x.values)

    pub mark_there : k < length ms
    mark_there = omega (arith, row_room i n w h, x.wide, x.marks)

    in_rows : i < length rows
    in_rows = omega (arith, rows_length w n vs ms)

    told : cell j (get_or rows i []) ≡ cell_at k vs ms
    told = rw (rows_from w n i vs ms h, at) (row_cell w (i * w) j vs ms x.wide (rw at at value_there))

    -- A null is no value: the row is passed.
    pub null_passed : is_zero (get_or ms k (pos 0)) ≡ true → unlisted_in cs j (drop i rows) ≡ unlisted_in cs j (drop (i + 1) rows)
    null_passed e = row_passed cs j rows i in_rows (rw (told, e))

    -- A value that the list has is passed.
    pub value_passed : is_zero (get_or ms k (pos 0)) ≡ false → listed cs (get_or vs k (pos 0)) ≡ true → unlisted_in cs j (drop i rows) ≡ unlisted_in cs j (drop (i + 1) rows)
    value_passed e l = row_passed cs j rows i in_rows (rw (told, e, l))

    -- One that it lacks is found.
    pub value_found : is_zero (get_or ms k (pos 0)) ≡ false → listed cs (get_or vs k (pos 0)) ≡ false → unlisted_in cs j (drop i rows) ≡ true
    value_found e l = row_found cs j rows i in_rows (rw (told, e, l))

  pub all_passed : (i : ℕ) → n ≤ i → unlisted_in cs j (drop i rows) ≡ false
  all_passed i h = rows_done cs j rows i (omega (arith, rows_length w n vs ms))

-- ---- the parts of a table
-- A table's words, by its rows.
pub parts_fit : (c : ℕ) (f : Words) → is_table c f ≡ true → (n : ℕ) → n ≡ row_count f → 2 + 2 * (n * c) ≡ length f
parts_fit c f table n count = rw count (sym (table_parts c f table).exact)

-- A list that is given is a good one.
pub list_good : (o : Options) → Few o → o.ranks.given ≡ true → Good o.by o.ranks
list_good o few given = good_ranks o.by o.ranks given few.list

pub list_kept : (o : Options) → Few o → o.ranks.given ≡ true → Kept o.ranks
list_kept o few given = kept o.by o.ranks given few.list (few.there given).0 (few.there given).1

module _ (o : Options) (c : ℕ) (f : Words) where
  -- Without a list nothing is lacked.
  pub unranked_lacks : o.ranks.given ≡ false → lacks_code o (frame_rows c f) ≡ false
  unranked_lacks e = rw e

  -- Of values and marks as they are lent: they have the ranked column, since it is a by-column.
  pub column_there : o.by ≤ c → is_table c f ≡ true → Good o.by o.ranks → (n e : ℕ) → n ≡ row_count f → e ≡ 2 + n * c
      → ColumnIn o.ranks.column c n (take (e - 2) (drop 2 f)) (take (length f - e) (drop e f))
  column_there wide table good n e count at =
      let l = parts_fit c f table n count in
      record {
        wide = omega (arith, good.column);
        values = rw (length-take (e - 2) (drop 2 f), length-drop 2 f) (omega arith);
        marks = rw (length-take (length f - e) (drop e f), length-drop e f) (omega arith);
      }

  -- The table's rows are theirs.
  pub ranked_lacks : o.ranks.given ≡ true → (n e : ℕ) → n ≡ row_count f → e ≡ 2 + n * c
      → lacks_code o (frame_rows c f) ≡ unlisted_in (codes_of o.ranks) o.ranks.column (rows_of c n (take (e - 2) (drop 2 f)) (take (length f - e) (drop e f)))
  unfolding frame_rows
  ranked_lacks given n e count at = rw (given, values_part c f e (rw count at at), marks_part c f e (rw count at at), count)
