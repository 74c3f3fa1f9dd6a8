-- A left run over a right run, where every row has a key and the keys do not fall: what the walk by each strategy is handed, and what it answers. Assumes nothing.
use Rattle.std.specs.Prelude.{◌≡◌, map, ℕ, ◌+◌, ◌-◌, ◌*◌, ◌^◌, ◌≤◌, ◌<◌, length}
use Rattle.frames.specs.Cells.{Words}
use Rattle.order.specs.Requires.{RowsIn}
use Rattle.order.specs.declared.options.Options.{Options}
use Rattle.matching.specs.Match.{match_in}
use Rattle.matching.specs.Moves.{Rising, key_at, walk_on}
use Rattle.matching.specs.Stretches.{between, lay}
use Rattle.matchrun.specs.advance.Below.{keyed}

-- Left rows from..to over right rows at..end, into an answer of m cells: the values of both are there, and those of the keys do not fall.
pub record KeysRoom (o : Options) (wl m : ℕ) (lv : Words) (from to wr : ℕ) (rv : Words) (at end number : ℕ) (out : Words) : Type 0 where
  pub few : o.by ≤ 4
  pub left_wide : o.by < wl
  pub left_values : to * wl ≤ length lv
  pub left_rising : Rising (keyed wl o.by lv) from to
  pub upward : from ≤ to
  pub within : to ≤ m
  pub right_wide : o.by < wr
  pub right_values : end * wr ≤ length rv
  pub right_rising : Rising (keyed wr o.by rv) at end
  pub run : at ≤ end
  pub numbers : number + end ≤ 2 ^ 63 - 1
  pub room : 2 + 2 * m ≤ length out

-- By their marks rows from..to each have a key.
pub record Marked (o : Options) (w from to : ℕ) (vs ms : Words) : Type 0 where
  pub rows : RowsIn o w to vs ms
  pub keys : (k : ℕ) → from ≤ k → k < to → key_at o w vs ms k ≡ keyed w o.by vs k

-- Whatever the marks are by which each row has a key: r moves were made, one for each row that a cursor passed, and the choices are those of the scan.
pub record Walked (o : Options) (wl m : ℕ) (lv : Words) (from to wr : ℕ) (rv : Words) (at end number : ℕ) (out : Words) (r : ℕ) (out' : Words) : Type 0 where
  pub counted : (lm rm : Words) → Marked o wl from to lv lm → Marked o wr at end rv rm
      → r ≡ length (walk_on o (between wl from to lv lm) (between wr at end rv rm))
  pub laid : (lm rm : Words) → Marked o wl from to lv lm → Marked o wr at end rv rm
      → out' ≡ lay m from (map (match_in o (number + at) (between wr at end rv rm)) (between wl from to lv lm)) out
