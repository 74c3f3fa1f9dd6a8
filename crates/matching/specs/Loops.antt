-- What the inner functions of matching require of their arguments, and what they return: small records. Assumes nothing.
use Rattle.std.specs.Prelude.{◌≡◌, Bool, false, cond, List, ◌∷◌, ◌++◌, map, ℕ, ◌+◌, ◌-◌, ◌*◌, ◌^◌, ◌≤◌, ◌<◌, ℤ, length, Option, Some, None}
use Rattle.frames.specs.Cells.{Cell, value, Rows, Words, row_from}
use Rattle.order.specs.options.Options.{strategy_of}
use Rattle.order.specs.Order.{key_of, null_key}
use Rattle.order.specs.Requires.{RowAt, RowsIn}
use Rattle.order.specs.declared.options.Options.{Options}
use Rattle.order.specs.declared.options.Strategy.{Strategy}
use Rattle.matching.specs.Match.{fits, takes_over, meet, match_in}
use Rattle.matching.specs.Groups.{runs, pass, used, head_of, by_runs}
use Rattle.matching.specs.Stretches.{between, run_length, hit_at}
use Rattle.matching.specs.declared.RunCursor.{RunCursor}

-- A number that an answer has room for: at most 2^63 − 1.
abbrev pub Small : Option ℕ → Type 0
Small (Some i) = i < 2 ^ 63
Small None = Unit {0}

-- n rows are there, and i is one of them or their end.
pub record Within (o : Options) (w n : ℕ) (vs ms : Words) (i : ℕ) : Type 0 where
  pub rows : RowsIn o w n vs ms
  pub within : i ≤ n

-- The run at..end starts at row `at` of n rows; behind the last row it is empty.
pub record RunAt (o : Options) (w n : ℕ) (vs ms : Words) (at end : ℕ) : Type 0 where
  pub rows : RowsIn o w n vs ms
  pub within : at ≤ n
  pub run : end ≡ at + run_length o (between w at n vs ms)

-- The best so far is a row with a key below `to`, or `to`.
pub record BestIn (o : Options) (w to : ℕ) (vs ms : Words) (best : ℕ) : Type 0 where
  pub within : best ≤ to
  pub keyed : best < to → null_key o (row_from w (best * w) vs ms) ≡ false

-- Whether a row with the key a takes the place of one with the key b before it, for a left row with the key v: the answer r.
abbrev pub TakesOver : Strategy → ℤ → ℤ → ℤ → Bool → Type 0
TakesOver s v a b r = (o : Options) (x y z : List Cell) → key_of o x ≡ value v → key_of o y ≡ value a → key_of o z ≡ value b → r ≡ takes_over o s x y z

-- Row j is to be met by the best so far.
pub record Meets (o : Options) (s : Strategy) (w to : ℕ) (vs ms : Words) (best j : ℕ) : Type 0 where
  pub rows : RowsIn o w to vs ms
  pub there : j < to
  pub told : s ≡ strategy_of o
  pub kept : BestIn o w to vs ms best

-- The best after row j was met, for every left row with the key v.
pub record Met (o : Options) (w to : ℕ) (vs ms : Words) (best j : ℕ) (v : ℤ) (r : ℕ) : Type 0 where
  pub kept : BestIn o w to vs ms r
  pub met : (first : ℕ) (x : List Cell) → key_of o x ≡ value v
      → hit_at first w to vs ms r ≡ cond (fits o x (row_from w (j * w) vs ms)) (meet o x (first + j) (row_from w (j * w) vs ms) (hit_at first w to vs ms best)) (hit_at first w to vs ms best)

-- Place i of an answer of m cells is there.
pub record PutRoom (m i : ℕ) (out : Words) : Type 0 where
  pub there : i < m
  pub room : 2 + 2 * m ≤ length out

-- The right cursor has passed what is before x: it stands at the run r.at..r.end, of which x uses r.at..r.used.
pub record Passed (o : Options) (w n : ℕ) (vs ms : Words) (i : ℕ) (x : List Cell) (r : RunCursor) : Type 0 where
  pub cursor : (first : ℕ) → pass o x (first + i) (runs o (between w i n vs ms)) ≡ record { at = first + r.at; rest = runs o (between w r.at n vs ms) }
  pub uses : used o x (runs o (between w r.at n vs ms)) ≡ between w r.at r.used vs ms

-- The left row at p, and the right run at..end that the cursor stands at.
pub record PassRoom (o : Options) (p : ℕ) (lv lm : Words) (w n : ℕ) (rv rm : Words) (at end : ℕ) : Type 0 where
  pub left : RowAt o p lv lm
  pub right : RunAt o w n rv rm at end

-- Where the cursor stands then: at a run, of which the part that is used has its bounds.
pub record Stands (o : Options) (w n : ℕ) (vs ms : Words) (r : RunCursor) : Type 0 where
  pub run : RunAt o w n vs ms r.at r.end
  pub upward : r.at ≤ r.used
  pub within : r.used ≤ n

-- A left run with the first row x is matched over rows r.at..r.used, and the cursor goes on from there.
pub record Serves (o : Options) (w n : ℕ) (vs ms : Words) (i : ℕ) (x : List Cell) (r : RunCursor) : Type 0 where
  pub step : (first : ℕ) (l : Rows) (ls : List Rows) → head_of l ≡ x
      → by_runs o (first + i) (runs o (between w i n vs ms)) (l ∷ ls)
      ≡ map (match_in o (first + r.at) (between w r.at r.used vs ms)) l ++ by_runs o (first + r.at) (runs o (between w r.at n vs ms)) ls

-- Left rows from..to, over right rows at..end, into an answer of m cells.
pub record RunRoom (o : Options) (wl m : ℕ) (lv lm : Words) (from to : ℕ) (wr : ℕ) (rv rm : Words) (at end number : ℕ) (out : Words) : Type 0 where
  pub left : RowsIn o wl to lv lm
  pub upward : from ≤ to
  pub within : to ≤ m
  pub right : RowsIn o wr end rv rm
  pub run : at ≤ end
  pub numbers : number + end ≤ 2 ^ 63 - 1
  pub room : 2 + 2 * m ≤ length out
