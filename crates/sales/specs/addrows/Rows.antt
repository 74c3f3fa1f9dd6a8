-- A table and a frame's sales by their rows: what adding them asks, answers and writes. Assumes nothing.
use Rattle.takings.specs.declared.Taken.{Taken}
use Rattle.frames.specs.declared.refusals.Refusal.{Refusal}
use Rattle.std.specs.Prelude.{◌≡◌, true, cond, not, ◌||◌, List, ℕ, suc, ◌+◌, ◌*◌, ◌≤◌, ℤ, nat_abs, length, Result, Err}
use Rattle.frames.specs.Cells.{Rows, Words}
use Rattle.frames.specs.Frame.{pairs_fine}
use Rattle.order.specs.options.Options.{Few}
use Rattle.order.specs.declared.options.Options.{Options}
use Rattle.frames.specs.declared.refusals.Refusal.TheVariants.{Unsorted, Beyond}
use Rattle.takings.specs.Subtotals.{add_all, subtotals_of, beyond_rows, beyond_number}
use Rattle.takings.specs.Sales.{Sale, amounts_of, nulls_of, beyond_amounts}
use Rattle.takings.specs.Calls.{result, leave}
use Rattle.subtotals.specs.takejudge.Judge.{Sheet, fine_rows}
use Rattle.sales.specs.salekind.Kinds.{FrameIn}

-- The table and both frames are there, and the options are such that groups compare.
pub record AddIn (o : Options) (w n : ℕ) (tv tm : Words) (rows d : ℕ) (lv lm av am : Words) : Type 0 where
  pub compare : Few o
  pub table : Sheet o.by w n tv tm
  pub frames : FrameIn o.by rows d lm av am
  pub left_values : length lv ≡ rows * suc o.by
  pub left_marks : length lm ≡ rows * suc o.by
  pub left_fine : pairs_fine lv lm ≡ true
  pub answer_marks : length am ≤ length av

-- Refusals 14, 15 and 6.
unfoldable pub rows_answer : Options → ℕ → Rows → ℤ → List Sale → Words → Result Taken Refusal
rows_answer o w A k sales out =
    cond (not (fine_rows o w A)) (Err Unsorted)
    (cond (beyond_rows o A || beyond_number k || beyond_amounts (amounts_of sales)) (Err Beyond)
    (result o (add_all o (subtotals_of o A) (amounts_of sales)) (nat_abs k + nulls_of sales) out))

-- What the part behind the rule of tables leaves.
pub record RowsContract (o : Options) (w : ℕ) (A : Rows) (k : ℤ) (sales : List Sale) (out : Words) (r : Result Taken Refusal) (out' : Words) : Type 0 where
  pub answer : r ≡ rows_answer o w A k sales out
  pub words : out' ≡ (leave o (add_all o (subtotals_of o A) (amounts_of sales)) (rows_answer o w A k sales out) out).out
