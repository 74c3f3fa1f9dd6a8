-- Two tables of subtotals by their rows: what their join asks, answers and writes. Assumes nothing.
use Rattle.takings.specs.declared.Taken.{Taken}
use Rattle.frames.specs.declared.refusals.Refusal.{Refusal}
use Rattle.std.specs.Prelude.{◌≡◌, cond, not, ◌&&◌, ◌||◌, ℕ, ◌+◌, ℤ, nat_abs, Result, Err}
use Rattle.frames.specs.Cells.{Rows, Words}
use Rattle.order.specs.options.Options.{Few}
use Rattle.order.specs.declared.options.Options.{Options}
use Rattle.frames.specs.declared.refusals.Refusal.TheVariants.{Unsorted, Beyond}
use Rattle.takings.specs.Subtotals.{add_all, subtotals_of, beyond_rows, beyond_number}
use Rattle.takings.specs.Calls.{result, leave, join_call}
use Rattle.subtotals.specs.takejudge.Judge.{Sheet, fine_rows}

-- Both tables are there, and the options are such that groups compare.
pub record SheetsIn (o : Options) (w na : ℕ) (av am : Words) (nb : ℕ) (bv bm : Words) : Type 0 where
  pub compare : Few o
  pub first : Sheet o.by w na av am
  pub second : Sheet o.by w nb bv bm

-- Refusals 14, 15 and 6.
unfoldable pub rows_answer : Options → ℕ → Rows → ℤ → Rows → ℤ → Words → Result Taken Refusal
rows_answer o w A k B l out =
    cond (not (fine_rows o w A && fine_rows o w B)) (Err Unsorted)
    (cond (beyond_rows o A || beyond_rows o B || beyond_number k || beyond_number l) (Err Beyond)
    (result o (add_all o (subtotals_of o A) (subtotals_of o B)) (nat_abs k + nat_abs l) out))

-- What the part behind the rule of tables leaves.
pub record RowsContract (o : Options) (w : ℕ) (A : Rows) (k : ℤ) (B : Rows) (l : ℤ) (out : Words) (r : Result Taken Refusal) (out' : Words) : Type 0 where
  pub answer : r ≡ rows_answer o w A k B l out
  pub words : out' ≡ (leave o (add_all o (subtotals_of o A) (subtotals_of o B)) (rows_answer o w A k B l out) out).out

-- The contract of the call: its answer, and the words of the output afterwards.
pub record JoinContract (o : Options) (table : Words) (k : ℤ) (other : Words) (l : ℤ) (out : Words) (r : Result Taken Refusal) (out' : Words) : Type 0 where
  pub answer : r ≡ (join_call o table k other l out).answer
  pub words : out' ≡ (join_call o table k other l out).out
