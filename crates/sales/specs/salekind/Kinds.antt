-- What a left row is with its answer row, and how many there are of each kind. Assumes nothing.
use Rattle.std.specs.Prelude.{◌≡◌, Bool, true, false, cond, List, ℕ, suc, ◌+◌, ◌*◌, ◌≤◌, ◌<◌, length}
use Rattle.frames.specs.Cells.{Cell, cell, is_null, Words}
use Rattle.frames.specs.Frame.{pairs_fine}
use Rattle.order.specs.declared.options.Options.{Options}
use Rattle.takings.specs.Sales.{Sale, matched, amounts_of, nulls_of, beyond_amounts}
use Rattle.sales.specs.declared.salekind.Kind.{Kind}
use Rattle.sales.specs.declared.salekind.Kind.TheVariants.{Unmatched, Nothing, Amount}

-- A left row x with its answer row a.
abbrev pub kind_of : Options → List Cell → List Cell → Kind
kind_of o x a = cond (matched o x a) (cond (is_null (cell 1 a)) Nothing Amount) Unmatched

-- The marks of a left row's group and key are there, and two of its answer row.
pub record KindIn (b q : ℕ) (left : Words) (z : ℕ) (answer : Words) : Type 0 where
  pub left_in : q + b < length left
  pub answer_in : z + 1 < length answer

-- n left rows and n answer rows, each at least two wide; each mark of an answer fits its value.
pub record FrameIn (b n d : ℕ) (left values answer : Words) : Type 0 where
  pub left_in : n * suc b ≤ length left
  pub values_in : n * d ≤ length values
  pub answer_in : n * d ≤ length answer
  pub paired : length values ≤ length answer
  pub fine : pairs_fine values answer ≡ true
  pub wide : 2 ≤ d
  pub few : n ≤ 4096
  pub by_few : b ≤ 4

-- What a tally says of the sales.
pub record Tallied (sales : List Sale) (s k : ℕ) (beyond : Bool) : Type 0 where
  pub beyond_is : beyond ≡ beyond_amounts (amounts_of sales)
  pub sales_is : beyond ≡ false → s ≡ length (amounts_of sales)
  pub nulls_is : beyond ≡ false → k ≡ nulls_of sales
  pub few_sales : s ≤ 4096
  pub few_nulls : k ≤ 4096
