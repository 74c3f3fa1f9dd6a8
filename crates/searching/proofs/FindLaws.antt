-- A find step by step, as a loop goes, and the cell that a probe reads. Assumes nothing.
use mathlib.Core.Path.{◌≡◌}
use mathlib.Core.Bool.{Bool, true, false}
use mathlib.Core.List.{[]}
use Prim.Native.Nat.{ℕ, ◌+◌, ◌*◌, ◌/◌, ◌≤◌, ◌<◌}
use native.Mathlib.Numerals.{add-one}
use lib.ListN.{length, get_or}
use Rattle.frames.specs.Cells.{Cell, cell, rows_of, Rows, Words}
use Rattle.order.specs.options.Options.{Rule}
use Rattle.order.specs.Order.{cmp_cell}
use Rattle.order.specs.Requires.{cell_at}
use Rattle.order.proofs.RowLaws.{rows_from, row_cell}
use Rattle.searching.specs.Search.{meets, find}
use Rattle.searching.specs.declared.Seek.{Seek}
use Rattle.searching.proofs.SearchLaws.{search_true, search_false, search_end}

-- The cell in column j of row i.
pub held_cell : (w n i j : ℕ) (vs ms : Words) → i < n → j < w → i * w + j < length vs → cell j (get_or (rows_of w n vs ms) i []) ≡ cell_at (i * w + j) vs ms
held_cell w n i j vs ms h k l = rw (rows_from w n i vs ms h) (row_cell w (i * w) j vs ms k l)

module _ (k : Seek) (rule : Rule) (j : ℕ) (v : Cell) (rows : Rows) (lower upper : ℕ) where
  abbrev pub Met : Bool → Type 0
  Met t = meets k (cmp_cell rule (cell j (get_or rows ((lower + upper) / 2) [])) v) ≡ t

  pub find_true : lower < upper → Met true → find k rule j v rows lower upper ≡ find k rule j v rows lower ((lower + upper) / 2)
  unfolding find
  find_true h t = search_true (λ i. meets k (cmp_cell rule (cell j (get_or rows i [])) v)) lower upper h t

  pub find_false : lower < upper → Met false → find k rule j v rows lower upper ≡ find k rule j v rows ((lower + upper) / 2 + 1) upper
  unfolding find
  find_false h t = rw (add-one ((lower + upper) / 2)) (search_false (λ i. meets k (cmp_cell rule (cell j (get_or rows i [])) v)) lower upper h t)

  pub find_end : upper ≤ lower → find k rule j v rows lower upper ≡ lower
  unfolding find
  find_end h = search_end (λ i. meets k (cmp_cell rule (cell j (get_or rows i [])) v)) lower upper h
