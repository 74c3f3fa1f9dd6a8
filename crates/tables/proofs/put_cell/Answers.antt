use native.Mathlib.Omega.{arith}
use lib.ListN.{length-set}
use borrow.Author.Rules.{rules}
use Rattle.tables.proofs.put_cell.Goals as goal

-- src/lib.rt:34:5
pub bounds-out-m : goal.bounds-out-m
bounds-out-m c = simp length-set (omega arith)
