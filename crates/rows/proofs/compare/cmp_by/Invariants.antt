-- The loop of `compare::cmp_by`: the cells so far are equal. Assumes nothing.
use Rattle.std.proofs.Common.{◌≡◌, ℕ, ◌≤◌}
use Rattle.frames.specs.Cells.{row_from}
use Rattle.order.specs.options.Options.{options_of}
use Rattle.order.specs.Order.{cmp_first}
use Rattle.std.specs.declared.cmp.Ordering.TheVariants.{Equal}
use Rattle.rows.proofs.compare.cmp_by.Given as goal

abbrev pub invariant-loop-j : goal.invariant-loop-j
invariant-loop-j l = (wa wb : ℕ) → l.by ≤ wa → l.by ≤ wb → cmp_first (options_of l.rules) l.j (row_from wa l.pa l.a.values.now l.a.marks.now) (row_from wb l.pb l.b.values.now l.b.marks.now) ≡ Equal
