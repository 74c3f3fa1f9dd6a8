use borrow.Author.Tests.{eq-eqb, ne_eqb, not-true, not-false}
use Rattle.frames.proofs.WordLaws.{rows_length}
use Rattle.matchframe.specs.turnrows.Prunes.{bad_right_at}
use Rattle.matchframe.proofs.turnrows.bad_right.Goals as goal

pub returns-then-not-checks : goal.returns-then-not-checks
unfolding bad_right_at
returns-then-not-checks c = simp (← c.checks.ensures, not-true c.checks.result c.if-not-checks.true-raw)

pub returns-then-not-is_sorted : goal.returns-then-not-is_sorted
unfolding bad_right_at
returns-then-not-is_sorted c = let e = c in simp (← e.checks.ensures, not-false e.checks.result e.if-not-checks.false-raw, ← c.is_sorted.ensures, c.if-not-is_sorted.true-raw)

pub returns-then-n-eq0 : goal.returns-then-n-eq0
unfolding bad_right_at
returns-then-n-eq0 c = let d = c in let e = d in simp (← e.checks.ensures, not-false e.checks.result e.if-not-checks.false-raw, ← d.is_sorted.ensures, d.if-not-is_sorted.false-raw, eq-eqb _ _ c.if-n-eq0.true)

pub returns-then-right-eq0 : goal.returns-then-right-eq0
unfolding bad_right_at
returns-then-right-eq0 c = let f = c in let d = f in let e = d in simp (← e.checks.ensures, not-false e.checks.result e.if-not-checks.false-raw, ← d.is_sorted.ensures, d.if-not-is_sorted.false-raw, ne_eqb _ _ f.if-n-eq0.false, rows_length, eq-eqb _ _ c.if-right-eq0.true)

pub returns : goal.returns
unfolding bad_right_at
returns c = let g = c in let f = g in let d = f in let e = d in simp (← e.checks.ensures, not-false e.checks.result e.if-not-checks.false-raw, ← d.is_sorted.ensures, d.if-not-is_sorted.false-raw, ne_eqb _ _ f.if-n-eq0.false, rows_length, ne_eqb _ _ g.if-right-eq0.false, ← c.bad_split.ensures)
