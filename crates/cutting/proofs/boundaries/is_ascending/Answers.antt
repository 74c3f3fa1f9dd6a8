-- `boundaries::is_ascending` meets its contract. Assumes nothing.
use mathlib.Core.Path.{◌≡◌, sym, ap, ◌∙◌}
use mathlib.Core.Bool.{◌&&◌}
use Prim.Native.Nat.{ℕ, ◌+◌, ◌-◌, ◌*◌, ◌<◌}
use native.Mathlib.Omega.{arith}
use Rattle.order.specs.options.Options.{options_of}
use Rattle.order.specs.declared.options.Options.{Options}
use Rattle.order.specs.Order.{cmp_group, is_less}
use Rattle.frames.specs.Cells.{Rows, Words, row_from}
use Rattle.order.proofs.RowLaws.{rest, rest_all, one_row}
use Rattle.books.proofs.WalkLaws.{less_by}
use Rattle.cutting.specs.boundaries.Boundaries.{ascending}
use Rattle.cutting.proofs.boundaries.ListLaws.{rising_more, rising_few}
use Rattle.cutting.proofs.boundaries.is_ascending.Goals as goal

-- the boundary before i is less than that at i, and those from i on ascend
step : (o : Options) (w n i : ℕ) (vs ms : Words) → 0 < i → i < n
    → ascending o (rest w ((i - 1) * w) (n - (i - 1)) vs ms) ≡ (is_less (cmp_group o (row_from w ((i - 1) * w) vs ms) (row_from w (i * w) vs ms)) && ascending o (rest w (i * w) (n - i) vs ms))
step o w n i vs ms h l =
    let p : (i - 1) * w + w ≡ i * w = sym (one_row i w h) in
    let q : n - (i - 1) - 1 ≡ n - i = omega arith in
    rw (p, q) at (rising_more o w vs ms ((i - 1) * w) (n - (i - 1)) (omega arith))

pub loop-i-init : goal.loop-i-init
loop-i-init c =
    let a = c.args in
    let w = a.rules.terms.by in
    let z : a.rows.count - (1 - 1) ≡ a.rows.count = omega arith in
    let y : (1 - 1) * w ≡ 0 = omega arith in
    rw (z, y) (ap (λ (x : Rows). ascending (options_of a.rules) x) (rest_all (options_of a.rules) w a.rows.values.now a.rows.marks.now a.rows.count))

pub returns-then-not-is_lt : goal.returns-then-not-is_lt
returns-then-not-is_lt c =
    let a = c.args in
    let w = a.rules.terms.by in
    sym (c.loop-i.invariant
    ∙ step (options_of a.rules) w a.rows.count c.loop-i.i a.rows.values.now a.rows.marks.now (omega (arith, c.loop-i.auto.i)) c.loop-i-test.true
    ∙ rw (← c.cmp_by.ensures w w (omega arith) (omega arith), less_by c.cmp_by.result, ← c.is_lt.ensures, c.if-not-is_lt.true))

pub loop-i-preserved : goal.loop-i-preserved
loop-i-preserved c =
    let a = c.args in
    let w = a.rules.terms.by in
    let z : c.loop-i.i + 1 - 1 ≡ c.loop-i.i = omega arith in
    rw z
    (c.loop-i.invariant
    ∙ step (options_of a.rules) w a.rows.count c.loop-i.i a.rows.values.now a.rows.marks.now (omega (arith, c.loop-i.auto.i)) c.loop-i-test.true
    ∙ rw (← c.cmp_by.ensures w w (omega arith) (omega arith), less_by c.cmp_by.result, ← c.is_lt.ensures, c.if-not-is_lt.false))

pub returns : goal.returns
returns c =
    let a = c.args in
    let l = c.loop-i in
    sym (l.invariant ∙ rising_few (options_of a.rules) a.rules.terms.by a.rows.values.now a.rows.marks.now ((l.i - 1) * a.rules.terms.by) (a.rows.count - (l.i - 1)) (omega (arith, c.loop-i-test.false)))
