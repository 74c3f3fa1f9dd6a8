-- `cells::cmp_cell` meets its contract. Assumes nothing.
use Rattle.std.proofs.Common.{◌∙◌, to_z-of_z, rules}
use Rattle.frames.proofs.Signed.{zero_yes, zero_no}
use Rattle.rows.proofs.cells.cmp_cell.Goals as goal

pub returns-then-mb-eq0 : goal.returns-then-mb-eq0
returns-then-mb-eq0 c =
    let f = c.ranges in
    simp (zero_yes f.ma c.if-ma-eq0.true, zero_yes f.mb c.if-mb-eq0.true)

pub returns-then-nulls_last : goal.returns-then-nulls_last
returns-then-nulls_last c =
    let f = c.ranges in
    simp (zero_yes f.ma c.if-ma-eq0.true, zero_no f.mb c.if-mb-eq0.false, c.if-nulls_last.true)

pub returns-then-ma-eq0 : goal.returns-then-ma-eq0
returns-then-ma-eq0 c =
    let f = c.ranges in
    simp (zero_yes f.ma c.if-ma-eq0.true, zero_no f.mb c.if-mb-eq0.false, c.if-nulls_last.false)

pub returns-then-nulls_last-2 : goal.returns-then-nulls_last-2
returns-then-nulls_last-2 c =
    let f = c.ranges in
    simp (zero_no f.ma c.if-ma-eq0.false, zero_yes f.mb c.if-mb-eq0-2.true, c.if-nulls_last-2.true)

pub returns-then-mb-eq0-2 : goal.returns-then-mb-eq0-2
returns-then-mb-eq0-2 c =
    let f = c.ranges in
    simp (zero_no f.ma c.if-ma-eq0.false, zero_yes f.mb c.if-mb-eq0-2.true, c.if-nulls_last-2.false)

pub returns-then-descending : goal.returns-then-descending
returns-then-descending c =
    let f = c.ranges in
    simp (zero_no f.ma c.if-ma-eq0.false, zero_no f.mb c.if-mb-eq0-2.false, c.if-descending.true) (c.cmp_value.ensures ∙ simp (to_z-of_z f.va, to_z-of_z f.vb))

pub returns : goal.returns
returns c =
    let f = c.ranges in
    simp (zero_no f.ma c.if-ma-eq0.false, zero_no f.mb c.if-mb-eq0-2.false, c.if-descending.false) (c.cmp_value-2.ensures ∙ simp (to_z-of_z f.va, to_z-of_z f.vb))
