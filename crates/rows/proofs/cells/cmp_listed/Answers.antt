-- `cells::cmp_listed` meets its contract. Assumes nothing.
use Rattle.std.proofs.Common.{◌∙◌, to_z-of_z, rules}
use Rattle.frames.specs.Cells.{cell_of}
use Rattle.frames.proofs.Signed.{zero_yes, zero_no}
use Rattle.rows.proofs.cells.PlaceLaws.{left_null, right_null}
use Rattle.rows.proofs.cells.cmp_listed.Goals as goal

pub returns-then-ma-eq0 : goal.returns-then-ma-eq0
returns-then-ma-eq0 c =
    let s = c in
    let f = s.ranges in
    let a = s.args in
    rw (to_z-of_z f.va, to_z-of_z f.ma, to_z-of_z f.vb, to_z-of_z f.mb) at c.cmp_cell.ensures ∙ left_null a.descending a.nulls_last a.codes.now a.va a.ma (cell_of a.vb a.mb) (zero_yes f.ma c.if-ma-eq0.true)

pub returns-then-mb-eq0 : goal.returns-then-mb-eq0
returns-then-mb-eq0 c =
    let s = c in
    let f = s.ranges in
    let a = s.args in
    rw (to_z-of_z f.va, to_z-of_z f.ma, to_z-of_z f.vb, to_z-of_z f.mb) at c.cmp_cell-then-mb-eq0.ensures ∙ right_null a.descending a.nulls_last a.codes.now a.vb a.mb (cell_of a.va a.ma) (zero_yes f.mb c.if-mb-eq0.true)

pub returns-then-descending : goal.returns-then-descending
returns-then-descending c =
    let e = c in
    let s = e in
    let f = s.ranges in
    simp (zero_no f.ma e.if-ma-eq0.false, zero_no f.mb e.if-mb-eq0.false, e.if-descending.true) (rw (to_z-of_z f.va, to_z-of_z f.vb) at c.cmp_place.ensures)

pub returns : goal.returns
returns c =
    let e = c in
    let s = e in
    let f = s.ranges in
    simp (zero_no f.ma e.if-ma-eq0.false, zero_no f.mb e.if-mb-eq0.false, e.if-descending.false) (rw (to_z-of_z f.va, to_z-of_z f.vb) at c.cmp_place-2.ensures)
