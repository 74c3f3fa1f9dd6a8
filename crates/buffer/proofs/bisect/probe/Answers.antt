-- `bisect::probe` meets its contract. Assumes nothing.
use Rattle.std.proofs.Common.{◌≡◌, pos, get_or, ap, ◌∙◌, to_z-of_z, rules}
use Rattle.frames.specs.Cells.{cell_of}
use Rattle.frames.proofs.Signed.{back}
use Rattle.order.specs.Order.{cmp_cell}
use Rattle.order.specs.Requires.{cell_at}
use Rattle.rows.proofs.cells.PlaceLaws.{empty_list}
use Rattle.searching.specs.Search.{meets}
use Rattle.buffer.proofs.bisect.probe.Goals as goal
use Rattle.buffer.proofs.bisect.probe.Goals.{then-codes-eq0, else-codes-eq0}

pub returns : goal.returns
returns c =
    let a = c.args in
    let there = cell_at a.k a.rows.values.now a.rows.marks.now in
    let sought = cell_of a.value a.mark in
    let ev = back (get_or a.rows.values.now a.k (pos 0)) (search rules) in
    let em = back (get_or a.rows.marks.now a.k (pos 0)) (search rules) in
    let v = to_z-of_z c.ranges.value in
    let m = to_z-of_z c.ranges.mark in
    let e : c.if-codes-eq0.order ≡ cmp_cell (record { descending = a.descending; nulls_last = a.nulls_last; codes = a.codes.now }) there sought =
    elim c.if-codes-eq0.branch [
      | then-codes-eq0 w ↦ w.order-is ∙ (rw (ev, em, v, m) at w.cmp_cell-order.ensures) ∙ empty_list a.descending a.nulls_last a.codes.now w.if-codes-eq0.true there sought
      | else-codes-eq0 w ↦ w.order-is ∙ (rw (ev, em, v, m) at w.cmp_listed-order.ensures)
    ] in
    c.is_met.ensures ∙ ap (meets a.seek) e
