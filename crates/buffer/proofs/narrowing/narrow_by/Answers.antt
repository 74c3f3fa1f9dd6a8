-- `narrowing::narrow_by` meets its contract. Assumes nothing.
use Rattle.std.proofs.Common.{◌+◌, pos, get_or, sym, ◌∙◌, arith, rules}
use lib.Seq.{length-take-le}
use Rattle.frames.specs.Cells.{row_from, rows_of}
use Rattle.frames.proofs.Signed.{back}
use Rattle.order.specs.options.Options.{options_of}
use Rattle.order.specs.Requires.{cell_at}
use Rattle.order.proofs.RowLaws.{row_cell}
use Rattle.searching.specs.Requires.{range_of}
use Rattle.buffer.proofs.narrowing.ColumnLaws.{column_step, Taken, taken_list, taken_none}
use Rattle.buffer.proofs.narrowing.narrow_by.Goals as goal
use Rattle.buffer.proofs.narrowing.narrow_by.Goals.{then-is_ranked, else-is_ranked}

pub slice_bounds-narrow_column-end : goal.slice_bounds-narrow_column-end
slice_bounds-narrow_column-end c =
    let o = options_of c.args.rules in
    let t : Taken o c.args.j c.if-is_ranked.n =
    elim c.if-is_ranked.branch [
      | then-is_ranked w ↦ taken_list o c.args.j _ c.requires.0.few (sym c.is_ranked.ensures ∙ w.if-is_ranked.true) w.n-is
      | else-is_ranked w ↦ taken_none o c.args.j _ (sym c.is_ranked.ensures ∙ w.if-is_ranked.false) w.n-is
    ] in
    sym (length-take-le c.if-is_ranked.n c.args.rules.codes.now t.codes)

pub slice_bounds-narrow_column-end-2 : goal.slice_bounds-narrow_column-end-2
slice_bounds-narrow_column-end-2 c =
    let o = options_of c.args.rules in
    let t : Taken o c.args.j c.if-is_ranked.n =
    elim c.if-is_ranked.branch [
      | then-is_ranked w ↦ taken_list o c.args.j _ c.requires.0.few (sym c.is_ranked.ensures ∙ w.if-is_ranked.true) w.n-is
      | else-is_ranked w ↦ taken_none o c.args.j _ (sym c.is_ranked.ensures ∙ w.if-is_ranked.false) w.n-is
    ] in
    sym (length-take-le c.if-is_ranked.n c.args.rules.rising.now t.places)

pub narrow_column-requires : goal.narrow_column-requires
narrow_column-requires c =
    let o = options_of c.args.rules in
    let t : Taken o c.args.j c.if-is_ranked.n =
    elim c.if-is_ranked.branch [
      | then-is_ranked w ↦ taken_list o c.args.j _ c.requires.0.few (sym c.is_ranked.ensures ∙ w.if-is_ranked.true) w.n-is
      | else-is_ranked w ↦ taken_none o c.args.j _ (sym c.is_ranked.ensures ∙ w.if-is_ranked.false) w.n-is
    ] in
    (t.indexed, c.requires.1)

pub returns : goal.returns
returns c = λ n wl h l.
    let o = options_of c.args.rules in
    let t : Taken o c.args.j c.if-is_ranked.n =
    elim c.if-is_ranked.branch [
      | then-is_ranked w ↦ taken_list o c.args.j _ c.requires.0.few (sym c.is_ranked.ensures ∙ w.if-is_ranked.true) w.n-is
      | else-is_ranked w ↦ taken_none o c.args.j _ (sym c.is_ranked.ensures ∙ w.if-is_ranked.false) w.n-is
    ] in
    let a = c.args in
    let q = c.requires.0 in
    let i = c.requires.2 in
    let ev = back (get_or a.left.values.now (a.p + a.j) (pos 0)) (search rules) in
    let em = back (get_or a.left.marks.now (a.p + a.j) (pos 0)) (search rules) in
    column_step o (rows_of a.right.width n a.right.values.now a.right.marks.now) (row_from wl a.p a.left.values.now a.left.marks.now) _ a.j (cell_at (a.p + a.j) a.left.values.now a.left.marks.now) (range_of a.s) _ t.rule
    (row_cell wl a.p a.j a.left.values.now a.left.marks.now (omega (arith, i, l)) (omega (arith, q.values, i)))
    (rw (ev, em) at (c.narrow_column.ensures n h))
