-- `view::read_cell` meets its contract: its callees have plain parameters, so it has no walk. Assumes nothing.
use Rattle.std.proofs.Common.{◌≡◌, ◌<◌, ◌≤◌, true, sym, refl, ◌∙◌, arith, rules}
use borrow.Author.Tests.{not-true, not-false}
use Rattle.frames.specs.Frame.{is_frame, row_count}
use Rattle.frames.proofs.FrontLaws.{frame_count}
use Rattle.rows.proofs.view.PlaceLaws.{found_none, found_below, found_beside}
use Rattle.rows.proofs.view.read_cell.Statement.{statement}
use Rattle.rows.proofs.view.read_cell.Tie as tie

is-frame-requires : tie.Need-is_frame-requires
is-frame-requires c κs = search rules

returns : tie.Need-returns-then-not-is_frame
returns c = sym (found_none _ _ _ _ (sym c.is_frame.ensures ∙ not-true c.is_frame.result c.if-not-is_frame.true-raw))

-- past the first test the words are a frame
framed : (c : tie.Else-not-is_frame) → let a = c.args in is_frame a.c a.words.now ≡ true
framed c = sym c.is_frame.ensures ∙ not-false c.is_frame.result c.if-not-is_frame.false-raw

row-count-requires : tie.Need-row_count-requires
row-count-requires c κs = frame_count _ _ (framed c)

returns-2 : tie.Need-returns-then-row_count-row
returns-2 c =
    let a = c.args in
    let h : row_count a.words.now ≤ a.row = omega (arith, c.if-row_count-row.true, c.row_count.ensures) in
    sym (found_below _ _ _ _ (framed c.before.before) h)

-- past the second the row is one of its rows
among_rows : (c : tie.Else-row_count-row) → let a = c.args in a.row < row_count a.words.now
among_rows c = omega (arith, c.if-row_count-row.false, c.row_count.ensures)

returns-3 : tie.Need-returns-then-c-column
returns-3 c =
    let a = c.args in
    let h : a.c ≤ a.column = omega (arith, c.if-c-column.true) in
    sym (found_beside _ _ _ _ (framed c.before.before.before) (among_rows c.before) h)

cell-in-requires : tie.Need-cell_in-requires
cell-in-requires c κs =
    let a = c.args in
    let h : a.column < a.c = omega (arith, c.if-c-column.false) in
    record { viewed = record { framed = framed c.before.before.before; counted = refl }; among_rows = among_rows c.before; among_columns = h }

returns-4 : tie.Need-returns
returns-4 c = search rules

pub read_cell_spec : {M : Type 1} → statement M
read_cell_spec = tie.close (tie.spec is-frame-requires returns row-count-requires returns-2 returns-3 cell-in-requires returns-4)
