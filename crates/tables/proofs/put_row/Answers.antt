-- `tables::put_row` meets its contract. Assumes nothing.
use mathlib.Core.Path.{◌≡◌, refl, sym, ap, ◌∙◌}
use mathlib.Core.List.{List}
use Prim.Native.Nat.{◌+◌}
use native.Mathlib.Omega.{arith}
use borrow.Author.Rules.{rules}
use lib.IntN.{pos}
use lib.ListN.{get_or}
use Rattle.frames.specs.Cells.{Cell}
use Rattle.frames.proofs.Signed.{back}
use Rattle.tables.specs.Lay.{lay_cells}
use Rattle.tables.proofs.CellLaws.{cells_all, cells_more, cells_done}
use Rattle.tables.proofs.put_row.Goals as goal

pub loop-j-init : goal.loop-j-init
loop-j-init c =
    let a = c.args in
    let z : a.k + 0 ≡ a.k = omega arith in
    record { kept = refl; laid = rw z (ap (λ (x : List Cell). lay_cells a.m a.k x a.out.now) (cells_all a.rows.width a.p a.rows.values.now a.rows.marks.now)) }

pub loop-j-preserved : goal.loop-j-preserved
loop-j-preserved c =
    let a = c.args in
    let l = c.loop-j in
    let p = c.requires in
    record {
      kept = c.put_cell.auto.out ∙ l.invariant.kept;
      laid = l.invariant.laid ∙ cells_more a.m a.k a.rows.width a.p a.rows.values.now a.rows.marks.now l.j l.out c.loop-j-test.true p.values p.marks p.paired p.fine
          ∙ rw (
            c.put_cell.ensures,
            back (get_or a.rows.values.now (a.p + l.j) (pos 0)) (search rules),
            back (get_or a.rows.marks.now (a.p + l.j) (pos 0)) (search rules),
          );
    }

pub returns : goal.returns
returns c =
    let a = c.args in
    let l = c.loop-j in
    sym (l.invariant.laid ∙ cells_done a.m a.k a.rows.width a.p a.rows.values.now a.rows.marks.now l.j l.out (omega (arith, c.loop-j-test.false)))
