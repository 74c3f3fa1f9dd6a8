-- `carrying::null_cells` meets its contract. Assumes nothing.
use mathlib.Core.Path.{refl, sym, ◌∙◌}
use native.Mathlib.Omega.{arith}
use Rattle.matchframe.proofs.carrying.SpreadLaws.{nulls_more, nulls_done, nulls_first}
use Rattle.matchframe.proofs.carrying.null_cells.Goals as goal

pub loop-j-init : goal.loop-j-init
loop-j-init c = let a = c.args in record { kept = refl; laid = nulls_first a.m a.p a.k a.out.now }

pub put_cell-requires : goal.put_cell-requires
put_cell-requires c =
    let p = c.requires in
    let t = c.loop-j-test.true in
    record { there = omega (arith, p.within); room = omega (arith, p.room, c.loop-j.invariant.kept) }

pub loop-j-preserved : goal.loop-j-preserved
loop-j-preserved c =
    let l = c.loop-j in
    let a = c.args in
    record {
      kept = c.put_cell.auto.out ∙ l.invariant.kept;
      laid = l.invariant.laid ∙ nulls_more a.m a.p a.k l.j l.out c.loop-j-test.true ∙ rw c.put_cell.ensures;
    }

pub returns : goal.returns
returns c =
    let l = c.loop-j in
    let a = c.args in
    sym (l.invariant.laid ∙ nulls_done a.m a.p a.k l.j l.out (omega (arith, c.loop-j-test.false)))
