-- `carrying::carry_cells` meets its contract. Assumes nothing.
use mathlib.Core.Path.{refl, sym, ◌∙◌}
use native.Mathlib.Omega.{arith}
use Rattle.matchframe.proofs.carrying.SpreadLaws.{carry_more, carry_done, carry_first}
use Rattle.matchframe.proofs.carrying.carry_cells.Goals as goal

pub loop-j-init : goal.loop-j-init
loop-j-init c = let a = c.args in record { kept = refl; laid = carry_first a.m a.right.values.now a.right.marks.now a.q a.p a.k a.out.now }

pub carry_cell-requires : goal.carry_cell-requires
carry_cell-requires c =
    let p = c.requires in
    let t = c.loop-j-test.true in
    (record { values = omega (arith, p.0.values); marks = omega (arith, p.0.marks) }, record { there = omega (arith, p.1.within); room = omega (arith, p.1.room, c.loop-j.invariant.kept) })

pub loop-j-preserved : goal.loop-j-preserved
loop-j-preserved c =
    let l = c.loop-j in
    let a = c.args in
    record {
      kept = c.carry_cell.auto.out ∙ l.invariant.kept;
      laid = l.invariant.laid ∙ carry_more a.m a.right.values.now a.right.marks.now a.q a.p a.k l.j l.out c.loop-j-test.true ∙ rw c.carry_cell.ensures;
    }

pub returns : goal.returns
returns c =
    let l = c.loop-j in
    let a = c.args in
    sym (l.invariant.laid ∙ carry_done a.m a.right.values.now a.right.marks.now a.q a.p a.k l.j l.out (omega (arith, c.loop-j-test.false)))
