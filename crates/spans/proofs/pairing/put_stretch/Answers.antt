-- `pairing::put_stretch` meets its contract. Assumes nothing.
use mathlib.Core.Path.{sym, ◌∙◌}
use native.Mathlib.Omega.{arith}
use Rattle.spans.proofs.WalkLaws.{stretch_more, stretch_done}
use Rattle.spans.proofs.pairing.put_stretch.Goals as goal

pub loop-j-preserved : goal.loop-j-preserved
loop-j-preserved c =
    let a = c.args in
    let l = c.loop-j in
    record {
      place = omega (arith, l.invariant.place);
      kept = c.put_pair.auto.out ∙ l.invariant.kept;
      laid = l.invariant.laid ∙ stretch_more a.cells l.k a.i l.j a.end l.out c.loop-j-test.true ∙ rw c.put_pair.ensures;
    }

pub returns : goal.returns
returns c =
    let a = c.args in
    let l = c.loop-j in
    sym (l.invariant.laid ∙ stretch_done a.cells l.k a.i l.j a.end l.out (omega (arith, c.loop-j-test.false)))
