-- `choices::put_nothing` meets its contract. Assumes nothing.
use mathlib.Core.Path.{◌≡◌, sym, ◌∙◌}
use native.Mathlib.Omega.{arith}
use Rattle.matching.proofs.LayLaws.{lay_more, lay_done}
use Rattle.matchrun.proofs.choices.put_nothing.Goals as goal

pub put-requires : goal.put-requires
put-requires c =
    (record { there = omega (arith, c.loop-i-test.true, c.requires.within); room = omega (arith, c.requires.room, c.loop-i.invariant.kept) }, tt)

pub loop-i-preserved : goal.loop-i-preserved
loop-i-preserved c =
    let l = c.loop-i in
    let t = c.loop-i-test.true in
    let a = c.args in
    record {
      kept = c.put.auto.out ∙ l.invariant.kept;
      laid = λ f w vs ms n. l.invariant.laid f w vs ms n ∙ lay_more a.m f w vs ms l.i a.to l.out t ∙ rw (c.put.ensures, n l.i l.auto.i t);
    }

pub returns : goal.returns
returns c = λ f w vs ms n.
    let l = c.loop-i in
    let a = c.args in
    let e : l.i ≡ a.to = omega (arith, c.loop-i-test.false, l.auto.i, c.requires.upward) in
    sym (l.invariant.laid f w vs ms n ∙ rw e (lay_done a.m f w vs ms a.to l.out))
