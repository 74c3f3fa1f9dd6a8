-- `pairing::count_pairs` meets its contract. Assumes nothing.
use mathlib.Core.Path.{ap, ◌∙◌}
use native.Mathlib.Omega.{arith}
use lib.ListN.{length}
use Rattle.spans.proofs.WalkLaws.{from_none, count_more}
use Rattle.spans.proofs.pairing.count_pairs.Goals as goal

pub loop-i-preserved : goal.loop-i-preserved
loop-i-preserved c =
    let p = c.args.points in
    let q = c.args.intervals in
    let l = c.loop-i in
    let e = c.points_of-found.ensures in
    record {
      few = omega (arith, e.within, c.requires.0.few, l.invariant.few);
      counted = l.invariant.counted ∙ omega (arith, count_more c.args.b p.count p.values.now p.marks.now q.count q.values.now q.marks.now c.requires.1.values l.i c.loop-i-test.true c.points_of-found.result e);
    }

pub returns : goal.returns
returns c =
    let p = c.args.points in
    let q = c.args.intervals in
    let l = c.loop-i in
    let e = ap length (from_none c.args.b p.count p.values.now p.marks.now q.count q.values.now q.marks.now c.requires.1.values l.i (omega (arith, c.loop-i-test.false))) in
    (omega (arith, l.invariant.counted, e), omega (arith, l.invariant.few, c.requires.1.few))
