-- `pairing::put_pairs` meets its contract. Assumes nothing.
use mathlib.Core.Path.{sym, ◌∙◌}
use native.Mathlib.Omega.{arith}
use Rattle.spans.proofs.WalkLaws.{count_more, pairs_more, pairs_done}
use Rattle.spans.proofs.pairing.put_pairs.Goals as goal

pub put_stretch-requires : goal.put_stretch-requires
put_stretch-requires c =
    let p = c.args.points in
    let q = c.args.intervals in
    let l = c.loop-i in
    let e = c.points_of-r.ensures in
    record {
      upward = e.upward;
      number = omega (arith, c.requires.intervals.few, c.loop-i-test.true);
      numbers = omega (arith, e.within, c.requires.points.few);
      there = omega (arith, l.invariant.place, count_more c.args.b p.count p.values.now p.marks.now q.count q.values.now q.marks.now c.requires.intervals.values l.i c.loop-i-test.true c.points_of-r.result e);
      room = omega (arith, c.requires.room, l.invariant.kept);
    }

pub loop-i-preserved : goal.loop-i-preserved
loop-i-preserved c =
    let p = c.args.points in
    let q = c.args.intervals in
    let l = c.loop-i in
    let r = c.points_of-r.result in
    let e = c.points_of-r.ensures in
    record {
      place = omega (arith, l.invariant.place, count_more c.args.b p.count p.values.now p.marks.now q.count q.values.now q.marks.now c.requires.intervals.values l.i c.loop-i-test.true r e);
      kept = c.put_stretch.auto.out ∙ l.invariant.kept;
      laid = l.invariant.laid ∙ pairs_more c.args.cells c.args.b p.count p.values.now p.marks.now q.count q.values.now q.marks.now c.requires.intervals.values l.k l.i l.out c.loop-i-test.true r e ∙ rw c.put_stretch.ensures;
    }

pub returns : goal.returns
returns c =
    let p = c.args.points in
    let q = c.args.intervals in
    let l = c.loop-i in
    sym (l.invariant.laid ∙ pairs_done c.args.cells c.args.b p.count p.values.now p.marks.now q.count q.values.now q.marks.now c.requires.intervals.values l.k l.i l.out (omega (arith, c.loop-i-test.false)))
