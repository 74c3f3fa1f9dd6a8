-- `pointsearch::ascending_points` meets its contract. Assumes nothing.
use mathlib.Core.Path.{◌≡◌, sym, ◌∙◌}
use Prim.Native.Nat.{◌+◌, ◌-◌}
use native.Mathlib.Omega.{arith}
use Rattle.spans.proofs.WalkLaws.{points_none, points_more, points_last}
use Rattle.spans.proofs.pointsearch.ascending_points.Goals as goal

pub returns-then-points-eq0 : goal.returns-then-points-eq0
returns-then-points-eq0 c = let p = c.args.points in sym (rw c.if-points-eq0.true (points_none p.values.now p.marks.now))

pub returns-then-not-before_next : goal.returns-then-not-before_next
returns-then-not-before_next c =
    let p = c.args.points in
    let l = c.loop-i in
    let t = c.loop-i-test.true in
    sym (l.invariant ∙ points_more p.values.now p.marks.now l.i (p.count - l.i) (omega arith) (omega (arith, c.requires.values)) ∙ rw (← c.before_next.ensures, c.if-not-before_next.true))

pub loop-i-preserved : goal.loop-i-preserved
loop-i-preserved c =
    let p = c.args.points in
    let l = c.loop-i in
    let t = c.loop-i-test.true in
    let z : p.count - (l.i + 1) ≡ p.count - l.i - 1 = omega arith in
    rw z (l.invariant ∙ points_more p.values.now p.marks.now l.i (p.count - l.i) (omega arith) (omega (arith, c.requires.values)) ∙ rw (← c.before_next.ensures, c.if-not-before_next.false))

pub returns : goal.returns
returns c =
    let p = c.args.points in
    let last : p.count - (p.count - 1) ≡ 1 = omega arith in
    let l = c.loop-i in
    let e : l.i ≡ p.count - 1 = omega arith in
    sym (rw e at l.invariant ∙ points_last p.values.now p.marks.now (p.count - 1) (p.count - (p.count - 1)) last (omega (arith, c.requires.values)) ∙ rw (← c.null_at.ensures p.values.now))
