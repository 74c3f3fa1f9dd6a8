use mathlib.Core.Bool.{true, false, not}
use mir.Facts.{to_z-of_z}
use Rattle.order.specs.Order.{cmp_z, is_less}
use Rattle.frames.proofs.Signed.{lt_flag}
use Rattle.matching.proofs.ScanLaws.{near_first, near_behind, near_tie, not_less}
use Rattle.matchrun.proofs.fits.nearer_key.Goals as goal

pub returns-then-x-y : goal.returns-then-x-y
returns-then-x-y c =
    let s = c in
    let a = s.args in
    let f = s.ranges in
    let ex = rw (to_z-of_z f.a, to_z-of_z f.v) at c.distance-x.ensures in
    let ey = rw (to_z-of_z f.b, to_z-of_z f.v) at c.distance-y.ensures in
    let z = not (is_less (cmp_z a.a a.b)) in
    rw (← ex, ← ey) (near_first _ _ z c.if-x-y.true)

pub returns-then-y-x : goal.returns-then-y-x
returns-then-y-x c =
    let s = c in
    let a = s.args in
    let f = s.ranges in
    let ex = rw (to_z-of_z f.a, to_z-of_z f.v) at c.distance-x.ensures in
    let ey = rw (to_z-of_z f.b, to_z-of_z f.v) at c.distance-y.ensures in
    let z = not (is_less (cmp_z a.a a.b)) in
    rw (← ex, ← ey) (near_behind _ _ z c.if-y-x.true)

pub returns-then-a-b : goal.returns-then-a-b
returns-then-a-b c =
    let s = c in
    let a = s.args in
    let f = s.ranges in
    let ex = rw (to_z-of_z f.a, to_z-of_z f.v) at c.distance-x.ensures in
    let ey = rw (to_z-of_z f.b, to_z-of_z f.v) at c.distance-y.ensures in
    let z = not (is_less (cmp_z a.a a.b)) in
    rw (← ex, ← ey) (rw (lt_flag f.a f.b c.if-a-b.true) (near_tie _ _ false c.if-y-x.false c.if-x-y.false))

pub returns : goal.returns
returns c =
    let s = c in
    let a = s.args in
    let f = s.ranges in
    let ex = rw (to_z-of_z f.a, to_z-of_z f.v) at c.distance-x.ensures in
    let ey = rw (to_z-of_z f.b, to_z-of_z f.v) at c.distance-y.ensures in
    let z = not (is_less (cmp_z a.a a.b)) in
    rw (← ex, ← ey) (rw (not_less a.a a.b (lt_flag f.a f.b c.if-a-b.false)) (near_tie _ _ true c.if-y-x.false c.if-x-y.false))
