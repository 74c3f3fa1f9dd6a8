use borrow.Author.Tests.{not-true}
use mathlib.Core.Path.{◌∙◌}
use native.Mathlib.Omega.{arith}
use lib.Signed.{lt_z}
use mir.Syntax.{w64}
use mir.Val.{to_z, of_z}
use mir.Facts.{to_z-of_z}
use Rattle.matchrun.specs.approach.Near.{closes}
use Rattle.matchrun.proofs.approach.NearLaws.{near_by_distance, near_no, near_yes, three_below, last_fails, second_fails, first_tells}
use Rattle.matchrun.proofs.approach.closes_three.Goals as goal

pub returns-then-not-v-d : goal.returns-then-not-v-d
returns-then-not-v-d c =
    let s = c in
    let a = s.args in
    three_below a.v a.a a.b a.c a.d s.requires.0 s.requires.1 s.requires.2 (rw (to_z-of_z s.ranges.v, to_z-of_z s.ranges.d) at (not-true (lt_z (to_z w64 (of_z w64 a.v)) (to_z w64 (of_z w64 a.d))) c.if-not-v-d.true-raw))

pub returns-then-z-distance : goal.returns-then-z-distance
returns-then-z-distance c =
    let e = c in
    let s = e in
    let a = s.args in
    let v = to_z-of_z s.ranges.v in
    let z = rw (to_z-of_z s.ranges.c, v) at e.distance-z.ensures in
    let t = rw (to_z-of_z s.ranges.d, v) at e.distance.ensures in
    last_fails (closes a.v a.a a.b) (closes a.v a.b a.c) (closes a.v a.c a.d) (near_no a.v a.c a.d (omega (arith, z, t, c.if-z-distance.true)))

pub returns-then-y-z : goal.returns-then-y-z
returns-then-y-z c =
    let e = c in
    let s = e in
    let a = s.args in
    let v = to_z-of_z s.ranges.v in
    let y = rw (to_z-of_z s.ranges.b, v) at e.distance-y.ensures in
    let z = rw (to_z-of_z s.ranges.c, v) at e.distance-z.ensures in
    second_fails (closes a.v a.a a.b) (closes a.v a.b a.c) (closes a.v a.c a.d) (near_no a.v a.b a.c (omega (arith, y, z, c.if-y-z.true)))

pub returns : goal.returns
returns c =
    let e = c in
    let s = e in
    let a = s.args in
    let v = to_z-of_z s.ranges.v in
    let x = rw (to_z-of_z s.ranges.a, v) at c.distance-2.ensures in
    let y = rw (to_z-of_z s.ranges.b, v) at e.distance-y.ensures in
    let z = rw (to_z-of_z s.ranges.c, v) at e.distance-z.ensures in
    let t = rw (to_z-of_z s.ranges.d, v) at e.distance.ensures in
    rw (x, y) (near_by_distance a.v a.a a.b s.requires.0) ∙ first_tells (closes a.v a.a a.b) (closes a.v a.b a.c) (closes a.v a.c a.d)
    (near_yes a.v a.b a.c s.requires.1 (omega (arith, y, z, c.if-y-z.false))) (near_yes a.v a.c a.d s.requires.2 (omega (arith, z, t, c.if-z-distance.false)))
