-- `approach::creep` meets its contract. Assumes nothing.
use mathlib.Core.Path.{◌≡◌, sym}
use mathlib.Core.Bool.{true}
use Prim.Native.Nat.{◌+◌, ◌-◌, ◌*◌, ◌≤◌, ◌<◌}
use native.Mathlib.Omega.{arith}
use lib.IntN.{pos}
use lib.ListN.{get_or}
use mir.Syntax.{w64}
use mir.Val.{to_z, of_z}
use mir.Facts.{to_z-of_z}
use Rattle.frames.specs.Cells.{value}
use Rattle.frames.proofs.Signed.{back}
use Rattle.order.proofs.RowLaws.{row_room}
use Rattle.order.specs.declared.options.Strategy.TheVariants.{Nearest}
use Rattle.matching.proofs.CursorLaws.{moved}
use Rattle.matchrun.specs.advance.Below.{keyed}
use Rattle.matchrun.proofs.approach.creep.Goals as goal

-- two rows end within the rows
room : (c : goal.In-loop-row) → let a = c.args in c.loop-row.row * a.w + a.w + a.w ≤ a.end * a.w
room c =
    let a = c.args in
    let row = c.loop-row.row in
    let z : (row + 1) * a.w ≡ row * a.w + a.w = omega arith in
    omega (arith, z, row_room (row + 1) a.end a.w (omega (arith, c.loop-row-test.true)))

pub loop-row-init : goal.loop-row-init
loop-row-init c = record { here = omega (arith, c.requires.at_place.start); behind = λ start l u b. b; counted = omega arith }

pub overflow_add-next : goal.overflow_add-next
overflow_add-next c = let r = room c in omega (arith, c.requires.at_place, c.loop-row.invariant.here)

pub bounds-rv-next : goal.bounds-rv-next
bounds-rv-next c = let r = room c in omega (arith, c.requires.at_place, c.loop-row.invariant.here)

pub bounds-rv-place : goal.bounds-rv-place
bounds-rv-place c = let r = room c.before in omega (arith, c.requires.at_place, c.loop-row.invariant.here)

pub returns-then-not-as_near : goal.returns-then-not-as_near
returns-then-not-as_near c =
    let l = c.loop-row in
    let a = c.args in
    let z : l.place + a.w ≡ (l.row + 1) * a.w + (a.p - a.at * a.w) = omega (arith, l.invariant.here) in
    let e = rw (
      back (get_or a.rv.now (l.place + a.w) (pos 0)) (omega arith),
      back (get_or a.rv.now l.place (pos 0)) (omega arith),
      z,
      l.invariant.here,
    ) at c.as_near.ensures in
    let told = e (c.requires.rising l.row (l.row + 1) (omega (arith, l.auto.row)) (omega arith) (omega (arith, c.loop-row-test.true))) in
    let v = to_z-of_z c.ranges.v in
    record {
      upward = omega (arith, l.auto.row);
      there = omega (arith, c.loop-row-test.true);
      place = l.invariant.here;
      behind = λ start g u b. rw v at (l.invariant.behind start g u (rw v b));
      stopped = λ h. sym (rw (v, c.if-not-as_near.true) at told);
      counted = l.invariant.counted;
    }

pub overflow_add-moves : goal.overflow_add-moves
overflow_add-moves c = omega (arith, c.loop-row-test.true, c.requires.at_bound, c.loop-row.auto.row, c.loop-row.invariant.counted)

pub loop-row-preserved : goal.loop-row-preserved
loop-row-preserved c =
    let a = c.args in
    let l = c.loop-row in
    let z : l.place + a.w ≡ (l.row + 1) * a.w + (a.p - a.at * a.w) = omega (arith, l.invariant.here) in
    let f = rw (
      back (get_or a.rv.now (l.place + a.w) (pos 0)) (omega arith),
      back (get_or a.rv.now l.place (pos 0)) (omega arith),
      z,
      l.invariant.here,
    ) at c.as_near.ensures in
    let told = f (c.requires.rising l.row (l.row + 1) (omega (arith, l.auto.row)) (omega arith) (omega (arith, c.loop-row-test.true))) in
    let e : (l.row + 1) * a.w ≡ l.row * a.w + a.w = omega arith in
    let h : l.row + 1 < a.end = omega (arith, c.loop-row-test.true) in
    record {
      here = omega (arith, e, l.invariant.here);
      behind = λ start g u b. moved true (keyed a.w (a.p - a.at * a.w) a.rv.now) start a.end u Nearest (value (to_z w64 (of_z w64 a.v))) l.row (omega (arith, g, l.auto.row)) h (sym (rw (c.if-not-as_near.false) at told)) (l.invariant.behind start g u b);
      counted = omega (arith, l.auto.row, l.invariant.counted);
    }

pub returns : goal.returns
returns c =
    let l = c.loop-row in
    let a = c.args in
    let v = to_z-of_z c.ranges.v in
    let e : l.row ≡ a.end - 1 = omega (arith, c.loop-row-test.false, l.auto.row, c.requires.at_lt_end) in
    record {
      upward = omega (arith, c.requires.at_lt_end);
      there = omega (arith, c.requires.at_lt_end);
      place = rw e at l.invariant.here;
      behind = λ start g u b. rw (v, e) at (l.invariant.behind start g u (rw v b));
      stopped = λ (h : a.end - 1 + 1 < a.end). absurd (omega (arith, h));
      counted = rw e at l.invariant.counted;
    }
