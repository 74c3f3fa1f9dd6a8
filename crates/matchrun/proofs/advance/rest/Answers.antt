-- `advance::rest` meets its contract. Assumes nothing.
use mathlib.Core.Path.{◌≡◌, sym}
use mathlib.Core.Bool.{true}
use Prim.Native.Nat.{ℕ, ◌+◌, ◌-◌, ◌*◌, ◌≤◌, ◌<◌}
use native.Mathlib.Omega.{arith}
use native.Mathlib.Decide.{ℕ_discrete}
use lib.IntN.{pos}
use lib.ListN.{get_or}
use mir.Syntax.{w64}
use mir.Val.{to_z, of_z}
use mir.Facts.{to_z-of_z}
use Rattle.frames.proofs.Signed.{back}
use Rattle.order.proofs.RowLaws.{row_room}
use Rattle.matchrun.specs.advance.Below.{below}
use Rattle.matchrun.proofs.advance.rest.Goals as goal

-- the row ends within the rows
room : (c : goal.In-loop-row) → let a = c.args in c.loop-row.row * a.w + a.w ≤ a.end * a.w
room c = let a = c.args in row_room c.loop-row.row a.end a.w c.loop-row-test.true

pub loop-row-init : goal.loop-row-init
loop-row-init c = record { here = omega (arith, c.requires.at_place.start); before = λ k l h. absurd (omega (arith, l, h)); counted = omega arith }

pub bounds-rv-place : goal.bounds-rv-place
bounds-rv-place c = let r = room c in omega (arith, c.requires.at_place, c.loop-row.invariant.here)

pub returns-then-not-is_below : goal.returns-then-not-is_below
returns-then-not-is_below c =
    let l = c.loop-row in
    let v = to_z-of_z c.ranges.v in
    let told = rw (back (get_or c.args.rv.now l.place (pos 0)) (omega arith), l.invariant.here) at c.is_below.ensures in
    record {
      upward = omega (arith, l.auto.row);
      within = omega (arith, c.loop-row-test.true);
      place = l.invariant.here;
      before = λ k g h. rw v at (l.invariant.before k g h);
      stop = λ h. sym (rw (v, c.if-not-is_below.true) at told);
      counted = l.invariant.counted;
    }

pub overflow_add-place : goal.overflow_add-place
overflow_add-place c = let r = room c.before.before.before in omega (arith, c.requires.at_place, c.loop-row.invariant.here)

pub overflow_add-moves : goal.overflow_add-moves
overflow_add-moves c = omega (arith, c.loop-row-test.true, c.requires.at_bound, c.loop-row.auto.row, c.loop-row.invariant.counted)

pub loop-row-preserved : goal.loop-row-preserved
loop-row-preserved c =
    let l = c.loop-row in
    let a = c.args in
    let e : (l.row + 1) * a.w ≡ l.row * a.w + a.w = omega arith in
    record { here = omega (arith, e, l.invariant.here); before = λ k g h. by k g h (ℕ_discrete k l.row); counted = omega (arith, l.auto.row, l.invariant.counted) }
  where
    by : let a = c.args in
        let row = c.loop-row.row in
        (k : ℕ) → a.at ≤ k → k < row + 1 → Dec (k ≡ row) → below a.inclusive (to_z w64 (of_z w64 a.v)) (get_or a.rv.now (k * a.w + (a.p - a.at * a.w)) (pos 0)) ≡ true
    by k g h (yes e) = rw e (sym (rw (back (get_or c.args.rv.now c.loop-row.place (pos 0)) (omega arith), c.loop-row.invariant.here, c.if-not-is_below.false) at c.is_below.ensures))
    by k g h (no e) = c.loop-row.invariant.before k g (omega (arith, e, h))

pub returns : goal.returns
returns c =
    let l = c.loop-row in
    let a = c.args in
    let v = to_z-of_z c.ranges.v in
    let e : l.row ≡ a.end = omega (arith, c.loop-row-test.false, l.auto.row, c.requires.at_place.within) in
    record {
      upward = c.requires.at_place.within;
      within = omega arith;
      place = rw e at l.invariant.here;
      before = λ k g h. rw v at (l.invariant.before k g (omega (arith, e, h)));
      stop = λ h. absurd (omega (arith, h));
      counted = rw e at l.invariant.counted;
    }
