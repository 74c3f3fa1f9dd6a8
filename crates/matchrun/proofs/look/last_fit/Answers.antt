-- `look::last_fit` meets its contract. Assumes nothing.
use mathlib.Core.Path.{◌≡◌, sym, ◌∙◌}
use mathlib.Core.Bool.{false}
use Prim.Native.Nat.{ℕ, ◌+◌, ◌-◌, ◌*◌, ◌≤◌, ◌<◌}
use native.Mathlib.Omega.{arith}
use native.Mathlib.Decide.{ℕ_discrete}
use lib.IntN.{pos}
use lib.ListN.{get_or}
use mir.Syntax.{w64}
use mir.Val.{to_z, of_z}
use mir.Facts.{to_z-of_z}
use Rattle.frames.specs.Cells.{value}
use Rattle.order.specs.Requires.{cell_at}
use Rattle.order.specs.declared.options.Strategy.TheVariants.{Backward}
use Rattle.order.proofs.RowLaws.{row_room}
use Rattle.matching.specs.Moves.{fits_key}
use Rattle.matchrun.proofs.look.FitLaws.{above_fits}
use Rattle.matchrun.proofs.look.last_fit.Goals as goal

pub loop-i-init : goal.loop-i-init
loop-i-init c =
    let a = c.args in
    λ k l h. above_fits a.eq (to_z w64 (of_z w64 a.v)) (get_or a.right.values.now (k * a.right.width + a.o.by) (pos 0)) (get_or a.right.marks.now (k * a.right.width + a.o.by) (pos 0)) (c.skip_above-below.ensures.above k l h)

-- row i − 1 ends within the rows
room : (c : goal.In-loop-i) → let a = c.args in (c.loop-i.i - 1) * a.right.width + a.right.width ≤ a.end * a.right.width
room c =
    let a = c.args in
    row_room (c.loop-i.i - 1) a.end a.right.width (omega (arith, c.loop-i-test.true, c.loop-i.auto.i, c.skip_above-below.ensures.within))

pub overflow_mul-k : goal.overflow_mul-k
overflow_mul-k c = let r = room c in omega (arith, c.requires.0)

pub overflow_add-k : goal.overflow_add-k
overflow_add-k c = let r = room c in omega (arith, c.requires.0)

pub fits_key-requires : goal.fits_key-requires
fits_key-requires c =
    let r = room c in
    let p = c.requires.0 in
    record { values = omega arith; marks = omega arith }

pub returns-then-fits_key : goal.returns-then-fits_key
returns-then-fits_key c =
    let l = c.loop-i in
    let t = c.loop-i-test.true in
    let v = to_z-of_z c.ranges.v in
    let e : l.i - 1 + 1 ≡ l.i = omega (arith, t) in
    rw e
    record {
      start = omega (arith, t);
      within = omega (arith, l.auto.i, c.skip_above-below.ensures.within);
      behind = λ k g h. rw v at (l.invariant k g h);
      fit = λ h. rw v at (sym c.fits_key.ensures ∙ c.if-fits_key.true);
    }

pub loop-i-preserved : goal.loop-i-preserved
loop-i-preserved c = λ k g h. by k g h (ℕ_discrete k (c.loop-i.i - 1))
  where
    by : let a = c.args in
        let i = c.loop-i.i in
        (k : ℕ) → i - 1 ≤ k → k < a.end → Dec (k ≡ i - 1) → fits_key Backward a.eq (value (to_z w64 (of_z w64 a.v))) (cell_at (k * a.right.width + a.o.by) a.right.values.now a.right.marks.now) ≡ false
    by k g h (yes e) = rw e (sym c.fits_key.ensures ∙ c.if-fits_key.false)
    by k g h (no e) = c.loop-i.invariant k (omega (arith, e, g)) h

pub returns : goal.returns
returns c =
    let l = c.loop-i in
    let v = to_z-of_z c.ranges.v in
    record {
      start = omega arith;
      within = c.requires.1;
      behind = λ k g h. rw v at (l.invariant k (omega (arith, g, c.loop-i-test.false)) h);
      fit = λ h. absurd (omega (arith, h));
    }
