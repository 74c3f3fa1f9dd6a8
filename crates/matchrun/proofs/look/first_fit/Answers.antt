-- `look::first_fit` meets its contract. Assumes nothing.
use mathlib.Core.Path.{◌≡◌, sym, ◌∙◌}
use mathlib.Core.Bool.{false}
use Prim.Native.Nat.{ℕ, ◌+◌, ◌*◌, ◌≤◌, ◌<◌}
use native.Mathlib.Omega.{arith}
use native.Mathlib.Decide.{ℕ_discrete}
use mir.Syntax.{w64}
use mir.Val.{to_z, of_z}
use mir.Facts.{to_z-of_z}
use Rattle.frames.specs.Cells.{value}
use Rattle.order.specs.Requires.{cell_at}
use Rattle.order.specs.declared.options.Strategy.TheVariants.{Forward}
use Rattle.order.proofs.RowLaws.{row_room}
use Rattle.matching.specs.Moves.{fits_key}
use Rattle.matchrun.proofs.look.first_fit.Goals as goal

-- row i ends within the rows
room : (c : goal.In-loop-i) → let a = c.args in c.loop-i.i * a.right.width + a.right.width ≤ a.end * a.right.width
room c = let a = c.args in row_room c.loop-i.i a.end a.right.width c.loop-i-test.true

pub overflow_mul-k : goal.overflow_mul-k
overflow_mul-k c = let r = room c in omega (arith, c.requires.0)

pub overflow_add-k : goal.overflow_add-k
overflow_add-k c = let r = room c in omega (arith, c.requires.0)

pub fits_fore-requires : goal.fits_fore-requires
fits_fore-requires c =
    let r = room c in
    let p = c.requires.0 in
    record { values = omega arith; marks = omega arith }

pub returns-then-fits_fore : goal.returns-then-fits_fore
returns-then-fits_fore c =
    let l = c.loop-i in
    let v = to_z-of_z c.ranges.v in
    record {
      start = omega (arith, l.auto.i);
      within = omega (arith, c.loop-i-test.true);
      before = λ k g h. rw v at (l.invariant k g h);
      fit = λ h. rw v at (sym c.fits_fore.ensures ∙ c.if-fits_fore.true);
    }

pub loop-i-preserved : goal.loop-i-preserved
loop-i-preserved c = λ k g h. by k g h (ℕ_discrete k c.loop-i.i)
  where
    by : let a = c.args in
        let i = c.loop-i.i in
        (k : ℕ) → a.at ≤ k → k < i + 1 → Dec (k ≡ i) → fits_key Forward a.eq (value (to_z w64 (of_z w64 a.v))) (cell_at (k * a.right.width + a.o.by) a.right.values.now a.right.marks.now) ≡ false
    by k g h (yes e) = rw e (sym c.fits_fore.ensures ∙ c.if-fits_fore.false)
    by k g h (no e) = c.loop-i.invariant k g (omega (arith, e, h))

pub returns : goal.returns
returns c =
    let l = c.loop-i in
    let v = to_z-of_z c.ranges.v in
    record {
      start = c.requires.1;
      within = omega arith;
      before = λ k g h. rw v at (l.invariant k g (omega (arith, h, c.loop-i-test.false)));
      fit = λ h. absurd (omega (arith, h));
    }
