-- `cursor::first_key` meets its contract. Assumes nothing.
use mathlib.Core.Path.{◌≡◌, sym, ◌∙◌}
use mathlib.Core.Bool.{true}
use Prim.Native.Nat.{ℕ, ◌+◌, ◌*◌, ◌≤◌, ◌<◌}
use native.Mathlib.Omega.{arith}
use native.Mathlib.Decide.{ℕ_discrete}
use Rattle.frames.specs.Cells.{is_null, Words}
use Rattle.order.specs.Requires.{cell_at}
use Rattle.order.proofs.RowLaws.{row_room}
use Rattle.matchrun.proofs.cursor.first_key.Goals as goal

-- row i ends within the rows
room : (c : goal.In-loop-i) → let a = c.args in c.loop-i.i * a.w + a.w ≤ a.to * a.w
room c = let a = c.args in row_room c.loop-i.i a.to a.w c.loop-i-test.true

pub overflow_mul-k : goal.overflow_mul-k
overflow_mul-k c = let r = room c in omega (arith, c.requires.0)

pub overflow_add-k : goal.overflow_add-k
overflow_add-k c = let r = room c in omega (arith, c.requires.0)

pub null_at-requires : goal.null_at-requires
null_at-requires c =
    let r = room c in
    let p = c.requires.0 in
    record { marks = omega arith }

pub returns-then-not-null_at : goal.returns-then-not-null_at
returns-then-not-null_at c =
    let l = c.loop-i in
    record {
      start = omega (arith, l.auto.i);
      within = omega (arith, c.loop-i-test.true);
      before = l.invariant;
      keyed = λ vs h. sym (c.null_at.ensures vs) ∙ c.if-not-null_at.true;
    }

pub loop-i-preserved : goal.loop-i-preserved
loop-i-preserved c = λ vs k g h. by vs k g h (ℕ_discrete k c.loop-i.i)
  where
    by : let a = c.args in
        let i = c.loop-i.i in
        (vs : Words) (k : ℕ) → a.from ≤ k → k < i + 1 → Dec (k ≡ i) → is_null (cell_at (k * a.w + a.o.by) vs a.marks.now) ≡ true
    by vs k g h (yes e) = rw e (sym (c.null_at.ensures vs) ∙ c.if-not-null_at.false)
    by vs k g h (no e) = c.loop-i.invariant vs k g (omega (arith, e, h))

pub returns : goal.returns
returns c =
    let l = c.loop-i in
    record {
      start = c.requires.1;
      within = omega arith;
      before = λ vs k g h. l.invariant vs k g (omega (arith, h, c.loop-i-test.false));
      keyed = λ vs h. absurd (omega (arith, h));
    }
