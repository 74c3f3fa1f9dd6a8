-- What a turn has and writes, over plain values. Assumes nothing.
use mathlib.Core.Path.{◌≡◌}
use Prim.Native.Nat.{ℕ, ◌+◌, ◌-◌, ◌*◌, ◌≤◌}
use native.Mathlib.Nat.{mul-le-mul_left, mul-le-mul_right}
use native.Mathlib.Omega.{arith}
use Rattle.frames.specs.Cells.{Words, rows_of}
use Rattle.frames.specs.Frame.{frame_words, frame_limit}
use Rattle.order.specs.declared.options.Options.{Options}
use Rattle.order.specs.options.Options.{answer_columns}
use Rattle.order.specs.declared.Row.{Row}
use Rattle.order.specs.Requires.{RowsIn}
use Rattle.order.proofs.options.ColumnLaws.{columns_few}
use Rattle.matching.specs.Requires.{AnswerRoom}
use Rattle.buffer.proofs.splitcheck.BeforeLaws.{rows_take}
use Rattle.matchframe.specs.turnrows.Prunes.{remembered, remembered_left}
use Rattle.node.specs.turnparts.Part.{left_at, left_part, TurnIn, WriteIn}
use Rattle.node.specs.declared.turnparts.Part.{Part}

module _ {o : Options} {j : Part} {c w n : ℕ} {lv lm rv rm : Words} (t : TurnIn o j c w n lv lm rv rm) where
  -- The answer has few cells, so that its length fits a word.
  pub cells_few : n * answer_columns o ≤ 10 * frame_limit
  cells_few =
      let m : n * answer_columns o ≤ n * 10 = mul-le-mul_left {m = answer_columns o} {n = 10} n (omega (arith, columns_few o, t.carried)) in
      omega (arith, t.short)

-- ---- what is written
module _ {o : Options} {j : Part} {c w n : ℕ} {lv lm : Words} {first last : ℕ} {kv km out : Words} (t : WriteIn o j c w n lv lm first last kv km out) where
  pub kept_last : RowsIn o w last kv km
  kept_last =
      let m = mul-le-mul_right {m = last} {n = j.held - first} w (omega (arith, t.within)) in
      record { few = t.kept.few; wide = t.kept.wide; values = omega (arith, t.kept.values); marks = omega (arith, t.kept.marks) }

  -- There is room for the frame's answer over the kept rows.
  pub answer_in : AnswerRoom o c n lv lm w (j.held - first) kv km (j.pruned + first) (n * answer_columns o) out
  answer_in = record {
    left = t.left;
    right = t.kept;
    carried = t.carried;
    wide = omega (arith, t.wide);
    numbers = omega (arith, t.within, t.counts.rows);
    within = omega arith;
    room = t.room;
  }

  pub left_as : (l r : Row) (x : Part) → l ≡ remembered_left o j.last_left (rows_of c n lv lm) → r ≡ remembered o j.last_right (rows_of w last kv km)
      → x ≡ left_at j (first + last) (frame_words n c) l r → x ≡ left_part o j (rows_of c n lv lm) (rows_of w (j.held - first) kv km) first last (frame_words n c)
  unfolding left_part
  left_as l r x el er e = rw (rows_take w (j.held - first) last kv km (omega (arith, t.within)), ← el, ← er) e
