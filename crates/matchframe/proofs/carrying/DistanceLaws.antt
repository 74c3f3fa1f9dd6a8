-- The distance of two cells, by what is known of them. Assumes nothing.
use mathlib.Core.Path.{◌≡◌, refl, ap, ◌∙◌}
use mathlib.Core.Bool.{Bool, true, false, cond}
use Prim.Native.Nat.{ℕ, ◌+◌, ◌-◌, ◌^◌, ◌≤◌, ◌<◌}
use native.Mathlib.Omega.{arith}
use borrow.Author.Tests.{lt-ltb, le-ltb}
use lib.IntN.{ℤ, pos, nat_abs, ◌-ℤ◌}
use lib.ListN.{set}
use Rattle.frames.specs.Cells.{Cell, Words, null, value, is_null, is_zero, cell_of, value_word, mark_word}
use Rattle.order.specs.declared.options.Options.{Options}
use Rattle.order.specs.Order.{distance}
use Rattle.order.specs.Requires.{cell_at}
use Rattle.tables.specs.Lay.{lay_cells}
use Rattle.matching.specs.Answer.{distance_cell}
use Rattle.matchframe.specs.carrying.Loops.{last_at}

-- Of a null it is 0.
pub first_null : (x y : Cell) → is_null x ≡ true → 0 ≡ distance x y
first_null null y e = refl
first_null (value a) y e = let z : ◌≡◌ {A = ℕ} 0 1 = cc in absurd (omega arith)

pub second_null : (x y : Cell) → is_null y ≡ true → 0 ≡ distance x y
second_null null y e = refl
second_null (value a) null e = refl
second_null (value a) (value b) e = let z : ◌≡◌ {A = ℕ} 0 1 = cc in absurd (omega arith)

-- Of two values it is what is left of the greater.
pub both_values : (a m b n : ℤ) → is_null (cell_of a m) ≡ false → is_null (cell_of b n) ≡ false → nat_abs (a -ℤ b) ≡ distance (cell_of a m) (cell_of b n)
both_values a m b n e f = go (is_zero m) (is_zero n) e f
  where
    go : (x y : Bool) → is_null (cond x null (value a)) ≡ false → is_null (cond y null (value b)) ≡ false → nat_abs (a -ℤ b) ≡ distance (cond x null (value a)) (cond y null (value b))
    go true y e f = let z : ◌≡◌ {A = ℕ} 0 1 = cc in absurd (omega arith)
    go false true e f = let z : ◌≡◌ {A = ℕ} 0 1 = cc in absurd (omega arith)
    go false false e f = refl

-- As it is written.
pub too_far_lem : (d : ℕ) → 2 ^ 63 - 1 < d → distance_cell d ≡ null
too_far_lem d h = rw (lt-ltb (2 ^ 63 - 1) d h)

pub near : (d : ℕ) → d ≤ 2 ^ 63 - 1 → distance_cell d ≡ value (pos d)
near d h = rw (le-ltb (2 ^ 63 - 1) d h)

-- Last of a row: the cell is written where the join adds it, and nothing elsewhere.
module _ (o : Options) (v : Cell) (q : ℕ) (vs ms : Words) (m k : ℕ) (out : Words) where
  pub last_put : (d : ℕ) (out₁ : Words) → o.with_distance ≡ true → d ≡ distance (cell_at (q + o.by) vs ms) v → out₁ ≡ set (set out (2 + k) (value_word (distance_cell d))) (2 + m + k) (mark_word (distance_cell d)) → out₁ ≡ lay_cells m k (last_at o v q vs ms) out
  unfolding lay_cells
  last_put d out₁ e f g = rw e (g ∙ ap (λ (z : ℕ). set (set out (2 + k) (value_word (distance_cell z))) (2 + m + k) (mark_word (distance_cell z))) f)

  pub last_left : o.with_distance ≡ false → out ≡ lay_cells m k (last_at o v q vs ms) out
  unfolding lay_cells
  last_left e = rw e refl
