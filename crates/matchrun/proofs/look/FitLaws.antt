-- The tests of a look: a value on the other side of a key, and four rows at once. Assumes nothing.
use mathlib.Core.Path.{◌≡◌, refl}
use mathlib.Core.Bool.{Bool, true, false, cond, and-false}
use Prim.Native.Nat.{ℕ, ◌+◌, ◌*◌, ◌≤◌, ◌<◌}
use native.Mathlib.Omega.{arith}
use native.Mathlib.Decide.{ℕ_discrete}
use lib.IntN.{ℤ}
use lib.Signed.{lt_z}
use Rattle.frames.specs.Cells.{null, value, is_zero, cell_of}
use Rattle.order.proofs.OrderLaws.{cmp_z_is, less_greater}
use Rattle.order.specs.declared.options.Strategy.TheVariants.{Backward, Forward}
use Rattle.matching.specs.Moves.{fits_key}

-- ---- a value on the other side does not fit, whatever its mark
pub above_fits : (eq : Bool) (v a m : ℤ) → lt_z v a ≡ true → fits_key Backward eq (value v) (cell_of a m) ≡ false
above_fits eq v a m h = by (is_zero m)
  where
    by : (z : Bool) → fits_key Backward eq (value v) (cond z null (value a)) ≡ false
    by true = refl
    by false = rw (less_greater cmp_z_is v a (rw h)) (and-false eq)

pub below_fits : (eq : Bool) (v a m : ℤ) → lt_z a v ≡ true → fits_key Forward eq (value v) (cell_of a m) ≡ false
below_fits eq v a m h = by (is_zero m)
  where
    by : (z : Bool) → fits_key Forward eq (value v) (cond z null (value a)) ≡ false
    by true = refl
    by false = rw h (and-false eq)

-- ---- four rows from row n on, one w words behind the other
pub four_rows : (P : ℕ → Type 0) (n w b : ℕ) → P (n * w + b) → P (n * w + b + w) → P (n * w + b + w + w) → P (n * w + b + w + w + w) → (k : ℕ) → n ≤ k → k < n + 4 → P (k * w + b)
four_rows P n w b p q r s k l h = by (ℕ_discrete k n) (ℕ_discrete k (n + 1)) (ℕ_discrete k (n + 2))
  where
    by : Dec (k ≡ n) → Dec (k ≡ n + 1) → Dec (k ≡ n + 2) → P (k * w + b)
    by (yes e) y z = rw e p
    by (no x) (yes e) z = let f : (n + 1) * w + b ≡ n * w + b + w = omega arith in rw (e, f) q
    by (no x) (no y) (yes e) = let f : (n + 2) * w + b ≡ n * w + b + w + w = omega arith in rw (e, f) r
    by (no x) (no y) (no z) =
        let e : k ≡ n + 3 = omega arith in
        let f : (n + 3) * w + b ≡ n * w + b + w + w + w = omega arith in
        rw (e, f) s
