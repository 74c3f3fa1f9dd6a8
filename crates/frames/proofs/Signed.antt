-- What a test on signed words says of the numbers. A signed local holds bits, so the code's `a < b` is a test of `to_z w64 (of_z w64 a)`, and its `m == 0` one of `of_z w64 m`.
-- Assumes nothing.
use mathlib.Core.Path.{◌≡◌, refl}
use mathlib.Core.Bool.{Bool, true, false}
use Prim.Native.Nat.{ℕ, ◌<◌, ◌-◌, ◌^◌, suc}
use native.Mathlib.Omega.{arith}
use borrow.Author.Tests.{eq-eqb, ne_eqb}
use lib.Dec.{eqb}
use lib.IntN.{ℤ, pos, negsuc}
use lib.Signed.{lt_z, le_z, mag}
use mir.Syntax.{w64}
use mir.Val.{SFits, to_z, of_z}
use mir.Facts.{to_z-of_z}
use Rattle.frames.specs.Cells.{is_zero}

-- a word that was read out of a slice: `c.THING.given` is the bound that is asked
pub back : (z : ℤ) → mag z < 2 ^ 63 → to_z w64 (of_z w64 z) ≡ z
back z h = to_z-of_z {w = w64} {z = z} (record { sfits = h })

module _ {a b : ℤ} {t : Bool} (fa : SFits w64 a) (fb : SFits w64 b) where
  pub lt_flag : lt_z (to_z w64 (of_z w64 a)) (to_z w64 (of_z w64 b)) ≡ t → lt_z a b ≡ t
  lt_flag h = rw (to_z-of_z fa, to_z-of_z fb) at h

  pub le_flag : le_z (to_z w64 (of_z w64 a)) (to_z w64 (of_z w64 b)) ≡ t → le_z a b ≡ t
  le_flag h = rw (to_z-of_z fa, to_z-of_z fb) at h

pub zero_yes : {m : ℤ} → SFits w64 m → of_z w64 m ≡ 0 → is_zero m ≡ true
zero_yes {m = pos n} f h = eq-eqb n 0 h
zero_yes {m = negsuc n} f h = absurd (away n f.sfits h)
  where
    away : (n : ℕ) → n < 2 ^ 63 → 2 ^ 64 - suc n ≡ 0 → ⊥
    away n l e = omega arith

pub zero_no : {m : ℤ} → SFits w64 m → (of_z w64 m ≡ 0 → ⊥) → is_zero m ≡ false
zero_no {m = pos n} f h = ne_eqb n 0 h
zero_no {m = negsuc n} f h = refl

-- the test itself, as a bool that is returned
pub zero_flag : (m : ℤ) → mag m < 2 ^ 63 → eqb (of_z w64 m) 0 ≡ is_zero m
zero_flag (pos n) h = refl
zero_flag (negsuc n) h = let l : n < 2 ^ 63 = h in ne_eqb (2 ^ 64 - suc n) 0 (λ (e : 2 ^ 64 - suc n ≡ 0). omega arith)
