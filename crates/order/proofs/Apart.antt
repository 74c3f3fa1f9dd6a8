-- The bits of a signed word as an unsigned number, and the difference of two of them.
-- Assumes nothing.
use mathlib.Core.Path.{◌≡◌, refl, ◌∙◌, sym}
use mathlib.Core.Bool.{true, false}
use Prim.Native.Nat.{ℕ, zero, suc, ◌<◌, ◌+◌, ◌-◌, ◌%◌, ◌^◌}
use native.Mathlib.Omega.{arith}
use native.Mathlib.Decide.{dec_lt}
use borrow.Author.Tests.{ltb-true, ltb-false, lt-ltb, le-ltb}
use lib.Dec.{T}
use lib.IntN.{ℤ, pos, negsuc, nat_abs, sub_ℕ, ◌-ℤ◌}
use lib.Signed.{lt_z, non_neg}
use mir.Syntax.{w64}
use mir.Val.{SFits, Fits, of_z}

pub low : (z : ℤ) → SFits w64 z → lt_z z (pos 0) ≡ true → 18446744073709551615 - of_z w64 z < 2 ^ 63
low (pos n) f h = let l = ltb-true n 0 h in omega arith
low (negsuc n) f h = let l = f.sfits in omega arith

pub in_word : (z : ℤ) → SFits w64 z → of_z w64 z < 2 ^ 64
in_word (pos n) f = let l = f.sfits in omega arith
in_word (negsuc n) f = omega arith

pub whole : (z : ℤ) → SFits w64 z → lt_z z (pos 0) ≡ false → T (non_neg z) × Fits w64 (nat_abs z)
whole (pos n) f h = let l = f.sfits in (tt, omega arith)
whole (negsuc n) f h = let e : ◌≡◌ {A = ℕ} 0 1 = cc in absurd (omega arith)

pub same : (z : ℤ) → lt_z z (pos 0) ≡ false → nat_abs z ≡ of_z w64 z
same (pos n) h = refl
same (negsuc n) h = let e : ◌≡◌ {A = ℕ} 0 1 = cc in absurd (omega arith)

-- ---- the distance, by the signs
sub_abs : (a b : ℕ) → nat_abs (sub_ℕ a b) ≡ (a - b) + (b - a)
sub_abs a b = by (dec_lt a b)
  where
    by : Dec (a < b) → nat_abs (sub_ℕ a b) ≡ (a - b) + (b - a)
    by (yes l) = simp (lt-ltb a b l) (omega arith)
    by (no g) = simp (le-ltb a b (omega arith)) (omega arith)

pub gap : ℤ → ℤ → ℕ
gap (pos a) (pos b) = (a - b) + (b - a)
gap (pos a) (negsuc b) = a + suc b
gap (negsuc a) (pos b) = suc a + b
gap (negsuc a) (negsuc b) = (a - b) + (b - a)

pub dist_gap : (a b : ℤ) → nat_abs (a -ℤ b) ≡ gap a b
unfolding gap
dist_gap (pos a) (pos zero) = omega arith
dist_gap (pos a) (pos (suc b)) = sub_abs a (suc b)
dist_gap (pos a) (negsuc b) = refl
dist_gap (negsuc a) (pos zero) = sub_abs zero (suc a) ∙ omega arith
dist_gap (negsuc a) (pos (suc b)) = omega arith
dist_gap (negsuc a) (negsuc b) = sub_abs (suc b) (suc a) ∙ omega arith

-- a is not below b: what wraps from b's bits to a's is their distance
apart : (a b : ℤ) (r : ℕ) → SFits w64 a → SFits w64 b → lt_z a b ≡ false → r < 2 ^ 64 → (r + of_z w64 b) % 2 ^ 64 ≡ of_z w64 a → r ≡ gap a b
unfolding gap
apart (pos a) (pos b) r f g h l e = let m = f.sfits in let n = g.sfits in let o = ltb-false a b h in omega arith
apart (pos a) (negsuc b) r f g h l e = let m = f.sfits in let n = g.sfits in omega arith
apart (negsuc a) (pos b) r f g h l e = let e : ◌≡◌ {A = ℕ} 0 1 = cc in absurd (omega arith)
apart (negsuc a) (negsuc b) r f g h l e = let m = f.sfits in let n = g.sfits in let o = ltb-false b a h in omega arith

gap_comm : (a b : ℤ) → gap a b ≡ gap b a
unfolding gap
gap_comm (pos a) (pos b) = omega arith
gap_comm (pos a) (negsuc b) = omega arith
gap_comm (negsuc a) (pos b) = omega arith
gap_comm (negsuc a) (negsuc b) = omega arith

flag_no : (a b : ℤ) → lt_z a b ≡ true → lt_z b a ≡ false
flag_no (pos a) (pos b) h = le-ltb b a (omega (arith, ltb-true a b h))
flag_no (pos a) (negsuc b) h = let e : ◌≡◌ {A = ℕ} 0 1 = cc in absurd (omega arith)
flag_no (negsuc a) (pos b) h = refl
flag_no (negsuc a) (negsuc b) h = le-ltb a b (omega (arith, ltb-true b a h))

module _ {a b : ℤ} (r : ℕ) (fa : SFits w64 a) (fb : SFits w64 b) (fr : r < 2 ^ 64) where
  pub dist_above : lt_z a b ≡ false → (r + of_z w64 b) % 2 ^ 64 ≡ of_z w64 a → r ≡ nat_abs (a -ℤ b)
  dist_above h e = apart a b r fa fb h fr e ∙ sym (dist_gap a b)

  pub dist_below : lt_z a b ≡ true → (r + of_z w64 a) % 2 ^ 64 ≡ of_z w64 b → r ≡ nat_abs (a -ℤ b)
  dist_below h e = apart b a r fb fa (flag_no a b h) fr e ∙ gap_comm b a ∙ sym (dist_gap a b)
