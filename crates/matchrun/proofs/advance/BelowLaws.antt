-- Keys below a left key: the test of an inclusive bound by an exclusive one, four rows at once. Assumes nothing.
use mathlib.Core.Path.{◌≡◌, refl, sym, ap, ◌∙◌}
use mathlib.Core.Bool.{Bool, true, false, cond, not, ◌||◌}
use Prim.Native.Nat.{ℕ, zero, suc, ◌+◌, ◌-◌, ◌^◌, ◌≤◌, ◌<◌}
use native.Mathlib.Omega.{arith}
use native.Mathlib.Decide.{dec_lt}
use borrow.Author.Tests.{lt-ltb, le-ltb, ltb-false, not-true}
use lib.Dec.{ltb}
use lib.IntN.{ℤ, pos, negsuc, ◌+ℤ◌}
use lib.Signed.{lt_z, mag}
use Rattle.frames.specs.Cells.{value}
use Rattle.order.specs.Order.{is_less, is_equal}
use Rattle.order.proofs.OrderLaws.{cmp_z_is, less_greater}
use Rattle.std.specs.declared.cmp.Ordering.TheVariants.{Less, Equal, Greater}
use Rattle.matching.specs.Moves.{NotAbove}
use Rattle.matching.proofs.CursorLaws.{back_down}
use Rattle.matchrun.specs.advance.Below.{below, HasNext, last_true}

-- ---- a bound that counts too is the next one, which does not
lt_suc : (x y : ℕ) → ltb x (suc y) ≡ not (ltb y x)
lt_suc x y = by (dec_lt y x)
  where
    by : Dec (y < x) → ltb x (suc y) ≡ not (ltb y x)
    by (yes h) = rw (lt-ltb y x h, le-ltb x (suc y) (omega arith))
    by (no h) = rw (le-ltb y x (omega arith), lt-ltb x (suc y) (omega arith))

minus_next : (n : ℕ) → negsuc (suc n) +ℤ pos 1 ≡ negsuc n
minus_next n =
    let e : suc (suc n) - 2 ≡ n = omega arith in
    rw (lt-ltb 1 (suc (suc n)) (omega arith)) (ap negsuc e)

lt_next : (a v : ℤ) → lt_z a (v +ℤ pos 1) ≡ not (lt_z v a)
lt_next (pos a) (pos v) = let e : v + 1 ≡ suc v = omega arith in rw e (lt_suc a v)
lt_next (negsuc a) (pos v) = refl
lt_next (pos a) (negsuc zero) = le-ltb a 0 (omega arith)
lt_next (pos a) (negsuc (suc n)) = rw (minus_next n)
lt_next (negsuc a) (negsuc zero) = rw (le-ltb a 0 (omega arith))
lt_next (negsuc a) (negsuc (suc n)) = rw (minus_next n, lt_suc a n) (twice (ltb n a))
  where
    twice : (t : Bool) → t ≡ not (not t)
    twice true = refl
    twice false = refl

-- It is a word, unless the bound is the greatest one.
pub next_fits : (v : ℤ) → mag v < 2 ^ 63 → HasNext v → mag (v +ℤ pos 1) < 2 ^ 63
next_fits (pos n) h e = omega (arith, ltb-false 9223372036854775806 n e)
next_fits (negsuc zero) h e = omega arith
next_fits (negsuc (suc n)) h e = rw (minus_next n) (omega arith)

-- ---- below, by tests of words
pub below_strict : (v a : ℤ) → below false v a ≡ lt_z a v
below_strict v a = by (lt_z a v) (lt_z v a)
  where
    by : (t u : Bool) → (is_less (cond t Less (cond u Greater Equal)) || false) ≡ t
    by true u = refl
    by false true = refl
    by false false = refl

not_greater : (t u : Bool) → cond t Less (cond u Greater Equal) ≡ Greater → t ≡ false
not_greater true u e = cc
not_greater false u e = refl

pub below_at : (v a : ℤ) → below true v a ≡ not (lt_z v a)
below_at v a = by (lt_z a v) (lt_z v a) (λ e. not_greater (lt_z v a) (lt_z a v) (less_greater cmp_z_is a v (rw e)))
  where
    by : (t u : Bool) → (t ≡ true → u ≡ false) → (is_less (cond t Less (cond u Greater Equal)) || is_equal (cond t Less (cond u Greater Equal))) ≡ not u
    by true u f = rw (f refl)
    by false true f = refl
    by false false f = refl

pub below_next : (v a : ℤ) → below true v a ≡ lt_z a (v +ℤ pos 1)
below_next v a = below_at v a ∙ sym (lt_next a v)

-- ---- a key at most one that has a next has one too
pub next_before : (a b : ℤ) → NotAbove (value a) (value b) → HasNext b → HasNext a
next_before a b h e = not-true (lt_z g a) (sym (below_at g a) ∙ back_down true (value a) (value b) (value g) h (below_at g b ∙ rw e))
  where
    g : ℤ
    g = pos 9223372036854775806

-- ---- the first of four rows from row n on that does not pass the test, where the fourth does not and what is before one that does passes it too
module _ (P : ℕ → Bool) (n : ℕ) (down : (i k : ℕ) → n ≤ i → i ≤ k → k ≤ n + 3 → P k ≡ true → P i ≡ true) (stop : P (n + 3) ≡ false) where
  pub last_true_stops : (a b c : Bool) → P n ≡ a → P (n + 1) ≡ b → P (n + 2) ≡ c
      → ((k : ℕ) → n ≤ k → k < n + last_true a b c → P k ≡ true) × (P (n + last_true a b c) ≡ false) × (last_true a b c ≤ 3)
  last_true_stops a b true p q r = (λ k l h. down k (n + 2) l (omega (arith, h)) (omega arith) r, stop, omega arith)
  last_true_stops a true false p q r = (λ k l h. down k (n + 1) l (omega (arith, h)) (omega arith) q, r, omega arith)
  last_true_stops true false false p q r = (λ k l h. down k n l (omega (arith, h)) (omega arith) p, q, omega arith)
  last_true_stops false false false p q r =
      let e : n + 0 ≡ n = omega arith in
      (λ k l h. absurd (omega (arith, l, h)), rw e p, omega arith)
