-- Keys that do not fall, row by row. Assumes nothing.
use mathlib.Core.Path.{◌≡◌, refl, sym, ◌∙◌}
use mathlib.Core.Bool.{Bool, true, false, not}
use Prim.Native.Nat.{ℕ, ◌+◌, ◌*◌, ◌≤◌, ◌<◌}
use native.Mathlib.Omega.{arith}
use native.Mathlib.Decide.{ℕ_discrete, dec_lt}
use Rattle.frames.specs.Cells.{Cell, null, value, Words, is_null}
use Rattle.order.specs.options.Options.{key_rule}
use Rattle.order.specs.Order.{cmp_cell, is_greater}
use Rattle.order.specs.Requires.{cell_at}
use Rattle.matchrun.specs.cursor.Risen.{Risen}

-- ---- the test of two keys, of which the first is there
-- A key that is not below one that is there is there too.
pub next_keyed : (a b : Cell) → is_null a ≡ false → is_greater (cmp_cell key_rule a b) ≡ false → is_null b ≡ false
next_keyed null b e f = cc
next_keyed (value x) null e f = cc
next_keyed (value x) (value y) e f = refl

-- The test told by its answer.
pub told_not : (r t : Bool) → r ≡ not t → r ≡ true → t ≡ false
told_not r true e f = sym f ∙ e
told_not r false e f = refl

pub told_yes : (r t : Bool) → r ≡ not t → r ≡ false → t ≡ true
told_yes r true e f = refl
told_yes r false e f = sym f ∙ e

-- The key at place p is not greater than that at place q, which is there.
abbrev pub Step : ℕ → ℕ → Words → Words → Type 0
Step p q vs ms = (is_greater (cmp_cell key_rule (cell_at p vs ms) (cell_at q vs ms)) ≡ false) × (is_null (cell_at q vs ms) ≡ false)

pub step_told : (vs ms : Words) (p q : ℕ) (r : Bool) → is_null (cell_at p vs ms) ≡ false → r ≡ not (is_greater (cmp_cell key_rule (cell_at p vs ms) (cell_at q vs ms))) → r ≡ true → Step p q vs ms
step_told vs ms p q r n e f =
    let g = told_not r (is_greater (cmp_cell key_rule (cell_at p vs ms) (cell_at q vs ms))) e f in
    (g, next_keyed (cell_at p vs ms) (cell_at q vs ms) n g)

-- Of a test that failed nothing is asked.
pub not_asked : {A : Type 0} → false ≡ true → A
not_asked e = let z : ◌≡◌ {A = ℕ} 0 1 = cc in absurd (omega arith)

-- ---- rows
module _ (w by : ℕ) (vs ms : Words) where
  pub risen_none : (i : ℕ) → is_null (cell_at (i * w + by) vs ms) ≡ false → Risen w by i vs ms i
  risen_none i e = record { start = omega arith; keyed = e; rose = λ k g h. absurd (omega arith) }

  -- One row more: row j, behind row i, whose key stands at place x.
  pub risen_more : (from i j x : ℕ) → Risen w by from vs ms i → j ≡ i + 1 → x ≡ i * w + by → is_greater (cmp_cell key_rule (cell_at x vs ms) (cell_at (x + w) vs ms)) ≡ false → Risen w by from vs ms j
  risen_more from i j x p e f g =
      record {
        start = omega (arith, p.start);
        keyed = rw e (rw (← y) (next_keyed (cell_at (i * w + by) vs ms) (cell_at (i * w + by + w) vs ms) p.keyed n));
        rose = λ k a b. by_row k a (ℕ_discrete k i) (omega (arith, b));
      }
    where
      y : i * w + by + w ≡ (i + 1) * w + by
      y = omega arith

      n : is_greater (cmp_cell key_rule (cell_at (i * w + by) vs ms) (cell_at (i * w + by + w) vs ms)) ≡ false
      n = rw (← f) g

      by_row : (k : ℕ) → from ≤ k → Dec (k ≡ i) → k ≤ i → is_greater (cmp_cell key_rule (cell_at (k * w + by) vs ms) (cell_at ((k + 1) * w + by) vs ms)) ≡ false
      by_row k a (yes c) b = rw (c, ← y) n
      by_row k a (no c) b = p.rose k a (omega arith)

  -- One stretch behind the other.
  pub risen_join : (from i j : ℕ) → Risen w by from vs ms i → Risen w by i vs ms j → Risen w by from vs ms j
  risen_join from i j p q =
      record {
        start = omega (arith, p.start, q.start);
        keyed = q.keyed;
        rose = λ k a b. by_row k a b (dec_lt k i);
      }
    where
      by_row : (k : ℕ) → from ≤ k → k < j → Dec (k < i) → is_greater (cmp_cell key_rule (cell_at (k * w + by) vs ms) (cell_at ((k + 1) * w + by) vs ms)) ≡ false
      by_row k a b (yes c) = p.rose k a c
      by_row k a b (no c) = q.rose k (omega arith) b
