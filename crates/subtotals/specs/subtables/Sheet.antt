-- What the judges of subtotal tables ask and answer. Assumes nothing.
use Rattle.std.specs.Prelude.{◌≡◌, Bool, true, false, ◌||◌, ◌⊎◌, ℕ, zero, suc, ◌+◌, ◌*◌, ◌≤◌, ◌<◌, ltb, ℤ, pos, nat_abs, length, get_or, drop}
use Rattle.std.specs.Int.Signed.{lt_z}
use Rattle.frames.specs.Cells.{Words}
use Rattle.takings.specs.Subtotals.{most_amount, most_sales}

-- A count below 1, or a total larger in size than the count times 1,000,000,000.
unfoldable pub beyond_pair : ℤ → ℤ → Bool
beyond_pair total count = lt_z count (pos 1) || ltb (nat_abs count * most_amount) (nat_abs total)

-- The words of n rows, by-values, total and sale count, one behind the other: whether one is beyond its bounds, and the sum of the counts.
unfoldable pub beyond_words : ℕ → ℕ → ℕ → Words → Bool
beyond_words b w zero vs = false
beyond_words b w (suc n) vs = beyond_pair (get_or vs b (pos 0)) (get_or vs (b + 1) (pos 0)) || beyond_words b w n (drop w vs)

unfoldable pub count_words : ℕ → ℕ → ℕ → Words → ℕ
count_words b w zero vs = 0
count_words b w (suc n) vs = nat_abs (get_or vs (b + 1) (pos 0)) + count_words b w n (drop w vs)

-- The words of n rows are there.
pub record Sheet (b w n : ℕ) (vs : Words) : Type 0 where
  pub wide : suc b < w
  pub values : n * w ≤ length vs

-- A sum with one more row.
pub record Summed (sum : ℕ) (total count : ℤ) (r : ℕ) : Type 0 where
  pub within : r ≤ most_sales → (beyond_pair total count ≡ false) × (r ≡ sum + nat_abs count)
  pub beyond : most_sales < r → (beyond_pair total count ≡ true) ⊎ (most_sales < sum + nat_abs count)

-- A sum with n more rows.
pub record Counted (b w n : ℕ) (vs : Words) (sum r : ℕ) : Type 0 where
  pub within : r ≤ most_sales → (beyond_words b w n vs ≡ false) × (r ≡ sum + count_words b w n vs)
  pub beyond : most_sales < r → (beyond_words b w n vs ≡ true) ⊎ (most_sales < sum + count_words b w n vs)
