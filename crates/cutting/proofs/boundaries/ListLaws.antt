-- A list of boundaries: nulls by their marks, the order by neighbours, and what is refused. Assumes nothing.
use mathlib.Core.Path.{◌≡◌, refl}
use mathlib.Core.Bool.{true, false, not, ◌&&◌, ◌||◌}
use mathlib.Core.List.{[], ◌∷◌}
use Prim.Native.Nat.{ℕ, zero, suc, ◌+◌, ◌-◌, ◌≤◌, ◌<◌}
use native.Mathlib.Omega.{arith}
use borrow.Author.Tests.{lt-ltb, le-ltb}
use lib.Dec.{ltb, eqb}
use lib.ListN.{length}
use Rattle.frames.specs.Cells.{Rows, Words, rows_of, row_from}
use Rattle.order.specs.declared.options.Options.{Options}
use Rattle.order.specs.Order.{cmp_group, is_less}
use Rattle.order.proofs.RowLaws.{rest, rest_more}
use Rattle.rows.specs.nulls.Nulls.{any_null}
use Rattle.cutting.specs.boundaries.Boundaries.{ascending, bad_boundaries}

-- ---- the order, by neighbours
module _ (o : Options) (w : ℕ) (vs ms : Words) where
  pub rising_more : (p n : ℕ) → 1 < n → ascending o (rest w p n vs ms) ≡ (is_less (cmp_group o (row_from w p vs ms) (row_from w (p + w) vs ms)) && ascending o (rest w (p + w) (n - 1) vs ms))
  unfolding ascending
  rising_more p n h = rw (rest_more o w vs ms p n (omega arith), rest_more o w vs ms (p + w) (n - 1) (omega arith))

  pub rising_few : (p n : ℕ) → n ≤ 1 → ascending o (rest w p n vs ms) ≡ true
  unfolding ascending rest rows_of
  rising_few p zero h = refl
  rising_few p (suc zero) h = refl
  rising_few p (suc (suc n)) h = absurd (omega arith)

-- ---- what is refused
module _ (o : Options) (gs : Rows) where
  pub too_many : 16 < length gs → bad_boundaries o gs ≡ true
  unfolding bad_boundaries
  too_many h = rw (lt-ltb 16 (length gs) h)

  pub by_rows : length gs ≤ 16 → eqb o.by 0 ≡ false → bad_boundaries o gs ≡ (any_null o.by gs || not (ascending o gs))
  unfolding bad_boundaries
  by_rows h e = rw (le-ltb 16 (length gs) h, e)

-- Without by-columns a list of any boundaries is refused.
pub no_columns : (o : Options) (gs : Rows) → length gs ≤ 16 → o.by ≡ 0 → bad_boundaries o gs ≡ ltb 0 (length gs)
unfolding bad_boundaries any_null ascending
no_columns o [] h e = rw e
no_columns o (g ∷ gs) h e = let f : eqb o.by 0 ≡ true = rw e in let k : ltb 0 (suc (length gs)) ≡ true = lt-ltb 0 (suc (length gs)) (omega arith) in rw (le-ltb 16 (suc (length gs)) h, f, k)
