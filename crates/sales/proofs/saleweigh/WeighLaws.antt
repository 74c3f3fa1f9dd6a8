-- Refusal 15, test by test; and how many rows a result has at most. Assumes nothing.
use mathlib.Core.Path.{◌≡◌, refl, sym, ◌∙◌}
use mathlib.Core.Bool.{Bool, true, false, ◌||◌}
use mathlib.Core.List.{List, [], ◌∷◌}
use mathlib.Core.Logic.{◌⊎◌, inl, inr}
use Prim.Native.Nat.{ℕ, zero, suc, ◌+◌, ◌*◌, ◌≤◌, ◌<◌}
use native.Mathlib.Omega.{arith}
use borrow.Author.Tests.{lt-ltb, le-ltb, leb-true, le-leb}
use lib.Dec.{ltb, leb}
use lib.IntN.{ℤ, nat_abs}
use lib.ListN.{length}
use Rattle.frames.specs.Cells.{Rows, Words, rows_of}
use Rattle.frames.specs.Frame.{frame_words}
use Rattle.order.specs.declared.options.Options.{Options}
use Rattle.std.specs.declared.cmp.Ordering.{Ordering}
use Rattle.std.specs.declared.cmp.Ordering.TheVariants.{Less, Equal, Greater}
use Rattle.takings.specs.Subtotals.{Subtotal, cmp_sub, plus, insert, add_all, subtotals_of, beyond_rows, beyond_number, sales_in, most_sales}
use Rattle.takings.specs.Sales.{Sale, amounts_of, nulls_of, beyond_amounts}
use Rattle.subtotals.specs.subtables.Sheet.{beyond_words, count_words, Counted}
use Rattle.subtotals.specs.takejudge.Judge.{Sheet}
use Rattle.subtotals.proofs.takejudge.JudgeLaws.{beyond_words_lem, sales_words}
use Rattle.sales.specs.salekind.Kinds.{Tallied}
use Rattle.sales.specs.saleweigh.Weighed.{beyond_sales, Weighed}

any_1 : (a b c d e : Bool) → (a ≡ true) ⊎ (d ≡ true) → true ≡ ((a || b || c) || (d || e))
any_1 true b c d e h = refl
any_1 false true c d e h = refl
any_1 false false true d e h = refl
any_1 false false false true e h = refl
any_1 false false false false e (inl h) = sym cc
any_1 false false false false e (inr h) = sym cc

any_2 : (a b c d e : Bool) → b ≡ true → true ≡ ((a || b || c) || (d || e))
any_2 true b c d e h = refl
any_2 false b c d e h = rw h

any_3 : (a b c d e : Bool) → c ≡ true → true ≡ ((a || b || c) || (d || e))
any_3 true b c d e h = refl
any_3 false true c d e h = refl
any_3 false false c d e h = rw h

any_5 : (a b c d e : Bool) → e ≡ true → true ≡ ((a || b || c) || (d || e))
any_5 true b c d e h = refl
any_5 false true c d e h = refl
any_5 false false true d e h = refl
any_5 false false false true e h = refl
any_5 false false false false e h = sym h

none : (a b c d e : Bool) → a ≡ false → b ≡ false → c ≡ false → d ≡ false → e ≡ false → false ≡ ((a || b || c) || (d || e))
none a b c d e h i j k l = rw (h, i, j, k, l)

module _ (o : Options) (w n : ℕ) (vs ms : Words) (s : Sheet o.by w n vs ms) (k : ℤ) (sales : List Sale) where
  abbrev A : Rows
  A = rows_of w n vs ms

  abbrev much : Bool
  much = ltb most_sales (sales_in (subtotals_of o A) + length (amounts_of sales))

  abbrev many : Bool
  many = ltb most_sales (nat_abs k + nulls_of sales)

  over : true ≡ beyond_sales o A k sales → Weighed o A k sales 0 0 true
  over e = record {
    beyond_is = e;
    sales_is = λ z. let y : ◌≡◌ {A = ℕ} 0 1 = cc in absurd (omega arith);
    nulls_is = λ z. let y : ◌≡◌ {A = ℕ} 0 1 = cc in absurd (omega arith);
    few_sales = omega arith;
    few_nulls = omega arith;
  }

  by_number : beyond_number k ≡ true → true ≡ beyond_sales o A k sales
  unfolding beyond_sales
  by_number e = any_2 (beyond_rows o A) (beyond_number k) (beyond_amounts (amounts_of sales)) much many e

  pub over_number : beyond_number k ≡ true → Weighed o A k sales 0 0 true
  over_number e = over (by_number e)

  by_rows : (beyond_rows o A ≡ true) ⊎ (much ≡ true) → true ≡ beyond_sales o A k sales
  unfolding beyond_sales
  by_rows e = any_1 (beyond_rows o A) (beyond_number k) (beyond_amounts (amounts_of sales)) much many e

  pub over_rows_lem : (r : ℕ) → Counted o.by w n vs 0 r → most_sales < r → Weighed o A k sales 0 0 true
  over_rows_lem r c h = over (by_rows (by (c.beyond h)))
    where
      by : (beyond_words o.by w n vs ≡ true) ⊎ (most_sales < 0 + count_words o.by w n vs) → (beyond_rows o A ≡ true) ⊎ (much ≡ true)
      by (inl e) = inl (beyond_words_lem o w n vs ms s ∙ e)
      by (inr e) = inr (lt-ltb most_sales (sales_in (subtotals_of o A) + length (amounts_of sales)) (omega (arith, sales_words o w n vs ms s)))

  by_amounts : beyond_amounts (amounts_of sales) ≡ true → true ≡ beyond_sales o A k sales
  unfolding beyond_sales
  by_amounts e = any_3 (beyond_rows o A) (beyond_number k) (beyond_amounts (amounts_of sales)) much many e

  by_nulls : many ≡ true → true ≡ beyond_sales o A k sales
  unfolding beyond_sales
  by_nulls e = any_5 (beyond_rows o A) (beyond_number k) (beyond_amounts (amounts_of sales)) much many e

  module _ (t j : ℕ) (b : Bool) (y : Tallied sales t j b) where
    pub over_amounts : b ≡ true → Weighed o A k sales 0 0 true
    over_amounts e = over (by_amounts (sym y.beyond_is ∙ e))

    module _ (f : b ≡ false) (r : ℕ) (c : Counted o.by w n vs 0 r) (h : r ≤ most_sales) where
      sum : sales_in (subtotals_of o A) + length (amounts_of sales) ≡ r + t
      sum = omega (arith, sales_words o w n vs ms s, (c.within h).1, y.sales_is f)

      pub over_sum : most_sales < r + t → Weighed o A k sales 0 0 true
      over_sum e = over (by_rows (inr (lt-ltb most_sales (sales_in (subtotals_of o A) + length (amounts_of sales)) (omega (arith, sum)))))

      pub over_nulls : most_sales < nat_abs k + j → Weighed o A k sales 0 0 true
      over_nulls e = over (by_nulls (lt-ltb most_sales (nat_abs k + nulls_of sales) (omega (arith, y.nulls_is f))))

      all_within : beyond_number k ≡ false → r + t ≤ most_sales → nat_abs k + j ≤ most_sales → false ≡ beyond_sales o A k sales
      unfolding beyond_sales
      all_within g a z =
          none (beyond_rows o A) (beyond_number k) (beyond_amounts (amounts_of sales)) much many (beyond_words_lem o w n vs ms s ∙ (c.within h).0) g (sym y.beyond_is ∙ f)
          (le-ltb most_sales (sales_in (subtotals_of o A) + length (amounts_of sales)) (omega (arith, sum))) (le-ltb most_sales (nat_abs k + nulls_of sales) (omega (arith, y.nulls_is f)))

      pub weighed : beyond_number k ≡ false → r + t ≤ most_sales → nat_abs k + j ≤ most_sales → Weighed o A k sales t j b
      weighed g a z = record { beyond_is = f ∙ all_within g a z; sales_is = y.sales_is; nulls_is = y.nulls_is; few_sales = y.few_sales; few_nulls = y.few_nulls }

-- ---- a result has at most a row more for each sale
insert_most : (o : Options) (u : Subtotal) (ts : List Subtotal) → length (insert o u ts) ≤ suc (length ts)
unfolding insert
insert_most o u [] = omega arith
insert_most o u (t ∷ ts) = by (cmp_sub o u t) (insert_most o u ts)
  where
    by : (z : Ordering) → length (insert o u ts) ≤ suc (length ts) → length {A = Subtotal} (elim z [ Less ↦ u ∷ t ∷ ts | Equal ↦ plus t u ∷ ts | Greater ↦ t ∷ insert o u ts ]) ≤ suc (length (t ∷ ts))
    by Less h = omega arith
    by Equal h = omega arith
    by Greater h = omega arith

all_most : (o : Options) (ts us : List Subtotal) → length (add_all o ts us) ≤ length ts + length us
unfolding add_all
all_most o ts [] = omega arith
all_most o ts (u ∷ us) = omega (arith, all_most o (insert o u ts) us, insert_most o u ts)

times_least : (p n w : ℕ) → p ≤ n → p * w ≤ n * w
times_least p n zero h = omega arith
times_least p n (suc w) h = let i = times_least p n w h in let a : p * suc w ≡ p + p * w = omega arith in let b : n * suc w ≡ n + n * w = omega arith in omega arith

pub room_all : (o : Options) (ts us : List Subtotal) (n s w room : ℕ) → length ts ≡ n → s ≡ length us → leb (frame_words (n + s) w) room ≡ true → true ≡ leb (frame_words (length (add_all o ts us)) w) room
room_all o ts us n s w room e f h =
    let a = leb-true (frame_words (n + s) w) room h in
    sym (le-leb (frame_words (length (add_all o ts us)) w) room (omega (arith, times_least (length (add_all o ts us)) (n + s) w (omega (arith, all_most o ts us)))))

pub at_least : (n w : ℕ) → 0 < w → n ≤ n * w
at_least zero w h = omega arith
at_least (suc n) w h = let i = at_least n w h in let e : suc n * w ≡ w + n * w = omega arith in omega arith
