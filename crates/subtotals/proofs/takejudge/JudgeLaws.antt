-- What the judges' walks over words say of a table's rows. Assumes nothing.
use mathlib.Core.Path.{◌≡◌, refl, sym, ap, ◌∙◌}
use mathlib.Core.Bool.{Bool, true, false, not, ◌&&◌, ◌||◌}
use mathlib.Core.Logic.{◌⊎◌, inl, inr}
use Prim.Native.Nat.{ℕ, zero, suc, ◌+◌, ◌-◌, ◌*◌, ◌≤◌, ◌<◌}
use native.Mathlib.Omega.{arith}
use borrow.Author.Tests.{lt-ltb, le-ltb, ltb-false}
use lib.Dec.{T, ltb}
use lib.IntN.{ℤ, pos, negsuc, nat_abs}
use lib.Signed.{lt_z, non_neg}
use lib.ListN.{drop, get_or}
use lib.Seq.{drop-drop, get_or-drop}
use Rattle.frames.specs.Cells.{Cell, null, value, cell, value_word, Rows, Words, rows_of, row_from}
use Rattle.order.specs.declared.options.Options.{Options}
use Rattle.order.proofs.RowLaws.{row_cell, row_room}
use Rattle.tables.specs.Requires.{rest}
use Rattle.tables.proofs.CellLaws.{rest_more, rest_none, fine_at}
use Rattle.rows.specs.nulls.Nulls.{any_null}
use Rattle.takings.specs.Subtotals.{ascending, subtotals_of, number_in, beyond_row, beyond_rows, beyond_number, sales_in, most_sales}
use Rattle.subtotals.specs.subtables.Sheet.{beyond_pair, beyond_words, count_words, Counted}
use Rattle.subtotals.specs.takejudge.Judge.{Sheet, fine_rows, beyond_accounts}

-- ---- totals and counts
number_word_lem : (x : Cell) → number_in x ≡ value_word x
number_word_lem null = refl
number_word_lem (value v) = refl

module _ (o : Options) (w n : ℕ) (vs ms : Words) (s : Sheet o.by w n vs ms) where
  number_at : (i j : ℕ) → i < n → j < w → number_in (cell j (row_from w (i * w) vs ms)) ≡ get_or (drop (i * w) vs) j (pos 0)
  number_at i j l h =
      let r = row_room i n w l in
      let v = s.values in
      let m = s.marks in
      number_word_lem (cell j (row_from w (i * w) vs ms)) ∙ ap value_word (row_cell w (i * w) j vs ms h (omega arith)) ∙ (fine_at vs ms (i * w + j) (omega arith) (omega arith) s.fine).0 ∙ sym (get_or-drop (i * w) vs j (pos 0))

  beyond_row_lem : (i : ℕ) → i < n → beyond_row o (row_from w (i * w) vs ms) ≡ beyond_pair (get_or (drop (i * w) vs) o.by (pos 0)) (get_or (drop (i * w) vs) (o.by + 1) (pos 0))
  unfolding beyond_row beyond_pair
  beyond_row_lem i l =
      let e = s.width in
      let x : suc o.by ≡ o.by + 1 = omega arith in
      rw (number_at i o.by l (omega arith), number_at i (suc o.by) l (omega arith), x)

  next_words : (i : ℕ) → drop w (drop (i * w) vs) ≡ drop ((i + 1) * w) vs
  next_words i = let z : (i + 1) * w ≡ i * w + w = omega arith in drop-drop w (i * w) vs ∙ rw z

  beyond_from : (d i : ℕ) → i + d ≡ n → beyond_rows o (rest w i n vs ms) ≡ beyond_words o.by w d (drop (i * w) vs)
  unfolding beyond_rows beyond_words
  beyond_from zero i e = rw (rest_none w i n vs ms (omega arith))
  beyond_from (suc d) i e = rw (rest_more w i n vs ms (omega arith), beyond_row_lem i (omega arith), beyond_from d (i + 1) (omega arith), next_words i)

  sales_from : (d i : ℕ) → i + d ≡ n → sales_in (subtotals_of o (rest w i n vs ms)) ≡ count_words o.by w d (drop (i * w) vs)
  unfolding sales_in subtotals_of count_words
  sales_from zero i e = rw (rest_none w i n vs ms (omega arith))
  sales_from (suc d) i e =
      let f = s.width in
      let x : suc o.by ≡ o.by + 1 = omega arith in
      rw (rest_more w i n vs ms (omega arith), number_at i (suc o.by) (omega arith) (omega arith), x, sales_from d (i + 1) (omega arith), next_words i)

  all_rows : rest w 0 n vs ms ≡ rows_of w n vs ms
  all_rows = let z : n - 0 ≡ n = omega arith in let x : 0 * w ≡ 0 = omega arith in rw (z, x)

  pub beyond_words_lem : beyond_rows o (rows_of w n vs ms) ≡ beyond_words o.by w n vs
  beyond_words_lem = let x : 0 * w ≡ 0 = omega arith in ap (beyond_rows o) (sym all_rows) ∙ beyond_from n 0 (omega arith) ∙ rw x

  pub sales_words : sales_in (subtotals_of o (rows_of w n vs ms)) ≡ count_words o.by w n vs
  sales_words = let x : 0 * w ≡ 0 = omega arith in ap (λ (z : Rows). sales_in (subtotals_of o z)) (sym all_rows) ∙ sales_from n 0 (omega arith) ∙ rw x

-- ---- 14
null_first_told : (a b : Bool) → a ≡ true → false ≡ (not a && b)
null_first_told true b e = refl
null_first_told false b e = cc

rest_told : (a b c : Bool) → a ≡ false → c ≡ b → c ≡ (not a && b)
rest_told true b c e f = cc
rest_told false b c e f = f

pub fine_null : (o : Options) (w : ℕ) (rs : Rows) → any_null w rs ≡ true → false ≡ fine_rows o w rs
unfolding fine_rows
fine_null o w rs e = null_first_told (any_null w rs) (ascending o (subtotals_of o rs)) e

pub fine_rest : (o : Options) (w : ℕ) (rs : Rows) (c : Bool) → any_null w rs ≡ false → c ≡ ascending o (subtotals_of o rs) → c ≡ fine_rows o w rs
unfolding fine_rows
fine_rest o w rs c e f = rest_told (any_null w rs) (ascending o (subtotals_of o rs)) c e f

-- ---- numbers
pub number_low : (k : ℤ) → lt_z k (pos 0) ≡ true → true ≡ beyond_number k
number_low k e = rw e

pub number_high : (k : ℤ) → lt_z k (pos 0) ≡ false → lt_z (pos most_sales) k ≡ beyond_number k
number_high (pos n) e = rw e
number_high (negsuc n) e = cc

pub number_fine : (k : ℤ) → beyond_number k ≡ false → T (non_neg k) × (nat_abs k ≤ most_sales)
number_fine (pos n) e = (tt, ltb-false most_sales n (or_second (ltb n 0) (ltb most_sales n) e))
  where
    or_second : (a b : Bool) → (a || b) ≡ false → b ≡ false
    or_second true b e = cc
    or_second false b e = e
number_fine (negsuc n) e = let z : ◌≡◌ {A = ℕ} 0 1 = cc in absurd (omega arith)

-- ---- 15 of two accounts
any_third : (x y k l s t : Bool) → k ≡ true → true ≡ ((x || y || k || l) || (s || t))
any_third true y k l s t e = refl
any_third false true k l s t e = refl
any_third false false k l s t e = rw e

any_fourth : (x y k l s t : Bool) → l ≡ true → true ≡ ((x || y || k || l) || (s || t))
any_fourth true y k l s t e = refl
any_fourth false true k l s t e = refl
any_fourth false false true l s t e = refl
any_fourth false false false l s t e = rw e

any_first : (x y k l s t : Bool) → (x ≡ true) ⊎ ((y ≡ true) ⊎ (s ≡ true)) → true ≡ ((x || y || k || l) || (s || t))
any_first true y k l s t e = refl
any_first false true k l s t e = refl
any_first false false true l s t e = refl
any_first false false false true s t e = refl
any_first false false false false true t e = refl
any_first false false false false false t (inl e) = sym (cc)
any_first false false false false false t (inr (inl e)) = sym (cc)
any_first false false false false false t (inr (inr e)) = sym (cc)

only_last : (x y k l s t : Bool) → x ≡ false → y ≡ false → k ≡ false → l ≡ false → s ≡ false → t ≡ ((x || y || k || l) || (s || t))
only_last x y k l s t a b c d e = rw (a, b, c, d, e)

module _ (o : Options) (w na : ℕ) (av am : Words) (sa : Sheet o.by w na av am) (nb : ℕ) (bv bm : Words) (sb : Sheet o.by w nb bv bm) (k l : ℤ) where
  abbrev A : Rows
  A = rows_of w na av am

  abbrev B : Rows
  B = rows_of w nb bv bm

  abbrev much : Bool
  much = ltb most_sales (sales_in (subtotals_of o A) + sales_in (subtotals_of o B))

  abbrev many : Bool
  many = ltb most_sales (nat_abs k + nat_abs l)

  pub by_number : beyond_number k ≡ true → true ≡ beyond_accounts o A k B l
  unfolding beyond_accounts
  by_number e = any_third (beyond_rows o A) (beyond_rows o B) (beyond_number k) (beyond_number l) much many e

  pub by_other : beyond_number l ≡ true → true ≡ beyond_accounts o A k B l
  unfolding beyond_accounts
  by_other e = any_fourth (beyond_rows o A) (beyond_rows o B) (beyond_number k) (beyond_number l) much many e

  too_much : most_sales < count_words o.by w na av + count_words o.by w nb bv → much ≡ true
  too_much h = lt-ltb most_sales (sales_in (subtotals_of o A) + sales_in (subtotals_of o B)) (omega (arith, sales_words o w na av am sa, sales_words o w nb bv bm sb))

  pub by_first : (r : ℕ) → Counted o.by w na av 0 r → most_sales < r → true ≡ beyond_accounts o A k B l
  unfolding beyond_accounts
  by_first r c h = any_first (beyond_rows o A) (beyond_rows o B) (beyond_number k) (beyond_number l) much many (by (c.beyond h))
    where
      by : (beyond_words o.by w na av ≡ true) ⊎ (most_sales < 0 + count_words o.by w na av) → (beyond_rows o A ≡ true) ⊎ ((beyond_rows o B ≡ true) ⊎ (much ≡ true))
      by (inl e) = inl (beyond_words_lem o w na av am sa ∙ e)
      by (inr e) = inr (inr (too_much (omega arith)))

  pub by_second : (r q : ℕ) → Counted o.by w na av 0 r → r ≤ most_sales → Counted o.by w nb bv r q → most_sales < q → true ≡ beyond_accounts o A k B l
  unfolding beyond_accounts
  by_second r q c f d h = any_first (beyond_rows o A) (beyond_rows o B) (beyond_number k) (beyond_number l) much many (by (d.beyond h))
    where
      by : (beyond_words o.by w nb bv ≡ true) ⊎ (most_sales < r + count_words o.by w nb bv) → (beyond_rows o A ≡ true) ⊎ ((beyond_rows o B ≡ true) ⊎ (much ≡ true))
      by (inl e) = inr (inl (beyond_words_lem o w nb bv bm sb ∙ e))
      by (inr e) = inr (inr (too_much (omega (arith, (c.within f).1))))

  pub by_sum : (r q : ℕ) → beyond_number k ≡ false → beyond_number l ≡ false → Counted o.by w na av 0 r → r ≤ most_sales → Counted o.by w nb bv r q → q ≤ most_sales → many ≡ beyond_accounts o A k B l
  unfolding beyond_accounts
  by_sum r q a b c f d h =
      let x = c.within f in
      let y = d.within h in
      only_last (beyond_rows o A) (beyond_rows o B) (beyond_number k) (beyond_number l) much many (beyond_words_lem o w na av am sa ∙ x.0) (beyond_words_lem o w nb bv bm sb ∙ y.0) a b
      (le-ltb most_sales (sales_in (subtotals_of o A) + sales_in (subtotals_of o B)) (omega (arith, sales_words o w na av am sa, sales_words o w nb bv bm sb, x.1, y.1)))
