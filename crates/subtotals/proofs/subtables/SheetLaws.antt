-- The judges' walks, and what they say of a table's rows. Assumes nothing.
use mathlib.Core.Path.{◌≡◌, refl, sym, ap, ◌∙◌}
use mathlib.Core.Bool.{Bool, true, false, ◌&&◌, ◌||◌}
use mathlib.Core.List.{List}
use mathlib.Core.Logic.{◌⊎◌, inl, inr}
use Prim.Native.Nat.{ℕ, zero, suc, ◌+◌, ◌-◌, ◌*◌, ◌≤◌, ◌<◌}
use native.Mathlib.Omega.{arith}
use borrow.Author.Tests.{lt-ltb, le-ltb, ltb-true, ltb-false}
use lib.Dec.{T}
use lib.IntN.{ℤ, pos, negsuc, nat_abs, ◌-ℤ◌, +ℤ_idr}
use lib.Signed.{lt_z, non_neg}
use lib.ListN.{take, drop, get_or}
use lib.Seq.{drop-drop, get_or-take, get_or-drop}
use Rattle.frames.specs.Cells.{Cell, null, Words, rows_of, row_from}
use Rattle.order.specs.Order.{cmp_first, cmp_group, is_less}
use Rattle.order.specs.declared.options.Options.{Options}
use Rattle.std.specs.declared.cmp.Ordering.{Ordering}
use Rattle.std.specs.declared.cmp.Ordering.TheVariants.{Less, Equal, Greater}
use Rattle.std.specs.Ordering.{is_lt}
use Rattle.order.proofs.RowLaws.{rest, rest_more}
use Rattle.takings.specs.Subtotals.{subtotals_of, ascending, most_amount, most_sales}
use Rattle.subtotals.specs.subtables.Sheet.{beyond_pair, beyond_words, count_words, Summed, Counted}

-- ---- a group's order reads its by-values alone
first_taken : (o : Options) (b j : ℕ) (r s : List Cell) → j ≤ b → cmp_first o j (take b r) (take b s) ≡ cmp_first o j r s
unfolding cmp_first
first_taken o b zero r s h = refl
first_taken o b (suc j) r s h = rw (first_taken o b j r s (omega arith), get_or-take b r j null (omega arith), get_or-take b s j null (omega arith))

pub group_taken : (o : Options) (r s : List Cell) → cmp_group o (take o.by r) (take o.by s) ≡ cmp_group o r s
group_taken o r s = first_taken o o.by o.by r s (omega arith)

module _ (o : Options) (w : ℕ) (vs ms : Words) where
  pub rising_more : (p n : ℕ) → 1 < n → ascending o (subtotals_of o (rest w p n vs ms)) ≡ (is_less (cmp_group o (row_from w p vs ms) (row_from w (p + w) vs ms)) && ascending o (subtotals_of o (rest w (p + w) (n - 1) vs ms)))
  unfolding ascending subtotals_of
  rising_more p n h = rw (rest_more o w vs ms p n (omega arith), rest_more o w vs ms (p + w) (n - 1) (omega arith), group_taken o (row_from w p vs ms) (row_from w (p + w) vs ms))

  pub rising_few : (p n : ℕ) → n ≤ 1 → ascending o (subtotals_of o (rest w p n vs ms)) ≡ true
  unfolding ascending subtotals_of rest rows_of
  rising_few p zero h = refl
  rising_few p (suc zero) h = refl
  rising_few p (suc (suc n)) h = absurd (omega arith)

-- The test for lesser groups, as std has it.
pub less_by : (x : Ordering) → is_less x ≡ is_lt x
less_by Less = refl
less_by Equal = refl
less_by Greater = refl

-- ---- a row's total and count
pub pair_low : (total count : ℤ) (sum r : ℕ) → lt_z count (pos 1) ≡ true → r ≡ most_sales + 1 → Summed sum total count r
unfolding beyond_pair
pair_low total count sum r e h = record { within = λ l. absurd (omega arith); beyond = λ l. inl (rw e) }

high : (count : ℤ) → lt_z (pos most_sales) count ≡ true → most_sales < nat_abs count
high (pos n) e = ltb-true most_sales n e
high (negsuc n) e = let z : ◌≡◌ {A = ℕ} 0 1 = cc in absurd (omega arith)

pub pair_high : (total count : ℤ) (sum r : ℕ) → lt_z (pos most_sales) count ≡ true → r ≡ most_sales + 1 → Summed sum total count r
pair_high total count sum r e h = let l = high count e in record { within = λ l. absurd (omega arith); beyond = λ k. inr (omega arith) }

-- A count from 1 to 2^31.
pub few_sold : (count : ℤ) → lt_z count (pos 1) ≡ false → lt_z (pos most_sales) count ≡ false → (T (non_neg count)) × (1 ≤ nat_abs count) × (nat_abs count ≤ most_sales)
few_sold (pos n) e f = (tt, ltb-false n 1 e, ltb-false most_sales n f)
few_sold (negsuc n) e f = let z : ◌≡◌ {A = ℕ} 0 1 = cc in absurd (omega arith)

no_less : (total : ℤ) → nat_abs (total -ℤ pos 0) ≡ nat_abs total
no_less total = ap nat_abs (+ℤ_idr total)

pub pair_over : (total count : ℤ) (sum r : ℕ) → lt_z count (pos 1) ≡ false → nat_abs count * most_amount < nat_abs (total -ℤ pos 0) → r ≡ most_sales + 1 → Summed sum total count r
unfolding beyond_pair
pair_over total count sum r e l h =
    record { within = λ l. absurd (omega arith); beyond = λ k. inl (rw (e, lt-ltb (nat_abs count * most_amount) (nat_abs total) (rw (no_less total) at l))) }

pub pair_within : (total count : ℤ) (sum r : ℕ) → lt_z count (pos 1) ≡ false → nat_abs (total -ℤ pos 0) ≤ nat_abs count * most_amount → r ≡ sum + nat_abs count → Summed sum total count r
unfolding beyond_pair
pair_within total count sum r e l h = record {
  within = λ k. (rw (e, le-ltb (nat_abs count * most_amount) (nat_abs total) (rw (no_less total) at l)), h);
  beyond = λ k. inr (omega arith);
}

-- ---- the rows' totals and counts, one by one
module _ (b w : ℕ) (vs : Words) where
  abbrev pub beyond_from : ℕ → ℕ → Bool
  beyond_from i n = beyond_words b w (n - i) (drop (i * w) vs)

  abbrev pub count_from : ℕ → ℕ → ℕ
  count_from i n = count_words b w (n - i) (drop (i * w) vs)

  beyond_more : (i n : ℕ) → i < n → beyond_from i n ≡ (beyond_pair (get_or vs (i * w + b) (pos 0)) (get_or vs (i * w + b + 1) (pos 0)) || beyond_from (i + 1) n)
  unfolding beyond_words
  beyond_more i n h =
      let e : n - i ≡ suc (n - (i + 1)) = omega arith in
      let z : (i + 1) * w ≡ i * w + w = omega arith in
      let x : i * w + b + 1 ≡ i * w + (b + 1) = omega arith in
      rw (e, z, x, ← drop-drop w (i * w) vs, ← get_or-drop (i * w) vs b (pos 0), ← get_or-drop (i * w) vs (b + 1) (pos 0))

  count_more : (i n : ℕ) → i < n → count_from i n ≡ nat_abs (get_or vs (i * w + b + 1) (pos 0)) + count_from (i + 1) n
  unfolding count_words
  count_more i n h =
      let e : n - i ≡ suc (n - (i + 1)) = omega arith in
      let z : (i + 1) * w ≡ i * w + w = omega arith in
      let x : i * w + b + 1 ≡ i * w + (b + 1) = omega arith in
      rw (e, z, x, ← drop-drop w (i * w) vs, ← get_or-drop (i * w) vs (b + 1) (pos 0))

  -- What a walk that has come to row i, with the sum s, knows.
  pub record Walked (n sum i s : ℕ) : Type 0 where
    pub few : s ≤ most_sales
    pub beyond : beyond_from 0 n ≡ beyond_from i n
    pub counted : sum + count_from 0 n ≡ s + count_from i n

  pub walk_on_lem : (n sum i s r : ℕ) → i < n → Walked n sum i s → Summed s (get_or vs (i * w + b) (pos 0)) (get_or vs (i * w + b + 1) (pos 0)) r → r ≤ most_sales → Walked n sum (i + 1) r
  walk_on_lem n sum i s r l k q h =
      let p = q.within h in
      record { few = h; beyond = k.beyond ∙ beyond_more i n l ∙ rw p.0; counted = omega (arith, k.counted, count_more i n l, p.1) }

  all_words : (n : ℕ) → (beyond_from 0 n ≡ beyond_words b w n vs) × (count_from 0 n ≡ count_words b w n vs)
  all_words n =
      let z : n - 0 ≡ n = omega arith in
      let x : 0 * w ≡ 0 = omega arith in
      (rw (z, x), rw (z, x))

  pub walk_breaks : (n sum i s r : ℕ) → i < n → Walked n sum i s → Summed s (get_or vs (i * w + b) (pos 0)) (get_or vs (i * w + b + 1) (pos 0)) r → most_sales < r → Counted b w n vs sum r
  walk_breaks n sum i s r l k q h = record { within = λ g. absurd (omega arith); beyond = λ g. by (q.beyond h) }
    where
      by : (beyond_pair (get_or vs (i * w + b) (pos 0)) (get_or vs (i * w + b + 1) (pos 0)) ≡ true) ⊎ (most_sales < s + nat_abs (get_or vs (i * w + b + 1) (pos 0))) → (beyond_words b w n vs ≡ true) ⊎ (most_sales < sum + count_words b w n vs)
      by (inl d) = inl (sym (all_words n).0 ∙ k.beyond ∙ beyond_more i n l ∙ rw d)
      by (inr d) = inr (omega (arith, (all_words n).1, k.counted, count_more i n l))

  none_left : (n : ℕ) → (beyond_from n n ≡ false) × (count_from n n ≡ 0)
  unfolding beyond_words count_words
  none_left n = let z : n - n ≡ 0 = omega arith in (rw z, rw z)

  pub walk_ends : (n sum i s : ℕ) → i ≡ n → Walked n sum i s → Counted b w n vs sum s
  walk_ends n sum i s l k =
      let z = none_left n in
      let f = k.few in
      record {
        within = λ g. (sym (all_words n).0 ∙ k.beyond ∙ rw l z.0, omega (arith, (all_words n).1, k.counted, ap (λ (j : ℕ). count_from j n) l, z.1));
        beyond = λ g. absurd (omega arith);
      }
