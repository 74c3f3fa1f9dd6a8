-- What adding a frame's sales by rows answers and leaves, from what its parts do. Assumes nothing.
use Rattle.std.specs.Prelude.{Result, Err, Ok}
use mathlib.Core.Path.{◌≡◌, refl, sym, ap, ◌∙◌}
use mathlib.Core.Bool.{Bool, true, false, cond, not, ◌||◌}
use mathlib.Core.List.{List, [], ◌∷◌, map}
use Prim.Native.Nat.{ℕ, suc, ◌+◌, ◌*◌, ◌^◌, ◌≤◌, ◌<◌}
use native.Mathlib.Omega.{arith}
use borrow.Author.Tests.{lt-ltb, le-ltb, ltb-false, leb-true, leb-false}
use lib.Dec.{ltb, leb}
use lib.IntN.{ℤ, pos, negsuc, nat_abs, ◌+ℤ◌}
use lib.Signed.{mag}
use lib.ListN.{length, drop, length-drop}
use Rattle.frames.specs.Cells.{Cell, null, value, Rows, Words, rows_of}
use Rattle.frames.specs.Frame.{frame_words}
use Rattle.frames.proofs.BoolLaws.{and-true}
use Rattle.order.specs.declared.options.Options.{Options}
use Rattle.frames.specs.declared.refusals.Refusal.{Refusal}
use Rattle.frames.specs.declared.refusals.Refusal.TheVariants.{Unsorted, Beyond, NoRoom}
use Rattle.tables.specs.Table.{laid, table_of}
use Rattle.rows.specs.nulls.Nulls.{any_null}
use Rattle.rows.proofs.nulls.NullLaws.{rows_zero}
use Rattle.takings.specs.Subtotals.{Subtotal, add_all, ascending, row_of, subtotals_of, beyond_rows, beyond_number, sales_in, most_sales}
use Rattle.takings.specs.Sales.{Sale, with_amount, sales_of, amounts_of, nulls_of, beyond_amounts}
use Rattle.takings.specs.Calls.{table_width, result, leave}
use Rattle.takings.specs.declared.Taken.{Taken}
use Rattle.takings.specs.Calls.{taken_of}
use Rattle.takings.proofs.SubtotalLaws.{all_sales_lem}
use Rattle.subtotals.specs.takejudge.Judge.{Sheet, fine_rows}
use Rattle.subtotals.proofs.takejudge.JudgeLaws.{beyond_words_lem}
use Rattle.sales.specs.salecount.Counts.{TableIs}
use Rattle.sales.specs.saleadd.Adds.{EachBounded}
use Rattle.sales.specs.salegrow.Grows.{Grows}
use Rattle.sales.specs.saleweigh.Weighed.{beyond_sales}
use Rattle.sales.specs.addrows.Rows.{rows_answer, RowsContract}
use Rattle.sales.proofs.addrows.SheetLaws.{table_held}

or_parts : (a b : Bool) → (a || b) ≡ false → (a ≡ false) × (b ≡ false)
or_parts true b e = (cc, cc)
or_parts false b e = (refl, e)

-- Two refusals by one number.
twice : (x y : Bool) (r : Refusal) (z : Result Taken Refusal) → (x || y) ≡ true → cond x (Err r) (cond y (Err r) z) ≡ Err r
twice true y r z e = refl
twice false y r z e = rw e

-- Each sale with an amount is one sale.
one_more : (g : List Cell) (y : Cell) (us : List Subtotal) → sales_in us ≡ length us → sales_in (with_amount g y us) ≡ length (with_amount g y us)
unfolding sales_in
one_more g null us e = e
one_more g (value v) us e = omega (arith, e)

one_each : (sales : List Sale) → sales_in (amounts_of sales) ≡ length (amounts_of sales)
unfolding sales_in amounts_of
one_each [] = refl
one_each (s ∷ ss) = one_more s.group s.amount (amounts_of ss) (one_each ss)

-- ---- by rows
module _ (o : Options) (w : ℕ) (A : Rows) (k : ℤ) (sales : List Sale) (out : Words) where
  abbrev ts : List Subtotal
  ts = add_all o (subtotals_of o A) (amounts_of sales)

  leaves : (r : Result Taken Refusal) → rows_answer o w A k sales out ≡ r → RowsContract o w A k sales out r (leave o ts r out).out
  leaves r e = record { answer = sym e; words = ap (λ (z : Result Taken Refusal). (leave o ts z out).out) (sym e) }

  answer_unsorted : fine_rows o w A ≡ false → rows_answer o w A k sales out ≡ Err Unsorted
  unfolding rows_answer
  answer_unsorted e = rw e

  pub unsorted : fine_rows o w A ≡ false → RowsContract o w A k sales out (Err Unsorted) out
  unsorted e = leaves (Err Unsorted) (answer_unsorted e)

  abbrev rows_beyond : Bool
  rows_beyond = beyond_rows o A || beyond_number k || beyond_amounts (amounts_of sales)

  abbrev sums_beyond : Bool
  sums_beyond = ltb most_sales (sales_in (subtotals_of o A) + length (amounts_of sales)) || ltb most_sales (nat_abs k + nulls_of sales)

  sums : sales_in ts ≡ sales_in (subtotals_of o A) + length (amounts_of sales)
  sums = all_sales_lem o (subtotals_of o A) (amounts_of sales) ∙ ap (λ (z : ℕ). sales_in (subtotals_of o A) + z) (one_each sales)

  module _ (d : fine_rows o w A ≡ true) where
    answer_beyond : beyond_sales o A k sales ≡ true → rows_answer o w A k sales out ≡ Err Beyond
    unfolding rows_answer result beyond_sales
    answer_beyond e = rw (d, sums) (twice rows_beyond sums_beyond Beyond _ e)

    pub beyond : beyond_sales o A k sales ≡ true → RowsContract o w A k sales out (Err Beyond) out
    beyond e = leaves (Err Beyond) (answer_beyond e)

    module _ (b : beyond_sales o A k sales ≡ false) where
      within : (rows_beyond ≡ false) × (sums_beyond ≡ false)
      unfolding beyond_sales
      within = or_parts rows_beyond sums_beyond b

      answer_short : ltb (length out) (frame_words (length ts) (table_width o)) ≡ true → rows_answer o w A k sales out ≡ Err NoRoom
      unfolding rows_answer result
      answer_short e = rw (d, within.0, sums, within.1, e)

      answer_wrote : ltb (length out) (frame_words (length ts) (table_width o)) ≡ false → rows_answer o w A k sales out ≡ Ok (taken_of (length ts) (pos (nat_abs k + nulls_of sales)))
      unfolding rows_answer result
      answer_wrote e = rw (d, within.0, sums, within.1, e)

      pub no_room_lem : leb (frame_words (length ts) (table_width o)) (length out) ≡ false → RowsContract o w A k sales out (Err NoRoom) out
      no_room_lem e = leaves (Err NoRoom) (answer_short (lt-ltb (length out) (frame_words (length ts) (table_width o)) (leb-false (frame_words (length ts) (table_width o)) (length out) e)))

      pub wrote : leb (frame_words (length ts) (table_width o)) (length out) ≡ true → (m : ℕ) (out' : Words) → m ≡ length ts → out' ≡ laid (table_of (table_width o) (map row_of ts)) out
          → RowsContract o w A k sales out (Ok (taken_of m (pos (nat_abs k + nulls_of sales)))) out'
      wrote h m out' c e =
          let l = leb-true (frame_words (length ts) (table_width o)) (length out) h in
          let r = leaves (Ok (taken_of (length ts) (pos (nat_abs k + nulls_of sales)))) (answer_wrote (le-ltb (length out) (frame_words (length ts) (table_width o)) l)) in
          rw c (record { answer = r.answer; words = e ∙ r.words })

      pub numbers : (beyond_number k ≡ false) × (nat_abs k + nulls_of sales ≤ most_sales)
      numbers =
          let p = or_parts (beyond_rows o A || beyond_number k) (beyond_amounts (amounts_of sales)) within.0 in
          let q = or_parts (beyond_rows o A) (beyond_number k) p.0 in
          let r = or_parts (ltb most_sales (sales_in (subtotals_of o A) + length (amounts_of sales))) (ltb most_sales (nat_abs k + nulls_of sales)) within.1 in
          (q.1, ltb-false most_sales (nat_abs k + nulls_of sales) r.1)

-- ---- the table that the words hold, and its room
module _ (o : Options) (w n : ℕ) (tv tm : Words) (s : Sheet o.by w n tv tm) (k : ℤ) (sales : List Sale) (d : fine_rows o w (rows_of w n tv tm) ≡ true) (b : beyond_sales o (rows_of w n tv tm) k sales ≡ false) where
  abbrev A : Rows
  A = rows_of w n tv tm

  parts : (any_null w A ≡ false) × (ascending o (subtotals_of o A) ≡ true)
  unfolding fine_rows
  parts = let p = and-true (not (any_null w A)) (ascending o (subtotals_of o A)) d in (flip (any_null w A) p.0, p.1)
    where
      flip : (x : Bool) → not x ≡ true → x ≡ false
      flip true e = cc
      flip false e = refl

  rows_fine : beyond_rows o A ≡ false
  rows_fine =
      let p = (within o w A k sales [] d b).0 in
      (or_parts (beyond_rows o A) (beyond_number k) (or_parts (beyond_rows o A || beyond_number k) (beyond_amounts (amounts_of sales)) p).0).0

  pub table_is : TableIs o n (subtotals_of o A) tv × EachBounded (subtotals_of o A)
  table_is = table_held o w n tv tm s (sym (rows_zero w n tv tm s.values s.marks) ∙ parts.0) (sym (beyond_words_lem o w n tv tm s) ∙ rows_fine) parts.1

  pub few_in_all : (sales_in (subtotals_of o A) + length (amounts_of sales) ≤ most_sales) × (beyond_amounts (amounts_of sales) ≡ false)
  few_in_all =
      let p = within o w A k sales [] d b in
      let r = or_parts (ltb most_sales (sales_in (subtotals_of o A) + length (amounts_of sales))) (ltb most_sales (nat_abs k + nulls_of sales)) p.1 in
      (ltb-false most_sales (sales_in (subtotals_of o A) + length (amounts_of sales)) r.0, (or_parts (beyond_rows o A || beyond_number k) (beyond_amounts (amounts_of sales)) p.0).1)

module _ (o : Options) (w n : ℕ) (tv tm : Words) (s : Sheet o.by w n tv tm) (k : ℤ) (rows d : ℕ) (lv lm av am : Words) where
  abbrev S : List Sale
  S = sales_of o (rows_of (suc o.by) rows lv lm) (rows_of d rows av am)

  pub grows : (f : fine_rows o w (rows_of w n tv tm) ≡ true) (b : beyond_sales o (rows_of w n tv tm) k S ≡ false) (out : Words)
      → leb (frame_words (length (add_all o (subtotals_of o (rows_of w n tv tm)) (amounts_of S))) (suc (suc o.by))) (length out) ≡ true
      → (2 ≤ length out) × Grows o n rows d (subtotals_of o (rows_of w n tv tm)) tv lv lm av am (drop 2 out)
  grows f b out r =
      let T : List Subtotal = add_all o (subtotals_of o (rows_of w n tv tm)) (amounts_of S) in
      let l = leb-true (frame_words (length T) (suc (suc o.by))) (length out) r in
      let t = table_is o w n tv tm s k S f b in
      let q = few_in_all o w n tv tm s k S f b in
      let x = length-drop 2 out in
      (omega arith, record { table_is = t.0; exact = s.values ∙ ap (λ (z : ℕ). n * z) s.width; bounded = t.1; few = q.0; amounts = q.1; room = omega arith })

-- ---- the number beside the table
pub sum_number : (k : ℤ) (n : ℕ) → beyond_number k ≡ false → k +ℤ pos n ≡ pos (nat_abs k + n)
sum_number (pos m) n e = refl
sum_number (negsuc m) n e = let z : ◌≡◌ {A = ℕ} 0 1 = cc in absurd (omega arith)

pub number_fits : (k : ℤ) (n : ℕ) → beyond_number k ≡ false → nat_abs k + n ≤ most_sales → mag (k +ℤ pos n) < 2 ^ 63
number_fits k n e h = rw (sum_number k n e) (omega arith)
