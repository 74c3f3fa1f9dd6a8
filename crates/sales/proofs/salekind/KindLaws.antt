-- The sales of rows, one row more at a time, by the kind of the row. Assumes nothing.
use mathlib.Core.Path.{◌≡◌, refl, sym, ap, ◌∙◌}
use mathlib.Core.Bool.{Bool, true, false, cond, not, ◌&&◌, ◌||◌}
use mathlib.Core.List.{List, [], ◌∷◌}
use Prim.Native.Nat.{ℕ, suc, ◌+◌, ◌-◌, ◌*◌, ◌≤◌, ◌<◌}
use native.Mathlib.Omega.{arith}
use borrow.Author.Tests.{lt-ltb, le-ltb}
use lib.Dec.{ltb}
use lib.IntN.{ℤ, pos, nat_abs, ◌-ℤ◌, +ℤ_idr}
use lib.ListN.{length, take, get_or}
use Rattle.frames.specs.Cells.{Cell, null, value, cell, is_null, value_word, Rows, Words, rows_of, row_from}
use Rattle.frames.specs.Frame.{pairs_fine}
use Rattle.order.specs.declared.options.Options.{Options}
use Rattle.order.specs.Order.{null_group}
use Rattle.order.proofs.RowLaws.{row_cell, row_room}
use Rattle.tables.specs.Requires.{rest}
use Rattle.tables.proofs.CellLaws.{rest_more, rest_none, fine_at}
use Rattle.takings.specs.Subtotals.{Subtotal, most_amount}
use Rattle.takings.specs.Sales.{Sale, matched, sales_of, with_amount, amounts_of, nulls_of, beyond_amounts}
use Rattle.sales.specs.salekind.Kinds.{kind_of, Tallied}
use Rattle.sales.specs.declared.salekind.Kind.{Kind}
use Rattle.sales.specs.declared.salekind.Kind.TheVariants.{Unmatched, Nothing, Amount}

-- ---- a row's kind, test by test
module _ (o : Options) (x a : List Cell) where
  pub kind_unmatched : is_null (cell 0 a) ≡ true → Unmatched ≡ kind_of o x a
  kind_unmatched e = rw e

  pub kind_grouped : is_null (cell 0 a) ≡ false → null_group o x ≡ true → Unmatched ≡ kind_of o x a
  kind_grouped e f = rw (e, f)

  pub kind_nothing : is_null (cell 0 a) ≡ false → null_group o x ≡ false → is_null (cell 1 a) ≡ true → Nothing ≡ kind_of o x a
  kind_nothing e f g = rw (e, f, g)

  pub kind_amount : is_null (cell 0 a) ≡ false → null_group o x ≡ false → is_null (cell 1 a) ≡ false → Amount ≡ kind_of o x a
  kind_amount e f g = rw (e, f, g)

  -- The subtotal of a matched sale with an amount.
  abbrev pub unit : Subtotal
  unit = record { group = take o.by x; total = value_word (cell 1 a); count = 1 }

  told : (m : Bool) (y : Cell) → cond m (cond (is_null y) Nothing Amount) Unmatched ≡ Amount → (m ≡ true) × (is_null y ≡ false)
  told true null e = (cc, cc)
  told true (value v) e = (refl, refl)
  told false y e = (cc, cc)

  told_nothing : (m : Bool) (y : Cell) → cond m (cond (is_null y) Nothing Amount) Unmatched ≡ Nothing → (m ≡ true) × (is_null y ≡ true)
  told_nothing true null e = (refl, refl)
  told_nothing true (value v) e = (cc, cc)
  told_nothing false y e = (cc, cc)

  told_unmatched : (m : Bool) (y : Cell) → cond m (cond (is_null y) Nothing Amount) Unmatched ≡ Unmatched → m ≡ false
  told_unmatched true null e = cc
  told_unmatched true (value v) e = cc
  told_unmatched false y e = refl

  with_value : (y : Cell) (us : List Subtotal) → is_null y ≡ false → with_amount (take o.by x) y us ≡ record { group = take o.by x; total = value_word y; count = 1 } ∷ us
  with_value null us e = cc
  with_value (value v) us e = refl

  with_null : (y : Cell) (us : List Subtotal) → is_null y ≡ true → with_amount (take o.by x) y us ≡ us
  with_null null us e = refl
  with_null (value v) us e = cc

  -- ---- one row more
  pub amount_row : kind_of o x a ≡ Amount → (matched o x a ≡ true) × (is_null (cell 1 a) ≡ false)
  amount_row e = told (matched o x a) (cell 1 a) e

  nothing_row : kind_of o x a ≡ Nothing → (matched o x a ≡ true) × (is_null (cell 1 a) ≡ true)
  nothing_row e = told_nothing (matched o x a) (cell 1 a) e

  unmatched_row : kind_of o x a ≡ Unmatched → matched o x a ≡ false
  unmatched_row e = told_unmatched (matched o x a) (cell 1 a) e

  pub group_told : kind_of o x a ≡ Amount → null_group o x ≡ false
  group_told e = last (is_null (cell 0 a)) (null_group o x) (amount_row e).0
    where
      last : (p q : Bool) → (not p && not q) ≡ true → q ≡ false
      last true q e = cc
      last false true e = cc
      last false false e = refl

  module _ (xs zs : Rows) where
    pub unmatched_more : kind_of o x a ≡ Unmatched → sales_of o (x ∷ xs) (a ∷ zs) ≡ sales_of o xs zs
    unfolding sales_of
    unmatched_more e = rw (unmatched_row e)

    pub nothing_more : kind_of o x a ≡ Nothing → (amounts_of (sales_of o (x ∷ xs) (a ∷ zs)) ≡ amounts_of (sales_of o xs zs)) × (nulls_of (sales_of o (x ∷ xs) (a ∷ zs)) ≡ suc (nulls_of (sales_of o xs zs)))
    unfolding sales_of amounts_of nulls_of
    nothing_more e = let p = nothing_row e in (rw p.0 (with_null (cell 1 a) (amounts_of (sales_of o xs zs)) p.1), rw (p.0, p.1))

    pub amount_more : kind_of o x a ≡ Amount → (amounts_of (sales_of o (x ∷ xs) (a ∷ zs)) ≡ unit ∷ amounts_of (sales_of o xs zs)) × (nulls_of (sales_of o (x ∷ xs) (a ∷ zs)) ≡ nulls_of (sales_of o xs zs))
    unfolding sales_of amounts_of nulls_of
    amount_more e = let p = amount_row e in (rw p.0 (with_value (cell 1 a) (amounts_of (sales_of o xs zs)) p.1), rw (p.0, p.1))

-- ---- the rows from row i on
module _ (o : Options) (n d : ℕ) (lv lm av am : Words) where
  abbrev pub sales_from : ℕ → List Sale
  sales_from i = sales_of o (rest (suc o.by) i n lv lm) (rest d i n av am)

  abbrev pub left_at : ℕ → List Cell
  left_at i = row_from (suc o.by) (i * suc o.by) lv lm

  abbrev pub answer_at : ℕ → List Cell
  answer_at i = row_from d (i * d) av am

  from_more : (i : ℕ) → i < n → sales_from i ≡ sales_of o (left_at i ∷ rest (suc o.by) (i + 1) n lv lm) (answer_at i ∷ rest d (i + 1) n av am)
  from_more i l = rw (rest_more (suc o.by) i n lv lm l, rest_more d i n av am l)

  pub from_all : sales_from 0 ≡ sales_of o (rows_of (suc o.by) n lv lm) (rows_of d n av am)
  from_all = let z : n - 0 ≡ n = omega arith in let x : 0 * suc o.by ≡ 0 = omega arith in let y : 0 * d ≡ 0 = omega arith in rw (z, x, y)

  pub from_none : (i : ℕ) → n ≤ i → sales_from i ≡ []
  unfolding sales_of
  from_none i l = rw (rest_none (suc o.by) i n lv lm l)

  pub row_unmatched : (i : ℕ) → i < n → kind_of o (left_at i) (answer_at i) ≡ Unmatched → sales_from i ≡ sales_from (i + 1)
  row_unmatched i l e = from_more i l ∙ unmatched_more o (left_at i) (answer_at i) (rest (suc o.by) (i + 1) n lv lm) (rest d (i + 1) n av am) e

  pub row_nothing : (i : ℕ) → i < n → kind_of o (left_at i) (answer_at i) ≡ Nothing → (amounts_of (sales_from i) ≡ amounts_of (sales_from (i + 1))) × (nulls_of (sales_from i) ≡ suc (nulls_of (sales_from (i + 1))))
  row_nothing i l e =
      let p = nothing_more o (left_at i) (answer_at i) (rest (suc o.by) (i + 1) n lv lm) (rest d (i + 1) n av am) e in
      (ap amounts_of (from_more i l) ∙ p.0, ap nulls_of (from_more i l) ∙ p.1)

  pub row_amount : (i : ℕ) → i < n → kind_of o (left_at i) (answer_at i) ≡ Amount → (amounts_of (sales_from i) ≡ unit o (left_at i) (answer_at i) ∷ amounts_of (sales_from (i + 1))) × (nulls_of (sales_from i) ≡ nulls_of (sales_from (i + 1)))
  row_amount i l e =
      let p = amount_more o (left_at i) (answer_at i) (rest (suc o.by) (i + 1) n lv lm) (rest d (i + 1) n av am) e in
      (ap amounts_of (from_more i l) ∙ p.0, ap nulls_of (from_more i l) ∙ p.1)

  -- The amount of row i is its second answer value.
  pub amount_at : (i : ℕ) → i < n → 2 ≤ d → n * d ≤ length av → length av ≤ length am → pairs_fine av am ≡ true → value_word (cell 1 (answer_at i)) ≡ get_or av (i * d + 1) (pos 0)
  amount_at i l w h k f =
      let r = row_room i n d l in
      ap value_word (row_cell d (i * d) 1 av am (omega arith) (omega arith)) ∙ (fine_at av am (i * d + 1) (omega arith) k f).0

pub no_less : (total : ℤ) → nat_abs (total -ℤ pos 0) ≡ nat_abs total
no_less total = ap nat_abs (+ℤ_idr total)

pub beyond_cons : (u : Subtotal) (us : List Subtotal) → beyond_amounts (u ∷ us) ≡ (ltb most_amount (nat_abs u.total) || beyond_amounts us)
unfolding beyond_amounts
beyond_cons u us = refl

pub none_sold : (amounts_of [] ≡ []) × (nulls_of [] ≡ 0) × (beyond_amounts [] ≡ false)
unfolding amounts_of nulls_of beyond_amounts
none_sold = (refl, refl, refl)

-- ---- how far a count has come
module _ (o : Options) (n d : ℕ) (lv lm av am : Words) where
  abbrev S : ℕ → List Sale
  S i = sales_from o n d lv lm av am i

  pub record Going (i s k : ℕ) : Type 0 where
    pub sales : length (amounts_of (S 0)) ≡ s + length (amounts_of (S i))
    pub nulls : nulls_of (S 0) ≡ k + nulls_of (S i)
    pub beyond : beyond_amounts (amounts_of (S 0)) ≡ beyond_amounts (amounts_of (S i))

  abbrev K : ℕ → Kind
  K i = kind_of o (left_at o n d lv lm av am i) (answer_at o n d lv lm av am i)

  pub going_unmatched : (i s k : ℕ) → i < n → K i ≡ Unmatched → Going i s k → Going (i + 1) s k
  going_unmatched i s k l e g = let r = row_unmatched o n d lv lm av am i l e in record {
    sales = g.sales ∙ ap (λ (z : List Sale). s + length (amounts_of z)) r;
    nulls = g.nulls ∙ ap (λ (z : List Sale). k + nulls_of z) r;
    beyond = g.beyond ∙ ap (λ (z : List Sale). beyond_amounts (amounts_of z)) r;
  }

  pub going_nothing : (i s k : ℕ) → i < n → K i ≡ Nothing → Going i s k → Going (i + 1) s (k + 1)
  going_nothing i s k l e g = let r = row_nothing o n d lv lm av am i l e in record {
    sales = g.sales ∙ ap (λ (z : List Subtotal). s + length z) r.0;
    nulls = omega (arith, g.nulls, r.1);
    beyond = g.beyond ∙ ap beyond_amounts r.0;
  }

  module _ (w : 2 ≤ d) (h : n * d ≤ length av) (m : length av ≤ length am) (f : pairs_fine av am ≡ true) (i s k : ℕ) (l : i < n) (e : K i ≡ Amount) (g : Going i s k) where
    split : beyond_amounts (amounts_of (S 0)) ≡ (ltb most_amount (nat_abs (get_or av (i * d + 1) (pos 0))) || beyond_amounts (amounts_of (S (i + 1))))
    split =
        let r = row_amount o n d lv lm av am i l e in
        g.beyond ∙ ap beyond_amounts r.0 ∙ beyond_cons (unit o (left_at o n d lv lm av am i) (answer_at o n d lv lm av am i)) (amounts_of (S (i + 1)))
        ∙ ap (λ (z : ℤ). ltb most_amount (nat_abs z) || beyond_amounts (amounts_of (S (i + 1)))) (amount_at o n d lv lm av am i l w h m f)

    pub going_amount : nat_abs (get_or av (i * d + 1) (pos 0) -ℤ pos 0) ≤ most_amount → Going (i + 1) (s + 1) k
    going_amount b =
        let r = row_amount o n d lv lm av am i l e in
        let c : nat_abs (get_or av (i * d + 1) (pos 0)) ≤ most_amount = rw (no_less (get_or av (i * d + 1) (pos 0))) at b in
        record {
          sales = omega (arith, g.sales, ap length r.0);
          nulls = g.nulls ∙ ap (λ (z : ℕ). k + z) r.1;
          beyond = split ∙ rw (le-ltb most_amount (nat_abs (get_or av (i * d + 1) (pos 0))) c);
        }

    pub going_beyond : most_amount < nat_abs (get_or av (i * d + 1) (pos 0) -ℤ pos 0) → Tallied (sales_of o (rows_of (suc o.by) n lv lm) (rows_of d n av am)) 0 0 true
    going_beyond b =
        let c : most_amount < nat_abs (get_or av (i * d + 1) (pos 0)) = rw (no_less (get_or av (i * d + 1) (pos 0))) at b in
        record {
          beyond_is = sym (ap (λ (z : List Sale). beyond_amounts (amounts_of z)) (sym (from_all o n d lv lm av am)) ∙ split ∙ rw (lt-ltb most_amount (nat_abs (get_or av (i * d + 1) (pos 0))) c));
          sales_is = λ z. let y : ◌≡◌ {A = ℕ} 0 1 = cc in absurd (omega arith);
          nulls_is = λ z. let y : ◌≡◌ {A = ℕ} 0 1 = cc in absurd (omega arith);
          few_sales = omega arith;
          few_nulls = omega arith;
        }

  pub going_ends : (i s k : ℕ) → n ≤ i → s ≤ 4096 → k ≤ 4096 → Going i s k → Tallied (sales_of o (rows_of (suc o.by) n lv lm) (rows_of d n av am)) s k false
  going_ends i s k l a b g =
      let z = from_none o n d lv lm av am i l in
      let y = sym (from_all o n d lv lm av am) in
      record {
        beyond_is = sym (ap (λ (x : List Sale). beyond_amounts (amounts_of x)) y ∙ g.beyond ∙ ap (λ (x : List Sale). beyond_amounts (amounts_of x)) z ∙ ap beyond_amounts none_sold.0 ∙ none_sold.2);
        sales_is = λ x. sym (ap (λ (x : List Sale). length (amounts_of x)) y ∙ g.sales ∙ ap (λ (x : List Sale). s + length (amounts_of x)) z ∙ ap (λ (x : List Subtotal). s + length x) none_sold.0 ∙ omega arith);
        nulls_is = λ x. sym (ap nulls_of y ∙ g.nulls ∙ ap (λ (x : List Sale). k + nulls_of x) z ∙ ap (λ (x : ℕ). k + x) none_sold.1 ∙ omega arith);
        few_sales = a;
        few_nulls = b;
      }
