-- However frames are added and subtotals joined, if no call is refused the account is what the sales add up to. Assumes nothing.
use Rattle.std.specs.Prelude.{Result, Err, Option, None, Some, Ok}
use mathlib.Core.Path.{◌≡◌, refl, sym, ap, ◌∙◌, subst}
use mathlib.Core.Bool.{Bool, true, false, cond, not, ◌&&◌, ◌||◌}
use mathlib.Core.List.{List, [], ◌∷◌, ◌++◌, map}
use Prim.Native.Nat.{ℕ, zero, suc, ◌+◌, ◌*◌, ◌≤◌}
use Rattle.order.specs.Order.{null_in}
use native.Mathlib.Omega.{arith}
use borrow.Author.Tests.{ltb-false, le-ltb, not-true}
use lib.Dec.{ltb, eqb}
use lib.IntN.{ℤ, pos, nat_abs, ◌+ℤ◌, +ℤ_assoc, +ℤ_comm, +ℤ_idl, +ℤ_idr}
use lib.ListN.{length, take, length-append, length-map, get_or-append}
use lib.Seq.{take_at, get_or_at, get_or-append-add, get_or-take, length-take-le}
use Rattle.frames.specs.Cells.{Cell, null, value, cell, is_null, Rows, Words}
use Rattle.frames.specs.Frame.{row_count, frame_words, is_frame, frame_rows, is_table}
use Rattle.order.specs.options.Options.{bad_options, many_carried, bad_ranked, columns}
use Rattle.order.specs.declared.options.Options.{Options}
use Rattle.order.proofs.SortedLaws.{all_by}
use Rattle.frames.proofs.BoolLaws.{and-true}
use Rattle.frames.proofs.FrameLaws.{frame_rows_lem, frame_wide}
use Rattle.order.specs.Listed.{lacks_code}
use Rattle.tables.specs.Options.{unless}
use Rattle.tables.specs.Table.{laid}
use Rattle.tables.proofs.TableLaws.{Wide, table_rows_lem, table_is, laid_take}
use Rattle.frames.specs.declared.refusals.Refusal.{Refusal}
use Rattle.frames.specs.declared.refusals.Refusal.TheVariants.{BadOptions, TooManyCarried, BadRanks, BadFrame, UnknownCode, BadColumns, Unsorted, Beyond, NoRoom}
use Rattle.rows.specs.nulls.Nulls.{any_null}
use Rattle.takings.specs.Subtotals.{Subtotal, add_all, total_for, count_for, row_of, subtotals_of, most_amount, most_sales, beyond_row, beyond_rows, sales_in, beyond_number}
use Rattle.takings.specs.Sales.{Sale, sales_of, with_amount, amounts_of, nulls_of, beyond_amounts, matched}
use Rattle.takings.specs.Calls.{table_width, table_words, columns_in, any_frame, known_columns, rows_in, subtotals_in, fine_subtotals, sales_by, result, leave, add_answer, add_call, join_answer, join_call}
use Rattle.takings.specs.Orders.{Account, Calls, fresh, adding, joining, empty_account, took, after, given, all_sales, Permuted, empty, next, swap, then, HandedOn, AllOrders}
use Rattle.takings.specs.declared.Taken.{Taken}
use Rattle.takings.specs.Calls.{taken_of}
use Rattle.takings.proofs.SubtotalLaws.{Every, Fine, Unit-fine, Bounded, bounded_all, every_all, rising_ascending, count_more, total_more, count_all, total_all, fine_all, fine_units, only_table, fine_tells}

or-false : (a b : Bool) → (a || b) ≡ false → (a ≡ false) × (b ≡ false)
or-false true b e = ((cc), (cc))
or-false false b e = (refl, e)

-- ---- the words of a table of subtotals, read back
module _ (o : Options) where
  row_wide : (t : Subtotal) → length t.group ≡ o.by → length (row_of t) ≡ suc (suc o.by)
  row_wide t e = length-append t.group (value t.total ∷ value (pos t.count) ∷ []) ∙ omega (arith, e)

  pub rows_wide : (ts : List Subtotal) → Every (λ t. length t.group ≡ o.by) ts → Wide (suc (suc o.by)) (map row_of ts)
  rows_wide [] h = tt
  rows_wide (t ∷ ts) h = (row_wide t h.0, rows_wide ts h.1)

  last_cell : (t : Subtotal) → length t.group ≡ o.by → cell (suc o.by) (row_of t) ≡ value (pos t.count)
  last_cell t e =
      let z : suc o.by ≡ length t.group + 1 = omega (arith, e) in
      rw z (get_or-append-add t.group (value t.total ∷ value (pos t.count) ∷ []) 1 null)

  subtotals_back : (ts : List Subtotal) → Every (λ t. length t.group ≡ o.by) ts → subtotals_of o (map row_of ts) ≡ ts
  unfolding subtotals_of
  subtotals_back [] h = refl
  subtotals_back (t ∷ ts) h =
      rw (
        take_at t.group (value t.total ∷ value (pos t.count) ∷ []) o.by h.0,
        get_or_at t.group (value t.total) (value (pos t.count) ∷ []) null o.by h.0,
        last_cell t h.0,
        subtotals_back ts h.1,
      )

-- ---- sales, one after the other and in another order
module _ (o : Options) where
  amount_count : (g h : List Cell) (c : Cell) (us : List Subtotal) → count_for o g (with_amount h c us) ≡ count_for o g (with_amount h c []) + count_for o g us
  unfolding count_for
  amount_count g h null us = omega arith
  amount_count g h (value v) us = omega (arith, count_more o g (record { group = h; total = v; count = 1 }) us, count_more o g (record { group = h; total = v; count = 1 }) [])

  amount_total : (g h : List Cell) (c : Cell) (us : List Subtotal) → total_for o g (with_amount h c us) ≡ total_for o g (with_amount h c []) +ℤ total_for o g us
  unfolding total_for
  amount_total g h null us = sym (+ℤ_idl (total_for o g us))
  amount_total g h (value v) us =
      let u : Subtotal = record { group = h; total = v; count = 1 } in
      rw (total_more o g u us, total_more o g u [], +ℤ_idr)

  sales_count : (g : List Cell) (x : Sale) (xs : List Sale) → count_for o g (amounts_of (x ∷ xs)) ≡ count_for o g (with_amount x.group x.amount []) + count_for o g (amounts_of xs)
  unfolding amounts_of
  sales_count g x xs = amount_count g x.group x.amount (amounts_of xs)

  sales_total : (g : List Cell) (x : Sale) (xs : List Sale) → total_for o g (amounts_of (x ∷ xs)) ≡ total_for o g (with_amount x.group x.amount []) +ℤ total_for o g (amounts_of xs)
  unfolding amounts_of
  sales_total g x xs = amount_total g x.group x.amount (amounts_of xs)

  swap_z : (a b c : ℤ) → a +ℤ (b +ℤ c) ≡ b +ℤ (a +ℤ c)
  swap_z a b c = sym (+ℤ_assoc a b c) ∙ ap (λ (z : ℤ). z +ℤ c) (+ℤ_comm a b) ∙ +ℤ_assoc b a c

  nothing_count : (g : List Cell) → count_for o g (amounts_of []) ≡ 0
  unfolding count_for amounts_of
  nothing_count g = refl

  nothing_total : (g : List Cell) → total_for o g (amounts_of []) ≡ pos 0
  unfolding total_for amounts_of
  nothing_total g = refl

  append_count : (g : List Cell) (xs ys : List Sale) → count_for o g (amounts_of (xs ++ ys)) ≡ count_for o g (amounts_of xs) + count_for o g (amounts_of ys)
  append_count g [] ys = omega (arith, nothing_count g)
  append_count g (x ∷ xs) ys = omega (arith, sales_count g x (xs ++ ys), sales_count g x xs, append_count g xs ys)

  append_total : (g : List Cell) (xs ys : List Sale) → total_for o g (amounts_of (xs ++ ys)) ≡ total_for o g (amounts_of xs) +ℤ total_for o g (amounts_of ys)
  append_total g [] ys = rw (nothing_total g) (sym (+ℤ_idl (total_for o g (amounts_of ys))))
  append_total g (x ∷ xs) ys =
      rw (sales_total g x (xs ++ ys), sales_total g x xs, append_total g xs ys)
      (sym (+ℤ_assoc (total_for o g (with_amount x.group x.amount [])) (total_for o g (amounts_of xs)) (total_for o g (amounts_of ys))))

  same_count : (g : List Cell) {xs ys : List Sale} → Permuted xs ys → count_for o g (amounts_of xs) ≡ count_for o g (amounts_of ys)
  same_count g empty = refl
  same_count g (next {x = x} {xs = xs} {ys = ys} p) = omega (arith, sales_count g x xs, sales_count g x ys, same_count g p)
  same_count g (swap {x = x} {y = y} {xs = xs}) = omega (arith, sales_count g x (y ∷ xs), sales_count g y xs, sales_count g y (x ∷ xs), sales_count g x xs)
  same_count g (then p q) = same_count g p ∙ same_count g q

  same_total : (g : List Cell) {xs ys : List Sale} → Permuted xs ys → total_for o g (amounts_of xs) ≡ total_for o g (amounts_of ys)
  same_total g empty = refl
  same_total g (next {x = x} {xs = xs} {ys = ys} p) = rw (sales_total g x xs, sales_total g x ys, same_total g p)
  same_total g (swap {x = x} {y = y} {xs = xs}) =
      rw (sales_total g x (y ∷ xs), sales_total g y xs, sales_total g y (x ∷ xs), sales_total g x xs)
      (swap_z (total_for o g (with_amount x.group x.amount [])) (total_for o g (with_amount y.group y.amount [])) (total_for o g (amounts_of xs)))
  same_total g (then p q) = same_total g p ∙ same_total g q

-- The number of sales without an amount.
bit : Bool → ℕ
bit b = cond b 1 0

nulls_more : (x : Sale) (xs : List Sale) → nulls_of (x ∷ xs) ≡ bit (is_null x.amount) + nulls_of xs
unfolding nulls_of bit
nulls_more x xs = by (is_null x.amount)
  where
    by : (b : Bool) → cond b (suc (nulls_of xs)) (nulls_of xs) ≡ cond b 1 0 + nulls_of xs
    by true = omega arith
    by false = omega arith

nulls_none : nulls_of [] ≡ 0
unfolding nulls_of
nulls_none = refl

nulls_append : (xs ys : List Sale) → nulls_of (xs ++ ys) ≡ nulls_of xs + nulls_of ys
nulls_append [] ys = omega (arith, nulls_none)
nulls_append (x ∷ xs) ys = omega (arith, nulls_more x (xs ++ ys), nulls_more x xs, nulls_append xs ys)

same_nulls : {xs ys : List Sale} → Permuted xs ys → nulls_of xs ≡ nulls_of ys
same_nulls empty = refl
same_nulls (next {x = x} {xs = xs} {ys = ys} p) = omega (arith, nulls_more x xs, nulls_more x ys, same_nulls p)
same_nulls (swap {x = x} {y = y} {xs = xs}) = omega (arith, nulls_more x (y ∷ xs), nulls_more y xs, nulls_more y (x ∷ xs), nulls_more x xs)
same_nulls (then p q) = same_nulls p ∙ same_nulls q

-- ---- the sales of a frame have groups of b by-values
module _ (o : Options) where
  one_fine : (g : List Cell) (c : Cell) (us : List Subtotal) → length g ≡ o.by → Every (Unit-fine o) us → Every (Unit-fine o) (with_amount g c us)
  one_fine g null us e h = h
  one_fine g (value v) us e h = ((omega arith, e), h)

  sales_fine : (xs as' : Rows) → Wide (suc o.by) xs → Every (Unit-fine o) (amounts_of (sales_of o xs as'))
  unfolding sales_of amounts_of
  sales_fine [] as' w = tt
  sales_fine (x ∷ xs) [] w = tt
  sales_fine (x ∷ xs) (a ∷ as') w = by (matched o x a) (sales_fine xs as' w.1)
    where
      e : length (take o.by x) ≡ o.by
      e = length-take-le o.by x (omega (arith, w.0))

      by : (b : Bool) → Every (Unit-fine o) (amounts_of (sales_of o xs as'))
          → Every (Unit-fine o) (amounts_of (cond b (record { group = take o.by x; amount = cell 1 a } ∷ sales_of o xs as') (sales_of o xs as')))
      by true h = one_fine (take o.by x) (cell 1 a) (amounts_of (sales_of o xs as')) e h
      by false h = h

frame_rows_wide : (c : ℕ) (f : Words) → is_frame c f ≡ true → Wide c (frame_rows c f)
frame_rows_wide c f h = all_by (λ r. length r ≡ c) (frame_rows c f) (λ i l. frame_wide c f h i (rw (frame_rows_lem c f h) at l))

pub by_fine : (o : Options) (left answer : Words) → is_frame (columns o) left ≡ true → Every (Unit-fine o) (amounts_of (sales_by o left answer))
unfolding sales_by
by_fine o left answer h = sales_fine o (frame_rows (columns o) left) (frame_rows (columns_in answer) answer) (frame_rows_wide (columns o) left h)

-- Amounts within the bounds, and groups without a null.
within : (o : Options) (us : List Subtotal) → Every (Unit-fine o) us → beyond_amounts us ≡ false → Every Bounded us
unfolding beyond_amounts
within o [] f e = tt
within o (u ∷ us) f e =
    let p = or-false (ltb most_amount (nat_abs u.total)) (beyond_amounts us) e in
    (omega (arith, ltb-false most_amount (nat_abs u.total) p.0, f.0.0), within o us f.1 p.1)

take_null : (n b : ℕ) (x : List Cell) → n ≤ b → null_in n (take b x) ≡ null_in n x
unfolding null_in
take_null zero b x h = refl
take_null (suc n) b x h = rw (take_null n b x (omega arith), get_or-take b x n null (omega arith))

module _ (o : Options) where
  one_whole : (g : List Cell) (c : Cell) (us : List Subtotal) → null_in o.by g ≡ false → Every (λ t. null_in o.by t.group ≡ false) us → Every (λ t. null_in o.by t.group ≡ false) (with_amount g c us)
  one_whole g null us e h = h
  one_whole g (value v) us e h = (e, h)

  sales_whole : (xs as' : Rows) → Every (λ t. null_in o.by t.group ≡ false) (amounts_of (sales_of o xs as'))
  unfolding sales_of amounts_of
  sales_whole [] as' = tt
  sales_whole (x ∷ xs) [] = tt
  sales_whole (x ∷ xs) (a ∷ as') = by (matched o x a) refl (sales_whole xs as')
    where
      by : (b : Bool) → matched o x a ≡ b → Every (λ t. null_in o.by t.group ≡ false) (amounts_of (sales_of o xs as'))
          → Every (λ t. null_in o.by t.group ≡ false) (amounts_of (cond b (record { group = take o.by x; amount = cell 1 a } ∷ sales_of o xs as') (sales_of o xs as')))
      by true e h =
          one_whole (take o.by x) (cell 1 a) (amounts_of (sales_of o xs as'))
          (take_null o.by o.by x (omega arith) ∙ not-true (null_in o.by x) (and-true (not (is_null (cell 0 a))) (not (null_in o.by x)) e).1) h
      by false e h = h

by_whole : (o : Options) (left answer : Words) → Every (λ t. null_in o.by t.group ≡ false) (amounts_of (sales_by o left answer))
unfolding sales_by
by_whole o left answer = sales_whole o (frame_rows (columns o) left) (frame_rows (columns_in answer) answer)

-- ---- the rows of such a table pass the tests of 14 and 15
module _ (o : Options) where
  group_null : (n : ℕ) (t : Subtotal) → n ≤ length t.group → null_in n (row_of t) ≡ null_in n t.group
  unfolding null_in
  group_null zero t h = refl
  group_null (suc n) t h = rw (group_null n t (omega arith), get_or-append t.group (value t.total ∷ value (pos t.count) ∷ []) null n (omega arith))

  row_whole : (t : Subtotal) → length t.group ≡ o.by → null_in o.by t.group ≡ false → null_in (suc (suc o.by)) (row_of t) ≡ false
  unfolding null_in
  row_whole t e h =
      rw (group_null o.by t (omega (arith, e)), h, get_or_at t.group (value t.total) (value (pos t.count) ∷ []) null o.by e, last_cell o t e)

  rows_whole : (ts : List Subtotal) → Every (λ t. length t.group ≡ o.by) ts → Every (λ t. null_in o.by t.group ≡ false) ts → any_null (suc (suc o.by)) (map row_of ts) ≡ false
  unfolding any_null
  rows_whole [] w h = refl
  rows_whole (t ∷ ts) w h = rw (row_whole t w.0 h.0) (rows_whole ts w.1 h.1)

  row_within : (t : Subtotal) → length t.group ≡ o.by → 1 ≤ t.count → Bounded t → beyond_row o (row_of t) ≡ false
  unfolding beyond_row
  row_within t e s h =
      rw (
        get_or_at t.group (value t.total) (value (pos t.count) ∷ []) null o.by e,
        last_cell o t e,
        le-ltb t.count 1 s,
        le-ltb (t.count * most_amount) (nat_abs t.total) h,
      )

  rows_within_lem : (ts : List Subtotal) → Every (λ t. length t.group ≡ o.by) ts → Every (λ t. 1 ≤ t.count) ts → Every Bounded ts → beyond_rows o (map row_of ts) ≡ false
  unfolding beyond_rows
  rows_within_lem [] w s h = refl
  rows_within_lem (t ∷ ts) w s h = rw (row_within t w.0 s.0 h.0) (rows_within_lem ts w.1 s.1 h.1)

-- ---- what a call that was not refused passed
pub passed : (b : Bool) (r : Refusal) (x : Result Taken Refusal) {n : ℕ} {k : ℤ} → cond b (Err r) x ≡ Ok (taken_of n k) → (b ≡ false) × (x ≡ Ok (taken_of n k))
passed true r x e = ((cc), (cc))
passed false r x e = (refl, e)

pub not-false : (b : Bool) → not b ≡ false → b ≡ true
not-false true e = refl
not-false false e = cc

module _ (o : Options) where
  pub past : (x : Result Taken Refusal) {n : ℕ} {k : ℤ} → unless Err o x ≡ Ok (taken_of n k) → x ≡ Ok (taken_of n k)
  past x e = (passed (bad_ranked o) BadRanks x (passed (many_carried o) TooManyCarried _ (passed (bad_options o) BadOptions _ e).1).1).1

  -- The result's rows have room, and its answer tells them.
  pub record ResultOf (ts : List Subtotal) (k : ℕ) (out : Words) (n : ℕ) (m : ℤ) : Type 0 where
    pub rows : n ≡ length ts
    pub number : m ≡ pos k
    pub few : k ≤ most_sales
    pub room : frame_words (length ts) (table_width o) ≤ length out

  -- The rows and the number that an answer tells.
  abbrev rows_told : Result Taken Refusal → ℕ
  rows_told (Ok t) = t.rows
  rows_told (Err r) = 0

  abbrev number_told : Result Taken Refusal → ℤ
  number_told (Ok t) = t.number
  number_told (Err r) = pos 0

  told : {n n' : ℕ} {k k' : ℤ} → ◌≡◌ {A = Result Taken Refusal} (Ok (taken_of n k)) (Ok (taken_of n' k')) → (n' ≡ n) × (k' ≡ k)
  told e = (sym (ap rows_told e), sym (ap number_told e))

  result_told : (ts : List Subtotal) (k : ℕ) (out : Words) {n : ℕ} {m : ℤ} → result o ts k out ≡ Ok (taken_of n m) → ResultOf ts k out n m
  unfolding result
  result_told ts k out e =
      let a = passed (ltb most_sales (sales_in ts) || ltb most_sales k) Beyond _ e in
      let b = passed (ltb (length out) (frame_words (length ts) (table_width o))) NoRoom _ a.1 in
      let t = told b.1 in
      record { rows = t.0; number = t.1; few = ltb-false most_sales k (or-false (ltb most_sales (sales_in ts)) (ltb most_sales k) a.0).1; room = ltb-false (length out) (frame_words (length ts) (table_width o)) b.0 }

  pub add_told : (table : Words) (k : ℤ) (left answer out : Words) {n : ℕ} {m : ℤ} → add_answer o table k left answer out ≡ Ok (taken_of n m)
      → (is_frame (columns o) left ≡ true) × (beyond_amounts (amounts_of (sales_by o left answer)) ≡ false) × ResultOf (add_all o (subtotals_in o table) (amounts_of (sales_by o left answer))) (nat_abs k + nulls_of (sales_by o left answer)) out n m
  unfolding add_answer
  add_told table k left answer out e =
      let five = is_table (table_width o) table && is_frame (columns o) left && any_frame answer && eqb (row_count left) (row_count answer) in
      let p = passed (not five) BadFrame _ (past _ e) in
      let q = passed (lacks_code o (rows_in o table) || lacks_code o (frame_rows (columns o) left)) UnknownCode _ p.1 in
      let r = passed (not (known_columns o (columns_in answer))) BadColumns _ q.1 in
      let u = passed (not (fine_subtotals o table)) Unsorted _ r.1 in
      let v = passed (beyond_rows o (rows_in o table) || beyond_number k || beyond_amounts (amounts_of (sales_by o left answer))) Beyond _ u.1 in
      let a = and-true (is_table (table_width o) table && is_frame (columns o) left && any_frame answer) (eqb (row_count left) (row_count answer)) (not-false five p.0) in
      let b = and-true (is_table (table_width o) table && is_frame (columns o) left) (any_frame answer) a.0 in
      let w = or-false (beyond_rows o (rows_in o table) || beyond_number k) (beyond_amounts (amounts_of (sales_by o left answer))) v.0 in
      ((and-true (is_table (table_width o) table) (is_frame (columns o) left) b.0).1, w.1, result_told _ _ out v.1)

  pub join_told : (table : Words) (k : ℤ) (other : Words) (l : ℤ) (out : Words) {n : ℕ} {m : ℤ} → join_answer o table k other l out ≡ Ok (taken_of n m)
      → ResultOf (add_all o (subtotals_in o table) (subtotals_in o other)) (nat_abs k + nat_abs l) out n m
  unfolding join_answer
  join_told table k other l out e =
      let p = passed (not (is_table (table_width o) table && is_table (table_width o) other)) BadFrame _ (past _ e) in
      let q = passed (lacks_code o (rows_in o table) || lacks_code o (rows_in o other)) UnknownCode _ p.1 in
      let r = passed (eqb o.carried 0) BadColumns _ q.1 in
      let u = passed (not (fine_subtotals o table && fine_subtotals o other)) Unsorted _ r.1 in
      let v = passed (beyond_rows o (rows_in o table) || beyond_rows o (rows_in o other) || beyond_number k || beyond_number l) Beyond _ u.1 in
      result_told _ _ out v.1

  -- ---- an account that tells the sums of sales
  record Good (sales : List Sale) (a : Account) : Type 0 where
    rows : List Subtotal
    words : a.table ≡ table_words o rows
    fine : Fine o rows
    counts : (g : List Cell) → count_for o g rows ≡ count_for o g (amounts_of sales)
    totals : (g : List Cell) → total_for o g rows ≡ total_for o g (amounts_of sales)
    number : a.number ≡ pos (nulls_of sales)
    bounded : Every Bounded rows
    whole : Every (λ t. null_in o.by t.group ≡ false) rows
    few : nulls_of sales ≤ most_sales

  read_back : (a : Account) (sales : List Sale) (g : Good sales a) → subtotals_in o a.table ≡ g.rows
  read_back a sales g =
      rw (g.words, table_rows_lem (table_width o) (map row_of g.rows) (rows_wide o g.rows g.fine.wide)) (subtotals_back o g.rows g.fine.wide)

  -- What was written is the words of the table.
  account : (ts : List Subtotal) (k : ℕ) (out : Words) (n : ℕ) (m : ℤ) → Every (λ t. length t.group ≡ o.by) ts → ResultOf ts k out n m
      → take (frame_words n (table_width o)) (laid (table_words o ts) out) ≡ table_words o ts
  account ts k out n m w r =
      let l : length (map row_of ts) ≡ length ts = length-map ts row_of in
      rw (r.rows, ← l) (laid_take (table_width o) (map row_of ts) (rows_wide o ts w) out (rw l r.room))

  some_only : {x y : Account} → ◌≡◌ {A = Option Account} (Some x) (Some y) → x ≡ y
  some_only e = cc

  leaves : (P : Account → Type 0) (ts : List Subtotal) (t : Result Taken Refusal) (out : Words)
      → ((n : ℕ) (m : ℤ) → t ≡ Ok (taken_of n m) → P (record { table = take (frame_words n (table_width o)) (laid (table_words o ts) out); number = m }))
      → (a : Account) → took o (leave o ts t out) ≡ Some a → P a
  leaves P ts (Ok t) out f a e = subst P (some_only e) (f t.rows t.number refl)
  leaves P ts (Err r) out f a e = let z : ◌≡◌ {A = ℕ} 0 1 = cc in absurd (omega arith)

  -- Subtotals of more sales, added.
  more : (a : Account) (sales : List Sale) (g : Good sales a) (us : List Subtotal) (new : List Sale) (k : ℕ) (out : Words) (n : ℕ) (m : ℤ)
      → Every (Unit-fine o) us
      → Every Bounded us
      → Every (λ t. null_in o.by t.group ≡ false) us
      → ((h : List Cell) → count_for o h us ≡ count_for o h (amounts_of new))
      → ((h : List Cell) → total_for o h us ≡ total_for o h (amounts_of new))
      → k ≡ nat_abs a.number + nulls_of new
      → ResultOf (add_all o g.rows us) k out n m
      → Good (sales ++ new) (record { table = take (frame_words n (table_width o)) (laid (table_words o (add_all o g.rows us)) out); number = m })
  more a sales g us new k out n m f bd wh c d e r =
      let ts : List Subtotal = add_all o g.rows us in
      let total : k ≡ nulls_of (sales ++ new) = e ∙ rw g.number (sym (nulls_append sales new)) in
      let fine : Fine o ts = fine_all o g.rows us f g.fine in
      record {
        rows = ts;
        words = account ts k out n m fine.wide r;
        fine = fine;
        counts = λ h. count_all o h g.rows us ∙ omega (arith, g.counts h, c h, append_count o h sales new);
        totals = λ h. total_all o h g.rows us ∙ rw (g.totals h, d h) (sym (append_total o h sales new));
        number = r.number ∙ ap pos total;
        bounded = bounded_all o g.rows us bd g.bounded;
        whole = every_all o (λ h. null_in o.by h ≡ false) g.rows us wh g.whole;
        few = omega (arith, r.few, total);
      }

  add_good : (a : Account) (sales : List Sale) → Good sales a → (left answer out : Words) (b : Account) → took o (add_call o a.table a.number left answer out) ≡ Some b
      → Good (sales ++ sales_by o left answer) b
  unfolding add_call
  add_good a sales g left answer out b e =
      leaves (Good (sales ++ sales_by o left answer)) (add_all o (subtotals_in o a.table) (amounts_of (sales_by o left answer))) (add_answer o a.table a.number left answer out) out
      (λ n m t.
      let r = add_told a.table a.number left answer out t in
      rw (read_back a sales g)
      (more a sales g (amounts_of (sales_by o left answer)) (sales_by o left answer) (nat_abs a.number + nulls_of (sales_by o left answer)) out n m
      (by_fine o left answer r.0) (within o (amounts_of (sales_by o left answer)) (by_fine o left answer r.0) r.1) (by_whole o left answer) (λ h. refl) (λ h. refl) refl (rw (read_back a sales g) at r.2)))
      b e

  join_good : (a c : Account) (xs ys : List Sale) → Good xs a → Good ys c → (out : Words) (b : Account) → took o (join_call o a.table a.number c.table c.number out) ≡ Some b
      → Good (xs ++ ys) b
  unfolding join_call
  join_good a c xs ys g h out b e =
      leaves (Good (xs ++ ys)) (add_all o (subtotals_in o a.table) (subtotals_in o c.table)) (join_answer o a.table a.number c.table c.number out) out
      (λ n m t.
      let r = join_told a.table a.number c.table c.number out t in
      rw (read_back a xs g, read_back c ys h)
      (more a xs g h.rows ys (nat_abs a.number + nat_abs c.number) out n m
      (fine_units o h.rows h.fine) h.bounded h.whole h.counts h.totals (rw h.number) (rw (read_back a xs g, read_back c ys h) at r)))
      b e

  -- ---- along the calls
  nothing : Good [] (empty_account o)
  unfolding count_for total_for amounts_of
  nothing = record {
    rows = [];
    words = refl;
    fine = record { order = tt; sold = tt; wide = tt };
    counts = λ h. refl;
    totals = λ h. refl;
    number = ap pos (sym nulls_none);
    bounded = tt;
    whole = tt;
    few = omega (arith, nulls_none);
  }

  after_some : {P : Type 0} (x : Option Account) (f : Account → Option Account) (b : Account) → after x f ≡ Some b → ((a : Account) → x ≡ Some a → f a ≡ Some b → P) → P
  after_some None f b e k = let z : ◌≡◌ {A = ℕ} 0 1 = cc in absurd (omega arith)
  after_some (Some a) f b e k = k a refl e

  good : (c : Calls) (a : Account) → given o c ≡ Some a → Good (all_sales o c) a
  unfolding given all_sales
  good fresh a e = subst (Good []) (some_only e) nothing
  good (adding c left answer out) a e =
      after_some (given o c) (λ x. took o (add_call o x.table x.number left answer out)) a e
      (λ x p q. add_good x (all_sales o c) (good c x p) left answer out a q)
  good (joining c d out) a e =
      after_some (given o c) (λ x. after (given o d) (λ y. took o (join_call o x.table x.number y.table y.number out))) a e
      (λ x p q. after_some (given o d) (λ y. took o (join_call o x.table x.number y.table y.number out)) a q
      (λ y u v. join_good x y (all_sales o c) (all_sales o d) (good c x p) (good d y u) out a v))

  one_account : (a b : Account) → a.table ≡ b.table → a.number ≡ b.number → a ≡ b
  one_account a b p q = rw (← p, ← q)

  same : (xs ys : List Sale) (a b : Account) → Good xs a → Good ys b → Permuted xs ys → a ≡ b
  same xs ys a b g h p =
      let e : g.rows ≡ h.rows =
      only_table o g.rows h.rows g.fine h.fine
      (λ k. g.counts k ∙ same_count o k p ∙ sym (h.counts k))
      (λ k. g.totals k ∙ same_total o k p ∙ sym (h.totals k)) in
      one_account a b (g.words ∙ ap (table_words o) e ∙ sym h.words) (g.number ∙ ap pos (same_nulls p) ∙ sym h.number)

  number_within : (k : ℕ) → k ≤ most_sales → beyond_number (pos k) ≡ false
  number_within k h = rw (le-ltb k 0 (omega arith), le-ltb most_sales k h)

  handed_on : (sales : List Sale) (a : Account) → Good sales a → HandedOn o a
  unfolding fine_subtotals
  handed_on sales a g =
      let w = rows_wide o g.rows g.fine.wide in
      let t = table_rows_lem (table_width o) (map row_of g.rows) w in
      let r : rows_in o a.table ≡ map row_of g.rows = ap (rows_in o) g.words ∙ t in
      record {
        table = rw g.words (table_is (table_width o) (map row_of g.rows) w);
        subtotals = rw (r, rows_whole o g.rows g.fine.wide g.whole, subtotals_back o g.rows g.fine.wide) (rising_ascending o g.rows g.fine.order);
        rows = rw r (rows_within_lem o g.rows g.fine.wide g.fine.sold g.bounded);
        number = rw g.number (number_within (nulls_of sales) g.few);
      }

  pub all_orders : AllOrders o
  all_orders = record {
    sums = λ c a e. let g = good c a e in record { rows = g.rows; words = g.words; tells = fine_tells o g.rows (amounts_of (all_sales o c)) g.fine g.counts g.totals; left_out = g.number };
    handed_on = λ c a e. handed_on (all_sales o c) a (good c a e);
    same = λ c d a b e f p. same (all_sales o c) (all_sales o d) a b (good c a e) (good d b f) p;
  }
