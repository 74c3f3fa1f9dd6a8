-- What the join of two accounts answers and leaves, from what its parts do. Assumes nothing.
use Rattle.std.specs.Prelude.{Result, Ok, Err}
use mathlib.Core.Path.{◌≡◌, refl, sym, ap, ◌∙◌}
use mathlib.Core.Bool.{Bool, true, false, cond, not, ◌&&◌, ◌||◌}
use mathlib.Core.List.{List, [], ◌∷◌, map}
use Prim.Native.Nat.{ℕ, suc, ◌+◌, ◌-◌, ◌*◌, ◌^◌, ◌≤◌, ◌<◌}
use native.Mathlib.Omega.{arith}
use borrow.Author.Tests.{lt-ltb, le-ltb, ltb-false, leb-false}
use lib.Dec.{ltb, leb}
use lib.IntN.{ℤ, pos, negsuc, nat_abs, ◌+ℤ◌}
use lib.Signed.{mag}
use lib.ListN.{length, set, length-map, drop, length-drop}
use lib.Seq.{length-take-le}
use Rattle.frames.specs.Cells.{Rows, Words, rows_of}
use Rattle.frames.specs.Frame.{frame_words, row_count, frame_rows, values_in, marks_in, is_table}
use Rattle.frames.proofs.FrameLaws.{table_parts}
use Rattle.frames.proofs.BoolLaws.{and-true}
use Rattle.order.specs.declared.options.Options.{Options}
use Rattle.frames.specs.declared.refusals.Refusal.{Refusal}
use Rattle.frames.specs.declared.refusals.Refusal.TheVariants.{Unsorted, Beyond, NoRoom}
use Rattle.tables.specs.Table.{laid, table_of}
use Rattle.tables.specs.Lay.{flat, lay_cells}
use Rattle.tables.proofs.LayLaws.{lay_table}
use Rattle.tables.proofs.TableLaws.{Wide}
use Rattle.tables.proofs.CellLaws.{flat_length, rows_are_wide}
use Rattle.rows.specs.nulls.Nulls.{any_null}
use Rattle.takings.specs.Subtotals.{Subtotal, add_all, ascending, row_of, subtotals_of, beyond_rows, beyond_number, sales_in, most_sales}
use Rattle.takings.specs.Calls.{table_width, rows_in, fine_subtotals, result, leave, join_answer, join_call}
use Rattle.takings.specs.declared.Taken.{Taken}
use Rattle.takings.specs.Calls.{taken_of}
use Rattle.takings.proofs.SubtotalLaws.{Every, rising, all_sales_lem, every_all}
use Rattle.subtotals.specs.takejudge.Judge.{Sheet, fine_rows, beyond_accounts}
use Rattle.subtotals.proofs.takejudge.JudgeLaws.{beyond_words_lem, sales_words}
use Rattle.subtotals.specs.takejoin.Join.{joined, subs_from, Account}
use Rattle.subtotals.proofs.takejoin.JoinLaws.{added_joined}
use Rattle.subtotals.proofs.takejoin.WalkLaws.{sub_long}
use Rattle.subtotals.specs.takewords.Judged.{tables_judged}
use Rattle.subtotals.proofs.takewords.JudgeLaws.{tables_fine, tables_refused}
use Rattle.subtotals.specs.joincall.JoinRows.{rows_answer, RowsContract, JoinContract}

and_no : (x y : Bool) → y ≡ false → (x && y) ≡ false
and_no true y e = e
and_no false y e = refl

or_parts : (a b : Bool) → (a || b) ≡ false → (a ≡ false) × (b ≡ false)
or_parts true b e = (cc, cc)
or_parts false b e = (refl, e)

-- Two refusals by one number.
twice : (x y : Bool) (r : Refusal) (z : Result Taken Refusal) → (x || y) ≡ true → cond x (Err r) (cond y (Err r) z) ≡ Err r
twice true y r z e = refl
twice false y r z e = rw e

pub leave_answer : (o : Options) (ts : List Subtotal) (w : Result Taken Refusal) (out : Words) → w ≡ (leave o ts w out).answer
leave_answer o ts (Ok t) out = refl
leave_answer o ts (Err r) out = refl

-- ---- by rows
module _ (o : Options) (w : ℕ) (A : Rows) (k : ℤ) (B : Rows) (l : ℤ) (out : Words) where
  abbrev ts : List Subtotal
  ts = add_all o (subtotals_of o A) (subtotals_of o B)

  leaves : (r : Result Taken Refusal) → rows_answer o w A k B l out ≡ r → RowsContract o w A k B l out r (leave o ts r out).out
  leaves r e = record { answer = sym e; words = ap (λ (z : Result Taken Refusal). (leave o ts z out).out) (sym e) }

  answer_unsorted : (fine_rows o w A && fine_rows o w B) ≡ false → rows_answer o w A k B l out ≡ Err Unsorted
  unfolding rows_answer
  answer_unsorted e = rw e

  pub unsorted_first : fine_rows o w A ≡ false → RowsContract o w A k B l out (Err Unsorted) out
  unsorted_first e = leaves (Err Unsorted) (answer_unsorted (rw e))

  pub unsorted_second : fine_rows o w B ≡ false → RowsContract o w A k B l out (Err Unsorted) out
  unsorted_second e = leaves (Err Unsorted) (answer_unsorted (and_no (fine_rows o w A) (fine_rows o w B) e))

  abbrev rows_beyond : Bool
  rows_beyond = beyond_rows o A || beyond_rows o B || beyond_number k || beyond_number l

  abbrev sums_beyond : Bool
  sums_beyond = ltb most_sales (sales_in (subtotals_of o A) + sales_in (subtotals_of o B)) || ltb most_sales (nat_abs k + nat_abs l)

  module _ (d : fine_rows o w A ≡ true) (f : fine_rows o w B ≡ true) where
    sums : sales_in ts ≡ sales_in (subtotals_of o A) + sales_in (subtotals_of o B)
    sums = all_sales_lem o (subtotals_of o A) (subtotals_of o B)

    answer_beyond : beyond_accounts o A k B l ≡ true → rows_answer o w A k B l out ≡ Err Beyond
    unfolding rows_answer result beyond_accounts
    answer_beyond e = rw (d, f, sums) (twice rows_beyond sums_beyond Beyond _ e)

    pub beyond : beyond_accounts o A k B l ≡ true → RowsContract o w A k B l out (Err Beyond) out
    beyond e = leaves (Err Beyond) (answer_beyond e)

    module _ (b : beyond_accounts o A k B l ≡ false) (n : ℕ) (c : n ≡ length ts) where
      within : (rows_beyond ≡ false) × (sums_beyond ≡ false)
      unfolding beyond_accounts
      within = or_parts rows_beyond sums_beyond b

      answer_short : ltb (length out) (frame_words n (table_width o)) ≡ true → rows_answer o w A k B l out ≡ Err NoRoom
      unfolding rows_answer result
      answer_short e = rw (d, f, within.0, sums, within.1, ← c, e)

      answer_wrote : ltb (length out) (frame_words n (table_width o)) ≡ false → rows_answer o w A k B l out ≡ Ok (taken_of n (pos (nat_abs k + nat_abs l)))
      unfolding rows_answer result
      answer_wrote e = rw (d, f, within.0, sums, within.1, ← c, e)

      module _ (width : w ≡ table_width o) where
        pub no_room_lem : leb (frame_words n w) (length out) ≡ false → RowsContract o w A k B l out (Err NoRoom) out
        no_room_lem e = leaves (Err NoRoom) (answer_short (rw (← width) (lt-ltb (length out) (frame_words n w) (leb-false (frame_words n w) (length out) e))))

        pub wrote : frame_words n w ≤ length out → (out' : Words) → out' ≡ laid (table_of w (map row_of ts)) out → RowsContract o w A k B l out (Ok (taken_of n (pos (nat_abs k + nat_abs l)))) out'
        wrote h out' e =
            let r = leaves (Ok (taken_of n (pos (nat_abs k + nat_abs l)))) (answer_wrote (rw (← width) (le-ltb (length out) (frame_words n w) h))) in
            record { answer = r.answer; words = rw width at e ∙ r.words }

-- ---- the joined table
subs_wide : (o : Options) (w : ℕ) (rs : Rows) → o.by ≤ w → Wide w rs → Every (λ t. length t.group ≡ o.by) (subtotals_of o rs)
unfolding subtotals_of
subs_wide o w [] h a = tt
subs_wide o w (r ∷ rs) h a = (length-take-le o.by r (omega (arith, a.0)), subs_wide o w rs h a.1)

rows_wide : (b w : ℕ) (ts : List Subtotal) → w ≡ suc (suc b) → Every (λ t. length t.group ≡ b) ts → Wide w (map row_of ts)
rows_wide b w [] e h = tt
rows_wide b w (t ∷ ts) e h = (sub_long b w t e h.0, rows_wide b w ts e h.1)

from_first : (o : Options) (w n : ℕ) (vs ms : Words) → subs_from o w 0 n vs ms ≡ subtotals_of o (rows_of w n vs ms)
from_first o w n vs ms = let z : n - 0 ≡ n = omega arith in let x : 0 * w ≡ 0 = omega arith in rw (z, x)

module _ (o : Options) (w na : ℕ) (av am : Words) (a : Sheet o.by w na av am) (nb : ℕ) (bv bm : Words) (b : Sheet o.by w nb bv bm) where
  abbrev A : Rows
  A = rows_of w na av am

  abbrev B : Rows
  B = rows_of w nb bv bm

  -- Side by side is the one added to the other, where both are in group order.
  pub added : fine_rows o w B ≡ true → joined o (subs_from o w 0 na av am) (subs_from o w 0 nb bv bm) ≡ add_all o (subtotals_of o A) (subtotals_of o B)
  unfolding fine_rows
  added f =
      let r = rising o (subtotals_of o B) (and-true (not (any_null w B)) (ascending o (subtotals_of o B)) f).1 in
      rw (from_first o w na av am, from_first o w nb bv bm) (sym (added_joined o (subtotals_of o A) (subtotals_of o B) r))

  wide : Wide w (map row_of (add_all o (subtotals_of o A) (subtotals_of o B)))
  wide =
      let e = a.width in
      rows_wide o.by w (add_all o (subtotals_of o A) (subtotals_of o B)) e
      (every_all o (λ g. length g ≡ o.by) (subtotals_of o A) (subtotals_of o B)
      (subs_wide o w B (omega arith) (rows_are_wide w nb bv bm (omega (arith, b.values)) (omega (arith, b.marks))))
      (subs_wide o w A (omega arith) (rows_are_wide w na av am (omega (arith, a.values)) (omega (arith, a.marks)))))

  pub joined_table : fine_rows o w B ≡ true → (n : ℕ) (out out₁ : Words) → n ≡ length (add_all o (subtotals_of o A) (subtotals_of o B)) → 2 + 2 * (n * w) ≤ length out
      → out₁ ≡ lay_cells (n * w) 0 (flat (map row_of (joined o (subs_from o w 0 na av am) (subs_from o w 0 nb bv bm)))) out
      → set (set out₁ 0 (pos n)) 1 (pos w) ≡ laid (table_of w (map row_of (add_all o (subtotals_of o A) (subtotals_of o B)))) out
  joined_table f n out out₁ c r e =
      let ts : List Subtotal = add_all o (subtotals_of o A) (subtotals_of o B) in
      let m : length (map row_of ts) ≡ n = length-map ts row_of ∙ sym c in
      let s : length (flat (map row_of ts)) ≡ n * w = flat_length w (map row_of ts) wide ∙ ap (λ (z : ℕ). z * w) m in
      ap (λ (z : Words). set (set z 0 (pos n)) 1 (pos w)) (e ∙ ap (λ (z : List Subtotal). lay_cells (n * w) 0 (flat (map row_of z)) out) (added f))
      ∙ ap (λ (z : ℕ). set (set (lay_cells (n * w) 0 (flat (map row_of ts)) out) 0 (pos z)) 1 (pos w)) (sym m)
      ∙ lay_table (n * w) w (map row_of ts) out s r

  -- Both are within the bounds.
  pub record Accounts : Type 0 where
    pub first : Account o.by w na av am
    pub second : Account o.by w nb bv bm
    pub numbers : (k l : ℤ) → beyond_accounts o A k B l ≡ false → (beyond_number k ≡ false) × (beyond_number l ≡ false) × (nat_abs k + nat_abs l ≤ most_sales)

  parts : (x y s t u v : Bool) → ((x || y || s || t) || (u || v)) ≡ false → (x ≡ false) × (y ≡ false) × (s ≡ false) × (t ≡ false) × (u ≡ false) × (v ≡ false)
  parts x y s t u v e =
      let p = or_parts (x || y || s || t) (u || v) e in
      let q = or_parts (x || y || s) t p.0 in
      let q1 = or_parts (x || y) s q.0 in
      let q2 = or_parts x y q1.0 in
      let q3 = or_parts u v p.1 in
      (q2.0, q2.1, q1.1, q.1, q3.0, q3.1)

  pub accounts : (k l : ℤ) → beyond_accounts o A k B l ≡ false → Accounts
  unfolding beyond_accounts
  accounts k l e =
      let p = parts (beyond_rows o A) (beyond_rows o B) (beyond_number k) (beyond_number l) (ltb most_sales (sales_in (subtotals_of o A) + sales_in (subtotals_of o B))) (ltb most_sales (nat_abs k + nat_abs l)) e in
      let s = ltb-false most_sales (sales_in (subtotals_of o A) + sales_in (subtotals_of o B)) p.4 in
      record {
        first = record {
          values = omega (arith, a.values);
          marks = omega (arith, a.marks);
          width = a.width;
          paired = omega (arith, a.values, a.marks);
          fine = a.fine;
          within = sym (beyond_words_lem o w na av am a) ∙ p.0;
          few = omega (arith, s, sales_words o w na av am a);
        };
        second = record {
          values = omega (arith, b.values);
          marks = omega (arith, b.marks);
          width = b.width;
          paired = omega (arith, b.values, b.marks);
          fine = b.fine;
          within = sym (beyond_words_lem o w nb bv bm b) ∙ p.1;
          few = omega (arith, s, sales_words o w nb bv bm b);
        };
        numbers = λ k l e. let p = parts (beyond_rows o A) (beyond_rows o B) (beyond_number k) (beyond_number l) (ltb most_sales (sales_in (subtotals_of o A) + sales_in (subtotals_of o B))) (ltb most_sales (nat_abs k + nat_abs l)) e in
            (p.2, p.3, ltb-false most_sales (nat_abs k + nat_abs l) p.5);
      }

-- ---- a table by its words
module _ (c : ℕ) (f : Words) (h : is_table c f ≡ true) where
  pub table_exact : length f ≡ frame_words (row_count f) c
  table_exact = (table_parts c f h).exact

  table_values_lem : length (values_in c f) ≡ row_count f * c
  table_values_lem = length-take-le (row_count f * c) (drop 2 f) (rw (length-drop 2 f) (omega (arith, table_exact)))

  table_marks : length (marks_in c f) ≡ row_count f * c
  table_marks = length-drop (2 + row_count f * c) f ∙ omega (arith, table_exact)

pub sheet_in : (b c : ℕ) (f : Words) → c ≡ suc (suc b) → is_table c f ≡ true → Sheet b c (row_count f) (values_in c f) (marks_in c f)
sheet_in b c f e h = record { width = e; values = table_values_lem c f h; marks = table_marks c f h; fine = (table_parts c f h).fine }

-- ---- the numbers beside the tables
pub sum_number : (k l : ℤ) → beyond_number k ≡ false → beyond_number l ≡ false → k +ℤ l ≡ pos (nat_abs k + nat_abs l)
sum_number (pos m) (pos n) e f = refl
sum_number (pos m) (negsuc n) e f = let z : ◌≡◌ {A = ℕ} 0 1 = cc in absurd (omega arith)
sum_number (negsuc m) l e f = let z : ◌≡◌ {A = ℕ} 0 1 = cc in absurd (omega arith)

pub number_fits : (k l : ℤ) → beyond_number k ≡ false → beyond_number l ≡ false → nat_abs k + nat_abs l ≤ most_sales → mag (k +ℤ l) < 2 ^ 63
number_fits k l e f h = rw (sum_number k l e f) (omega arith)

-- ---- by words
module _ (o : Options) (table : Words) (k : ℤ) (other : Words) (l : ℤ) (out : Words) where
  abbrev all : List Subtotal
  all = add_all o (subtotals_of o (rows_in o table)) (subtotals_of o (rows_in o other))

  call_leaves : (r : Result Taken Refusal) → join_answer o table k other l out ≡ r → JoinContract o table k other l out r (leave o all r out).out
  unfolding join_call
  call_leaves r e = record {
    answer = sym e ∙ leave_answer o all (join_answer o table k other l out) out;
    words = ap (λ (z : Result Taken Refusal). (leave o all z out).out) (sym e);
  }

  pub join_refused : (r : Refusal) → tables_judged o table other ≡ Err r → JoinContract o table k other l out (Err r) out
  join_refused r e = call_leaves (Err r) (tables_refused o table other k l out r e)

  module _ (v : tables_judged o table other ≡ Ok tt) (w : ℕ) (e : w ≡ table_width o) where
    answer_rows_lem : join_answer o table k other l out ≡ rows_answer o (table_width o) (rows_in o table) k (rows_in o other) l out
    unfolding join_answer rows_answer fine_subtotals fine_rows
    answer_rows_lem = (tables_fine o table other v).past _

    rows_are : (f : Words) → rows_of w (row_count f) (values_in w f) (marks_in w f) ≡ rows_in o f
    unfolding frame_rows
    rows_are f = rw e

    contract : (r : Result Taken Refusal) (out' : Words) → RowsContract o (table_width o) (rows_in o table) k (rows_in o other) l out r out' → JoinContract o table k other l out r out'
    contract r out' c =
        let a : join_answer o table k other l out ≡ r = answer_rows_lem ∙ sym c.answer in
        let z = call_leaves r a in
        record { answer = z.answer; words = c.words ∙ ap (λ (z : Result Taken Refusal). (leave o all z out).out) (sym c.answer) ∙ z.words }

    pub rows_joined : (r : Result Taken Refusal) (out' : Words)
        → RowsContract o w (rows_of w (row_count table) (values_in w table) (marks_in w table)) k (rows_of w (row_count other) (values_in w other) (marks_in w other)) l out r out'
        → JoinContract o table k other l out r out'
    rows_joined r out' c = contract r out' (rw (← rows_are table, ← rows_are other, ← e) c)
