-- The promises of the merge. Assumes nothing.
use Rattle.std.specs.Prelude.{Result, Ok, Err}
use mathlib.Core.Path.{◌≡◌, refl, sym, ap, ◌∙◌}
use mathlib.Core.Bool.{Bool, true, false, cond, not, ◌&&◌, ◌||◌}
use Prim.Native.Nat.{ℕ, ◌+◌, ◌≤◌, ◌<◌}
use native.Mathlib.Omega.{arith}
use borrow.Author.Tests.{ltb-true, ltb-false, not-false}
use lib.Dec.{ltb}
use lib.ListN.{length, take, drop}
use Rattle.frames.specs.Cells.{Rows, Words}
use Rattle.frames.specs.Frame.{row_count, frame_rows, frame_words, values_in, marks_in}
use Rattle.frames.proofs.BoolLaws.{and-true}
use Rattle.frames.proofs.WordLaws.{rows_length, part_behind}
use Rattle.order.specs.options.Options.{bad_options, many_carried, bad_ranked, right_columns}
use Rattle.order.specs.declared.options.Options.{Options}
use Rattle.order.specs.Order.{sorted}
use Rattle.order.specs.Listed.{lacks_code}
use Rattle.tables.specs.Table.{table_of, laid, leave}
use Rattle.frames.specs.declared.refusals.Refusal.{Refusal}
use Rattle.frames.specs.declared.refusals.Refusal.TheVariants.{BadOptions, TooManyCarried, BadRanks, BadFrame, UnknownCode, Unsorted, NoRoom}
use Rattle.tables.proofs.TableLaws.{Wide, table_is, table_rows_lem, table_length, laid_take}
use Rattle.tables.proofs.CellLaws.{rows_are_wide}
use Rattle.books.specs.Merge.{merge}
use Rattle.books.specs.Calls.{is_book, rows_in, merge_answer, merge_call}
use Rattle.books.proofs.MergeLaws.{merge_laws}
use Rattle.books.proofs.WalkLaws.{merge_all, merge_length}
use Rattle.books.proofs.bookjudge.JudgeLaws.{table_values_lem, table_marks, leave_answer}
use Rattle.books.specs.bookmerge.Promises.{MergedBook, Promises}

-- ---- what the answer says
-- A test that stops a call did not stop one that wrote, or that another number stopped.
passed : (b : Bool) (n : Refusal) (t : Result ℕ Refusal) (k : ℕ) → cond b (Err n) t ≡ Ok k → (b ≡ false) × (t ≡ Ok k)
passed true n t k e = (cc, cc)
passed false n t k e = (refl, e)

six : (x y z a b c d : Bool) (m : ℕ) →
    cond x (Err BadOptions) (cond y (Err TooManyCarried) (cond z (Err BadRanks) (cond a (Err BadFrame) (cond b (Err UnknownCode) (cond c (Err Unsorted) (cond d (Err NoRoom) (Ok m)))))))
    ≡ Err NoRoom → d ≡ true
six true y z a b c d m e = cc
six false true z a b c d m e = cc
six false false true a b c d m e = cc
six false false false true b c d m e = cc
six false false false false true c d m e = cc
six false false false false false true d m e = cc
six false false false false false false true m e = refl
six false false false false false false false m e = cc

same_rows : (m k : ℕ) → ◌≡◌ {A = Result ℕ Refusal} (Ok m) (Ok k) → m ≡ k
same_rows m k e = cc

module _ (o : Options) (house festival out : Words) where
  abbrev H : Rows
  H = rows_in o house

  abbrev F : Rows
  F = rows_in o festival

  abbrev all : Rows
  all = merge o H F

  abbrev c : ℕ
  c = right_columns o

  answers : (merge_call o house festival out).answer ≡ merge_answer o house festival out
  unfolding merge_call
  answers = sym (leave_answer c all (merge_answer o house festival out) out)

  leaves : (w : Result ℕ Refusal) → merge_answer o house festival out ≡ w → (merge_call o house festival out).out ≡ (leave c all w out).out
  unfolding merge_call
  leaves w e = ap (λ (z : Result ℕ Refusal). (leave c all z out).out) e

  -- A merge that was written: both books are tables and sorted, their rows are so many, and they had room.
  record Done (k : ℕ) : Type 0 where
    house_is : is_book o house ≡ true
    festival_is : is_book o festival ≡ true
    house_sorted : sorted o H ≡ true
    festival_sorted : sorted o F ≡ true
    room : frame_words (length H + length F) c ≤ length out
    count : length H + length F ≡ k

  done : (k : ℕ) → merge_answer o house festival out ≡ Ok k → Done k
  unfolding merge_answer
  done k e =
      let p1 = passed (bad_options o) BadOptions _ k e in
      let p10 = passed (many_carried o) TooManyCarried _ k p1.1 in
      let p11 = passed (bad_ranked o) BadRanks _ k p10.1 in
      let p5 = passed (not (is_book o house && is_book o festival)) BadFrame _ k p11.1 in
      let p12 = passed (lacks_code o H || lacks_code o F) UnknownCode _ k p5.1 in
      let p14 = passed (not (sorted o H && sorted o F)) Unsorted _ k p12.1 in
      let p6 = passed (ltb (length out) (frame_words (length H + length F) c)) NoRoom _ k p14.1 in
      let t = and-true (is_book o house) (is_book o festival) (not-false (is_book o house && is_book o festival) p5.0) in
      let s = and-true (sorted o H) (sorted o F) (not-false (sorted o H && sorted o F) p14.0) in
      record {
        house_is = t.0;
        festival_is = t.1;
        house_sorted = s.0;
        festival_sorted = s.1;
        room = ltb-false (length out) (frame_words (length H + length F) c) p6.0;
        count = same_rows (length H + length F) k p6.1;
      }

  short : merge_answer o house festival out ≡ Err NoRoom → length out < frame_words (length H + length F) c
  unfolding merge_answer
  short e =
      ltb-true (length out) (frame_words (length H + length F) c)
      (six (bad_options o) (many_carried o) (bad_ranked o) (not (is_book o house && is_book o festival)) (lacks_code o H || lacks_code o F) (not (sorted o H && sorted o F)) (ltb (length out) (frame_words (length H + length F) c)) (length H + length F) e)

  -- ---- the rows of a book
  many : (f : Words) → length (rows_in o f) ≡ row_count f
  unfolding frame_rows
  many f = rows_length c (row_count f) (values_in c f) (marks_in c f)

  wide_book : (f : Words) → is_book o f ≡ true → Wide c (rows_in o f)
  unfolding frame_rows
  wide_book f h = rows_are_wide c (row_count f) (values_in c f) (marks_in c f) (omega (arith, table_values_lem c f h)) (omega (arith, table_marks c f h))

  module _ (k : ℕ) (d : Done k) where
    wide : Wide c all
    wide = merge_all (λ r. length r ≡ c) o H F (wide_book house d.house_is) (wide_book festival d.festival_is)

    size : length all ≡ k
    size = merge_length o H F ∙ d.count

    fits : frame_words (length all) c ≤ length out
    fits = rw (merge_length o H F) d.room

    behind : drop (frame_words (length all) c) (laid (table_of c all) out) ≡ drop (frame_words (length all) c) out
    unfolding laid
    behind = part_behind out 0 (table_of c all) (length (table_of c all)) (frame_words (length all) c) (omega arith) (omega (arith, fits, table_length c all wide)) (omega (arith, table_length c all wide))

    merged_book : MergedBook o house festival out (length all) (laid (table_of c all) out)
    merged_book =
        let e = laid_take c all wide out fits in
        let t : rows_in o (take (frame_words (length all) c) (laid (table_of c all) out)) ≡ all = rw e (table_rows_lem c all wide) in
        let m = merge_laws o H F in
        record {
          book = rw e (table_is c all wide);
          rows = rw t (m.merged d.house_sorted d.festival_sorted);
          in_order = rw t (m.in_order d.house_sorted d.festival_sorted);
          rest = behind;
        }

  pub promises : Promises o house festival out
  promises = record {
    kept = λ n e. leaves (Err n) (sym answers ∙ e);
    merged = λ k e. let a = sym answers ∙ e in let d = done k a in rw (leaves (Ok k) a, ← size k d) (merged_book k d);
    counted = λ k e. sym (done k (sym answers ∙ e)).count ∙ rw (many house, many festival);
    enough = λ h e. let s = short (sym answers ∙ e) in let g : frame_words (length H + length F) c ≤ length out = rw (many house, many festival) h in absurd (omega (arith, s, g));
  }
