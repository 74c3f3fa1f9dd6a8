-- The promises of the call. Assumes nothing.
use Rattle.std.specs.Prelude.{Result, Ok, Err}
use mathlib.Core.Path.{◌≡◌, refl, sym, ap, ◌∙◌}
use mathlib.Core.Bool.{Bool, true, false, cond, not}
use Prim.Native.Nat.{ℕ, ◌≤◌, ◌<◌}
use native.Mathlib.Omega.{arith}
use borrow.Author.Tests.{ltb-true, ltb-false}
use lib.Dec.{ltb}
use lib.ListN.{length, drop}
use Rattle.frames.specs.Cells.{Rows, Words}
use Rattle.frames.specs.Frame.{row_count, frame_rows, frame_words, values_in, marks_in}
use Rattle.frames.proofs.WordLaws.{rows_length, part_behind}
use Rattle.order.specs.options.Options.{bad_options, many_carried, bad_ranked, right_columns}
use Rattle.order.specs.declared.options.Options.{Options}
use Rattle.order.specs.Order.{sorted}
use Rattle.order.specs.Listed.{lacks_code}
use Rattle.tables.specs.Table.{table_of, laid, leave}
use Rattle.frames.specs.declared.refusals.Refusal.{Refusal}
use Rattle.frames.specs.declared.refusals.Refusal.TheVariants.{BadOptions, TooManyCarried, BadRanks, BadFrame, UnknownCode, BadColumns, Unsorted, NoRoom}
use Rattle.tables.proofs.TableLaws.{Wide, table_is, table_rows_lem, table_length, laid_take}
use Rattle.books.specs.Standing.{notices}
use Rattle.books.specs.Calls.{is_book, rows_in, stand_answer, stand_call}
use Rattle.books.proofs.bookjudge.JudgeLaws.{leave_answer}
use Rattle.books.proofs.notices.NoticeLaws.{notices_length, notices_wide}
use Rattle.books.specs.noticecall.Promises.{Listed, Promises}

-- ---- what the answer says
passed : (b : Bool) (n : Refusal) (t : Result ℕ Refusal) (k : ℕ) → cond b (Err n) t ≡ Ok k → (b ≡ false) × (t ≡ Ok k)
passed true n t k e = (cc, cc)
passed false n t k e = (refl, e)

six : (x y z a b c d f : Bool) (m : ℕ) →
    cond x (Err BadOptions) (cond y (Err TooManyCarried) (cond z (Err BadRanks) (cond a (Err BadFrame) (cond b (Err UnknownCode) (cond c (Err BadColumns) (cond d (Err Unsorted) (cond f (Err NoRoom) (Ok m))))))))
    ≡ Err NoRoom → f ≡ true
six true y z a b c d f m e = cc
six false true z a b c d f m e = cc
six false false true a b c d f m e = cc
six false false false true b c d f m e = cc
six false false false false true c d f m e = cc
six false false false false false true d f m e = cc
six false false false false false false true f m e = cc
six false false false false false false false true m e = refl
six false false false false false false false false m e = cc

same_rows : (m k : ℕ) → ◌≡◌ {A = Result ℕ Refusal} (Ok m) (Ok k) → m ≡ k
same_rows m k e = cc

module _ (o : Options) (q : ℕ) (book out : Words) where
  abbrev R : Rows
  R = rows_in o book

  abbrev all : Rows
  all = notices o q 0 R

  answers : (stand_call o q book out).answer ≡ stand_answer o q book out
  unfolding stand_call
  answers = sym (leave_answer 2 all (stand_answer o q book out) out)

  leaves : (w : Result ℕ Refusal) → stand_answer o q book out ≡ w → (stand_call o q book out).out ≡ (leave 2 all w out).out
  unfolding stand_call
  leaves w e = ap (λ (z : Result ℕ Refusal). (leave 2 all z out).out) e

  wide : Wide 2 all
  wide = notices_wide o q 0 R

  size : length all ≡ length R
  size = notices_length o q 0 R

  many : length R ≡ row_count book
  unfolding frame_rows
  many = rows_length (right_columns o) (row_count book) (values_in (right_columns o) book) (marks_in (right_columns o) book)

  -- The answer tells how many rows there are, and that their notices had room.
  wrote : (k : ℕ) → stand_answer o q book out ≡ Ok k → (frame_words (length R) 2 ≤ length out) × (length R ≡ k)
  unfolding stand_answer
  wrote k e =
      let p1 = passed (bad_options o) BadOptions _ k e in
      let p10 = passed (many_carried o) TooManyCarried _ k p1.1 in
      let p11 = passed (bad_ranked o) BadRanks _ k p10.1 in
      let p5 = passed (not (is_book o book)) BadFrame _ k p11.1 in
      let p12 = passed (lacks_code o R) UnknownCode _ k p5.1 in
      let p13 = passed (not (ltb q o.carried)) BadColumns _ k p12.1 in
      let p14 = passed (not (sorted o R)) Unsorted _ k p13.1 in
      let p6 = passed (ltb (length out) (frame_words (length R) 2)) NoRoom _ k p14.1 in
      (ltb-false (length out) (frame_words (length R) 2) p6.0, same_rows (length R) k p6.1)

  short : stand_answer o q book out ≡ Err NoRoom → length out < frame_words (length R) 2
  unfolding stand_answer
  short e =
      ltb-true (length out) (frame_words (length R) 2)
      (six (bad_options o) (many_carried o) (bad_ranked o) (not (is_book o book)) (lacks_code o R) (not (ltb q o.carried)) (not (sorted o R)) (ltb (length out) (frame_words (length R) 2)) (length R) e)

  behind : frame_words (length all) 2 ≤ length out → drop (frame_words (length all) 2) (laid (table_of 2 all) out) ≡ drop (frame_words (length all) 2) out
  unfolding laid
  behind h = part_behind out 0 (table_of 2 all) (length (table_of 2 all)) (frame_words (length all) 2) (omega arith) (omega arith) (omega (arith, table_length 2 all wide))

  lists : frame_words (length all) 2 ≤ length out → Listed o q book out (length all) (laid (table_of 2 all) out)
  lists h =
      let e = laid_take 2 all wide out h in
      record { table = rw e (table_is 2 all wide); rows = rw e (table_rows_lem 2 all wide); rest = behind h }

  pub promises : Promises o q book out
  promises = record {
    kept = λ n e. leaves (Err n) (sym answers ∙ e);
    listed = λ k e. let w = wrote k (sym answers ∙ e) in let z : length all ≡ k = size ∙ w.1 in rw (leaves (Ok k) (sym answers ∙ e), ← z) (lists (rw size w.0));
    counted = λ k e. sym (wrote k (sym answers ∙ e)).1 ∙ many;
    enough = λ h e. let s = short (sym answers ∙ e) in absurd (omega (arith, many, s, h));
  }
