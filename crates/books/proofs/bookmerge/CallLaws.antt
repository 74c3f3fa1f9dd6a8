-- What the merge answers and leaves, from what its parts do. Assumes nothing.
use Rattle.std.specs.Prelude.{Result, Ok, Err}
use mathlib.Core.Path.{◌≡◌, refl, sym, ap, ◌∙◌}
use mathlib.Core.Bool.{Bool, true, false, ◌&&◌}
use Prim.Native.Nat.{ℕ, ◌+◌, ◌≤◌}
use borrow.Author.Tests.{le-ltb}
use lib.Dec.{leb}
use lib.ListN.{length}
use Rattle.frames.specs.Cells.{Rows, Words, rows_of}
use Rattle.frames.specs.Frame.{frame_words, row_count, frame_rows, values_in, marks_in}
use Rattle.order.specs.options.Options.{right_columns}
use Rattle.order.specs.declared.options.Options.{Options}
use Rattle.order.specs.Order.{sorted}
use Rattle.tables.specs.Table.{leave, laid, table_of}
use Rattle.frames.specs.declared.refusals.Refusal.{Refusal}
use Rattle.frames.specs.declared.refusals.Refusal.TheVariants.{Unsorted, NoRoom}
use Rattle.books.specs.Merge.{merge}
use Rattle.books.specs.Calls.{rows_in, merge_answer, merge_call, MergeContract}
use Rattle.books.specs.bookjudge.Judged.{books_judged}
use Rattle.books.proofs.bookjudge.JudgeLaws.{books_fine, books_refused, leave_answer, room_short}
use Rattle.books.specs.bookmerge.BookRows.{books_answer, BooksContract}

and_no : (x y : Bool) → y ≡ false → (x && y) ≡ false
and_no true y e = e
and_no false y e = refl

-- ---- by rows
module _ (o : Options) (w : ℕ) (H F : Rows) (out : Words) where
  leaves : (r : Result ℕ Refusal) → books_answer o w H F out ≡ r → BooksContract o w H F out r (leave w (merge o H F) r out).out
  leaves r e = record { answer = sym e; words = ap (λ (z : Result ℕ Refusal). (leave w (merge o H F) z out).out) (sym e) }

  answer_unsorted : (sorted o H && sorted o F) ≡ false → books_answer o w H F out ≡ Err Unsorted
  unfolding books_answer
  answer_unsorted e = rw e

  pub unsorted_house : sorted o H ≡ false → BooksContract o w H F out (Err Unsorted) out
  unsorted_house e = leaves (Err Unsorted) (answer_unsorted (rw e))

  pub unsorted_festival : sorted o F ≡ false → BooksContract o w H F out (Err Unsorted) out
  unsorted_festival e = leaves (Err Unsorted) (answer_unsorted (and_no (sorted o H) (sorted o F) e))

  module _ (c : sorted o H ≡ true) (d : sorted o F ≡ true) (n : ℕ) (k : n ≡ length H + length F) where
    answer_short : leb (frame_words n w) (length out) ≡ false → books_answer o w H F out ≡ Err NoRoom
    unfolding books_answer
    answer_short e = rw (c, d, ← k, room_short n w (length out) e)

    answer_wrote : frame_words n w ≤ length out → books_answer o w H F out ≡ Ok n
    unfolding books_answer
    answer_wrote l = rw (c, d, ← k, le-ltb (length out) (frame_words n w) l)

    pub no_room_lem : leb (frame_words n w) (length out) ≡ false → BooksContract o w H F out (Err NoRoom) out
    no_room_lem e = leaves (Err NoRoom) (answer_short e)

    pub wrote : frame_words n w ≤ length out → (out' : Words) → out' ≡ laid (table_of w (merge o H F)) out → BooksContract o w H F out (Ok n) out'
    wrote l out' e = let r = leaves (Ok n) (answer_wrote l) in record { answer = r.answer; words = e ∙ r.words }

-- ---- by words
module _ (o : Options) (house festival out : Words) where
  abbrev rows : Rows
  rows = merge o (rows_in o house) (rows_in o festival)

  call_leaves : (r : Result ℕ Refusal) → merge_answer o house festival out ≡ r → MergeContract o house festival out r (leave (right_columns o) rows r out).out
  unfolding merge_call
  call_leaves r e = record {
    answer = sym e ∙ leave_answer (right_columns o) rows (merge_answer o house festival out) out;
    words = ap (λ (z : Result ℕ Refusal). (leave (right_columns o) rows z out).out) (sym e);
  }

  pub merge_refused : (r : Refusal) → books_judged o house festival ≡ Err r → MergeContract o house festival out (Err r) out
  merge_refused r e = call_leaves (Err r) (books_refused o house festival out r e)

  module _ (v : books_judged o house festival ≡ Ok tt) (w : ℕ) (e : w ≡ right_columns o) where
    answer_books : merge_answer o house festival out ≡ books_answer o (right_columns o) (rows_in o house) (rows_in o festival) out
    unfolding merge_answer books_answer
    answer_books = (books_fine o house festival v).past _

    rows_are : (f : Words) → rows_of w (row_count f) (values_in w f) (marks_in w f) ≡ rows_in o f
    unfolding frame_rows
    rows_are f = rw e

    contract : (r : Result ℕ Refusal) (out' : Words) → BooksContract o (right_columns o) (rows_in o house) (rows_in o festival) out r out' → MergeContract o house festival out r out'
    contract r out' c =
        let a : merge_answer o house festival out ≡ r = answer_books ∙ sym c.answer in
        let z = call_leaves r a in
        record { answer = z.answer; words = c.words ∙ ap (λ (z : Result ℕ Refusal). (leave (right_columns o) rows z out).out) (sym c.answer) ∙ z.words }

    pub books_merged : (r : Result ℕ Refusal) (out' : Words)
        → BooksContract o w (rows_of w (row_count house) (values_in w house) (marks_in w house)) (rows_of w (row_count festival) (values_in w festival) (marks_in w festival)) out r out'
        → MergeContract o house festival out r out'
    books_merged r out' c = contract r out' (rw (← rows_are house, ← rows_are festival, ← e) c)
