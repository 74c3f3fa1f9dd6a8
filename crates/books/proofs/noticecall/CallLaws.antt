-- What the call answers and leaves, from what its parts do. Assumes nothing.
use Rattle.std.specs.Prelude.{Result, Ok, Err}
use mathlib.Core.Path.{◌≡◌, sym, ap, ◌∙◌}
use mathlib.Core.Bool.{true, false}
use Prim.Native.Nat.{ℕ, ◌*◌, ◌≤◌, ◌<◌}
use native.Mathlib.Omega.{arith}
use borrow.Author.Tests.{lt-ltb, le-ltb}
use lib.Dec.{leb}
use lib.IntN.{pos}
use lib.ListN.{length, set}
use Rattle.frames.specs.Cells.{Rows, Words, rows_of}
use Rattle.frames.specs.Frame.{frame_words, row_count, frame_rows, values_in, marks_in, is_table}
use Rattle.order.specs.options.Options.{right_columns, Few}
use Rattle.order.specs.declared.options.Options.{Options}
use Rattle.order.specs.Order.{sorted}
use Rattle.tables.specs.Table.{leave, laid, table_of}
use Rattle.tables.specs.Lay.{flat, lay_cells}
use Rattle.frames.specs.declared.refusals.Refusal.{Refusal}
use Rattle.frames.specs.declared.refusals.Refusal.TheVariants.{BadColumns, Unsorted, NoRoom}
use Rattle.tables.proofs.LayLaws.{lay_table}
use Rattle.tables.proofs.CellLaws.{flat_length}
use Rattle.books.specs.Standing.{notices}
use Rattle.books.specs.Calls.{rows_in, stand_answer, stand_call, StandContract}
use Rattle.books.specs.bookjudge.Judged.{book_judged}
use Rattle.books.proofs.bookjudge.JudgeLaws.{book_fine, book_refused, table_values_lem, table_marks, leave_answer, room_short}
use Rattle.books.proofs.notices.NoticeLaws.{notices_length, notices_wide}
use Rattle.books.specs.noticecall.BookRows.{BookIn, list_answer, ListContract}

-- ---- by rows
module _ (o : Options) (q : ℕ) (R : Rows) (out : Words) where
  leaves : (r : Result ℕ Refusal) → list_answer o q R out ≡ r → ListContract o q R out r (leave 2 (notices o q 0 R) r out).out
  leaves r e = record { answer = sym e; words = ap (λ (z : Result ℕ Refusal). (leave 2 (notices o q 0 R) z out).out) (sym e) }

  answer_column : o.carried ≤ q → list_answer o q R out ≡ Err BadColumns
  unfolding list_answer
  answer_column l = rw (le-ltb q o.carried l)

  pub no_column : o.carried ≤ q → ListContract o q R out (Err BadColumns) out
  no_column l = leaves (Err BadColumns) (answer_column l)

  module _ (b : q < o.carried) where
    answer_unsorted : sorted o R ≡ false → list_answer o q R out ≡ Err Unsorted
    unfolding list_answer
    answer_unsorted e = rw (lt-ltb q o.carried b, e)

    pub unsorted : sorted o R ≡ false → ListContract o q R out (Err Unsorted) out
    unsorted e = leaves (Err Unsorted) (answer_unsorted e)

    module _ (c : sorted o R ≡ true) (n : ℕ) (k : n ≡ length R) where
      answer_short : leb (frame_words n 2) (length out) ≡ false → list_answer o q R out ≡ Err NoRoom
      unfolding list_answer
      answer_short e = rw (lt-ltb q o.carried b, c, ← k, room_short n 2 (length out) e)

      pub no_room_lem : leb (frame_words n 2) (length out) ≡ false → ListContract o q R out (Err NoRoom) out
      no_room_lem e = leaves (Err NoRoom) (answer_short e)

      answer_wrote : frame_words n 2 ≤ length out → list_answer o q R out ≡ Ok n
      unfolding list_answer
      answer_wrote l = rw (lt-ltb q o.carried b, c, ← k, le-ltb (length out) (frame_words n 2) l)

      pub wrote : frame_words n 2 ≤ length out → (out₁ out₂ : Words) → out₁ ≡ lay_cells (2 * n) 0 (flat (notices o q 0 R)) out → out₂ ≡ set (set out₁ 0 (pos n)) 1 (pos 2)
          → ListContract o q R out (Ok n) out₂
      wrote l out₁ out₂ p u =
          let w = leaves (Ok n) (answer_wrote l) in
          let N : Rows = notices o q 0 R in
          let g : length N ≡ n = notices_length o q 0 R ∙ sym k in
          let f : length (flat N) ≡ 2 * n = flat_length 2 N (notices_wide o q 0 R) ∙ omega (arith, g) in
          let t : out₂ ≡ laid (table_of 2 N) out =
          u ∙ ap (λ (z : Words). set (set z 0 (pos n)) 1 (pos 2)) p
          ∙ ap (λ (z : ℕ). set (set (lay_cells (2 * n) 0 (flat N) out) 0 (pos z)) 1 (pos 2)) (sym g)
          ∙ lay_table (2 * n) 2 N out f (omega arith) in
          record { answer = w.answer; words = t ∙ w.words }

-- ---- by words
module _ (o : Options) (q : ℕ) (book out : Words) where
  abbrev rows : Rows
  rows = notices o q 0 (rows_in o book)

  call_leaves : (r : Result ℕ Refusal) → stand_answer o q book out ≡ r → StandContract o q book out r (leave 2 rows r out).out
  unfolding stand_call
  call_leaves r e = record {
    answer = sym e ∙ leave_answer 2 rows (stand_answer o q book out) out;
    words = ap (λ (z : Result ℕ Refusal). (leave 2 rows z out).out) (sym e);
  }

  pub stand_refused : (r : Refusal) → book_judged o book ≡ Err r → StandContract o q book out (Err r) out
  stand_refused r e = call_leaves (Err r) (book_refused o q book out r e)

  module _ (v : book_judged o book ≡ Ok tt) (w : ℕ) (e : w ≡ right_columns o) where
    answer_list : stand_answer o q book out ≡ list_answer o q (rows_in o book) out
    unfolding stand_answer list_answer
    answer_list = (book_fine o book v).past _

    contract : (r : Result ℕ Refusal) (out' : Words) → ListContract o q (rows_in o book) out r out' → StandContract o q book out r out'
    contract r out' c =
        let a : stand_answer o q book out ≡ r = answer_list ∙ sym c.answer in
        let z = call_leaves r a in
        record { answer = z.answer; words = c.words ∙ ap (λ (z : Result ℕ Refusal). (leave 2 rows z out).out) (sym c.answer) ∙ z.words }

    rows_are : rows_of w (row_count book) (values_in w book) (marks_in w book) ≡ rows_in o book
    unfolding frame_rows
    rows_are = rw e

    pub listed : (r : Result ℕ Refusal) (out' : Words) → ListContract o q (rows_of w (row_count book) (values_in w book) (marks_in w book)) out r out' → StandContract o q book out r out'
    listed r out' c = contract r out' (rw (← rows_are) c)

-- ---- a table's words are a book
pub book_rows : (o : Options) (w : ℕ) (f : Words) → is_table w f ≡ true → Few o → w ≡ right_columns o → BookIn o w (row_count f) (values_in w f) (marks_in w f)
book_rows o w f h few e = record {
  rows = record { few = few; wide = omega arith; values = omega (arith, table_values_lem w f h); marks = omega (arith, table_marks w f h) };
  width = e;
}
