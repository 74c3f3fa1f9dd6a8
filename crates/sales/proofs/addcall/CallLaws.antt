-- What adding a frame's sales answers and leaves, from what its parts do. Assumes nothing.
use Rattle.std.specs.Prelude.{Result, Ok, Err}
use mathlib.Core.Path.{◌≡◌, refl, sym, ap, ◌∙◌}
use mathlib.Core.Bool.{Bool, true, false, not, ◌&&◌, ◌||◌}
use mathlib.Core.List.{List}
use Prim.Native.Nat.{ℕ, zero, suc, ◌+◌, ◌*◌, ◌≤◌}
use native.Mathlib.Omega.{arith}
use borrow.Author.Tests.{eqb-true}
use lib.Dec.{eqb}
use lib.IntN.{ℤ}
use lib.ListN.{length, drop, length-drop}
use lib.Seq.{length-take-le}
use Rattle.frames.specs.Cells.{Words, rows_of}
use Rattle.frames.specs.Frame.{frame_words, row_count, frame_rows, values_in, marks_in, is_table}
use Rattle.frames.proofs.FrameLaws.{table_parts}
use Rattle.frames.proofs.BoolLaws.{and-true}
use Rattle.order.specs.options.Options.{columns}
use Rattle.order.specs.declared.options.Options.{Options}
use Rattle.frames.specs.declared.refusals.Refusal.{Refusal}
use Rattle.takings.specs.Subtotals.{Subtotal, add_all, subtotals_of}
use Rattle.takings.specs.Sales.{sales_of, amounts_of}
use Rattle.takings.specs.Calls.{table_width, rows_in, sales_by, columns_in, known_columns, fine_subtotals, leave, add_answer, add_call}
use Rattle.takings.specs.declared.Taken.{Taken}
use Rattle.subtotals.specs.takejudge.Judge.{Sheet, fine_rows}
use Rattle.subtotals.specs.takewords.Judged.{sales_judged}
use Rattle.subtotals.proofs.takewords.JudgeLaws.{sales_fine, sales_refused}
use Rattle.sales.specs.addrows.Rows.{rows_answer, RowsContract}
use Rattle.sales.specs.addcall.AddRows.{AddContract}

leave_answer : (o : Options) (ts : List Subtotal) (w : Result Taken Refusal) (out : Words) → w ≡ (leave o ts w out).answer
leave_answer o ts (Ok t) out = refl
leave_answer o ts (Err r) out = refl

-- ---- tables and frames by their words
module _ (c : ℕ) (f : Words) (h : is_table c f ≡ true) where
  pub table_exact : length f ≡ frame_words (row_count f) c
  table_exact = (table_parts c f h).exact

  pub table_values_lem : length (values_in c f) ≡ row_count f * c
  table_values_lem = length-take-le (row_count f * c) (drop 2 f) (rw (length-drop 2 f) (omega (arith, table_exact)))

  pub table_marks : length (marks_in c f) ≡ row_count f * c
  table_marks = length-drop (2 + row_count f * c) f ∙ omega (arith, table_exact)

pub sheet_in : (b c : ℕ) (f : Words) → c ≡ suc (suc b) → is_table c f ≡ true → Sheet b c (row_count f) (values_in c f) (marks_in c f)
sheet_in b c f e h = record { width = e; values = table_values_lem c f h; marks = table_marks c f h; fine = (table_parts c f h).fine }

or_rest : (x y : Bool) → x ≡ false → (x || y) ≡ true → y ≡ true
or_rest true y f e = cc
or_rest false y f e = e

two_wide : (p d : ℕ) → (not (eqb p 0) && (eqb d (suc p) || eqb d (suc (suc p)))) ≡ true → 2 ≤ d
two_wide zero d e = let z : ◌≡◌ {A = ℕ} 0 1 = cc in absurd (omega arith)
two_wide (suc p) d e = by (eqb d (suc (suc p))) refl
  where
    by : (b : Bool) → eqb d (suc (suc p)) ≡ b → 2 ≤ d
    by true f = omega (arith, eqb-true d (suc (suc p)) f)
    by false f = omega (arith, eqb-true d (suc (suc (suc p))) (or_rest (eqb d (suc (suc p))) (eqb d (suc (suc (suc p)))) f (and-true (not (eqb (suc p) 0)) (eqb d (suc (suc p)) || eqb d (suc (suc (suc p)))) e).1))

pub known_wide : (o : Options) (d : ℕ) → known_columns o d ≡ true → 2 ≤ d
known_wide o d e = two_wide o.carried d e

-- ---- by words
module _ (o : Options) (table : Words) (k : ℤ) (left answers out : Words) where
  abbrev all : List Subtotal
  all = add_all o (subtotals_of o (rows_in o table)) (amounts_of (sales_by o left answers))

  call_leaves : (r : Result Taken Refusal) → add_answer o table k left answers out ≡ r → AddContract o table k left answers out r (leave o all r out).out
  unfolding add_call
  call_leaves r e = record {
    answer = sym e ∙ leave_answer o all (add_answer o table k left answers out) out;
    words = ap (λ (z : Result Taken Refusal). (leave o all z out).out) (sym e);
  }

  pub add_refused : (r : Refusal) → sales_judged o table left answers ≡ Err r → AddContract o table k left answers out (Err r) out
  add_refused r e = call_leaves (Err r) (sales_refused o table left answers k out r e)

  module _ (v : sales_judged o table left answers ≡ Ok tt) (w c d : ℕ) (e : w ≡ table_width o) (f : c ≡ columns o) (g : d ≡ columns_in answers) (rows : ℕ) (y : rows ≡ row_count left) where
    answer_rows_lem : add_answer o table k left answers out ≡ rows_answer o (table_width o) (rows_in o table) k (sales_by o left answers) out
    unfolding add_answer rows_answer fine_subtotals fine_rows
    answer_rows_lem = (sales_fine o table left answers v).past _

    same_height : row_count left ≡ row_count answers
    same_height = eqb-true (row_count left) (row_count answers) (sales_fine o table left answers v).height

    rows_are : rows_of w (row_count table) (values_in w table) (marks_in w table) ≡ rows_in o table
    unfolding frame_rows
    rows_are = rw e

    sales_are : sales_of o (rows_of (suc o.by) rows (values_in c left) (marks_in c left)) (rows_of d rows (values_in d answers) (marks_in d answers)) ≡ sales_by o left answers
    unfolding sales_by frame_rows
    sales_are = rw (f, g, y) (ap (λ (z : ℕ). sales_of o (rows_of (columns o) (row_count left) (values_in (columns o) left) (marks_in (columns o) left)) (rows_of (columns_in answers) z (values_in (columns_in answers) answers) (marks_in (columns_in answers) answers))) same_height)

    contract : (r : Result Taken Refusal) (out' : Words) → RowsContract o (table_width o) (rows_in o table) k (sales_by o left answers) out r out' → AddContract o table k left answers out r out'
    contract r out' c =
        let a : add_answer o table k left answers out ≡ r = answer_rows_lem ∙ sym c.answer in
        let z = call_leaves r a in
        record { answer = z.answer; words = c.words ∙ ap (λ (z : Result Taken Refusal). (leave o all z out).out) (sym c.answer) ∙ z.words }

    pub rows_added : (r : Result Taken Refusal) (out' : Words)
        → RowsContract o w (rows_of w (row_count table) (values_in w table) (marks_in w table)) k (sales_of o (rows_of (suc o.by) rows (values_in c left) (marks_in c left)) (rows_of d rows (values_in d answers) (marks_in d answers))) out r out'
        → AddContract o table k left answers out r out'
    rows_added r out' c = contract r out' (rw (← rows_are, ← sales_are, ← e) c)
