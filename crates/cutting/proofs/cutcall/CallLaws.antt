-- What the call answers and leaves, from what its parts do. Assumes nothing.
use Rattle.std.specs.Prelude.{Result, Ok, Err}
use mathlib.Core.Path.{◌≡◌, refl, sym, ap, ◌∙◌}
use mathlib.Core.Bool.{Bool, true, false, cond, not, ◌&&◌, ◌||◌}
use mathlib.Core.List.{[], ◌∷◌}
use Prim.Native.Nat.{ℕ, suc, ◌≤◌, ◌<◌}
use native.Mathlib.Omega.{arith}
use borrow.Author.Tests.{le-ltb, not-false}
use lib.Dec.{leb}
use lib.IntN.{pos}
use lib.ListN.{length, set}
use Rattle.frames.specs.Cells.{Rows, Words, rows_of}
use Rattle.frames.specs.Frame.{frame_words, row_count, frame_rows, values_in, marks_in, is_table, is_frame}
use Rattle.frames.proofs.BoolLaws.{and-true}
use Rattle.frames.proofs.FrontLaws.{frame_table}
use Rattle.order.specs.options.Options.{Few}
use Rattle.order.specs.declared.options.Options.{Options}
use Rattle.order.proofs.options.OptionLaws.{Allowed}
use Rattle.order.specs.Order.{sorted}
use Rattle.order.specs.Listed.{lacks_code}
use Rattle.tables.specs.Options.{unless}
use Rattle.tables.specs.Table.{leave, laid, table_of}
use Rattle.tables.specs.Lay.{flat, lay_cells}
use Rattle.tables.proofs.LayLaws.{lay_table}
use Rattle.callrules.specs.Judged.{open_answer}
use Rattle.frames.specs.declared.refusals.Refusal.{Refusal}
use Rattle.frames.specs.declared.refusals.Refusal.TheVariants.{BadFrame, UnknownCode, Unsorted, BadBoundaries, NoRoom}
use Rattle.books.proofs.bookjudge.JudgeLaws.{open_shut, open_past, open_allowed, table_values_lem, table_marks, leave_answer, room_short}
use Rattle.cutting.specs.boundaries.Boundaries.{places, bad_boundaries}
use Rattle.cutting.specs.cutcall.Calls.{side_columns, rows_in, groups_in, words_judged, rows_judged, cut_answer, cut_call, CutContract, RowsContract, BothIn}

-- ---- a table has a column for each boundary
places_length : (o : Options) (rows gs : Rows) → length (places o rows gs) ≡ length gs
unfolding places
places_length o rows [] = refl
places_length o rows (g ∷ gs) = ap suc (places_length o rows gs)

cells_length : (o : Options) (rows gs : Rows) → length (flat (places o rows gs)) ≡ length gs
unfolding places flat
cells_length o rows [] = refl
cells_length o rows (g ∷ gs) = ap suc (cells_length o rows gs)

-- ---- the words, behind the options
-- Where all is accepted the options are allowed.
all_open : (o : Options) (t : Result Unit Refusal) → unless (λ n. Err n) o t ≡ Ok tt → Allowed o × (t ≡ Ok tt)
all_open o t e = by (open_answer o) refl
  where
    by : (a : Result Unit Refusal) → open_answer o ≡ a → Allowed o × (t ≡ Ok tt)
    by (Ok tt) q = (open_allowed o q, sym (open_past o (λ n. Err n) t q) ∙ e)
    by (Err r) q = let z : Err r ≡ Ok tt = sym (open_shut o (λ n. Err n) t r q) ∙ e in let n : ◌≡◌ {A = ℕ} 0 1 = cc in absurd (omega arith)

abbrev pub words_rest : Options → Bool → Words → Words → Result Unit Refusal
words_rest o right table boundaries =
    cond (not (is_table (side_columns o right) table && is_frame o.by boundaries)) (Err BadFrame)
    (cond (lacks_code o (rows_in o right table) || lacks_code o (groups_in o boundaries)) (Err UnknownCode) (Ok tt))

module _ (o : Options) (right : Bool) (table boundaries : Words) where
  pub words_shut : (r : Refusal) → open_answer o ≡ Err r → words_judged o right table boundaries ≡ Err r
  unfolding words_judged
  words_shut r e = open_shut o (λ n. Err n) _ r e

  pub words_open : open_answer o ≡ Ok tt → words_judged o right table boundaries ≡ words_rest o right table boundaries
  unfolding words_judged
  words_open e = open_past o (λ n. Err n) _ e

-- ---- by rows
module _ (o : Options) (R G : Rows) (out : Words) where
  leaves : (r : Result ℕ Refusal) → rows_judged o R G out ≡ r → RowsContract o R G out r (leave 1 (places o R G) r out).out
  leaves r e = record { answer = sym e; words = ap (λ (z : Result ℕ Refusal). (leave 1 (places o R G) z out).out) (sym e) }

  answer_unsorted : sorted o R ≡ false → rows_judged o R G out ≡ Err Unsorted
  unfolding rows_judged
  answer_unsorted e = rw e

  pub unsorted : sorted o R ≡ false → RowsContract o R G out (Err Unsorted) out
  unsorted e = leaves (Err Unsorted) (answer_unsorted e)

  module _ (s : sorted o R ≡ true) where
    answer_bad : bad_boundaries o G ≡ true → rows_judged o R G out ≡ Err BadBoundaries
    unfolding rows_judged
    answer_bad e = rw (s, e)

    pub bad : bad_boundaries o G ≡ true → RowsContract o R G out (Err BadBoundaries) out
    bad e = leaves (Err BadBoundaries) (answer_bad e)

    module _ (b : bad_boundaries o G ≡ false) (k : ℕ) (c : k ≡ length G) where
      answer_short : leb (frame_words k 1) (length out) ≡ false → rows_judged o R G out ≡ Err NoRoom
      unfolding rows_judged
      answer_short e = rw (s, b, ← c, room_short k 1 (length out) e)

      pub no_room_lem : leb (frame_words k 1) (length out) ≡ false → RowsContract o R G out (Err NoRoom) out
      no_room_lem e = leaves (Err NoRoom) (answer_short e)

      answer_wrote : frame_words k 1 ≤ length out → rows_judged o R G out ≡ Ok k
      unfolding rows_judged
      answer_wrote l = rw (s, b, ← c, le-ltb (length out) (frame_words k 1) l)

      pub wrote : frame_words k 1 ≤ length out → (out₁ out₂ : Words) → out₁ ≡ lay_cells k 0 (flat (places o R G)) out → out₂ ≡ set (set out₁ 0 (pos k)) 1 (pos 1)
          → RowsContract o R G out (Ok k) out₂
      wrote l out₁ out₂ p u =
          let w = leaves (Ok k) (answer_wrote l) in
          let N : Rows = places o R G in
          let g : length N ≡ k = places_length o R G ∙ sym c in
          let f : length (flat N) ≡ k = cells_length o R G ∙ sym c in
          let t : out₂ ≡ laid (table_of 1 N) out =
          u ∙ ap (λ (z : Words). set (set z 0 (pos k)) 1 (pos 1)) p
          ∙ ap (λ (z : ℕ). set (set (lay_cells k 0 (flat N) out) 0 (pos z)) 1 (pos 1)) (sym g)
          ∙ lay_table k 1 N out f (omega (arith, l)) in
          record { answer = w.answer; words = t ∙ w.words }

-- ---- by words
two_open : (a b : Bool) → ◌≡◌ {A = Result Unit Refusal} (cond a (Err BadFrame) (cond b (Err UnknownCode) (Ok tt))) (Ok tt) → (a ≡ false) × (b ≡ false)
two_open true b e = let n : ◌≡◌ {A = ℕ} 0 1 = cc in absurd (omega arith)
two_open false true e = let n : ◌≡◌ {A = ℕ} 0 1 = cc in absurd (omega arith)
two_open false false e = (refl, refl)

-- Words that were accepted: the options are allowed, and both are what they should be.
pub record WordsFine (o : Options) (right : Bool) (table boundaries : Words) : Type 0 where
  pub allowed : Allowed o
  pub table_is : is_table (side_columns o right) table ≡ true
  pub frame_is : is_frame o.by boundaries ≡ true

module _ (o : Options) (right : Bool) (table boundaries : Words) where
  pub words_fine : words_judged o right table boundaries ≡ Ok tt → WordsFine o right table boundaries
  unfolding words_judged
  words_fine e =
      let p = all_open o (words_rest o right table boundaries) e in
      let q = two_open (not (is_table (side_columns o right) table && is_frame o.by boundaries)) (lacks_code o (rows_in o right table) || lacks_code o (groups_in o boundaries)) p.1 in
      let b = and-true (is_table (side_columns o right) table) (is_frame o.by boundaries) (not-false (is_table (side_columns o right) table && is_frame o.by boundaries) q.0) in
      record { allowed = p.0; table_is = b.0; frame_is = b.1 }

  module _ (out : Words) where
    abbrev rows : Rows
    rows = places o (rows_in o right table) (groups_in o boundaries)

    call_leaves : (r : Result ℕ Refusal) → cut_answer o right table boundaries out ≡ r → CutContract o right table boundaries out r (leave 1 rows r out).out
    unfolding cut_call
    call_leaves r e = record { answer = sym e; words = ap (λ (z : Result ℕ Refusal). (leave 1 rows z out).out) (sym e) }

    answer_refused : (r : Refusal) → words_judged o right table boundaries ≡ Err r → cut_answer o right table boundaries out ≡ Err r
    unfolding cut_answer
    answer_refused r e = rw e

    pub cut_refused : (r : Refusal) → words_judged o right table boundaries ≡ Err r → CutContract o right table boundaries out (Err r) out
    cut_refused r e = call_leaves (Err r) (answer_refused r e)

    module _ (v : words_judged o right table boundaries ≡ Ok tt) where
      answer_rows_lem : cut_answer o right table boundaries out ≡ rows_judged o (rows_in o right table) (groups_in o boundaries) out
      unfolding cut_answer
      answer_rows_lem = rw v

      contract : (r : Result ℕ Refusal) (out' : Words) → RowsContract o (rows_in o right table) (groups_in o boundaries) out r out' → CutContract o right table boundaries out r out'
      contract r out' c =
          let a : cut_answer o right table boundaries out ≡ r = answer_rows_lem ∙ sym c.answer in
          let z = call_leaves r a in
          record { answer = z.answer; words = c.words ∙ ap (λ (z : Result ℕ Refusal). (leave 1 rows z out).out) (sym c.answer) ∙ z.words }

      module _ (w : ℕ) (e : w ≡ side_columns o right) where
        table_rows_lem : rows_of w (row_count table) (values_in w table) (marks_in w table) ≡ rows_in o right table
        unfolding frame_rows
        table_rows_lem = rw e

        group_rows : rows_of o.by (row_count boundaries) (values_in o.by boundaries) (marks_in o.by boundaries) ≡ groups_in o boundaries
        unfolding frame_rows
        group_rows = refl

        pub cut_done : (r : Result ℕ Refusal) (out' : Words)
            → RowsContract o (rows_of w (row_count table) (values_in w table) (marks_in w table)) (rows_of o.by (row_count boundaries) (values_in o.by boundaries) (marks_in o.by boundaries)) out r out'
            → CutContract o right table boundaries out r out'
        cut_done r out' c = contract r out' (rw (← table_rows_lem, ← group_rows) c)

-- ---- the parts of both are what the rows' part asks
pub side_wide : (o : Options) (right : Bool) → o.by < side_columns o right
side_wide o true = omega arith
side_wide o false = omega arith

pub both_in : (o : Options) (right : Bool) (w : ℕ) (table boundaries : Words) → w ≡ side_columns o right → is_table w table ≡ true → is_frame o.by boundaries ≡ true → Few o
    → BothIn o w (row_count table) (values_in w table) (marks_in w table) (row_count boundaries) (values_in o.by boundaries) (marks_in o.by boundaries)
both_in o right w table boundaries e t f few =
    let g = frame_table o.by boundaries f in
    record {
      rows = record { few = few; wide = omega (arith, e, side_wide o right); values = omega (arith, table_values_lem w table t); marks = omega (arith, table_marks w table t) };
      groups = record { few = few; values = table_values_lem o.by boundaries g; marks = table_marks o.by boundaries g };
    }

-- ---- the answer that is left is the call's; and a refused call alters no word
pub cut_answer_lem : (o : Options) (right : Bool) (table boundaries out : Words) → cut_answer o right table boundaries out ≡ (cut_call o right table boundaries out).answer
unfolding cut_call
cut_answer_lem o right table boundaries out = leave_answer 1 (places o (rows_in o right table) (groups_in o boundaries)) (cut_answer o right table boundaries out) out

left_alone : (rows : Rows) (w : Result ℕ Refusal) (out : Words) (n : Refusal) → (leave 1 rows w out).answer ≡ Err n → (leave 1 rows w out).out ≡ out
left_alone rows (Ok k) out n e = let z : ◌≡◌ {A = ℕ} 0 1 = cc in absurd (omega arith)
left_alone rows (Err r) out n e = refl

pub cut_kept : (o : Options) (right : Bool) (table boundaries out : Words) (n : Refusal) → (cut_call o right table boundaries out).answer ≡ Err n → (cut_call o right table boundaries out).out ≡ out
unfolding cut_call
cut_kept o right table boundaries out n e = left_alone (places o (rows_in o right table) (groups_in o boundaries)) (cut_answer o right table boundaries out) out n e
