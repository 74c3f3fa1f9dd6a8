-- What the call answers and leaves, from what its parts do. Assumes nothing.
use Rattle.std.specs.Prelude.{Result, Ok, Err}
use mathlib.Core.Path.{◌≡◌, refl, sym, ap, ◌∙◌}
use mathlib.Core.Bool.{true}
use Prim.Native.Nat.{ℕ, ◌^◌, ◌≤◌, ◌<◌}
use native.Mathlib.Nat.{le-mul_of_pos_right}
use native.Mathlib.Omega.{arith}
use lib.ListN.{length}
use Rattle.frames.specs.Cells.{Rows, Words, rows_of}
use Rattle.frames.specs.Frame.{row_count, frame_rows, values_in, marks_in, is_table, is_frame}
use Rattle.frames.proofs.FrontLaws.{frame_table}
use Rattle.order.specs.options.Options.{columns, right_columns, answer_columns, Few}
use Rattle.order.specs.declared.options.Options.{Options}
use Rattle.tables.specs.Table.{leave}
use Rattle.frames.specs.declared.refusals.Refusal.{Refusal}
use Rattle.books.proofs.bookjudge.JudgeLaws.{table_values_lem, table_marks, leave_answer, table_exact}
use Rattle.cutting.specs.cutcall.Calls.{groups_in}
use Rattle.cutting.specs.cutpairs.Driver.{tables_in, input_judged, pairs_judged, join_answer, joined_rows, join_call, JoinContract, PairsContract}
use Rattle.cutting.specs.cutroom.Requires.{pair_in}
use Rattle.cutting.specs.cutrows.Requires.{AllIn}

-- ---- by words
module _ (o : Options) (left right boundaries : Words) (l r : ℕ) (out : Words) where
  abbrev rows : Rows
  rows = joined_rows o (tables_in o left right)

  answer_refused : (x : Refusal) → input_judged o left right boundaries ≡ Err x → join_answer o left right boundaries l r (length out) ≡ Err x
  unfolding join_answer
  answer_refused x e = rw e

  call_leaves : (z : Result ℕ Refusal) → join_answer o left right boundaries l r (length out) ≡ z → JoinContract o left right boundaries l r out z (leave (answer_columns o) rows z out).out
  unfolding join_call
  call_leaves z e = record { answer = sym e; words = ap (λ (y : Result ℕ Refusal). (leave (answer_columns o) rows y out).out) (sym e) }

  pub join_refused : (x : Refusal) → input_judged o left right boundaries ≡ Err x → JoinContract o left right boundaries l r out (Err x) out
  join_refused x e = call_leaves (Err x) (answer_refused x e)

  module _ (v : input_judged o left right boundaries ≡ Ok tt) (c w : ℕ) (ec : c ≡ columns o) (ew : w ≡ right_columns o) where
    answer_rows_lem : join_answer o left right boundaries l r (length out) ≡ pairs_judged o (tables_in o left right) (groups_in o boundaries) l r (length out)
    unfolding join_answer
    answer_rows_lem = rw v

    -- The rows' parts are the rows of the tables.
    same_pair : pair_in c (row_count left) (values_in c left) (marks_in c left) w (row_count right) (values_in w right) (marks_in w right) ≡ tables_in o left right
    unfolding frame_rows
    same_pair = rw (ec, ew) refl

    same_groups : rows_of o.by (row_count boundaries) (values_in o.by boundaries) (marks_in o.by boundaries) ≡ groups_in o boundaries
    unfolding frame_rows
    same_groups = refl

    pub join_done : (z : Result ℕ Refusal) (out' : Words)
        → PairsContract o (pair_in c (row_count left) (values_in c left) (marks_in c left) w (row_count right) (values_in w right) (marks_in w right)) (rows_of o.by (row_count boundaries) (values_in o.by boundaries) (marks_in o.by boundaries)) l r out z out'
        → JoinContract o left right boundaries l r out z out'
    join_done z out' m =
        let y : PairsContract o (tables_in o left right) (groups_in o boundaries) l r out z out' = rw (same_pair, same_groups) at m in
        let a : join_answer o left right boundaries l r (length out) ≡ z = answer_rows_lem ∙ sym y.answer in
        let x = call_leaves z a in
        record { answer = x.answer; words = y.words ∙ ap (λ (y : Result ℕ Refusal). (leave (answer_columns o) rows y out).out) (sym y.answer) ∙ x.words }

-- ---- the parts of all three are what the rows' part asks
pub all_in : (o : Options) (left right boundaries : Words) (c w : ℕ) → c ≡ columns o → w ≡ right_columns o → is_table c left ≡ true → is_table w right ≡ true → is_frame o.by boundaries ≡ true → Few o → o.carried ≤ 8
    → length left < 2 ^ 64 → length right < 2 ^ 64
    → AllIn o c (row_count left) (values_in c left) (marks_in c left) w (row_count right) (values_in w right) (marks_in w right) (row_count boundaries) (values_in o.by boundaries) (marks_in o.by boundaries)
all_in o left right boundaries c w ec ew x y z few carried ll lr =
    let g = frame_table o.by boundaries z in
    let lx = table_exact c left x in
    let ly = table_exact w right y in
    record {
      left = record { few = few; wide = omega (arith, ec); values = omega (arith, table_values_lem c left x); marks = omega (arith, table_marks c left x) };
      right = record { few = few; wide = omega (arith, ew); values = omega (arith, table_values_lem w right y); marks = omega (arith, table_marks w right y) };
      groups = record { few = few; values = table_values_lem o.by boundaries g; marks = table_marks o.by boundaries g };
      left_wide = ec;
      right_wide = ew;
      carried = carried;
      few_cells = omega (arith, lx);
      few_rows = omega (arith, ly, le-mul_of_pos_right {m = w} (row_count right) (omega (arith, ew)));
    }

-- ---- the answer that is left is the call's; and a refused call alters no word
pub join_answer_lem : (o : Options) (left right boundaries : Words) (l r : ℕ) (out : Words) → join_answer o left right boundaries l r (length out) ≡ (join_call o left right boundaries l r out).answer
unfolding join_call
join_answer_lem o left right boundaries l r out = leave_answer (answer_columns o) (joined_rows o (tables_in o left right)) (join_answer o left right boundaries l r (length out)) out

left_alone : (c : ℕ) (rows : Rows) (w : Result ℕ Refusal) (out : Words) (n : Refusal) → (leave c rows w out).answer ≡ Err n → (leave c rows w out).out ≡ out
left_alone c rows (Ok k) out n e = let z : ◌≡◌ {A = ℕ} 0 1 = cc in absurd (omega arith)
left_alone c rows (Err r) out n e = refl

pub join_kept : (o : Options) (left right boundaries : Words) (l r : ℕ) (out : Words) (n : Refusal) → (join_call o left right boundaries l r out).answer ≡ Err n → (join_call o left right boundaries l r out).out ≡ out
unfolding join_call
join_kept o left right boundaries l r out n e = left_alone (answer_columns o) (joined_rows o (tables_in o left right)) (join_answer o left right boundaries l r (length out)) out n e
