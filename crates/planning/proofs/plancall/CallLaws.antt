-- What the plan answers, from what its parts do. Assumes nothing.
use Rattle.frames.specs.declared.refusals.Refusal.{Refusal}
use Rattle.std.specs.Prelude.{Result, Ok, Err}
use mathlib.Core.Path.{◌≡◌, refl, sym, ap, ◌∙◌}
use mathlib.Core.Bool.{Bool, true, false, ◌&&◌, ◌||◌, or-true}
use Prim.Native.Nat.{ℕ, ◌<◌}
use native.Mathlib.Omega.{arith}
use lib.ListN.{length}
use Rattle.frames.specs.Cells.{Rows, Words, rows_of}
use Rattle.frames.specs.Frame.{row_count, frame_rows, values_in, marks_in, is_table}
use Rattle.frames.proofs.WordLaws.{rows_length}
use Rattle.order.specs.options.Options.{columns, right_columns, Few}
use Rattle.order.specs.declared.options.Options.{Options}
use Rattle.order.specs.Order.{sorted}
use Rattle.order.specs.Requires.{RowsIn}
use Rattle.frames.specs.declared.refusals.Refusal.TheVariants.{Unsorted, BadHeights}
use Rattle.planning.specs.Heights.{bad_heights}
use Rattle.planning.specs.Call.{plan_call}
use Rattle.planning.specs.declared.Figures.{Figures}
use Rattle.planning.proofs.HeightLaws.{heights_fine, table_values_lem, table_marks}
use Rattle.planning.specs.planjudge.Judged.{tables_judged}
use Rattle.planning.proofs.planjudge.JudgeLaws.{tables_fine}
use Rattle.planning.specs.planwalk.Walk.{left_rows, right_rows, walked, WalkIn}
use Rattle.planning.specs.plancall.PlanRows.{rows_planned}

and_no : (x y : Bool) → y ≡ false → (x && y) ≡ false
and_no true y e = e
and_no false y e = refl

or_yes : (x y : Bool) → y ≡ true → (x || y) ≡ true
or_yes x y e = rw e (or-true x)

-- ---- by rows
module _ (o : Options) (L R : Rows) (hl hr : Words) where
  answer_unsorted : (sorted o L && sorted o R) ≡ false → Err Unsorted ≡ rows_planned o L R hl hr
  unfolding rows_planned
  answer_unsorted e = rw e refl

  pub unsorted_left : sorted o L ≡ false → Err Unsorted ≡ rows_planned o L R hl hr
  unsorted_left e = answer_unsorted (rw e refl)

  pub unsorted_right : sorted o R ≡ false → Err Unsorted ≡ rows_planned o L R hl hr
  unsorted_right e = answer_unsorted (and_no (sorted o L) (sorted o R) e)

  module _ (a : sorted o L ≡ true) (b : sorted o R ≡ true) (nl nr : ℕ) (kl : length L ≡ nl) (kr : length R ≡ nr) where
    answer_bad : (bad_heights nl hl || bad_heights nr hr) ≡ true → Err BadHeights ≡ rows_planned o L R hl hr
    unfolding rows_planned
    answer_bad e = rw (a, b, kl, kr, e) refl

    pub bad_left_lem : bad_heights nl hl ≡ true → Err BadHeights ≡ rows_planned o L R hl hr
    bad_left_lem e = answer_bad (rw e refl)

    pub bad_right_lem : bad_heights nr hr ≡ true → Err BadHeights ≡ rows_planned o L R hl hr
    bad_right_lem e = answer_bad (or_yes (bad_heights nl hl) (bad_heights nr hr) e)

    pub answer_needs : bad_heights nl hl ≡ false → bad_heights nr hr ≡ false → Ok (walked o hl hr L R) ≡ rows_planned o L R hl hr
    unfolding rows_planned
    answer_needs d e = rw (a, b, kl, kr, d, e) refl

-- Rows that heights make.
module _ {o : Options} {c nl : ℕ} {lv lm : Words} {w nr : ℕ} {rv rm : Words} (l : RowsIn o c nl lv lm) (r : RowsIn o w nr rv rm)
    (a : sorted o (rows_of c nl lv lm) ≡ true) (b : sorted o (rows_of w nr rv rm) ≡ true) (hl hr : Words) (d : bad_heights nl hl ≡ false) (e : bad_heights nr hr ≡ false) where
  pub walk_in : WalkIn o c hl lv lm w hr rv rm
  walk_in =
      let p = heights_fine nl hl d in
      let q = heights_fine nr hr e in
      record { left = rw p.1 l; right = rw q.1 r; left_sorted = rw p.1 a; right_sorted = rw q.1 b; left_heights = p.0; right_heights = q.0 }

  pub walked_is : (x : Figures) → x ≡ walked o hl hr (left_rows c hl lv lm) (right_rows w hr rv rm) → Ok x ≡ rows_planned o (rows_of c nl lv lm) (rows_of w nr rv rm) hl hr
  walked_is x g =
      let p = heights_fine nl hl d in
      let q = heights_fine nr hr e in
      ap Ok (rw (p.1, q.1) at g) ∙ answer_needs o (rows_of c nl lv lm) (rows_of w nr rv rm) hl hr a b nl nr (rows_length c nl lv lm) (rows_length w nr rv rm) d e

-- ---- by words
-- The values and marks of a table are its rows, where the order can compare them.
pub rows_in_lem : (o : Options) (c : ℕ) (f : Words) → is_table c f ≡ true → Few o → o.by < c → RowsIn o c (row_count f) (values_in c f) (marks_in c f)
rows_in_lem o c f h few wide = record { few = few; wide = wide; values = omega (arith, table_values_lem c f h); marks = omega (arith, table_marks c f h) }

module _ (o : Options) (left right hl hr : Words) (v : tables_judged o left right ≡ Ok tt) (c w : ℕ) (e : c ≡ columns o) (f : w ≡ right_columns o) where
  answer_rows_lem : plan_call o left right hl hr ≡ rows_planned o (frame_rows (columns o) left) (frame_rows (right_columns o) right) hl hr
  unfolding plan_call rows_planned frame_rows
  answer_rows_lem = rw (rows_length (columns o) (row_count left) (values_in (columns o) left) (marks_in (columns o) left), rows_length (right_columns o) (row_count right) (values_in (right_columns o) right) (marks_in (right_columns o) right)) ((tables_fine o left right v).past _)

  pub tables_planned : (r : Result Figures Refusal) → r ≡ rows_planned o (rows_of c (row_count left) (values_in c left) (marks_in c left)) (rows_of w (row_count right) (values_in w right) (marks_in w right)) hl hr → r ≡ plan_call o left right hl hr
  unfolding frame_rows
  tables_planned r g = (rw (e, f) at g) ∙ sym answer_rows_lem
