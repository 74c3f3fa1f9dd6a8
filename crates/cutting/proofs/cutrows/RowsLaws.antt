-- What is answered of rows, and what is left, from what the parts do. Assumes nothing.
use Rattle.std.specs.Prelude.{Result, Ok, Err}
use mathlib.Core.Path.{◌≡◌, refl, sym, ap, ◌∙◌}
use mathlib.Core.Bool.{Bool, true, false, cond, not, ◌&&◌, ◌||◌, or-true}
use Prim.Native.Nat.{ℕ, ◌*◌, ◌≤◌}
use native.Mathlib.Omega.{arith}
use borrow.Author.Tests.{le-ltb, ltb-false, leb-true, not-false}
use lib.Dec.{ltb, leb}
use lib.ListN.{length}
use Rattle.frames.specs.Cells.{Rows, Words, rows_of}
use Rattle.frames.specs.Frame.{frame_words}
use Rattle.frames.proofs.BoolLaws.{and-true}
use Rattle.frames.proofs.WordLaws.{rows_length}
use Rattle.order.specs.options.Options.{answer_columns}
use Rattle.order.specs.declared.options.Options.{Options}
use Rattle.order.proofs.options.OptionLaws.{or_both}
use Rattle.order.specs.Order.{sorted}
use Rattle.tables.specs.Table.{leave, laid, table_of}
use Rattle.matching.specs.Match.{whole_table}
use Rattle.matching.specs.Answer.{answered, answer_rows, frame_answer}
use Rattle.matching.specs.Requires.{AnswerRoom}
use Rattle.matching.proofs.GroupLaws.{frame_match}
use Rattle.frames.specs.declared.refusals.Refusal.{Refusal}
use Rattle.frames.specs.declared.refusals.Refusal.TheVariants.{Unsorted, BadBoundaries, NoRoom}
use Rattle.books.proofs.bookjudge.JudgeLaws.{room_short}
use Rattle.cutting.specs.boundaries.Boundaries.{bad_boundaries}
use Rattle.cutting.specs.cutpairs.Cut.{Pair, cut_by, joined}
use Rattle.cutting.specs.cutpairs.Driver.{any_short, pairs_judged, joined_rows, PairsContract}
use Rattle.cutting.specs.cutroom.Requires.{pair_in, CutsIn}
use Rattle.cutting.specs.cutrows.Requires.{AllIn}

and_no : (x y : Bool) → y ≡ false → (x && y) ≡ false
and_no true y e = e
and_no false y e = refl

-- ---- the answer, test by test
module _ (o : Options) (p : Pair) (gs : Rows) (l r n : ℕ) where
  answer_unsorted : (sorted o p.left && sorted o p.right) ≡ false → Err Unsorted ≡ pairs_judged o p gs l r n
  unfolding pairs_judged
  answer_unsorted e = rw e refl

  pub unsorted_left : sorted o p.left ≡ false → Err Unsorted ≡ pairs_judged o p gs l r n
  unsorted_left e = answer_unsorted (rw e refl)

  pub unsorted_right : sorted o p.right ≡ false → Err Unsorted ≡ pairs_judged o p gs l r n
  unsorted_right e = answer_unsorted (and_no (sorted o p.left) (sorted o p.right) e)

  module _ (a : sorted o p.left ≡ true) (b : sorted o p.right ≡ true) where
    pub bad : bad_boundaries o gs ≡ true → Err BadBoundaries ≡ pairs_judged o p gs l r n
    unfolding pairs_judged
    bad e = rw (a, b, e) refl

    module _ (g : bad_boundaries o gs ≡ false) (k c : ℕ) (ek : k ≡ length p.left) (ec : c ≡ answer_columns o) where
      abbrev short : Bool
      short = any_short o l r (cut_by o gs p)

      pub no_output : leb (frame_words k c) n ≡ false → Err NoRoom ≡ pairs_judged o p gs l r n
      unfolding pairs_judged
      no_output e = let z : ltb n (frame_words (length p.left) (answer_columns o)) ≡ true = rw (ek, ec) at (room_short k c n e) in rw (a, b, g, z, or-true short) refl

      pub no_area : short ≡ true → Err NoRoom ≡ pairs_judged o p gs l r n
      unfolding pairs_judged
      no_area e = rw (a, b, g, e) refl

      pub written : leb (frame_words k c) n ≡ true → short ≡ false → Ok k ≡ pairs_judged o p gs l r n
      unfolding pairs_judged
      written e s =
          let z : ltb n (frame_words (length p.left) (answer_columns o)) ≡ false = rw (ek, ec) at (le-ltb n (frame_words k c) (leb-true (frame_words k c) n e)) in
          rw (a, b, g, s, z, ← ek) refl

-- ---- what it means that nothing is refused
writes : (t : Bool) (r : Refusal) (k : Result ℕ Refusal) (n : ℕ) → cond t (Err r) k ≡ Ok n → (t ≡ false) × (k ≡ Ok n)
writes true r k n e = (cc, cc)
writes false r k n e = (refl, e)

pub record Passed (o : Options) (p : Pair) (n : ℕ) : Type 0 where
  pub left_sorted : sorted o p.left ≡ true
  pub right_sorted : sorted o p.right ≡ true
  pub room : frame_words (length p.left) (answer_columns o) ≤ n

pub passed : (o : Options) (p : Pair) (gs : Rows) (l r n k : ℕ) → pairs_judged o p gs l r n ≡ Ok k → Passed o p n
unfolding pairs_judged
passed o p gs l r n k e =
    let x = writes (not (sorted o p.left && sorted o p.right)) Unsorted _ k e in
    let s = and-true (sorted o p.left) (sorted o p.right) (not-false (sorted o p.left && sorted o p.right) x.0) in
    let y = writes (bad_boundaries o gs) BadBoundaries _ k x.1 in
    let words = frame_words (length p.left) (answer_columns o) in
    let z = writes (any_short o l r (cut_by o gs p) || ltb n words) NoRoom _ k y.1 in
    record { left_sorted = s.0; right_sorted = s.1; room = ltb-false n words (or_both (any_short o l r (cut_by o gs p)) (ltb n words) z.0).1 }

-- ---- rows that are there are what the parts ask
pub cuts_in : (o : Options) (c n : ℕ) (lv lm : Words) (w m : ℕ) (rv rm : Words) (k : ℕ) (gv gm : Words) → AllIn o c n lv lm w m rv rm k gv gm → sorted o (rows_of c n lv lm) ≡ true → sorted o (rows_of w m rv rm) ≡ true
    → CutsIn o c n lv lm w m rv rm k gv gm
cuts_in o c n lv lm w m rv rm k gv gm p a b = record {
  left = record { rows = p.left; in_order = a };
  right = record { rows = p.right; in_order = b };
  left_wide = p.left_wide;
  right_wide = p.right_wide;
  carried = p.carried;
  few_cells = p.few_cells;
  boundaries = p.groups;
}

pub answer_room : (o : Options) (c n : ℕ) (lv lm : Words) (w m : ℕ) (rv rm : Words) (k : ℕ) (gv gm out : Words) → AllIn o c n lv lm w m rv rm k gv gm → Passed o (pair_in c n lv lm w m rv rm) (length out)
    → AnswerRoom o c n lv lm w m rv rm 0 (n * answer_columns o) out
answer_room o c n lv lm w m rv rm k gv gm out p q =
    let z : frame_words n (answer_columns o) ≤ length out = rw (rows_length c n lv lm) at q.room in
    record {
      left = p.left;
      right = p.right;
      carried = p.carried;
      wide = omega (arith, p.right_wide);
      numbers = omega (arith, p.few_rows);
      within = omega arith;
      room = omega (arith, z);
    }

-- ---- by rows: what is left
module _ (o : Options) (p : Pair) (gs : Rows) (l r : ℕ) (out : Words) where
  leaves : (z : Result ℕ Refusal) → z ≡ pairs_judged o p gs l r (length out) → PairsContract o p gs l r out z (leave (answer_columns o) (joined_rows o p) z out).out
  leaves z e = record { answer = e; words = ap (λ (y : Result ℕ Refusal). (leave (answer_columns o) (joined_rows o p) y out).out) e }

  pub rows_refused : (z : Result ℕ Refusal) (x : Refusal) → z ≡ Err x → z ≡ pairs_judged o p gs l r (length out) → PairsContract o p gs l r out z out
  rows_refused z x q e = let y = leaves z e in record { answer = e; words = ap (λ (y : Result ℕ Refusal). (leave (answer_columns o) (joined_rows o p) y out).out) (sym q) ∙ y.words }

  -- A frame's choices over a sorted table are those of the whole table.
  same_rows : sorted o p.left ≡ true → sorted o p.right ≡ true → frame_answer o 0 p.right p.left ≡ joined_rows o p
  unfolding joined whole_table
  same_rows a b = ap (answer_rows o 0 p.right p.left) (frame_match o 0 p.right p.left b a)

  pub rows_written : (z : Result ℕ Refusal) (k : ℕ) → z ≡ Ok k → z ≡ pairs_judged o p gs l r (length out) → (out' : Words) → out' ≡ answered o (frame_answer o 0 p.right p.left) out → PairsContract o p gs l r out z out'
  unfolding answered
  rows_written z k q e out' w =
      let y = leaves z e in
      let t = passed o p gs l r (length out) k (sym e ∙ q) in
      record {
        answer = e;
        words = w
            ∙ ap (λ (rs : Rows). laid (table_of (answer_columns o) rs) out) (same_rows t.left_sorted t.right_sorted)
            ∙ ap (λ (y : Result ℕ Refusal). (leave (answer_columns o) (joined_rows o p) y out).out) (sym q)
            ∙ y.words;
      }
