-- What scan and walk answer and leave, from what the functions of lay do. Assumes nothing.
use mathlib.Core.Path.{◌≡◌, refl, sym, ◌∙◌}
use mathlib.Core.Bool.{Bool, true, false, cond, not, ◌&&◌}
use mathlib.Core.List.{map}
use Prim.Native.Nat.{ℕ, ◌+◌, ◌*◌, ◌≤◌}
use native.Mathlib.Omega.{arith}
use borrow.Author.Tests.{ltb-false, ne_eqb}
use lib.Dec.{ltb}
use lib.ListN.{length}
use Rattle.frames.specs.Cells.{Rows, Words, rows_of}
use Rattle.frames.specs.Frame.{is_frame, row_count, frame_rows, values_in, marks_in}
use Rattle.order.specs.options.Options.{terms_of, without_list}
use Rattle.order.specs.declared.options.Options.{Options}
use Rattle.order.proofs.options.TermLaws.{few_terms}
use Rattle.order.specs.Requires.{RowsIn}
use Rattle.frames.proofs.FrameLaws.{values_length, marks_length}
use Rattle.frames.proofs.FrontLaws.{frame_few}
use Rattle.frames.proofs.WordLaws.{rows_length}
use Rattle.matching.specs.Match.{match_in}
use Rattle.matching.specs.Stretches.{between, lay}
use Rattle.matching.specs.Loops.{RunRoom}
use Rattle.matching.specs.Moves.{keys_sorted, walk_moves}
use Rattle.matching.proofs.WalkLaws.{between_all}
use Rattle.matching.proofs.TermLaws.{sorted_terms, walk_terms, lay_terms}
use Rattle.scanwalk.specs.Drive.{key_options, judged, unsorted, refusal_of, Drives, PartsIn}
use Rattle.scanwalk.specs.declared.Driven.{Driven}

-- ---- the judge
no_refusal : (a b c d : Bool) → ◌≡◌ {A = ℕ} (cond a 1 (cond (not b) 5 (cond (not c) 5 (cond d 6 0)))) 0 → (b ≡ true) × (c ≡ true) × (d ≡ false)
no_refusal true b c d e = absurd (omega (arith, e))
no_refusal false false c d e = absurd (omega (arith, e))
no_refusal false true false d e = absurd (omega (arith, e))
no_refusal false true true true e = absurd (omega (arith, e))
no_refusal false true true false e = (refl, refl, refl)

-- where it refuses nothing, both are frames and the output has room
pub fine : (s : ℕ) (left right : Words) (room : ℕ) → judged s left right room ≡ 0 → (is_frame 1 left ≡ true) × (is_frame 1 right ≡ true) × (2 + 2 * row_count left ≤ room)
fine s left right room e =
    let t = no_refusal (ltb 2 s) (is_frame 1 left) (is_frame 1 right) (ltb room (2 + 2 * row_count left)) e in
    (t.0, t.1, ltb-false room (2 + 2 * row_count left) t.2)

-- ---- the parts of the frames
module _ (s n : ℕ) (lv lm : Words) (m : ℕ) (rv rm out : Words) where
  abbrev ls : Rows
  ls = rows_of 1 n lv lm

  abbrev rs : Rows
  rs = rows_of 1 m rv rm

  -- the options as the code has them, without the words of a list
  abbrev pub plain : Options
  plain = without_list (terms_of (key_options s))

  pub left_in : PartsIn n lv lm m rv rm out → RowsIn plain 1 n lv lm
  left_in p = record { few = few_terms (terms_of (key_options s)) (omega arith); wide = omega arith; values = omega (arith, p.left_values); marks = omega (arith, p.left_marks) }

  pub right_in_lem : PartsIn n lv lm m rv rm out → RowsIn plain 1 m rv rm
  right_in_lem p = record { few = few_terms (terms_of (key_options s)) (omega arith); wide = omega arith; values = omega (arith, p.right_values); marks = omega (arith, p.right_marks) }

  pub run_room : PartsIn n lv lm m rv rm out → RunRoom plain 1 n lv lm 0 n 1 rv rm 0 m 0 out
  run_room p = record { left = left_in p; upward = omega arith; within = omega arith; right = right_in_lem p; run = omega arith; numbers = omega (arith, p.few); room = p.room }

  -- the words that both write
  abbrev Laid : Words → Type 0
  Laid out' = out' ≡ lay n 0 (map (match_in plain (0 + 0) (between 1 0 m rv rm)) (between 1 0 n lv lm)) out

  laid : (out' : Words) → Laid out' → out' ≡ lay (length ls) 0 (map (match_in (key_options s) 0 rs) ls) out
  laid out' e = rw (rows_length 1 n lv lm, ← between_all 1 lv lm n, ← between_all 1 rv rm m) (e ∙ lay_terms (terms_of (key_options s)) (key_options s).ranks.codes (key_options s).ranks.rising n 0 0 (between 1 0 m rv rm) (between 1 0 n lv lm) out)

  pub scanned : (walked : Bool) → walked ≡ false → (out' : Words) → Laid out' → Drives walked s ls rs (unsorted walked s ls rs) out (record { refusal = 0; moves = 0 }) out'
  scanned true e out' l = let z : ◌≡◌ {A = ℕ} 0 1 = cc in absurd (omega arith)
  scanned false e out' l = record { answer = refl; words = laid out' l; moves = refl }

  -- whether both are sorted, as the code asks it
  abbrev both : Bool
  both = keys_sorted plain (between 1 0 n lv lm) && keys_sorted plain (between 1 0 m rv rm)

  sorts : both ≡ (keys_sorted (key_options s) ls && keys_sorted (key_options s) rs)
  sorts = rw (between_all 1 lv lm n, between_all 1 rv rm m, same ls, same rs)
    where
      same : (rows : Rows) → keys_sorted plain rows ≡ keys_sorted (key_options s) rows
      same = sorted_terms (terms_of (key_options s)) (key_options s).ranks.codes (key_options s).ranks.rising

  pub unwalked : (walked : Bool) → walked ≡ true → both ≡ false → Drives walked s ls rs (unsorted walked s ls rs) out (record { refusal = 14; moves = 0 }) out
  unwalked false e f = let z : ◌≡◌ {A = ℕ} 0 1 = cc in absurd (omega arith)
  unwalked true e f = rw (sym sorts ∙ f) (record { answer = refl; words = refl; moves = refl })

  moved : walk_moves plain (between 1 0 n lv lm) (between 1 0 m rv rm) ≡ walk_moves (key_options s) ls rs
  moved = rw (between_all 1 lv lm n, between_all 1 rv rm m, walk_terms (terms_of (key_options s)) (key_options s).ranks.codes (key_options s).ranks.rising ls rs)

  pub walks : (walked : Bool) → walked ≡ true → both ≡ true → (k : ℕ) (out' : Words) → k ≡ walk_moves plain (between 1 0 n lv lm) (between 1 0 m rv rm) → Laid out' → Drives walked s ls rs (unsorted walked s ls rs) out (record { refusal = 0; moves = k }) out'
  walks false e f k out' c l = let z : ◌≡◌ {A = ℕ} 0 1 = cc in absurd (omega arith)
  walks true e f k out' c l = rw (sym sorts ∙ f) (record { answer = refl; words = laid out' l; moves = c ∙ moved })

-- ---- the frames
module _ (walked : Bool) (s : ℕ) (left right out : Words) where
  abbrev j : ℕ
  j = judged s left right (length out)

  abbrev Answers : ℕ → Driven → Words → Type 0
  Answers f r out' = Drives walked s (frame_rows 1 left) (frame_rows 1 right) f out r out'

  refuses : (k : ℕ) → (k ≡ 0 → ⊥) → (w : Bool) → Drives w s (frame_rows 1 left) (frame_rows 1 right) k out (record { refusal = k; moves = 0 }) out
  refuses k h true = record { answer = refl; words = rw (ne_eqb k 0 h); moves = rw (ne_eqb k 0 h) refl }
  refuses k h false = record { answer = refl; words = rw (ne_eqb k 0 h); moves = refl }

  pub refused : (k : ℕ) → k ≡ j → (k ≡ 0 → ⊥) → Answers (refusal_of walked s left right (length out)) (record { refusal = k; moves = 0 }) out
  refused k e h = rw (sym e, ne_eqb k 0 h) (refuses k h walked)

  -- the parts, where nothing is refused
  pub parts_in_lem : j ≡ 0 → PartsIn (row_count left) (values_in 1 left) (marks_in 1 left) (row_count right) (values_in 1 right) (marks_in 1 right) out
  parts_in_lem e =
      let f = fine s left right (length out) e in
      record {
        left_values = omega (arith, values_length 1 left f.0);
        left_marks = omega (arith, marks_length 1 left f.0);
        few = frame_few 1 right f.1;
        right_values = omega (arith, values_length 1 right f.1);
        right_marks = omega (arith, marks_length 1 right f.1);
        room = f.2;
      }

  pub taken : j ≡ 0 → (r : Driven) (out' : Words)
      → Drives walked s (rows_of 1 (row_count left) (values_in 1 left) (marks_in 1 left)) (rows_of 1 (row_count right) (values_in 1 right) (marks_in 1 right)) (unsorted walked s (rows_of 1 (row_count left) (values_in 1 left) (marks_in 1 left)) (rows_of 1 (row_count right) (values_in 1 right) (marks_in 1 right))) out r out'
      → Answers (refusal_of walked s left right (length out)) r out'
  unfolding frame_rows
  taken e r out' d = rw e d
