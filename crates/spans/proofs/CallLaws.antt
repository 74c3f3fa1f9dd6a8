-- What the call answers and leaves, from what its parts do. Assumes nothing.
use Rattle.frames.specs.declared.refusals.Refusal.{Refusal}
use Rattle.std.specs.Prelude.{Result, Ok, Err}
use mathlib.Core.Path.{◌≡◌, refl, sym, ap, ◌∙◌}
use mathlib.Core.Bool.{true, false, ◌&&◌}
use Prim.Native.Nat.{ℕ, ◌+◌, ◌*◌, ◌≤◌, ◌<◌}
use native.Mathlib.Omega.{arith}
use borrow.Author.Tests.{lt-ltb, le-ltb}
use lib.IntN.{pos}
use lib.ListN.{length, set}
use Rattle.frames.specs.Cells.{Rows, Words, rows_of}
use Rattle.frames.specs.Frame.{frame_words, row_count, is_frame, frame_rows, values_in, marks_in}
use Rattle.frames.proofs.FrameLaws.{values_length, marks_length}
use Rattle.frames.proofs.FrontLaws.{frame_few}
use Rattle.tables.specs.Table.{leave, laid, table_of}
use Rattle.tables.specs.Lay.{flat, lay_cells}
use Rattle.frames.specs.declared.refusals.Refusal.TheVariants.{BadFrame, BadPoints, NoRoom}
use Rattle.tables.proofs.LayLaws.{lay_table}
use Rattle.spans.specs.Span.{pairs, ascending_points}
use Rattle.spans.specs.Calls.{pairs_in, span_answer, span_call, SpanContract}
use Rattle.spans.specs.PairRows.{cover_answer, CoverContract}
use Rattle.spans.specs.Requires.{PointsIn, IntervalsIn, ported}
use Rattle.spans.specs.declared.Bounds.{Bounds}
use Rattle.spans.proofs.SpanLaw.{ported_is_all}
use Rattle.spans.proofs.WalkLaws.{flat_wide}

module _ (b : Bounds) (n : ℕ) (pv pm : Words) (m : ℕ) (iv im out : Words) where
  abbrev ps : Rows
  ps = rows_of 1 n pv pm

  abbrev is : Rows
  is = rows_of 2 m iv im

  leaves : (w : Result ℕ Refusal) → cover_answer b ps is out ≡ w → CoverContract b n pv pm m iv im out w (leave 2 (pairs b ps is) w out).out
  leaves w e = record { answer = sym e; words = ap (λ (z : Result ℕ Refusal). (leave 2 (pairs b ps is) z out).out) (sym e) }

  answer_points : ascending_points ps ≡ false → cover_answer b ps is out ≡ Err BadPoints
  unfolding cover_answer
  answer_points e = rw e

  pub cover_points : ascending_points ps ≡ false → CoverContract b n pv pm m iv im out (Err BadPoints) out
  cover_points e = leaves (Err BadPoints) (answer_points e)

  module _ (e : ascending_points ps ≡ true) (k : ℕ) (h : k ≡ length (ported b n pv pm m iv im)) where
    all_pairs : ported b n pv pm m iv im ≡ pairs b ps is
    all_pairs = ported_is_all b ps is e

    count : length (pairs b ps is) ≡ k
    count = sym (h ∙ ap length all_pairs)

    answer_short : length out < 2 + 4 * k → cover_answer b ps is out ≡ Err NoRoom
    unfolding cover_answer
    answer_short l = rw (e, lt-ltb (length out) (frame_words (length (pairs b ps is)) 2) (omega (arith, count)))

    answer_wrote : 2 + 4 * k ≤ length out → cover_answer b ps is out ≡ Ok k
    unfolding cover_answer
    answer_wrote l = rw (e, le-ltb (length out) (frame_words (length (pairs b ps is)) 2) (omega (arith, count)), count)

    pub cover_short : length out < 2 + 4 * k → CoverContract b n pv pm m iv im out (Err NoRoom) out
    cover_short l = leaves (Err NoRoom) (answer_short l)

    pub cover_wrote : 2 + 4 * k ≤ length out → (out₁ out₂ : Words) → out₁ ≡ lay_cells (2 * k) 0 (flat (ported b n pv pm m iv im)) out → out₂ ≡ set (set out₁ 0 (pos k)) 1 (pos 2)
        → CoverContract b n pv pm m iv im out (Ok k) out₂
    cover_wrote l out₁ out₂ p q =
        let w = leaves (Ok k) (answer_wrote l) in
        let f : length (flat (pairs b ps is)) ≡ 2 * k = ap (λ (z : Rows). length (flat z)) (sym all_pairs) ∙ flat_wide b ps 0 is ∙ ap (λ (z : ℕ). 2 * z) (sym h) in
        let t : out₂ ≡ laid (table_of 2 (pairs b ps is)) out =
        q ∙ ap (λ (z : Words). set (set z 0 (pos k)) 1 (pos 2)) (p ∙ ap (λ (z : Rows). lay_cells (2 * k) 0 (flat z) out) all_pairs)
        ∙ ap (λ (z : ℕ). set (set (lay_cells (2 * k) 0 (flat (pairs b ps is)) out) 0 (pos z)) 1 (pos 2)) (sym count)
        ∙ lay_table (2 * k) 2 (pairs b ps is) out f (omega arith) in
        record { answer = w.answer; words = t ∙ w.words }

-- ---- the frames
module _ (b : Bounds) (points intervals out : Words) where
  bad : (is_frame 1 points && is_frame 2 intervals) ≡ false → span_answer b points intervals out ≡ Err BadFrame
  unfolding span_answer
  bad e = rw e

  pub span_bad : (is_frame 1 points && is_frame 2 intervals) ≡ false → SpanContract b points intervals out (Err BadFrame) out
  unfolding span_call
  span_bad e = record {
    answer = by (span_answer b points intervals out) (bad e);
    words = ap (λ (z : Result ℕ Refusal). (leave 2 (pairs_in b points intervals) z out).out) (sym (bad e));
  }
    where
      by : (w : Result ℕ Refusal) → w ≡ Err BadFrame → Err BadFrame ≡ (leave 2 (pairs_in b points intervals) w out).answer
      by (Ok n) d = sym d
      by (Err r) d = sym d

  fine : is_frame 1 points ≡ true → is_frame 2 intervals ≡ true
      → span_answer b points intervals out ≡ cover_answer b (rows_of 1 (row_count points) (values_in 1 points) (marks_in 1 points)) (rows_of 2 (row_count intervals) (values_in 2 intervals) (marks_in 2 intervals)) out
  unfolding span_answer cover_answer pairs_in frame_rows
  fine p q = rw (p, q)

  pub span_covers : is_frame 1 points ≡ true → is_frame 2 intervals ≡ true → (r : Result ℕ Refusal) (out' : Words)
      → CoverContract b (row_count points) (values_in 1 points) (marks_in 1 points) (row_count intervals) (values_in 2 intervals) (marks_in 2 intervals) out r out'
      → SpanContract b points intervals out r out'
  unfolding span_call pairs_in frame_rows
  span_covers p q r out' c = record {
    answer = c.answer ∙ sym (fine p q) ∙ by (span_answer b points intervals out);
    words = c.words ∙ ap (λ (z : Result ℕ Refusal). (leave 2 (pairs_in b points intervals) z out).out) (sym (fine p q));
  }
    where
      by : (w : Result ℕ Refusal) → w ≡ (leave 2 (pairs_in b points intervals) w out).answer
      by (Ok n) = refl
      by (Err r) = refl

  pub points_in : is_frame 1 points ≡ true → PointsIn (row_count points) (values_in 1 points) (marks_in 1 points)
  points_in p = record { few = frame_few 1 points p; values = omega (arith, values_length 1 points p); marks = omega (arith, marks_length 1 points p) }

  pub intervals_in : is_frame 2 intervals ≡ true → IntervalsIn (row_count intervals) (values_in 2 intervals) (marks_in 2 intervals)
  intervals_in q = record { few = frame_few 2 intervals q; values = omega (arith, values_length 2 intervals q); marks = omega (arith, marks_length 2 intervals q) }
