-- The promises of the call. Assumes nothing.
use Rattle.frames.specs.declared.refusals.Refusal.{Refusal}
use Rattle.std.specs.Prelude.{Result, Ok, Err}
use mathlib.Core.Path.{◌≡◌, refl, sym, ap, ◌∙◌}
use mathlib.Core.Bool.{Bool, true, false, cond, not, ◌&&◌}
use mathlib.Core.List.{List, [], ◌∷◌, map}
use Prim.Native.Nat.{ℕ, suc, ◌*◌, ◌≤◌, ◌<◌}
use native.Mathlib.Omega.{arith}
use borrow.Author.Tests.{ltb-true, ltb-false}
use lib.Dec.{ltb}
use lib.ListN.{length, drop, length-append, length-map}
use Rattle.frames.specs.Cells.{Cell, Rows, Words}
use Rattle.frames.specs.Frame.{is_frame, row_count, frame_rows, frame_words, values_in, marks_in}
use Rattle.order.proofs.SortedLaws.{all_join}
use Rattle.frames.proofs.WordLaws.{rows_length, part_behind}
use Rattle.tables.specs.Table.{table_of, laid, leave}
use Rattle.frames.specs.declared.refusals.Refusal.TheVariants.{BadFrame, BadPoints, NoRoom}
use Rattle.tables.proofs.TableLaws.{Wide, table_is, table_rows_lem, table_length, laid_take}
use Rattle.spans.specs.Span.{covers_row, covered, pair_row, pairs_from, ascending_points}
use Rattle.spans.specs.Calls.{pairs_in, span_answer, span_call}
use Rattle.spans.specs.Promises.{Listed, Promises}
use Rattle.spans.specs.declared.Bounds.{Bounds}

-- ---- pairs have two columns, and an interval has at most as many as there are points
wide_map : (i : ℕ) (js : List ℕ) → Wide 2 (map (pair_row i) js)
wide_map i [] = tt
wide_map i (j ∷ js) = (refl, wide_map i js)

pairs_wide : (b : Bounds) (points : Rows) (i : ℕ) (rs : Rows) → Wide 2 (pairs_from b points i rs)
unfolding pairs_from
pairs_wide b points i [] = tt
pairs_wide b points i (r ∷ rs) = all_join (λ r. length r ≡ 2) (map (pair_row i) (covered b r 0 points)) (pairs_from b points (suc i) rs) (wide_map i (covered b r 0 points)) (pairs_wide b points (suc i) rs)

covered_few : (b : Bounds) (r : List Cell) (j : ℕ) (ps : Rows) → length (covered b r j ps) ≤ length ps
unfolding covered
covered_few b r j [] = omega arith
covered_few b r j (p ∷ ps) = by (covers_row b r p) (covered_few b r (suc j) ps)
  where
    by : (t : Bool) → length (covered b r (suc j) ps) ≤ length ps → length (cond t (j ∷ covered b r (suc j) ps) (covered b r (suc j) ps)) ≤ suc (length ps)
    by true h = omega arith
    by false h = omega arith

pairs_few : (b : Bounds) (points : Rows) (i : ℕ) (rs : Rows) → length (pairs_from b points i rs) ≤ length rs * length points
unfolding pairs_from
pairs_few b points i [] = omega arith
pairs_few b points i (r ∷ rs) =
    let a = length-append (map (pair_row i) (covered b r 0 points)) (pairs_from b points (suc i) rs) in
    let m = length-map (covered b r 0 points) (pair_row i) in
    omega (arith, a, m, covered_few b r 0 points, pairs_few b points (suc i) rs)

-- ---- what the answer says
wrote_means : (f a t : Bool) (m k : ℕ) → cond f (Err BadFrame) (cond a (Err BadPoints) (cond t (Err NoRoom) (Ok m))) ≡ Ok k → (t ≡ false) × (m ≡ k)
wrote_means true a t m k e = (cc, cc)
wrote_means false true t m k e = (cc, cc)
wrote_means false false true m k e = (cc, cc)
wrote_means false false false m k e = (refl, cc)

short_means : (f a t : Bool) (m : ℕ) → cond f (Err BadFrame) (cond a (Err BadPoints) (cond t (Err NoRoom) (Ok m))) ≡ Err NoRoom → t ≡ true
short_means true a t m e = cc
short_means false true t m e = cc
short_means false false true m e = refl
short_means false false false m e = cc

module _ (b : Bounds) (points intervals out : Words) where
  abbrev all : Rows
  all = pairs_in b points intervals

  told : (w : Result ℕ Refusal) → (leave 2 all w out).answer ≡ w
  told (Ok n) = refl
  told (Err n) = refl

  answers : (span_call b points intervals out).answer ≡ span_answer b points intervals out
  unfolding span_call
  answers = told (span_answer b points intervals out)

  leaves : (w : Result ℕ Refusal) → span_answer b points intervals out ≡ w → (span_call b points intervals out).out ≡ (leave 2 all w out).out
  unfolding span_call
  leaves w e = ap (λ (z : Result ℕ Refusal). (leave 2 all z out).out) e

  wide : Wide 2 all
  unfolding pairs_in
  wide = pairs_wide b (frame_rows 1 points) 0 (frame_rows 2 intervals)

  -- The answer tells how many pairs there are, and that they had room.
  wrote : (k : ℕ) → span_answer b points intervals out ≡ Ok k → (frame_words (length all) 2 ≤ length out) × (length all ≡ k)
  unfolding span_answer
  wrote k e =
      let m = wrote_means (not (is_frame 1 points && is_frame 2 intervals)) (not (ascending_points (frame_rows 1 points))) (ltb (length out) (frame_words (length all) 2)) (length all) k e in
      (ltb-false (length out) (frame_words (length all) 2) m.0, m.1)

  short : span_answer b points intervals out ≡ Err NoRoom → length out < frame_words (length all) 2
  unfolding span_answer
  short e =
      ltb-true (length out) (frame_words (length all) 2)
      (short_means (not (is_frame 1 points && is_frame 2 intervals)) (not (ascending_points (frame_rows 1 points))) (ltb (length out) (frame_words (length all) 2)) (length all) e)

  few : length all ≤ row_count intervals * row_count points
  unfolding pairs_in frame_rows
  few =
      rw (rows_length 1 (row_count points) (values_in 1 points) (marks_in 1 points), rows_length 2 (row_count intervals) (values_in 2 intervals) (marks_in 2 intervals))
      at (pairs_few b (frame_rows 1 points) 0 (frame_rows 2 intervals))

  behind : frame_words (length all) 2 ≤ length out → drop (frame_words (length all) 2) (laid (table_of 2 all) out) ≡ drop (frame_words (length all) 2) out
  unfolding laid
  behind h = part_behind out 0 (table_of 2 all) (length (table_of 2 all)) (frame_words (length all) 2) (omega arith) (omega arith) (omega (arith, table_length 2 all wide))

  lists : frame_words (length all) 2 ≤ length out → Listed b points intervals out (length all) (laid (table_of 2 all) out)
  lists h =
      let e = laid_take 2 all wide out h in
      record { table = rw e (table_is 2 all wide); rows = rw e (table_rows_lem 2 all wide); rest = behind h }

  pub promises : Promises b points intervals out
  promises = record {
    kept = λ n e. leaves (Err n) (sym answers ∙ e);
    listed = λ k e. let w = wrote k (sym answers ∙ e) in rw (leaves (Ok k) (sym answers ∙ e), ← w.1) (lists w.0);
    enough = λ p q h e. let s = short (sym answers ∙ e) in absurd (omega (arith, few));
  }
