-- Frames cut from a table are frames, and their rows are the table's. Assumes nothing.
use mathlib.Core.Path.{◌≡◌, refl, sym, ◌∙◌}
use mathlib.Core.Bool.{true}
use mathlib.Core.List.{List, [], ◌∷◌, ◌++◌, map}
use Prim.Native.Nat.{ℕ, zero, suc, ◌+◌, ◌-◌, ◌*◌, ◌≤◌}
use native.Mathlib.Omega.{arith}
use borrow.Author.Tests.{eq-eqb, le-leb}
use lib.Dec.{leb, eqb}
use lib.ListN.{length, take, drop, length-append, length-drop, take-append-drop}
use lib.Seq.{length-take-le, take_at, drop_at}
use Rattle.frames.specs.Cells.{Words, rows_of}
use Rattle.frames.specs.Frame.{frame_words, pair_fine, pairs_fine, values_in, marks_in, is_frame, frame_rows, is_table}
use Rattle.frames.proofs.BoolLaws.{and-true}
use Rattle.frames.proofs.WordLaws.{rows_append, rows_read, rows_drop}
use Rattle.lists.specs.Lists.{rows_in}
use Rattle.schedules.specs.plan.Plan.{AllFrames}
use Rattle.planning.specs.Heights.{total, in_frames}
use Rattle.planning.proofs.HeightLaws.{AllFew, rows_take}
use Rattle.schedules.specs.plan.Table.{frame_from, frames_by}

-- Marks that fit their values fit them in each part.
pub fine_take : (k : ℕ) (vs ms : Words) → pairs_fine vs ms ≡ true → pairs_fine (take k vs) (take k ms) ≡ true
unfolding pairs_fine
fine_take zero vs ms h = refl
fine_take (suc k) [] ms h = refl
fine_take (suc k) (v ∷ vs) [] h = h
fine_take (suc k) (v ∷ vs) (m ∷ ms) h = let p = and-true (pair_fine v m) (pairs_fine vs ms) h in rw p.0 (fine_take k vs ms p.1)

pub fine_drop : (k : ℕ) (vs ms : Words) → pairs_fine vs ms ≡ true → pairs_fine (drop k vs) (drop k ms) ≡ true
unfolding pairs_fine
fine_drop zero vs ms h = h
fine_drop (suc k) [] ms h = refl
fine_drop (suc k) (v ∷ vs) [] h = let z : ◌≡◌ {A = ℕ} 0 1 = cc in absurd (omega arith)
fine_drop (suc k) (v ∷ vs) (m ∷ ms) h = fine_drop k vs ms (and-true (pair_fine v m) (pairs_fine vs ms) h).1

-- A frame from its parts: the parts are its values and its marks.
module _ (c n : ℕ) (vs ms : Words) (lv : length vs ≡ n * c) (lm : length ms ≡ n * c) where
  values_from : values_in c (frame_from c n vs ms) ≡ vs
  values_from = take_at vs ms (n * c) lv

  marks_from : marks_in c (frame_from c n vs ms) ≡ ms
  marks_from = let e : 2 + n * c ≡ suc (suc (n * c)) = omega arith in rw e (drop_at vs ms (n * c) lv)

  pub rows_from : frame_rows c (frame_from c n vs ms) ≡ rows_of c n vs ms
  unfolding frame_rows
  rows_from = rw (values_from, marks_from) refl

  pub frame_from_lem : n ≤ 4096 → pairs_fine vs ms ≡ true → is_frame c (frame_from c n vs ms) ≡ true
  unfolding is_frame is_table
  frame_from_lem h p =
      let k = length-append vs ms in
      let e₁ : leb 2 (suc (suc (length (vs ++ ms)))) ≡ true = le-leb 2 (suc (suc (length (vs ++ ms)))) (omega arith) in
      let e₂ : leb 0 n ≡ true = le-leb 0 n (omega arith) in
      let e₃ : leb n 4096 ≡ true = le-leb n 4096 h in
      let e₄ : eqb c c ≡ true = eq-eqb c c refl in
      let e₅ : eqb (suc (suc (length (vs ++ ms)))) (frame_words n c) ≡ true = eq-eqb (suc (suc (length (vs ++ ms)))) (frame_words n c) (omega (arith, k, lv, lm)) in
      rw (values_from, marks_from, e₁, e₂, e₃, e₄, e₅) (rw p refl)

pub table_frames : (c : ℕ) (hs : List ℕ) (vs ms : Words) → AllFew hs → total hs * c ≤ length vs → total hs * c ≤ length ms → pairs_fine vs ms ≡ true
    → AllFrames c (frames_by c hs vs ms) × (rows_in c (frames_by c hs vs ms) ≡ rows_of c (total hs) vs ms)
unfolding frames_by total rows_in rows_of
table_frames c [] vs ms f a b p = (tt, refl)
table_frames c (h ∷ hs) vs ms f a b p =
    let s : (h + total hs) * c ≡ h * c + total hs * c = omega arith in
    let av : h * c + total hs * c ≤ length vs = rw s at a in
    let bm : h * c + total hs * c ≤ length ms = rw s at b in
    let lv : length (take (h * c) vs) ≡ h * c = length-take-le (h * c) vs (omega arith) in
    let lm : length (take (h * c) ms) ≡ h * c = length-take-le (h * c) ms (omega arith) in
    let ih = table_frames c hs (drop (h * c) vs) (drop (h * c) ms) f.1 (rw (length-drop (h * c) vs) (omega arith)) (rw (length-drop (h * c) ms) (omega arith)) (fine_drop (h * c) vs ms p) in (
      (frame_from_lem c h (take (h * c) vs) (take (h * c) ms) lv lm f.0 (fine_take (h * c) vs ms p), ih.0),
      rw (rows_from c h (take (h * c) vs) (take (h * c) ms) lv lm, ih.1)
          (sym (rows_append c h (total hs) (take (h * c) vs) (drop (h * c) vs) (take (h * c) ms) (drop (h * c) ms) lv lm) ∙ rw (take-append-drop (h * c) vs, take-append-drop (h * c) ms) refl),
    )

-- Their rows are those that the heights cut.
pub framed : (c : ℕ) (hs : List ℕ) (vs ms : Words) → total hs * c ≤ length vs → total hs * c ≤ length ms → map (frame_rows c) (frames_by c hs vs ms) ≡ in_frames hs (rows_of c (total hs) vs ms)
unfolding frames_by total in_frames
framed c [] vs ms a b = refl
framed c (h ∷ hs) vs ms a b =
    let s : (h + total hs) * c ≡ h * c + total hs * c = omega arith in
    let av : h * c + total hs * c ≤ length vs = rw s at a in
    let bm : h * c + total hs * c ≤ length ms = rw s at b in
    let lv : length (take (h * c) vs) ≡ h * c = length-take-le (h * c) vs (omega arith) in
    let lm : length (take (h * c) ms) ≡ h * c = length-take-le (h * c) ms (omega arith) in
    let ih = framed c hs (drop (h * c) vs) (drop (h * c) ms) (rw (length-drop (h * c) vs) (omega arith)) (rw (length-drop (h * c) ms) (omega arith)) in
    let m : h + total hs - h ≡ total hs = omega arith in
    let r₁ : frame_rows c (frame_from c h (take (h * c) vs) (take (h * c) ms)) ≡ take h (rows_of c (h + total hs) vs ms)
    = rows_from c h (take (h * c) vs) (take (h * c) ms) lv lm ∙ rows_read c h (h * c) vs ms (omega arith) ∙ rows_take c (h + total hs) h vs ms (omega arith) in
    let r₂ : rows_of c (total hs) (drop (h * c) vs) (drop (h * c) ms) ≡ drop h (rows_of c (h + total hs) vs ms) = rw m at (rows_drop c (h + total hs) h vs ms (omega arith)) in
    rw (r₁, ih, r₂) refl
