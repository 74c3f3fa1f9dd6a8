-- What a push leaves: the held rows before and then the frame's, word for word; the area's length stays. Assumes nothing.
use mathlib.Core.Path.{◌≡◌, refl, ap, ◌∙◌}
use mathlib.Core.Bool.{Bool, true, false, cond}
use mathlib.Core.List.{◌++◌}
use Prim.Native.Nat.{ℕ, ◌+◌, ◌*◌, ◌≤◌}
use native.Mathlib.Nat.{mul-le-mul_right, div-add-mod'}
use native.Mathlib.Omega.{arith}
use borrow.Author.Tests.{ltb-false}
use lib.Dec.{ltb}
use lib.ListN.{length, take, drop, length-drop}
use lib.Seq.{length-paste, take-add, take-length, drop-drop}
use Rattle.frames.specs.Cells.{Words}
use Rattle.frames.specs.Frame.{row_count, values_in, marks_in, is_frame}
use Rattle.frames.proofs.WordLaws.{part_copied, part_before, part_behind}
use Rattle.frames.proofs.FrameLaws.{values_length, marks_length}
use Rattle.buffer.specs.area.Area.{capacity, moved, written, new_base, moved_rows, pushed}

-- R rows have room: 2cR words.
pub capacity_room : (c : ℕ) (area : Words) → capacity c area * c + capacity c area * c ≤ length area
capacity_room c area = omega (arith, div-add-mod' (length area) (2 * c))

-- Where the rows stand after the rule of the move: they and those that come have room.
pub new_base_room : (base held n room : ℕ) → held + n ≤ room → new_base base held n room + held + n ≤ room
new_base_room base held n room h = go (ltb room (base + held + n)) refl
  where
    go : (b : Bool) → ltb room (base + held + n) ≡ b → cond b 0 base + held + n ≤ room
    go true e = omega arith
    go false e = omega (arith, ltb-false room (base + held + n) e)

-- Nothing moves to a later place.
pub new_base_front : (base held n room : ℕ) → new_base base held n room ≤ base
new_base_front base held n room = go (ltb room (base + held + n))
  where
    go : (b : Bool) → cond b 0 base ≤ base
    go true = omega arith
    go false = omega arith

-- ---- words appended behind a live part, after the move: the one law of both areas, and of values and marks
module _ (area : Words) (from to n : ℕ) (ws : Words) (room : to + n + length ws ≤ length area) (live : from + n ≤ length area) where
  moved_room : n ≤ length (drop from area)
  moved_room = rw (length-drop from area) (omega arith)

  pub moved_length : length (moved from to n area) ≡ length area
  moved_length = length-paste area to (drop from area) n (omega arith) moved_room

  pub append_length : length (written ws (to + n) (moved from to n area)) ≡ length area
  append_length =
      length-paste (moved from to n area) (to + n) ws (length ws) (rw moved_length (omega arith)) (omega arith) ∙ moved_length

  pub append_part : take (n + length ws) (drop to (written ws (to + n) (moved from to n area))) ≡ take n (drop from area) ++ ws
  append_part =
      take-add n (length ws) (drop to (written ws (to + n) (moved from to n area)))
      ∙ rw (
        part_before (moved from to n area) (to + n) ws (length ws) to n (rw moved_length (omega arith)) (omega arith),
        part_copied area to (drop from area) n (omega arith) moved_room,
        drop-drop n to (written ws (to + n) (moved from to n area)),
        part_copied (moved from to n area) (to + n) ws (length ws) (rw moved_length (omega arith)) (omega arith),
        take-length ws,
      )

-- ---- a push: two live parts of h words each, values and marks, and the words that come behind each
module _ (area vs ms : Words) (fv tv fm tm h : ℕ)
    (fits : fv + h ≤ length area) (marked : fm + h ≤ length area) (room : tm + h + length ms ≤ length area)
    (apart : tv + h + length vs ≤ tm) (before : tv + h ≤ fm) where
  a₁ : Words
  a₁ = moved fv tv h area

  a₂ : Words
  a₂ = moved fm tm h a₁

  a₃ : Words
  a₃ = written vs (tv + h) a₂

  a₄ : Words
  a₄ = written ms (tm + h) a₃

  l₁ : length a₁ ≡ length area
  unfolding a₁
  l₁ = length-paste area tv (drop fv area) h (omega arith) (rw (length-drop fv area) (omega arith))

  l₂ : length a₂ ≡ length area
  unfolding a₂
  l₂ = length-paste a₁ tm (drop fm a₁) h (rw l₁ (omega arith)) (rw (length-drop fm a₁, l₁) (omega arith)) ∙ l₁

  l₃ : length a₃ ≡ length area
  unfolding a₃
  l₃ = length-paste a₂ (tv + h) vs (length vs) (rw l₂ (omega arith)) (omega arith) ∙ l₂

  two_length : length (written ms (tm + h) (written vs (tv + h) (moved fm tm h (moved fv tv h area)))) ≡ length area
  unfolding a₁ a₂ a₃
  two_length = length-paste a₃ (tm + h) ms (length ms) (rw l₃ (omega arith)) (omega arith) ∙ l₃

  two_values : take (h + length vs) (drop tv (written ms (tm + h) (written vs (tv + h) (moved fm tm h (moved fv tv h area))))) ≡ take h (drop fv area) ++ vs
  unfolding a₁ a₂ a₃
  two_values =
      part_before a₃ (tm + h) ms (length ms) tv (h + length vs) (rw l₃ (omega arith)) (omega arith)
      ∙ take-add h (length vs) (drop tv a₃)
      ∙ rw (
        part_before a₂ (tv + h) vs (length vs) tv h (rw l₂ (omega arith)) (omega arith),
        part_before a₁ tm (drop fm a₁) h tv h (rw l₁ (omega arith)) (omega arith),
        part_copied area tv (drop fv area) h (omega arith) (rw (length-drop fv area) (omega arith)),
        drop-drop h tv a₃,
        part_copied a₂ (tv + h) vs (length vs) (rw l₂ (omega arith)) (omega arith),
        take-length vs,
      )

  two_marks : take (h + length ms) (drop tm (written ms (tm + h) (written vs (tv + h) (moved fm tm h (moved fv tv h area))))) ≡ take h (drop fm area) ++ ms
  unfolding a₁ a₂ a₃ a₄
  two_marks =
      take-add h (length ms) (drop tm a₄)
      ∙ ap (λ (z : Words). z ++ take (length ms) (drop h (drop tm a₄)))
      (part_before a₃ (tm + h) ms (length ms) tm h (rw l₃ (omega arith)) (omega arith)
      ∙ ap (λ (z : Words). take h z) (part_behind a₂ (tv + h) vs (length vs) tm (rw l₂ (omega arith)) (omega arith) apart)
      ∙ part_copied a₁ tm (drop fm a₁) h (rw l₁ (omega arith)) (rw (length-drop fm a₁, l₁) (omega arith))
      ∙ ap (λ (z : Words). take h z) (part_behind area tv (drop fv area) h fm (omega arith) (rw (length-drop fv area) (omega arith)) before))
      ∙ ap (λ (z : Words). take h (drop fm area) ++ z)
      (ap (λ (z : Words). take (length ms) z) (drop-drop h tm a₄)
      ∙ part_copied a₃ (tm + h) ms (length ms) (rw l₃ (omega arith)) (omega arith)
      ∙ take-length ms)

module _ (c base held : ℕ) (f area : Words) (frame : is_frame c f ≡ true) (within : base + held ≤ capacity c area) (room : held + row_count f ≤ capacity c area) where
  abbrev R : ℕ
  R = capacity c area

  abbrev to : ℕ
  to = new_base base held (row_count f) R

  r_room : (R + R) * c ≤ length area
  r_room = omega (arith, capacity_room c area)

  to_room : (to + held + row_count f) * c ≤ R * c
  to_room = mul-le-mul_right c (new_base_room base held (row_count f) R room)

  live_room : (base + held) * c ≤ R * c
  live_room = mul-le-mul_right c within

  to_front : to * c ≤ base * c
  to_front = mul-le-mul_right c (new_base_front base held (row_count f) R)

  e_v : (to + held) * c ≡ to * c + held * c
  e_v = omega arith

  e_m : (R + to + held) * c ≡ (R + to) * c + held * c
  e_m = omega arith

  len_v : length (values_in c f) ≡ row_count f * c
  len_v = values_length c f frame

  len_m : length (marks_in c f) ≡ row_count f * c
  len_m = marks_length c f frame

  n1 : base * c + held * c ≤ length area
  n1 = omega (arith, r_room, live_room)

  n2 : (R + base) * c + held * c ≤ length area
  n2 = omega (arith, r_room, live_room)

  n3 : (R + to) * c + held * c + length (marks_in c f) ≤ length area
  n3 = rw len_m (omega (arith, r_room, to_room))

  n4 : to * c + held * c + length (values_in c f) ≤ (R + to) * c
  n4 = rw len_v (omega (arith, to_room))

  n5 : to * c + held * c ≤ (R + base) * c
  n5 = omega (arith, to_room)

  -- The area's length stays.
  pub pushed_length : length (pushed c base held f area) ≡ length area
  unfolding pushed moved_rows
  pushed_length = rw (e_v, e_m) (two_length area (values_in c f) (marks_in c f) (base * c) (to * c) ((R + base) * c) ((R + to) * c) (held * c) n1 n2 n3 n4 n5)

  -- The values, and the marks, of the held rows and then of the frame.
  pub pushed_values : take ((held + row_count f) * c) (drop (to * c) (pushed c base held f area)) ≡ take (held * c) (drop (base * c) area) ++ values_in c f
  unfolding pushed moved_rows
  pushed_values =
      let k : (held + row_count f) * c ≡ held * c + length (values_in c f) = rw len_v (omega arith) in
      rw (e_v, e_m, k) (two_values area (values_in c f) (marks_in c f) (base * c) (to * c) ((R + base) * c) ((R + to) * c) (held * c) n1 n2 n3 n4 n5)

  pub pushed_marks : take ((held + row_count f) * c) (drop ((R + to) * c) (pushed c base held f area)) ≡ take (held * c) (drop ((R + base) * c) area) ++ marks_in c f
  unfolding pushed moved_rows
  pushed_marks =
      let k : (held + row_count f) * c ≡ held * c + length (marks_in c f) = rw len_m (omega arith) in
      rw (e_v, e_m, k) (two_marks area (values_in c f) (marks_in c f) (base * c) (to * c) ((R + base) * c) ((R + to) * c) (held * c) n1 n2 n3 n4 n5)
