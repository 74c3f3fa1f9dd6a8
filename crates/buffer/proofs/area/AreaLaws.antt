-- Words copied within an area: word by word, as a loop goes; in a part of the area, as in the whole; and a push as two appends, of the values and of the marks.
-- Assumes nothing.
use mathlib.Core.Path.{◌≡◌, refl, sym, ap, ◌∙◌}
use mathlib.Core.Bool.{Bool, true, false, cond}
use mathlib.Core.List.{◌++◌, append_assoc}
use Prim.Native.Nat.{ℕ, suc, ◌+◌, ◌-◌, ◌*◌, ◌/◌, ◌^◌, ◌≤◌, ◌<◌}
use native.Mathlib.Nat.{mul-le-mul_right, mul-div_cancel}
use native.Mathlib.Numerals.{add-one}
use native.Mathlib.Omega.{arith}
use borrow.Author.Tests.{lt-ltb, le-ltb, ltb-true, ltb-false}
use lib.Dec.{ltb}
use lib.IntN.{pos}
use lib.Signed.{mag}
use lib.ListN.{length, take, drop, get_or, set, length-drop, take-append-drop}
use lib.Seq.{paste, take_all, take_at, drop_at, paste-suc, length_paste_head, get_or-append-add, get_or-drop, take-append-le, drop-append-le, take-append-add, drop-append-add, take-add, length-take-le}
use mir.Syntax.{w64}
use mir.Val.{to_z, of_z}
use Rattle.frames.specs.Cells.{Words}
use Rattle.frames.specs.Frame.{row_count, values_in, marks_in}
use Rattle.order.specs.Requires.{RowsIn}
use Rattle.frames.specs.Front.{HasCount}
use Rattle.order.specs.options.Options.{Few}
use Rattle.order.specs.declared.options.Options.{Options}
use Rattle.frames.proofs.Signed.{back}
use Rattle.frames.proofs.FrameLaws.{frame_length, values_length, marks_length}
use Rattle.frames.proofs.FrontLaws.{frame_count}
use Rattle.buffer.specs.area.Area.{capacity, moved, written, new_base, moved_rows, pushed}
use Rattle.buffer.specs.area.Requires.{Appended, BothIn, AppendedBoth, PushIn, Pushed}
use Rattle.buffer.proofs.area.PushLaws.{capacity_room, new_base_room, moved_length, append_length}

-- ---- one word more, as a loop goes
pub write_step : (a₀ a ws : Words) (at to i : ℕ) → a ≡ paste a₀ at ws i → to ≡ at + i → at + i < length a₀ → i < length ws → mag (get_or ws i (pos 0)) < 2 ^ 63
    → set a to (to_z w64 (of_z w64 (get_or ws i (pos 0)))) ≡ paste a₀ at ws (i + 1)
write_step a₀ a ws at to i e t h k m = rw (back (get_or ws i (pos 0)) m, e, t, add-one) (paste-suc a₀ at ws i (pos 0) h k)

-- What lies behind the words that were written is as it was.
behind : (xs ys : Words) (at n m : ℕ) → at ≤ length xs → n ≤ length ys → get_or (paste xs at ys n) (at + n + m) (pos 0) ≡ get_or xs (at + n + m) (pos 0)
behind xs ys at n m h k =
    let p = take at xs ++ take n ys in
    rw (length_paste_head xs at ys n h k) at (get_or-append-add p (drop (at + n) xs) m (pos 0)) ∙ get_or-drop (at + n) xs m (pos 0)

pub move_step : (a₀ a : Words) (start from i : ℕ) → a ≡ moved start 0 i a₀ → from ≡ start + i → start + i < length a₀ → mag (get_or a from (pos 0)) < 2 ^ 63
    → set a i (to_z w64 (of_z w64 (get_or a from (pos 0)))) ≡ moved start 0 (i + 1) a₀
move_step a₀ a start from i e t h m =
    let inside : i < length (drop start a₀) = simp length-drop (omega arith) in
    let same : from ≡ 0 + i + start = omega arith in
    let read : get_or a from (pos 0) ≡ get_or (drop start a₀) i (pos 0) =
    rw (get_or-drop, ← t, e, same) (behind a₀ (drop start a₀) 0 i start (omega arith) (omega arith)) in
    rw read (write_step a₀ a (drop start a₀) 0 i i e (omega arith) (omega arith) inside (rw read at m))

-- Words that stay where they are.
pub stays : (area : Words) (start n : ℕ) → start + n ≤ length area → moved start start n area ≡ area
stays area start n h =
    let e : take start area ++ take n (drop start area) ≡ take (start + n) area = sym (take-add start n area) in
    rw e (take-append-drop (start + n) area)

-- ---- an area of two parts: a copy within the first, or within the second
module _ (us xs : Words) where
  paste_left : (at n : ℕ) (s : Words) → at + n ≤ length us → paste (us ++ xs) at s n ≡ paste us at s n ++ xs
  paste_left at n s h =
      let a : at ≤ length us = omega arith in
      rw (take-append-le at us xs a, drop-append-le (at + n) us xs h) (sym (append_assoc (take at us ++ take n s) (drop (at + n) us) xs))

  paste_right : (h at n : ℕ) (s : Words) → length us ≡ h → paste (us ++ xs) (h + at) s n ≡ us ++ paste xs at s n
  paste_right h at n s e =
      let k : length us + at + n ≡ length us + (at + n) = omega arith in
      rw (← e, k, take-append-add us xs at, drop-append-add us xs (at + n), append_assoc us (take at xs) (take n s), append_assoc us (take at xs ++ take n s) (drop (at + n) xs))

  moved_left : (from to n : ℕ) → to + n ≤ length us → from + n ≤ length us → moved from to n (us ++ xs) ≡ moved from to n us ++ xs
  moved_left from to n h k =
      let a : from ≤ length us = omega arith in
      let b : n ≤ length (drop from us) = simp length-drop (omega arith) in
      paste_left to n (drop from (us ++ xs)) h ∙ rw (drop-append-le from us xs a, take-append-le n (drop from us) xs b)

  moved_right : (h from to n : ℕ) → length us ≡ h → moved (h + from) (h + to) n (us ++ xs) ≡ us ++ moved from to n xs
  moved_right h from to n e = paste_right h to n (drop (h + from) (us ++ xs)) e ∙ rw (← e, drop-append-add us xs from)

-- ---- where the held rows stand
pub base_room : (c base : ℕ) (area : Words) → base ≤ capacity c area → (base * c ≤ length area) × ((capacity c area + base) * c ≤ length area)
base_room c base area h =
    let r = capacity_room c area in
    let b = mul-le-mul_right c h in
    (omega arith, omega arith)

-- The held rows, as parts that `held_values` and `held_marks` give: all of them are there.
pub held_in_lem : (o : Options) (c base held : ℕ) (area : Words) → Few o → o.by < c → base + held ≤ capacity c area
    → RowsIn o c held (drop (base * c) area) (drop ((capacity c area + base) * c) area)
held_in_lem o c base held area few wide h =
    let r = capacity_room c area in
    let b = mul-le-mul_right {m = base + held} {n = capacity c area} c h in
    record { few = few; wide = wide; values = rw (length-drop (base * c) area) (omega arith); marks = rw (length-drop ((capacity c area + base) * c) area) (omega arith) }

-- No more rows than words.
pub rows_words : (n w : ℕ) → 1 ≤ w → n ≤ n * w
rows_words n w h = omega (arith, mul-le-mul_right {m = 1} {n = w} n h)

-- A part to the end.
pub to_end : (p : ℕ) (ws : Words) → take (length ws - p) (drop p ws) ≡ drop p ws
to_end p ws = take_all (length ws - p) (drop p ws) (rw (length-drop p ws) (omega arith))

-- ---- an append
module _ (start live : ℕ) (ws area : Words) where
  pub append_moved : (a₁ a₂ : Words) → length area < start + live + length ws → a₁ ≡ moved start 0 live area → a₂ ≡ written ws live a₁ → Appended start live ws area 0 a₂
  append_moved a₁ a₂ h e f =
      let z : live ≡ 0 + live = omega arith in
      record {
        base_is = rw (lt-ltb (length area) (start + live + length ws) h);
        area_is = f ∙ ap (λ (at : ℕ). written ws at a₁) z ∙ ap (λ (a : Words). written ws (0 + live) a) e;
      }

  pub append_kept : (a₂ : Words) → start + live + length ws ≤ length area → a₂ ≡ written ws (start + live) area → Appended start live ws area start a₂
  append_kept a₂ h f = record {
    base_is = rw (le-ltb (length area) (start + live + length ws) h);
    area_is = f ∙ ap (λ (a : Words). written ws (start + live) a) (sym (stays area start live (omega arith)));
  }

-- ---- two appends, in the two halves of an area
module _ (us ms xs vs ws : Words) (half start to live : ℕ) (lu : length us ≡ half) (lm : length ms ≡ half)
    (from : start + live ≤ half) (rv : to + live + length vs ≤ half) (rm : to + live + length ws ≤ half) where
  l₁ : length (moved start to live us) ≡ half
  l₁ = moved_length us start to live vs (omega arith) (omega arith) ∙ lu

  l₂ : length (written vs (to + live) (moved start to live us)) ≡ half
  l₂ = append_length us start to live vs (omega arith) (omega arith) ∙ lu

  l₃ : length (moved start to live ms) ≡ half
  l₃ = moved_length ms start to live ws (omega arith) (omega arith) ∙ lm

  two_halves : written ws (half + (to + live)) (written vs (to + live) (moved (half + start) (half + to) live (moved start to live (us ++ (ms ++ xs)))))
      ≡ written vs (to + live) (moved start to live us) ++ (written ws (to + live) (moved start to live ms) ++ xs)
  two_halves =
      let u₁ = moved start to live us in
      let m₁ = moved start to live ms in
      let u₂ = written vs (to + live) u₁ in
      ap (λ (z : Words). written ws (half + (to + live)) (written vs (to + live) (moved (half + start) (half + to) live z))) (moved_left us (ms ++ xs) start to live (omega arith) (omega arith))
      ∙ ap (λ (z : Words). written ws (half + (to + live)) (written vs (to + live) z)) (moved_right u₁ (ms ++ xs) half start to live l₁)
      ∙ ap (λ (z : Words). written ws (half + (to + live)) (written vs (to + live) (u₁ ++ z))) (moved_left ms xs start to live (omega arith) (omega arith))
      ∙ ap (λ (z : Words). written ws (half + (to + live)) z) (paste_left u₁ (m₁ ++ xs) (to + live) (length vs) vs (omega (arith, l₁)))
      ∙ paste_right u₂ (m₁ ++ xs) half (to + live) (length ws) ws l₂
      ∙ ap (λ (z : Words). u₂ ++ z) (paste_left m₁ xs (to + live) (length ws) ws (omega (arith, l₃)))

module _ {half start live : ℕ} {vs ms area : Words} (p : BothIn half start live vs ms area) where
  abbrev behind-half : Words → Words
  behind-half v = drop half (v ++ drop half area)

  -- What two appends leave, each in a part that is lent.
  pub both_appended : (v m : Words) (a b : ℕ) → Appended start live vs (take half area) a v → Appended start live ms (take (half + half - half) (behind-half v)) b m
      → AppendedBoth half start live vs ms area b (take half (v ++ drop half area) ++ (m ++ drop (half + half - half) (behind-half v)))
  both_appended v m a b e f = record { base_is = bb; area_is = go }
    where
      k : half + half - half ≡ half
      k = omega arith

      lu : length (take half area) ≡ half
      lu = length-take-le half area (omega (arith, p.halves))

      lx : half ≤ length (drop half area)
      lx = rw (length-drop half area) (omega (arith, p.halves))

      lm : length (take half (drop half area)) ≡ half
      lm = length-take-le half (drop half area) lx

      ba : a ≡ new_base start live (length vs) half
      ba = e.base_is ∙ ap (λ (n : ℕ). new_base start live (length vs) n) lu

      to_room : a + live + length vs ≤ half
      to_room = rw ba (new_base_room start live (length vs) half p.room)

      lv : length v ≡ half
      lv = ap length e.area_is ∙ append_length (take half area) start a live vs (omega (arith, lu, to_room)) (omega (arith, lu, p.within)) ∙ lu

      tv : take half (v ++ drop half area) ≡ v
      tv = take_at v (drop half area) half lv

      dv : drop half (v ++ drop half area) ≡ drop half area
      dv = drop_at v (drop half area) half lv

      f' : Appended start live ms (take half (drop half area)) b m
      f' = rw (k, dv) at f

      bb : b ≡ new_base start live (length vs) half
      bb = f'.base_is ∙ rw (lm, p.paired)

      same : a ≡ b
      same = ba ∙ sym bb

      whole : area ≡ take half area ++ (take half (drop half area) ++ drop half (drop half area))
      whole = rw (take-append-drop half (drop half area), take-append-drop half area)

      go : take half (v ++ drop half area) ++ (m ++ drop (half + half - half) (behind-half v))
          ≡ written ms (half + (b + live)) (written vs (b + live) (moved (half + start) (half + b) live (moved start b live area)))
      go =
          rw (k, tv, dv)
          (ap (λ (z : Words). z ++ (m ++ drop half (drop half area))) (e.area_is ∙ ap (λ (n : ℕ). written vs (n + live) (moved start n live (take half area))) same)
          ∙ ap (λ (z : Words). written vs (b + live) (moved start b live (take half area)) ++ (z ++ drop half (drop half area))) f'.area_is
          ∙ sym (two_halves (take half area) (take half (drop half area)) (drop half (drop half area)) vs ms half start b live lu lm p.within (rw (← same) to_room) (omega (arith, to_room, same, p.paired)))
          ∙ ap (λ (z : Words). written ms (half + (b + live)) (written vs (b + live) (moved (half + start) (half + b) live (moved start b live z)))) (sym whole))

-- ---- a push, in words
words_new_base : (c base held n room : ℕ) → 1 ≤ c → new_base (base * c) (held * c) (n * c) (room * c) ≡ new_base base held n room * c
words_new_base c base held n room h = go (ltb room (base + held + n)) refl
  where
    go : (b : Bool) → ltb room (base + held + n) ≡ b → new_base (base * c) (held * c) (n * c) (room * c) ≡ cond b 0 base * c
    go true e =
        let k = mul-le-mul_right {m = suc room} {n = base + held + n} c (ltb-true room (base + held + n) e) in
        rw (lt-ltb (room * c) (base * c + held * c + n * c) (omega arith)) (omega arith)
    go false e =
        let k = mul-le-mul_right {m = base + held + n} {n = room} c (ltb-false room (base + held + n) e) in
        rw (le-ltb (room * c) (base * c + held * c + n * c) (omega arith))

-- The same words at the same places.
same_words : (area : Words) (u l : ℕ) (vs vs' ms ms' : Words) (x x' y y' z z' t t' b b' : ℕ) → vs ≡ vs' → ms ≡ ms' → x ≡ x' → y ≡ y' → z ≡ z' → t ≡ t' → b ≡ b'
    → written ms x (written vs y (moved z t l (moved u b l area))) ≡ written ms' x' (written vs' y' (moved z' t' l (moved u b' l area)))
same_words area u l vs vs' ms ms' x x' y y' z z' t t' b b' e₁ e₂ e₃ e₄ e₅ e₆ e₇ = rw (e₁, e₂, e₃, e₄, e₅, e₆, e₇)

module _ {c base held : ℕ} {f area : Words} (p : PushIn c base held f area) where
  -- How long the frame is, and where in the area its rows go.
  pub record Sizes (room n : ℕ) : Type 0 where
    pub frame_long : length f ≡ 2 + 2 * (n * c)
    pub area_long : room * c + room * c ≤ length area
    pub live_in : base * c + held * c ≤ room * c
    pub fits : held * c + n * c ≤ room * c

  pub push_sizes : (room n : ℕ) → room ≡ capacity c area → n ≡ row_count f → Sizes room n
  push_sizes room n e g = record {
    frame_long = rw g (frame_length c f p.frame);
    area_long = rw e (capacity_room c area);
    live_in = let h : base + held ≤ room = rw e p.within in omega (arith, mul-le-mul_right {m = base + held} {n = room} c h);
    fits = let h : held + n ≤ room = rw (e, g) p.room in omega (arith, mul-le-mul_right {m = held + n} {n = room} c h);
  }

  pub push_counts : HasCount f
  push_counts = frame_count c f p.frame

  module _ (room n : ℕ) (e : room ≡ capacity c area) (g : n ≡ row_count f) where
    -- The frame's values and marks, as parts of it.
    abbrev values_part : Words
    values_part = take (2 + n * c - 2) (drop 2 f)

    abbrev marks_part : Words
    marks_part = take (length f - (2 + n * c)) (drop (2 + n * c) f)

    values_are : values_part ≡ values_in c f
    values_are = let k : 2 + n * c - 2 ≡ row_count f * c = rw g (omega arith) in rw k

    marks_are : marks_part ≡ marks_in c f
    marks_are = to_end (2 + n * c) f ∙ rw g

    pub push_both : BothIn (room * c) (base * c) (held * c) values_part marks_part area
    push_both =
        let s = push_sizes room n e g in
        let lv : length values_part ≡ n * c = ap length values_are ∙ values_length c f p.frame ∙ rw g in
        let lm : length marks_part ≡ n * c = ap length marks_are ∙ marks_length c f p.frame ∙ rw g in
        record { halves = s.area_long; paired = lm ∙ sym lv; within = s.live_in; room = omega (arith, s.fits, lv) }

    pub push_done : (b : ℕ) (after : Words) → AppendedBoth (room * c) (base * c) (held * c) values_part marks_part area b after → Pushed c base held f area (b / c) after
    unfolding pushed moved_rows
    push_done b after d = record { base_is = at; area_is = d.area_is ∙ words }
      where
        to : ℕ
        to = new_base base held (row_count f) (capacity c area)

        lv : length values_part ≡ row_count f * c
        lv = ap length values_are ∙ values_length c f p.frame

        bw : b ≡ new_base base held (row_count f) (capacity c area) * c
        bw = d.base_is ∙ rw (lv, e) (words_new_base c base held (row_count f) (capacity c area) p.columns.some)

        at : b / c ≡ new_base base held (row_count f) (capacity c area)
        at = rw bw (mul-div_cancel (new_base base held (row_count f) (capacity c area)) p.columns.some)

        rc : room * c ≡ capacity c area * c
        rc = rw e

        words : written marks_part (room * c + (b + held * c)) (written values_part (b + held * c) (moved (room * c + base * c) (room * c + b) (held * c) (moved (base * c) b (held * c) area)))
            ≡ pushed c base held f area
        words =
            same_words area (base * c) (held * c) values_part (values_in c f) marks_part (marks_in c f) (room * c + (b + held * c)) ((capacity c area + to + held) * c) (b + held * c) ((to + held) * c)
            (room * c + base * c) ((capacity c area + base) * c) (room * c + b) ((capacity c area + to) * c) b (to * c)
            values_are marks_are (omega (arith, bw, rc)) (omega (arith, bw)) (omega (arith, rc)) (omega (arith, bw, rc)) bw
