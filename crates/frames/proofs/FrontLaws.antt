-- The parts of the frame rule as the code tests them: words that are counts, marks that fit, a length that n and c give; and the front of words. Assumes nothing.
use Rattle.std.specs.Prelude.{Some, None}
use mathlib.Core.Path.{◌≡◌, refl, sym, ap, ◌∙◌}
use mathlib.Core.Bool.{Bool, true, false, cond, ◌&&◌}
use Prim.Native.Nat.{ℕ, suc, ◌+◌, ◌-◌, ◌*◌, ◌/◌, ◌≤◌, ◌<◌, ◌^◌, min}
use native.Mathlib.Omega.{arith}
use native.Mathlib.Numerals.{add-one}
use native.Mathlib.Nat.{div-lt_iff_lt-mul, le-div_iff_mul-le, zero-mul}
use borrow.Author.Tests.{ltb-true, leb-true, le-leb, lt-leb, eq-eqb, ne_eqb}
use lib.Dec.{T, leb, eqb}
use lib.IntN.{ℤ, pos, negsuc, nat_abs}
use lib.Signed.{lt_z, le_z, non_neg, mag}
use lib.ListN.{length, take, drop, get_or, length-take, length-drop, drop_of_length-le}
use lib.Seq.{drop-cons, length-take-le, get_or-take, take_all}
use mir.Syntax.{w64}
use mir.Val.{SFits, of_z}
use Rattle.frames.specs.Cells.{Words}
use Rattle.frames.specs.Frame.{same_z, row_count, frame_words, pair_fine, pairs_fine, values_in, marks_in, is_table, frame_limit, is_frame, front}
use Rattle.frames.specs.Front.{front_of, few_rows, fitting, front_length, HasCount}
use Rattle.frames.proofs.BoolLaws.{and-true, and_true_right}
use Rattle.frames.proofs.FrameLaws.{table_parts}

-- ---- a word that is a number of rows, or a count
pub few_negative : (z : ℤ) → lt_z z (pos 0) ≡ true → few_rows z ≡ false
few_negative (pos n) h = absurd (omega (arith, ltb-true n 0 h))
few_negative (negsuc n) h = refl

pub few_from_zero : (z : ℤ) → lt_z z (pos 0) ≡ false → le_z z (pos 4096) ≡ few_rows z
few_from_zero (pos n) h = rw (le-leb 0 n (omega arith))
few_from_zero (negsuc n) h = cc

pub few_count : (z : ℤ) → few_rows z ≡ true → T (non_neg z) × (nat_abs z ≤ 4096)
few_count (pos n) h = (tt, leb-true n 4096 (and-true (leb 0 n) (leb n 4096) h).1)
few_count (negsuc n) h = let e : ◌≡◌ {A = ℕ} 0 1 = cc in absurd (omega arith)

pub few_counted : (z : ℤ) → few_rows z ≡ true → le_z (pos 0) z ≡ true
few_counted z h = (and-true (le_z (pos 0) z) (le_z z (pos frame_limit)) h).0

-- A word from 0 on, by its bits.
pub from_zero_word : (z : ℤ) → le_z (pos 0) z ≡ true → mag z < 2 ^ 63 → T (non_neg z) × (nat_abs z < 2 ^ 64)
from_zero_word (pos n) h l = let k : n < 2 ^ 63 = l in (tt, omega arith)
from_zero_word (negsuc n) h l = let e : ◌≡◌ {A = ℕ} 0 1 = cc in absurd (omega arith)

pub not_below_zero : (z : ℤ) → lt_z z (pos 0) ≡ false → le_z (pos 0) z ≡ true
not_below_zero (pos n) h = le-leb 0 n (omega arith)
not_below_zero (negsuc n) h = cc

below_zero : (z : ℤ) → lt_z z (pos 0) ≡ true → le_z (pos 0) z ≡ false
below_zero (pos n) h = absurd (omega (arith, ltb-true n 0 h))
below_zero (negsuc n) h = refl

pub same_negative : (z : ℤ) (c : ℕ) → lt_z z (pos 0) ≡ true → same_z z (pos c) ≡ false
same_negative (pos n) c h = absurd (omega (arith, ltb-true n 0 h))
same_negative (negsuc n) c h = refl

pub same_from_zero : (z : ℤ) (c : ℕ) → lt_z z (pos 0) ≡ false → eqb (nat_abs z) c ≡ same_z z (pos c)
same_from_zero (pos n) c h = refl
same_from_zero (negsuc n) c h = cc

-- ---- a word by its bits
pub word_is : (z : ℤ) (n : ℕ) → SFits w64 z → n < 2 ^ 63 → of_z w64 z ≡ n → same_z z (pos n) ≡ true
word_is (pos a) n f l h = eq-eqb a n h
word_is (negsuc a) n f l h = absurd (away a n f.sfits l h)
  where
    away : (a n : ℕ) → a < 2 ^ 63 → n < 2 ^ 63 → 2 ^ 64 - suc a ≡ n → ⊥
    away a n g l e = omega arith

pub word_not : (z : ℤ) (n : ℕ) → (of_z w64 z ≡ n → ⊥) → same_z z (pos n) ≡ false
word_not (pos a) n h = ne_eqb a n h
word_not (negsuc a) n h = refl

pub word_flag : (z : ℤ) (n : ℕ) → SFits w64 z → n < 2 ^ 63 → eqb (of_z w64 z) n ≡ same_z z (pos n)
word_flag (pos a) n f l = refl
word_flag (negsuc a) n f l = let g : a < 2 ^ 63 = f.sfits in ne_eqb (2 ^ 64 - suc a) n (λ (e : 2 ^ 64 - suc a ≡ n). omega arith)

-- ---- the marks
pub pairs_more : (vs ms : Words) (i : ℕ) → i < length vs → i < length ms → pairs_fine (drop i vs) (drop i ms) ≡ (pair_fine (get_or vs i (pos 0)) (get_or ms i (pos 0)) && pairs_fine (drop (i + 1) vs) (drop (i + 1) ms))
unfolding pairs_fine
pairs_more vs ms i h k = rw (add-one i, drop-cons vs i (pos 0) h, drop-cons ms i (pos 0) k)

pub pairs_done : (vs ms : Words) (i : ℕ) → length vs ≤ i → pairs_fine (drop i vs) (drop i ms) ≡ true
unfolding pairs_fine
pairs_done vs ms i h = rw (drop_of_length-le vs h)

-- ---- the length that n and c give
module _ (n c room : ℕ) where
  pub fit_short : room < 2 → fitting n c room ≡ None
  unfolding fitting
  fit_short h = rw (lt-leb (frame_words n c) room (omega arith))

  pub fit_none : 2 ≤ room → n ≡ 0 → fitting n c room ≡ Some 2
  unfolding fitting
  fit_none h e = let z : frame_words n c ≡ 2 = rw (e, zero-mul c) in rw (z, le-leb 2 room h)

  pub fit_over : (n ≡ 0 → ⊥) → (room - 2) / 2 / n < c → fitting n c room ≡ None
  unfolding fitting
  fit_over g h =
      let k : (room - 2) / 2 < c * n = (div-lt_iff_lt-mul {k = n} {x = (room - 2) / 2} {y = c} (omega arith)).0 h in
      rw (lt-leb (frame_words n c) room (omega arith))

  pub fit_bound : 2 ≤ room → (n ≡ 0 → ⊥) → c ≤ (room - 2) / 2 / n → frame_words n c ≤ room
  fit_bound l g h =
      let k : c * n ≤ (room - 2) / 2 = (le-div_iff_mul-le {k = n} {x = c} {y = (room - 2) / 2} (omega arith)).0 h in
      omega arith

  pub fit_within : frame_words n c ≤ room → fitting n c room ≡ Some (frame_words n c)
  unfolding fitting
  fit_within h = rw (le-leb (frame_words n c) room h)

-- ---- the length of the front
found_by : (a b d : Bool) (m k : ℕ) → cond (a && b) (cond d (Some m) None) None ≡ Some k → (a ≡ true) × (b ≡ true) × (d ≡ true) × (m ≡ k)
found_by true true true m k e = (refl, refl, refl, (cc))
found_by true true false m k e = let z : ◌≡◌ {A = ℕ} 0 1 = cc in absurd (omega arith)
found_by true false d m k e = let z : ◌≡◌ {A = ℕ} 0 1 = cc in absurd (omega arith)
found_by false b d m k e = let z : ◌≡◌ {A = ℕ} 0 1 = cc in absurd (omega arith)

not_true_false : (b : Bool) → (b ≡ true → ⊥) → b ≡ false
not_true_false true h = absurd (h refl)
not_true_false false h = refl

module _ (c : ℕ) (ws : Words) where
  pub front_short : length ws < 2 → front_length c ws ≡ None
  unfolding front_length
  front_short h = rw (lt-leb 2 (length ws) h)

  pub front_many : 2 ≤ length ws → few_rows (get_or ws 0 (pos 0)) ≡ false → front_length c ws ≡ None
  unfolding front_length
  front_many h e = rw (le-leb 2 (length ws) h, e)

  pub front_fits : 2 ≤ length ws → few_rows (get_or ws 0 (pos 0)) ≡ true → front_length c ws ≡ fitting (row_count ws) c (length ws)
  unfolding front_length
  front_fits h e = rw (le-leb 2 (length ws) h, e)

  -- What a front that was found says.
  pub front_found : (k : ℕ) → front_length c ws ≡ Some k → (2 ≤ length ws) × (few_rows (get_or ws 0 (pos 0)) ≡ true) × (k ≤ length ws) × (k ≡ frame_words (row_count ws) c)
  unfolding front_length fitting
  front_found k e =
      let p = found_by (leb 2 (length ws)) (few_rows (get_or ws 0 (pos 0))) (leb (frame_words (row_count ws) c) (length ws)) (frame_words (row_count ws) c) k e in
      (leb-true 2 (length ws) p.0, p.1, omega (arith, leb-true (frame_words (row_count ws) c) (length ws) p.2, p.3), sym p.3)

  found_front : 2 ≤ length ws → few_rows (get_or ws 0 (pos 0)) ≡ true → frame_words (row_count ws) c ≤ length ws → front_length c ws ≡ Some (frame_words (row_count ws) c)
  found_front h e l = front_fits h e ∙ fit_within (row_count ws) c (length ws) l

-- ---- a frame: the parts of the rule
pub record Parts (c : ℕ) (f : Words) : Type 0 where
  pub long : 2 ≤ length f
  pub few : few_rows (get_or f 0 (pos 0)) ≡ true
  pub columns : same_z (get_or f 1 (pos 0)) (pos c) ≡ true
  pub exact : length f ≡ frame_words (row_count f) c
  pub fine : pairs_fine (values_in c f) (marks_in c f) ≡ true

pub frame_parts : (c : ℕ) (f : Words) → is_frame c f ≡ true → Parts c f
unfolding is_frame
frame_parts c f h =
    let p = and-true (is_table c f) (le_z (get_or f 0 (pos 0)) (pos frame_limit)) h in
    let t = table_parts c f p.0 in
    record { long = t.long; few = rw (t.counted, p.1) refl; columns = t.columns; exact = t.exact; fine = t.fine }

-- ---- a table, as the code tests it
fit_by : (b : Bool) (m k : ℕ) → cond b (Some m) None ≡ Some k → (b ≡ true) × (m ≡ k)
fit_by true m k e = (refl, (cc))
fit_by false m k e = let z : ◌≡◌ {A = ℕ} 0 1 = cc in absurd (omega arith)

fit_not : (b : Bool) (m : ℕ) → cond b (Some m) None ≡ None → b ≡ false
fit_not true m e = cc
fit_not false m e = refl

module _ (n c room : ℕ) where
  pub fitting_some : (k : ℕ) → fitting n c room ≡ Some k → leb (frame_words n c) room ≡ true
  unfolding fitting
  fitting_some k e = (fit_by (leb (frame_words n c) room) (frame_words n c) k e).0

  pub fitting_none : fitting n c room ≡ None → leb (frame_words n c) room ≡ false
  unfolding fitting
  fitting_none e = fit_not (leb (frame_words n c) room) (frame_words n c) e

  fitting_length : (k : ℕ) → fitting n c room ≡ Some k → frame_words n c ≡ k
  unfolding fitting
  fitting_length k e = (fit_by (leb (frame_words n c) room) (frame_words n c) k e).1

module _ (c : ℕ) (f : Words) where
  pub table_short : length f < 2 → is_table c f ≡ false
  table_short l = not_true_false (is_table c f) (λ h. omega (arith, (table_parts c f h).long))

  pub table_below_zero : lt_z (get_or f 0 (pos 0)) (pos 0) ≡ true → is_table c f ≡ false
  table_below_zero l =
      not_true_false (is_table c f) (λ h. let g = (table_parts c f h).counted in let k = below_zero (get_or f 0 (pos 0)) l in let z : ◌≡◌ {A = ℕ} 0 1 = cc in omega arith)

  pub table_over : fitting (row_count f) c (length f) ≡ None → is_table c f ≡ false
  table_over e =
      not_true_false (is_table c f) (λ h.
      let g = le-leb (frame_words (row_count f) c) (length f) (omega (arith, (table_parts c f h).exact)) in
      let k = fitting_none (row_count f) c (length f) e in
      let z : ◌≡◌ {A = ℕ} 0 1 = cc in omega arith)

  pub table_other_length : (k : ℕ) → fitting (row_count f) c (length f) ≡ Some k → (k ≡ length f → ⊥) → is_table c f ≡ false
  table_other_length k e n =
      not_true_false (is_table c f) (λ h. n (sym (fitting_length (row_count f) c (length f) k e) ∙ sym (table_parts c f h).exact))

  pub table_other_columns : same_z (get_or f 1 (pos 0)) (pos c) ≡ false → is_table c f ≡ false
  table_other_columns e = not_true_false (is_table c f) (λ h. let g = (table_parts c f h).columns in let z : ◌≡◌ {A = ℕ} 0 1 = cc in omega arith)

  -- The words behind the first two fall into two halves, values and marks.
  pub table_halves : (k : ℕ) → le_z (pos 0) (get_or f 0 (pos 0)) ≡ true → fitting (row_count f) c (length f) ≡ Some k → k ≡ length f → same_z (get_or f 1 (pos 0)) (pos c) ≡ true →
      is_table c f ≡ pairs_fine (take (length f / 2 + 1 - 2) (drop 2 f)) (take (length f - (length f / 2 + 1)) (drop (length f / 2 + 1) f))
  unfolding is_table
  table_halves k g e n s =
      let x : length f ≡ frame_words (row_count f) c = omega (arith, fitting_length (row_count f) c (length f) k e) in
      let a : length f / 2 + 1 - 2 ≡ row_count f * c = omega arith in
      let b : length f / 2 + 1 ≡ 2 + row_count f * c = omega arith in
      let d : take (length f - (2 + row_count f * c)) (drop (2 + row_count f * c) f) ≡ drop (2 + row_count f * c) f = take_all (length f - (2 + row_count f * c)) (drop (2 + row_count f * c) f) (rw (length-drop (2 + row_count f * c) f) (omega arith)) in
      rw (a, b, d, le-leb 2 (length f) (omega arith), g, s, eq-eqb (length f) (frame_words (row_count f) c) x)

-- ---- a frame is a table of few rows
module _ (c : ℕ) (f : Words) where
  pub frame_table : is_frame c f ≡ true → is_table c f ≡ true
  unfolding is_frame
  frame_table h = (and-true (is_table c f) (le_z (get_or f 0 (pos 0)) (pos frame_limit)) h).0

  pub frame_empty : length f < 1 → is_frame c f ≡ false
  frame_empty l = not_true_false (is_frame c f) (λ h. omega (arith, (frame_parts c f h).long))

  pub frame_many : few_rows (get_or f 0 (pos 0)) ≡ false → is_frame c f ≡ false
  frame_many e = not_true_false (is_frame c f) (λ h. let g = (frame_parts c f h).few in let z : ◌≡◌ {A = ℕ} 0 1 = cc in omega arith)

  pub frame_is_table : few_rows (get_or f 0 (pos 0)) ≡ true → is_frame c f ≡ is_table c f
  unfolding is_frame
  frame_is_table e = rw (and-true (le_z (pos 0) (get_or f 0 (pos 0))) (le_z (get_or f 0 (pos 0)) (pos frame_limit)) e).1 (and_true_right (is_table c f))

module _ (c : ℕ) (ws : Words) where
  -- ---- the front of words that wait
  front_word : get_or (front c ws) 0 (pos 0) ≡ get_or ws 0 (pos 0)
  unfolding front
  front_word = get_or-take (frame_words (row_count ws) c) ws 0 (pos 0) (omega arith)

  pub front_rows : row_count (front c ws) ≡ row_count ws
  front_rows = ap nat_abs front_word

  front_frame : is_frame c (front c ws) ≡ true → front_length c ws ≡ Some (frame_words (row_count ws) c)
  unfolding front
  front_frame h =
      let p = frame_parts c (front c ws) h in
      let l : length (front c ws) ≡ min (frame_words (row_count ws) c) (length ws) = length-take (frame_words (row_count ws) c) ws in
      let x : length (front c ws) ≡ frame_words (row_count ws) c = p.exact ∙ ap (λ (n : ℕ). frame_words n c) front_rows in
      found_front c ws (omega (arith, p.long)) (rw front_word at p.few) (omega arith)

  pub front_none : front_length c ws ≡ None → front_of c ws ≡ None
  unfolding front_of
  front_none e = rw (not_true_false (is_frame c (front c ws)) (λ h. let g = front_frame h in let z : ◌≡◌ {A = ℕ} 0 1 = cc in omega arith))

  front_is : (k : ℕ) → front_length c ws ≡ Some k → (front c ws ≡ take k ws) × (length (front c ws) ≡ k)
  unfolding front
  front_is k e =
      let p = front_found c ws k e in
      let x : frame_words (row_count ws) c ≡ k = sym p.3 in
      (rw x, rw x (length-take-le k ws p.2))

  pub front_yes : (k : ℕ) → front_length c ws ≡ Some k → is_frame c (take k ws) ≡ true → front_of c ws ≡ Some k
  unfolding front_of
  front_yes k e h = let p = front_is k e in rw p.1 (rw (p.0, h))

  pub front_no : (k : ℕ) → front_length c ws ≡ Some k → is_frame c (take k ws) ≡ false → front_of c ws ≡ None
  unfolding front_of
  front_no k e h = let p = front_is k e in rw (p.0, h)

-- ---- what a caller has in hand
-- The first word of a table is a number of rows, and so is a frame's.
pub table_count : (c : ℕ) (f : Words) → is_table c f ≡ true → HasCount f
table_count c f h = let p = table_parts c f h in record { long = omega (arith, p.long); counted = p.counted }

pub frame_count : (c : ℕ) (f : Words) → is_frame c f ≡ true → HasCount f
frame_count c f h = table_count c f (frame_table c f h)

pub frame_few : (c : ℕ) (f : Words) → is_frame c f ≡ true → row_count f ≤ 4096
frame_few c f h = (few_count (get_or f 0 (pos 0)) (frame_parts c f h).few).1

-- The front that was answered: a frame of so many of the first words.
pub record Fronted (c : ℕ) (ws : Words) (k : ℕ) : Type 0 where
  pub is : is_frame c (front c ws) ≡ true
  pub here : front c ws ≡ take k ws
  pub within : k ≤ length ws
  pub exact : k ≡ frame_words (row_count ws) c
  pub count : HasCount ws

module _ (c : ℕ) (ws : Words) where
  answered_by : (b : Bool) (m k : ℕ) → cond b (Some m) None ≡ Some k → (b ≡ true) × (m ≡ k)
  answered_by true m k e = (refl, (cc))
  answered_by false m k e = let z : ◌≡◌ {A = ℕ} 0 1 = cc in absurd (omega arith)

  pub front_told : (k : ℕ) → front_of c ws ≡ Some k → Fronted c ws k
  unfolding front_of
  front_told k e =
      let p = answered_by (is_frame c (front c ws)) (length (front c ws)) k e in
      let l = front_frame c ws p.0 in
      let q = front_is c ws (frame_words (row_count ws) c) l in
      let g = front_found c ws (frame_words (row_count ws) c) l in
      let x : frame_words (row_count ws) c ≡ k = sym q.1 ∙ p.1 in
      record { is = p.0; here = rw x at q.0; within = omega (arith, g.2); exact = sym x; count = record { long = omega (arith, g.0); counted = few_counted (get_or ws 0 (pos 0)) g.1 } }

-- The parts that a caller lends of a frame, values and marks.
pub values_part : (c : ℕ) (f : Words) (e : ℕ) → e ≡ 2 + row_count f * c → take (e - 2) (drop 2 f) ≡ values_in c f
values_part c f e h = let x : e - 2 ≡ row_count f * c = omega arith in rw x

pub marks_part : (c : ℕ) (f : Words) (e : ℕ) → e ≡ 2 + row_count f * c → take (length f - e) (drop e f) ≡ marks_in c f
marks_part c f e h = rw h (take_all (length f - (2 + row_count f * c)) (drop (2 + row_count f * c) f) (rw (length-drop (2 + row_count f * c) f) (omega arith)))
