-- A move by its answer: what an accepted one leaves, word for word, and what a refused one does. Assumes nothing.
use Rattle.std.specs.Prelude.{Result, Ok, Err}
use mathlib.Core.Path.{◌≡◌, refl, sym, ap, ◌∙◌}
use mathlib.Core.Bool.{Bool, true, false, cond}
use mathlib.Core.List.{[]}
use Prim.Native.Nat.{ℕ, ◌+◌, ◌*◌, ◌/◌, ◌%◌, ◌≤◌}
use native.Mathlib.Nat.{mul-le-mul_right}
use native.Mathlib.Omega.{arith}
use borrow.Author.Tests.{ltb-false, le-ltb, ne_eqb}
use lib.Dec.{ltb}
use lib.ListN.{length, take, drop, length-drop}
use lib.Seq.{length-paste, take-length, length-take-le}
use Rattle.frames.specs.Cells.{Words, rows_of}
use Rattle.frames.proofs.WordLaws.{part_copied, part_before, rows_read}
use Rattle.buffer.specs.area.Area.{capacity, held_rows, written}
use Rattle.buffer.proofs.area.PushLaws.{capacity_room}
use Rattle.callrules.proofs.FeedLaws.{or_both}
use Rattle.frames.specs.outcomes.Answers.{most_rows}
use Rattle.frames.specs.declared.refusals.Refusal.{Refusal}
use Rattle.frames.specs.declared.refusals.Refusal.TheVariants.{BadJoin, NoRoom}
use Rattle.node.specs.State.{right_width, bad_join, held_of, waiting, held_values, held_marks}
use Rattle.node.specs.Calls.{After, after}
use Rattle.node.specs.declared.Join.{Join}
use Rattle.node.proofs.Good.{Good, good}
use Rattle.node.specs.moves.Moves.{no_room_in, move_answer, at_front, left_moved, right_moved, move_call, MoveContract, Moved}
use Rattle.node.specs.moves.Requires.{right_copied}

-- ---- what is accepted
passed : (b : Bool) (n : Refusal) (t : Result Unit Refusal) → cond b (Err n) t ≡ Ok tt → (b ≡ false) × (t ≡ Ok tt)
passed true n t e = let z : ◌≡◌ {A = ℕ} 0 1 = cc in absurd (omega arith)
passed false n t e = (refl, e)

-- A join that holds together and whose words and rows have room.
pub record Fits (j : Join) (left right new_left new_right : Words) : Type 0 where
  pub good : Good j left right
  pub left_room : j.queue_words ≤ length new_left
  pub right_room : j.held ≤ capacity (right_width j) new_right

pub fits_by : (j : Join) (left right new_left new_right : Words) → bad_join j left right ≡ false → no_room_in j new_left new_right ≡ false → Fits j left right new_left new_right
fits_by j left right new_left new_right e f =
    let p = or_both (ltb (length new_left) j.queue_words) (ltb (capacity (right_width j) new_right) j.held) f in
    record {
      good = good j left right e;
      left_room = ltb-false (length new_left) j.queue_words p.0;
      right_room = ltb-false (capacity (right_width j) new_right) j.held p.1;
    }

taken_tests : (j : Join) (left right new_left new_right : Words) → move_answer j left right new_left new_right ≡ Ok tt → (bad_join j left right ≡ false) × (no_room_in j new_left new_right ≡ false)
unfolding move_answer
taken_tests j left right new_left new_right e =
    let p = passed (bad_join j left right) BadJoin _ e in
    let q = passed (no_room_in j new_left new_right) NoRoom (Ok tt) p.1 in
    (p.0, q.0)

-- The held rows, by their words.
held_read : (j : Join) (r : Words) → held_of j r ≡ rows_of (right_width j) j.held (held_values j r) (held_marks j r)
unfolding held_of held_rows held_values held_marks
held_read j r = sym (rows_read (right_width j) j.held (j.held * right_width j) (drop (j.base * right_width j) r) (drop ((capacity (right_width j) r + j.base) * right_width j) r) (omega arith))

-- ---- what it leaves
-- Words that were written are there.
there : (ws area : Words) (at n : ℕ) → length ws ≡ n → at ≤ length area → take n (drop at (written ws at area)) ≡ ws
there ws area at n e h = rw (← e) (part_copied area at ws (length ws) h (omega arith) ∙ take-length ws)

module _ (j : Join) (left right new_left new_right : Words) (t : Fits j left right new_left new_right) where
  abbrev c : ℕ
  c = right_width j

  abbrev n : ℕ
  n = j.held * c

  -- R of the new right area, in words.
  abbrev half : ℕ
  half = capacity c new_right * c

  -- How many words wait, and how many the held values and the held marks are.
  words_long : length (waiting j left) ≡ j.queue_words
  unfolding waiting
  words_long = length-take-le j.queue_words (drop j.queue_start left) (rw (length-drop j.queue_start left) (omega (arith, t.good.left_room)))

  held_room : (j.base + j.held) * c ≤ capacity c right * c
  held_room = mul-le-mul_right c t.good.right_room

  values_long : length (held_values j right) ≡ n
  unfolding held_values
  values_long = length-take-le n (drop (j.base * c) right) (rw (length-drop (j.base * c) right) (omega (arith, held_room, capacity_room c right)))

  marks_long : length (held_marks j right) ≡ n
  unfolding held_marks
  marks_long =
      length-take-le n (drop ((capacity c right + j.base) * c) right)
      (rw (length-drop ((capacity c right + j.base) * c) right) (omega (arith, held_room, capacity_room c right)))

  -- The new right area has room for as many in each half.
  half_room : n ≤ half
  half_room = mul-le-mul_right c t.right_room

  both_halves : half + half ≤ length new_right
  both_halves = capacity_room c new_right

  -- ---- the left area
  pub left_long : length (left_moved j left new_left) ≡ length new_left
  unfolding left_moved
  left_long = length-paste new_left 0 (waiting j left) (length (waiting j left)) (omega (arith, words_long, t.left_room)) (omega arith)

  pub left_waits : waiting (at_front j) (left_moved j left new_left) ≡ waiting j left
  unfolding left_moved waiting
  left_waits = there (waiting j left) new_left 0 j.queue_words words_long (omega arith)

  -- ---- the right area
  abbrev first : Words
  first = written (held_values j right) 0 new_right

  first_long : length first ≡ length new_right
  first_long = length-paste new_right 0 (held_values j right) (length (held_values j right)) (omega (arith, values_long, half_room, both_halves)) (omega arith)

  pub right_long : length (right_moved j right new_right) ≡ length new_right
  unfolding right_moved
  right_long =
      length-paste first half (held_marks j right) (length (held_marks j right)) (rw first_long (omega (arith, marks_long, half_room, both_halves))) (omega arith)
      ∙ first_long

  capacity_same : capacity c (right_moved j right new_right) ≡ capacity c new_right
  capacity_same = ap (λ (z : ℕ). z / (2 * c)) right_long

  pub right_values : held_values (at_front j) (right_moved j right new_right) ≡ held_values j right
  unfolding right_moved held_values
  right_values =
      let ms = held_marks j right in
      let z : 0 * c ≡ 0 = omega arith in
      rw z
      (part_before first half ms (length ms) 0 n (rw first_long (omega (arith, both_halves))) (omega (arith, half_room))
      ∙ there (held_values j right) new_right 0 n values_long (omega arith))

  pub right_marks : held_marks (at_front j) (right_moved j right new_right) ≡ held_marks j right
  unfolding right_moved held_marks
  right_marks =
      let z : (capacity c new_right + 0) * c ≡ half = omega arith in
      rw (capacity_same, z) (there (held_marks j right) first half n marks_long (rw first_long (omega (arith, both_halves))))

  -- ---- the join
  pub front_fits : bad_join (at_front j) (left_moved j left new_left) (right_moved j right new_right) ≡ false
  unfolding bad_join
  front_fits =
      rw (
        t.good.options,
        le-ltb (capacity c (right_moved j right new_right)) (0 + j.held) (rw capacity_same (omega (arith, t.right_room))),
        le-ltb (length (left_moved j left new_left)) (0 + j.queue_words) (rw left_long (omega (arith, t.left_room))),
        le-ltb most_rows (j.pruned + j.held) t.good.rows,
        ne_eqb (j.sequence % 2) 1 (λ (h : j.sequence % 2 ≡ 1). omega (arith, t.good.even)),
      )

-- ---- the theorem
-- What a call answers: it does what is done where it is accepted, else nothing.
abbrev by_move : Result Unit Refusal → After (Result Unit Refusal) → Join → Words → Words → After (Result Unit Refusal)
by_move t done j left right = elim t [ Ok tt ↦ done | Err n ↦ after (Err n) j left right [] ]

says : (t : Result Unit Refusal) (done : After (Result Unit Refusal)) (j : Join) (left right : Words) → done.answer ≡ Ok tt → (by_move t done j left right).answer ≡ Ok tt → t ≡ Ok tt
says (Ok tt) done j left right d e = refl
says (Err n) done j left right d e = e

-- ---- the call by its tests
module _ (j : Join) (left right new_left new_right : Words) where
  pub move_bad : bad_join j left right ≡ true → move_call j left right new_left new_right ≡ after (Err BadJoin) j new_left new_right []
  unfolding move_call move_answer
  move_bad e = rw (e, move_call)

  pub move_short : bad_join j left right ≡ false → no_room_in j new_left new_right ≡ true → move_call j left right new_left new_right ≡ after (Err NoRoom) j new_left new_right []
  unfolding move_call move_answer
  move_short e f = rw (e, f, move_call)

  pub move_done : bad_join j left right ≡ false → no_room_in j new_left new_right ≡ false
      → move_call j left right new_left new_right ≡ after (Ok tt) (at_front j) (left_moved j left new_left) (right_moved j right new_right) []
  unfolding move_call move_answer
  move_done e f = rw (e, f, move_call)

-- A move that is accepted passed both tests.
accepted : (j : Join) (left right new_left new_right : Words) → (move_call j left right new_left new_right).answer ≡ Ok tt → (bad_join j left right ≡ false) × (no_room_in j new_left new_right ≡ false)
unfolding move_call
accepted j left right new_left new_right e =
    let done = after (Ok tt) (at_front j) (left_moved j left new_left) (right_moved j right new_right) [] in
    taken_tests j left right new_left new_right (says (move_answer j left right new_left new_right) done j new_left new_right refl e)

-- Only a join that holds together is moved.
pub move_good : (j : Join) (left right new_left new_right : Words) → (move_call j left right new_left new_right).answer ≡ Ok tt → bad_join j left right ≡ false
move_good j left right new_left new_right e = (accepted j left right new_left new_right e).0

pub moved_same : Moved
moved_same j left right new_left new_right e =
    let k = accepted j left right new_left new_right e in
    let t = fits_by j left right new_left new_right k.0 k.1 in
    let w = move_done j left right new_left new_right k.0 k.1 in
    record {
      join = rw w;
      waits = rw w (left_waits j left right new_left new_right t);
      values = rw w (right_values j left right new_left new_right t);
      marks = rw w (right_marks j left right new_left new_right t);
      rows =
          rw w
          (held_read (at_front j) (right_moved j right new_right)
          ∙ rw (right_values j left right new_left new_right t, right_marks j left right new_left new_right t) (sym (held_read j right)));
      fits = rw w (front_fits j left right new_left new_right t);
      left_length = rw w (left_long j left right new_left new_right t);
      right_length = rw w (right_long j left right new_left new_right t);
    }

-- ---- for the code
module _ (j : Join) (left right new_left new_right : Words) where
  pub bad_move : bad_join j left right ≡ true → MoveContract j left right new_left new_right (record { answer = Err BadJoin; join = j }) new_left new_right
  bad_move e = let w = move_bad j left right new_left new_right e in record { answer = rw w; join = rw w; left_words = rw w; right_words = rw w }

  pub no_room_move : bad_join j left right ≡ false → no_room_in j new_left new_right ≡ true → MoveContract j left right new_left new_right (record { answer = Err NoRoom; join = j }) new_left new_right
  no_room_move e f = let w = move_short j left right new_left new_right e f in record { answer = rw w; join = rw w; left_words = rw w; right_words = rw w }

  pub done_move : (left' right' : Words) → bad_join j left right ≡ false → no_room_in j new_left new_right ≡ false
      → left' ≡ written (take j.queue_words (drop j.queue_start left)) 0 new_left → right' ≡ right_copied (right_width j) j.base j.held right new_right
      → MoveContract j left right new_left new_right (record { answer = Ok tt; join = at_front j }) left' right'
  unfolding left_moved right_moved right_copied waiting held_values held_marks
  done_move left' right' e f x y = let w = move_done j left right new_left new_right e f in record { answer = rw w; join = rw w; left_words = rw w x; right_words = rw w y }
