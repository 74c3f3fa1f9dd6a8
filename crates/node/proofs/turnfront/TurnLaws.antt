-- A turn over plain values: what its answers tell, what its words are, and what it leaves. Assumes nothing.
use Rattle.frames.specs.declared.outcomes.Turn.TheVariants.{Wrote, WantsRight, Idle}
use Rattle.frames.specs.declared.outcomes.Turn.{Turn}
use Rattle.frames.specs.declared.refusals.Refusal.{Refusal}
use Rattle.std.specs.Prelude.{Result, Ok, Err}
use mathlib.Core.Path.{◌≡◌, refl, sym, ap, ◌∙◌}
use mathlib.Core.Bool.{Bool, true, false, not, cond, ◌&&◌, ◌||◌}
use Prim.Native.Nat.{ℕ, ◌+◌, ◌-◌, ◌*◌, ◌%◌, ◌^◌, ◌≤◌, ◌<◌}
use native.Mathlib.Nat.{mul-le-mul_right}
use native.Mathlib.Omega.{arith}
use borrow.Author.Tests.{ltb-false, eqb-false}
use lib.Dec.{ltb, eqb}
use lib.ListN.{length, take, drop, length-take, length-drop}
use Rattle.frames.specs.Cells.{Rows, Words, rows_of}
use Rattle.frames.specs.Frame.{row_count, frame_words, values_in, marks_in, is_frame, frame_rows}
use Rattle.order.specs.options.Options.{columns, right_columns, answer_columns, is_on}
use Rattle.order.specs.Order.{sorted}
use Rattle.order.specs.Keyed.{first_left, row_at, recall, out_of_order}
use Rattle.order.specs.Requires.{RowsIn}
use Rattle.frames.specs.Front.{HasCount}
use Rattle.order.specs.declared.options.Options.{Options}
use Rattle.order.specs.declared.Row.{Row}
use Rattle.frames.proofs.WordLaws.{rows_length, rows_drop}
use Rattle.frames.proofs.FrontLaws.{frame_parts, frame_count, frame_few, values_part, marks_part}
use Rattle.buffer.specs.area.Requires.{BaseIn}
use Rattle.buffer.specs.area.Area.{capacity, held_rows}
use Rattle.buffer.proofs.area.AreaLaws.{held_in_lem}
use Rattle.searching.specs.Reach.{need_more, prune_by}
use Rattle.buffer.specs.splitcheck.Split.{out_of_order_at}
use Rattle.matching.proofs.ChoiceLaws.{cond_ind}
use Rattle.matchframe.specs.sortedrows.Requires.{BothSorted}
use Rattle.frames.specs.outcomes.Answers.{wrote, last_sequence}
use Rattle.frames.specs.declared.refusals.Refusal.TheVariants.{NoRoom, UsedUp, LeftOrder, RightOrder}
use Rattle.frames.proofs.outcomes.Tests.{past}
use Rattle.matchframe.specs.turnrows.Prunes.{bad_left, bad_right_at, first_prune, kept_rows, last_prune}
use Rattle.matchframe.proofs.turnrows.PruneLaws.{first_within, drops_within}
use Rattle.node.specs.turnparts.Part.{room_answer, order_answer, failed_part, Written, TurnIn, WriteIn}
use Rattle.node.specs.declared.turnparts.Part.{Part}
use Rattle.node.specs.turnfront.Turns.{rows_answer, rows_turn, spoiled_part, RowsTurned, FrameIn}
use Rattle.node.specs.declared.turnfront.TurnedPart.{TurnedPart}

-- After a turn that writes the sequence still fits.
next_sequence : (s : ℕ) → s % 2 ≡ 0 → (s ≡ last_sequence → ⊥) → s < 2 ^ 64 → s + 2 < 2 ^ 64
next_sequence s e n h = omega arith

-- A frame's first word is there and is a number of rows.
pub has_count : (c : ℕ) (f : Words) → is_frame c f ≡ true → HasCount f
has_count c f h = frame_count c f h

-- ---- the order, with the check on
-- A test that is not met leaves its parts unmet.
or_not : (a b : Bool) → (a || not b) ≡ false → b ≡ true
or_not true b e = let z : ◌≡◌ {A = ℕ} 0 1 = cc in absurd (omega arith)
or_not false true e = refl
or_not false false e = let z : ◌≡◌ {A = ℕ} 0 1 = cc in absurd (omega arith)

not_or : (a b : Bool) → (not a || b) ≡ false → a ≡ true
not_or true b e = refl
not_or false b e = let z : ◌≡◌ {A = ℕ} 0 1 = cc in absurd (omega arith)

module _ (o : Options) (on : is_on o.check ≡ true) where
  -- Rows that are not out of order are sorted.
  left_sorted : (m : Row) (rows : Rows) → bad_left o m rows ≡ false → sorted o rows ≡ true
  unfolding bad_left
  left_sorted m rows e = or_not (out_of_order o (recall (columns o) m) (row_at rows (first_left o rows))) (sorted o rows) (rw on at e)

  right_sorted : (m : Row) (n s : ℕ) (held : Rows) → bad_right_at o m n s held ≡ false → sorted o held ≡ true
  unfolding bad_right_at
  right_sorted m n s held e = not_or (sorted o held) (cond (eqb n 0 || eqb (length held) 0) false (out_of_order_at o m s held)) (rw on at e)

  -- No row is dropped before the order is judged.
  kept_all : (rows held : Rows) → kept_rows o rows held ≡ held
  unfolding kept_rows first_prune
  kept_all rows held = rw on

-- ---- the answers
-- The join of a turn that does not write.
abbrev pub stopped : Part → Result Turn Refusal → Part
stopped j (Ok (Wrote s)) = j
stopped j (Ok WantsRight) = j
stopped j (Ok Idle) = j
stopped j (Err n) = spoiled_part n j

module _ (o : Options) (j : Part) (rows held : Rows) where
  room_all : (P : Result Turn Refusal → Type 0) (room : ℕ) → P (Ok WantsRight) → P (Err NoRoom) → P (Err UsedUp) → P (Ok (Wrote j.sequence)) → P (room_answer o j rows held room)
  unfolding room_answer
  room_all P room pw p6 p7 p =
      cond_ind P (not j.right_ended && need_more o rows held) (λ t. pw) (λ t.
      cond_ind P (ltb room (frame_words (length rows) (answer_columns o))) (λ u. p6) (λ u.
      cond_ind P (eqb j.sequence last_sequence) (λ v. p7) (λ v. p)))

  order_all : (P : Result Turn Refusal → Type 0) (s : ℕ) → P (Err LeftOrder) → P (Err RightOrder) → P (Ok (Wrote j.sequence)) → P (order_answer o j rows held s)
  unfolding order_answer
  order_all P s p8 p9 p =
      cond_ind P (bad_left o j.last_left rows) (λ t. p8) (λ t.
      cond_ind P (bad_right_at o j.last_right (length rows) s held) (λ u. p9) (λ u. p))

  -- A turn that has what it needs, and rows in order, writes at the sequence that it came with.
  pub room_goes : (room : ℕ) (t : Result Turn Refusal) → t ≡ room_answer o j rows held room → wrote t ≡ true → room_answer o j rows held room ≡ Ok (Wrote j.sequence)
  room_goes room t e g =
      room_all (λ a. wrote a ≡ true → a ≡ Ok (Wrote j.sequence)) room (λ x. cc) (λ x. cc) (λ x. cc) (λ x. refl) (sym (ap wrote e) ∙ g)

  order_writes : (s : ℕ) (t : Result Turn Refusal) → t ≡ order_answer o j rows held s → wrote t ≡ true → order_answer o j rows held s ≡ Ok (Wrote j.sequence)
  order_writes s t e g = order_all (λ a. wrote a ≡ true → a ≡ Ok (Wrote j.sequence)) s (λ x. cc) (λ x. cc) (λ x. refl) (sym (ap wrote e) ∙ g)

  -- With the check on, the rows of a turn that goes on are sorted.
  order_sorted : (s : ℕ) → order_answer o j rows held s ≡ Ok (Wrote j.sequence) → is_on o.check ≡ true → (sorted o rows ≡ true) × (sorted o held ≡ true)
  unfolding order_answer
  order_sorted s e on =
      let p = past (bad_left o j.last_left rows) (Err LeftOrder) _ (Ok (Wrote j.sequence)) (λ x. let z : ◌≡◌ {A = ℕ} 0 1 = cc in omega arith) e in
      let q = past (bad_right_at o j.last_right (length rows) s held) (Err RightOrder) (Ok (Wrote j.sequence)) (Ok (Wrote j.sequence)) (λ x. let z : ◌≡◌ {A = ℕ} 0 1 = cc in omega arith) p.1 in
      (left_sorted o on j.last_left rows p.0, right_sorted o on j.last_right (length rows) s held q.0)

  -- What a turn that has what it needs can count on.
  pub room_there : (room : ℕ) → room_answer o j rows held room ≡ Ok (Wrote j.sequence) → (frame_words (length rows) (answer_columns o) ≤ room) × (j.sequence ≡ last_sequence → ⊥)
  unfolding room_answer
  room_there room e =
      let p = past (not j.right_ended && need_more o rows held) (Ok WantsRight) _ (Ok (Wrote j.sequence)) (λ x. let z : ◌≡◌ {A = ℕ} 0 1 = cc in omega arith) e in
      let q = past (ltb room (frame_words (length rows) (answer_columns o))) (Err NoRoom) _ (Ok (Wrote j.sequence)) (λ x. let z : ◌≡◌ {A = ℕ} 0 1 = cc in omega arith) p.1 in
      let r = past (eqb j.sequence last_sequence) (Err UsedUp) (Ok (Wrote j.sequence)) (Ok (Wrote j.sequence)) (λ x. let z : ◌≡◌ {A = ℕ} 0 1 = cc in omega arith) q.1 in
      (ltb-false room (frame_words (length rows) (answer_columns o)) q.0, eqb-false j.sequence last_sequence r.0)

  module _ (k : ℕ) (out : Words) where
    not_written : (a : Result Turn Refusal) → rows_answer o j rows held (length out) ≡ a → wrote a ≡ false → RowsTurned o j rows held k out (record { answer = a; part = stopped j a }) out
    unfolding rows_turn
    not_written (Ok (Wrote s)) e g = let z : ◌≡◌ {A = ℕ} 0 1 = cc in absurd (omega arith)
    not_written (Ok WantsRight) e g = record { answer = rw (e, rows_turn); part = rw (e, rows_turn); words = rw (e, rows_turn) }
    not_written (Ok Idle) e g = record { answer = rw (e, rows_turn); part = rw (e, rows_turn); words = rw (e, rows_turn) }
    not_written (Err n) e g = record { answer = rw (e, rows_turn); part = rw (e, rows_turn); words = rw (e, rows_turn) }

    without : (a : Result Turn Refusal) → room_answer o j rows held (length out) ≡ a → wrote a ≡ false → rows_answer o j rows held (length out) ≡ a
    unfolding rows_answer
    without (Ok (Wrote s)) e g = let z : ◌≡◌ {A = ℕ} 0 1 = cc in absurd (omega arith)
    without (Ok WantsRight) e g = rw (e, rows_answer)
    without (Ok Idle) e g = rw (e, rows_answer)
    without (Err n) e g = rw (e, rows_answer)

    -- Without what it needs it changes nothing.
    pub room_stops : (t : Result Turn Refusal) → t ≡ room_answer o j rows held (length out) → wrote t ≡ false → RowsTurned o j rows held k out (record { answer = t; part = j }) out
    room_stops t e g =
        let same : stopped j t ≡ j = rw e (room_all (λ a. stopped j a ≡ j) (length out) refl refl refl refl) in
        rw same at (not_written t (without t (sym e) g) g)

    module _ (needs : room_answer o j rows held (length out) ≡ Ok (Wrote j.sequence)) (s : ℕ) (at : s ≡ last_prune o rows held) (t : Result Turn Refusal) (judged : t ≡ order_answer o j rows held s) where
      is_order : rows_answer o j rows held (length out) ≡ t
      unfolding rows_answer
      is_order = rw (needs, rows_answer, judged, at)

      -- Rows that are out of order mark the join failed, and change nothing else.
      pub order_stops : wrote t ≡ false → RowsTurned o j rows held k out (record { answer = t; part = failed_part j }) out
      order_stops g =
          let same : wrote t ≡ false → stopped j t ≡ failed_part j = rw judged (order_all (λ a. wrote a ≡ false → stopped j a ≡ failed_part j) s (λ x. refl) (λ x. refl) (λ x. let z : ◌≡◌ {A = ℕ} 0 1 = cc in absurd (omega arith))) in
          rw (same g) at (not_written t is_order g)

      pub order_goes : wrote t ≡ true → (kept : Rows) (first : ℕ) (r : Part) (out' : Words) → kept ≡ kept_rows o rows held → first ≡ first_prune o rows held
          → Written o j rows kept first s k out r out' → RowsTurned o j rows held k out (record { answer = t; part = r }) out'
      unfolding rows_turn
      order_goes g kept first r out' ek ef w =
          let e : rows_answer o j rows held (length out) ≡ Ok (Wrote j.sequence) = is_order ∙ judged ∙ order_writes s t judged g in
          record { answer = rw (e, rows_turn) (judged ∙ order_writes s t judged g); part = rw (e, rows_turn, ← ek, ← ef, ← at) w.part; words = rw (e, rows_turn, ← ek, ← ef) w.words }

-- ---- the words
module _ {o : Options} {j : Part} {c w n : ℕ} {lv lm rv rm : Words} (t : TurnIn o j c w n lv lm rv rm) where
  abbrev rows : Rows
  rows = rows_of c n lv lm

  abbrev held : Rows
  held = rows_of w j.held rv rm

  -- What the first prune leaves.
  module _ (first : ℕ) (is : first ≡ first_prune o rows held) where
    pub first_in : first ≤ j.held
    first_in = omega (arith, is, first_within o rows held, rows_length w j.held rv rm)

    pub first_words : (xs : Words) → j.held * w ≤ length xs → first * w ≤ length xs
    first_words xs h = omega (arith, mul-le-mul_right {m = first} {n = j.held} w first_in)

    module _ (kv km : Words) (ev : kv ≡ drop (first * w) rv) (em : km ≡ drop (first * w) rm) where
      pub kept_in : RowsIn o w (j.held - first) kv km
      kept_in =
          let e : j.held ≡ first + (j.held - first) = omega (arith, first_in) in
          let f : j.held * w ≡ (first + (j.held - first)) * w = ap (λ (z : ℕ). z * w) e in
          record {
            few = t.right.few;
            wide = t.right.wide;
            values = rw (ev, length-drop (first * w) rv) (omega (arith, t.right.values));
            marks = rw (em, length-drop (first * w) rm) (omega (arith, t.right.marks));
          }

      pub kept_are : rows_of w (j.held - first) kv km ≡ kept_rows o rows held
      unfolding kept_rows
      kept_are = rw (ev, em, ← is) (rows_drop w j.held first rv rm first_in)

      -- With the check on, both sides of a turn that goes on are sorted: the kept rows are all held rows.
      both_sorted : (s : ℕ) (a : Result Turn Refusal) → a ≡ order_answer o j rows held s → wrote a ≡ true → is_on o.check ≡ true → BothSorted o c n lv lm w (j.held - first) kv km
      both_sorted s a judged goes on =
          let p = order_sorted o j rows held s (order_writes o j rows held s a judged goes) on in
          record { left = p.0; right = rw (kept_are, kept_all o on rows held) p.1 }

      module _ (s : ℕ) (at : s ≡ prune_by o (n - 1) rows (rows_of w (j.held - first) kv km)) where
        pub last_is : s ≡ last_prune o rows held
        unfolding last_prune
        last_is = rw (← kept_are, rows_length c n lv lm) at

        pub both_in : first + s ≤ j.held
        both_in = omega (arith, is, last_is, drops_within o rows held, rows_length w j.held rv rm)

        pub write_in : (out : Words) → room_answer o j rows held (length out) ≡ Ok (Wrote j.sequence) → (a : Result Turn Refusal) → a ≡ order_answer o j rows held s → wrote a ≡ true → WriteIn o j c w n lv lm first s kv km out
        write_in out needs a judged goes =
            let p = room_there o j rows held (length out) needs in
            record {
              columns = t.columns;
              wide = t.wide;
              carried = t.carried;
              left = t.left;
              kept = kept_in;
              within = both_in;
              counts = t.counts;
              room = rw (rows_length c n lv lm) at p.0;
              sequence = next_sequence j.sequence t.counts.even p.1 t.counts.sequence;
              in_order = both_sorted s a judged goes;
            }

-- ---- the frame at the front
module _ {o : Options} {j : Part} {f right : Words} (p : FrameIn o j f right) (c w n e : ℕ) (narrow : c ≡ columns o) (wide : w ≡ right_columns o) (count : n ≡ row_count f) (at : e ≡ 2 + n * c) where
  exact : length f ≡ frame_words n c
  exact = rw (narrow, count) (frame_parts (columns o) f p.frame).exact

  pub parts_fit : 2 + 2 * (n * c) ≡ length f
  parts_fit = sym exact

  left_values : take (e - 2) (drop 2 f) ≡ values_in (columns o) f
  left_values = values_part (columns o) f e (rw (at, count, narrow))

  left_marks : take (length f - e) (drop e f) ≡ marks_in (columns o) f
  left_marks = marks_part (columns o) f e (rw (at, count, narrow))

  pub frame_in : TurnIn o j c w n (take (e - 2) (drop 2 f)) (take (length f - e) (drop e f)) (drop (j.base * w) right) (drop ((capacity w right + j.base) * w) right)
  frame_in =
      let x = exact in
      record {
        columns = narrow;
        wide = wide;
        carried = p.carried;
        short = rw count (frame_few (columns o) f p.frame);
        left = record {
          few = p.few;
          wide = omega (arith, narrow);
          values = rw (length-take (e - 2) (drop 2 f), length-drop 2 f) (omega arith);
          marks = rw (length-take (length f - e) (drop e f), length-drop e f) (omega arith);
        };
        right = held_in_lem o w j.base j.held right p.few (omega (arith, wide)) (rw wide p.held);
        counts = rw x at p.counts;
      }

  pub frame_turned : (out : Words) (r : TurnedPart) (out' : Words)
      → RowsTurned o j (rows_of c n (take (e - 2) (drop 2 f)) (take (length f - e) (drop e f))) (rows_of w j.held (drop (j.base * w) right) (drop ((capacity w right + j.base) * w) right)) (frame_words n c) out r out'
      → RowsTurned o j (frame_rows (columns o) f) (held_rows (right_columns o) j.base j.held right) (length f) out r out'
  unfolding frame_rows held_rows
  frame_turned out r out' h = rw (exact, narrow, ← left_values, ← left_marks, ← count) (rw (narrow, wide) at h)

-- The held rows start within the capacity.
pub base_in : {o : Options} {j : Part} {f right : Words} → FrameIn o j f right → (w : ℕ) → w ≡ right_columns o → BaseIn w j.base right
base_in p w wide = record {
  columns = record { some = omega (arith, wide); few = omega (arith, wide, p.few, p.carried) };
  within = rw wide (omega (arith, p.held));
}
