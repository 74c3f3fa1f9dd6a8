-- A turn from its first test to its last word: what is known of the front of the queue, and what the call leaves. Assumes nothing.
use Rattle.frames.specs.declared.outcomes.Turn.TheVariants.{Wrote, WantsRight, Idle}
use Rattle.frames.specs.declared.outcomes.Turn.{Turn}
use Rattle.std.specs.Prelude.{Option, Some, None, Result, Ok, Err}
use mathlib.Core.Path.{◌≡◌, refl, sym, ap, ◌∙◌}
use mathlib.Core.Bool.{Bool, true, false, cond, not}
use mathlib.Core.List.{List, [], ◌∷◌, ◌++◌}
use Prim.Native.Nat.{ℕ, ◌+◌}
use native.Mathlib.Omega.{arith}
use lib.Dec.{eqb}
use lib.ListN.{length, take, drop}
use Rattle.frames.specs.Cells.{Rows, Words}
use Rattle.frames.specs.Frame.{is_frame, frame_rows, front}
use Rattle.frames.specs.Front.{front_of}
use Rattle.order.specs.declared.options.Options.{Options}
use Rattle.order.specs.Listed.{lacks_code}
use Rattle.buffer.specs.area.Area.{held_rows}
use Rattle.matching.specs.Answer.{frame_answer, answered}
use Rattle.matching.proofs.ChoiceLaws.{cond_ind}
use Rattle.node.specs.State.{marked_failed, left_width, right_width, bad_join, held_of, waiting}
use Rattle.frames.specs.outcomes.Answers.{is_done, wrote}
use Rattle.node.specs.Calls.{after, turn_answer, dropped, dequeued, turned, spoiled, turn_call}
use Rattle.matchframe.specs.turnrows.Prunes.{first_prune, bad_left, bad_right, kept_rows, last_prune}
use Rattle.node.specs.TurnPart.{ready_answer, part_of, join_with}
use Rattle.node.specs.CallContracts.{TurnContract}
use Rattle.node.proofs.Good.{Good, good}
use Rattle.frames.proofs.outcomes.Tests.{past}
use Rattle.matchframe.proofs.turnrows.PruneLaws.{split_known}
use Rattle.node.specs.declared.Join.{Join}
use Rattle.frames.specs.refusals.Refusals.{marks_failed}
use Rattle.frames.specs.declared.refusals.Refusal.{Refusal}
use Rattle.frames.specs.declared.refusals.Refusal.TheVariants.{BadJoin, Failed, Closed, BadFrame, UnknownCode}
use Rattle.frames.specs.refusals.Tests.{Test, test, first_of}
use Rattle.frames.specs.declared.outcomes.NodeState.{NodeState}
use Rattle.frames.proofs.refusals.TestLaws.{first_append}
use Rattle.callrules.specs.Judged.{ready_tests, ready_judged}
use Rattle.node.specs.turnparts.Part.{room_tests, order_tests, room_answer, order_answer, left_part, failed_part}
use Rattle.node.specs.declared.turnparts.Part.{Part}
use Rattle.node.specs.turnfront.Turns.{left as unmoved, rows_answer, rows_turn, spoiled_part, RowsTurned}
use Rattle.node.specs.turncall.Queue.{listed_turn, front_turn, queue_turn, QueueTurned}
use Rattle.node.proofs.turncall.QueueLaws.{front_here, front_frame}
use Rattle.node.specs.declared.turnfront.TurnedPart.{TurnedPart}

-- If the answer behind the tests goes on and theirs does not, one of them answered: so it does whatever stands behind them.
first_stays : {A : Type 0} (goes : A → Bool) (ts : List (Test A)) (a x : A) → goes a ≡ true → goes (first_of ts a) ≡ false → first_of ts x ≡ first_of ts a
first_stays goes [] a x h g = let z : ◌≡◌ {A = ℕ} 0 1 = cc in absurd (omega (arith, z))
first_stays goes (t ∷ ts) a x h g = by (first_stays goes ts a x h) t.says g
  where
    by : (goes (first_of ts a) ≡ false → first_of ts x ≡ first_of ts a) → (b : Bool) → goes (cond b t.answer (first_of ts a)) ≡ false → cond b t.answer (first_of ts x) ≡ cond b t.answer (first_of ts a)
    by rest true g = refl
    by rest false g = rest g

-- Tests of which none answers Wrote.
abbrev Stop : List (Test (Result Turn Refusal)) → Type 0
Stop [] = Unit {0}
Stop (t ∷ ts) = (wrote t.answer ≡ false) × Stop ts

-- A turn that goes on answers x, one that does not answers as it did.
abbrev goes_to : Result Turn Refusal → Result Turn Refusal → Result Turn Refusal
goes_to x a = elim a [ Ok (Wrote q) ↦ x | Ok WantsRight ↦ Ok WantsRight | Ok Idle ↦ Ok Idle | Err n ↦ Err n ]

-- What a turn answers by rows: its tests of room, and behind them those of the order.
then_order : (ts : List (Test (Result Turn Refusal))) (s : ℕ) (x : Result Turn Refusal) → Stop ts → goes_to x (first_of ts (Ok (Wrote s))) ≡ first_of ts x
then_order [] s x h = refl
then_order (t ∷ ts) s x h = by (then_order ts s x h.1) t.says t.answer h.0
  where
    by : goes_to x (first_of ts (Ok (Wrote s))) ≡ first_of ts x → (b : Bool) (a : Result Turn Refusal) → wrote a ≡ false → goes_to x (cond b a (first_of ts (Ok (Wrote s)))) ≡ cond b a (first_of ts x)
    by rest true (Ok (Wrote q)) g = let z : ◌≡◌ {A = ℕ} 0 1 = cc in absurd (omega (arith, z))
    by rest true (Ok WantsRight) g = refl
    by rest true (Ok Idle) g = refl
    by rest true (Err n) g = refl
    by rest false a g = rest

by_rows : (o : Options) (j : Part) (rows held : Rows) (room : ℕ) → rows_answer o j rows held room
    ≡ first_of (room_tests o j.right_ended j.sequence rows held room ++ order_tests (bad_left o j.last_left rows) (bad_right o j.last_right rows held)) (Ok (Wrote j.sequence))
unfolding rows_answer room_answer order_answer
by_rows o j rows held room =
    let ts = room_tests o j.right_ended j.sequence rows held room in
    rw (first_append ts (order_tests (bad_left o j.last_left rows) (bad_right o j.last_right rows held)) (Ok (Wrote j.sequence)), ← split_known o j.last_right rows held)
    (then_order ts j.sequence (order_answer o j rows held (last_prune o rows held)) (refl, (refl, (refl, tt))))

-- The tests before and at the front, passed.
ready_past : (bad failed : Bool) (state : NodeState) (words : ℕ) (x : Result Turn Refusal) → bad ≡ false → failed ≡ false → is_done state ≡ false → eqb words 0 ≡ false → first_of (ready_tests bad failed state words) x ≡ x
ready_past bad failed state words x b f d w = rw (b, f, d, w)

frame_past : (b : Bool) (x : Result Turn Refusal) → b ≡ true → cond (not b) (Err BadFrame) x ≡ x
frame_past b x e = rw e

codes_past : (b : Bool) (x : Result Turn Refusal) → b ≡ false → cond b (Err UnknownCode) x ≡ x
codes_past b x e = rw e

-- No frame at the front.
none_of : (b : Bool) (m : ℕ) → cond b (Some m) None ≡ None → b ≡ false
none_of true m e = let z : ◌≡◌ {A = ℕ} 0 1 = cc in absurd (omega arith)
none_of false m e = refl

front_broken : (c : ℕ) (ws : Words) → front_of c ws ≡ None → is_frame c (front c ws) ≡ false
unfolding front_of
front_broken c ws e = none_of (is_frame c (front c ws)) (length (front c ws)) e

-- The join of a turn that does not write.
abbrev stopped : Join → Result Turn Refusal → Join
stopped j (Ok (Wrote s)) = j
stopped j (Ok WantsRight) = j
stopped j (Ok Idle) = j
stopped j (Err n) = spoiled n j

-- The part of a join that a refusal spoils is the join that it spoils.
part_spoiled : (j : Join) (n : Refusal) → join_with j (spoiled_part n (part_of j)) ≡ spoiled n j
part_spoiled j n = go (marks_failed n)
  where
    go : (b : Bool) → join_with j (cond b (failed_part (part_of j)) (part_of j)) ≡ cond b (marked_failed j) j
    go true = refl
    go false = refl

module _ (j : Join) (left right out : Words) where
  -- A turn's tests from the front on, for the front f.
  abbrev behind : Words → List (Test (Result Turn Refusal))
  behind f =
      test (not (is_frame (left_width j) f)) (Err BadFrame)
      ∷ test (lacks_code j.options (frame_rows (left_width j) f)) (Err UnknownCode)
      ∷ room_tests j.options j.right_ended j.sequence (frame_rows (left_width j) f) (held_of j right) (length out)
      ++ order_tests (bad_left j.options j.last_left (frame_rows (left_width j) f)) (bad_right j.options j.last_right (frame_rows (left_width j) f) (held_of j right))

  -- ---- ready
  -- What a turn that goes on knows of its join.
  record Ready : Type 0 where
    pub unbroken : bad_join j left right ≡ false
    pub unfailed : j.failed ≡ false
    pub undone : is_done j.state ≡ false
    pub some : eqb j.queue_words 0 ≡ false

  ready_all : (P : Result Turn Refusal → Type 0) → P (Err BadJoin) → P (Err Failed) → P (Err Closed) → P (Ok Idle) → P (Ok (Wrote j.sequence)) → P (ready_answer j left right)
  unfolding ready_judged
  ready_all P p2 p3 p4 pi p =
      cond_ind P (bad_join j left right) (λ t. p2) (λ t.
      cond_ind P j.failed (λ t. p3) (λ t.
      cond_ind P (is_done j.state) (λ t. p4) (λ t.
      cond_ind P (eqb j.queue_words 0) (λ t. pi) (λ t. p))))

  apart : (n : Refusal) (s : ℕ) → ◌≡◌ {A = Result Turn Refusal} (Err n) (Ok (Wrote s)) → ⊥
  apart n s e = let z : ◌≡◌ {A = ℕ} 0 1 = cc in omega arith

  idle_apart : (s : ℕ) → ◌≡◌ {A = Result Turn Refusal} (Ok Idle) (Ok (Wrote s)) → ⊥
  idle_apart s e = let z : ◌≡◌ {A = ℕ} 0 1 = cc in omega arith

  is_ready : ready_answer j left right ≡ Ok (Wrote j.sequence) → Ready
  unfolding ready_judged
  is_ready e =
      let p2 = past (bad_join j left right) (Err BadJoin) _ (Ok (Wrote j.sequence)) (apart BadJoin _) e in
      let p3 = past j.failed (Err Failed) _ (Ok (Wrote j.sequence)) (apart Failed _) p2.1 in
      let p4 = past (is_done j.state) (Err Closed) _ (Ok (Wrote j.sequence)) (apart Closed _) p3.1 in
      let p = past (eqb j.queue_words 0) (Ok Idle) (Ok (Wrote j.sequence)) (Ok (Wrote j.sequence)) (idle_apart _) p4.1 in
      record { unbroken = p2.0; unfailed = p3.0; undone = p4.0; some = p.0 }

  ready_goes : (t : Result Turn Refusal) → t ≡ ready_answer j left right → wrote t ≡ true → Ready
  ready_goes t e g =
      is_ready (ready_all (λ a. wrote a ≡ true → a ≡ Ok (Wrote j.sequence)) (λ x. cc) (λ x. cc) (λ x. cc) (λ x. cc) (λ x. refl) (sym (ap wrote e) ∙ g))

  -- A turn that is not ready answers so and changes nothing.
  stops : (a : Result Turn Refusal) → turn_answer j left right out ≡ a → wrote a ≡ false → TurnContract j left right out (record { answer = a; join = stopped j a }) out
  unfolding turn_call
  stops (Ok (Wrote s)) e g = let z : ◌≡◌ {A = ℕ} 0 1 = cc in absurd (omega arith)
  stops (Ok WantsRight) e g = record { answer = rw (e, turn_call); join = rw (e, turn_call); words = rw (e, turn_call) }
  stops (Ok Idle) e g = record { answer = rw (e, turn_call); join = rw (e, turn_call); words = rw (e, turn_call) }
  stops (Err n) e g = record { answer = rw (e, turn_call); join = rw (e, turn_call); words = rw (e, turn_call) }

  unready : wrote (ready_answer j left right) ≡ false → turn_answer j left right out ≡ ready_answer j left right
  unfolding turn_answer ready_judged
  unready g =
      let f = front (left_width j) (waiting j left) in
      first_append (ready_tests (bad_join j left right) j.failed j.state j.queue_words) (behind f) (Ok (Wrote j.sequence)) ∙ first_stays wrote (ready_tests (bad_join j left right) j.failed j.state j.queue_words) (Ok (Wrote j.sequence)) _ refl g

  ready_stops : (t : Result Turn Refusal) → t ≡ ready_answer j left right → wrote t ≡ false → TurnContract j left right out (record { answer = t; join = j }) out
  ready_stops t e g =
      let same : stopped j t ≡ j = rw e (ready_all (λ a. stopped j a ≡ j) refl refl refl refl refl) in
      rw same at (stops t (unready (sym (ap wrote e) ∙ g) ∙ sym e) g)

  -- ---- the front
  module _ (r : Ready) where
    kept_good : Good j left right
    kept_good = good j left right r.unbroken

    module _ (f : Words) (fronted : front (left_width j) (waiting j left) ≡ f) where
      front_answer : is_frame (left_width j) f ≡ false → turn_answer j left right out ≡ Err BadFrame
      unfolding turn_answer
      front_answer e = rw (r.unbroken, fronted, r.unfailed, r.undone, r.some, e)

      codes_answer : is_frame (left_width j) f ≡ true → lacks_code j.options (frame_rows (left_width j) f) ≡ true → turn_answer j left right out ≡ Err UnknownCode
      unfolding turn_answer
      codes_answer e u = rw (r.unbroken, fronted, r.unfailed, r.undone, r.some, e, u)

      answer_rows_lem : is_frame (left_width j) f ≡ true → lacks_code j.options (frame_rows (left_width j) f) ≡ false → turn_answer j left right out ≡ rows_answer j.options (part_of j) (frame_rows (left_width j) f) (held_of j right) (length out)
      unfolding turn_answer
      answer_rows_lem e u =
          rw fronted
          (first_append (ready_tests (bad_join j left right) j.failed j.state j.queue_words) (behind f) (Ok (Wrote j.sequence))
          ∙ ready_past (bad_join j left right) j.failed j.state j.queue_words (first_of (behind f) (Ok (Wrote j.sequence))) r.unbroken r.unfailed r.undone r.some
          ∙ frame_past (is_frame (left_width j) f) _ e
          ∙ codes_past (lacks_code j.options (frame_rows (left_width j) f)) _ u
          ∙ sym (by_rows j.options (part_of j) (frame_rows (left_width j) f) (held_of j right) (length out)))

      turned_rows : turned j left right out ≡ after (Ok (Wrote j.sequence))
          (join_with j (left_part j.options (part_of j) (frame_rows (left_width j) f) (kept_rows j.options (frame_rows (left_width j) f) (held_of j right)) (first_prune j.options (frame_rows (left_width j) f) (held_of j right)) (last_prune j.options (frame_rows (left_width j) f) (held_of j right)) (length f)))
          left right (answered j.options (frame_answer j.options (j.pruned + first_prune j.options (frame_rows (left_width j) f) (held_of j right)) (kept_rows j.options (frame_rows (left_width j) f) (held_of j right)) (frame_rows (left_width j) f)) out)
      unfolding turned dropped dequeued left_part kept_rows last_prune
      turned_rows = rw fronted

      turns : is_frame (left_width j) f ≡ true → lacks_code j.options (frame_rows (left_width j) f) ≡ false → (a : Result Turn Refusal) → rows_answer j.options (part_of j) (frame_rows (left_width j) f) (held_of j right) (length out) ≡ a → (x : TurnedPart) (out' : Words)
          → RowsTurned j.options (part_of j) (frame_rows (left_width j) f) (held_of j right) (length f) out x out' → TurnContract j left right out (record { answer = x.answer; join = join_with j x.part }) out'
      unfolding turn_call rows_turn
      turns frame codes (Ok (Wrote q)) e x out' h =
          let t = answer_rows_lem frame codes ∙ e in
          record { answer = rw (t, turn_call, turned_rows) (rw (e, rows_turn) at h.answer); join = rw (t, turn_call, turned_rows) (ap (join_with j) (rw (e, rows_turn) at h.part)); words = rw (t, turn_call, turned_rows) (rw (e, rows_turn) at h.words) }
      turns frame codes (Ok WantsRight) e x out' h =
          let t = answer_rows_lem frame codes ∙ e in
          record { answer = rw (t, turn_call) (rw (e, rows_turn) at h.answer); join = rw (t, turn_call) (ap (join_with j) (rw (e, rows_turn) at h.part)); words = rw (t, turn_call) (rw (e, rows_turn) at h.words) }
      turns frame codes (Ok Idle) e x out' h =
          let t = answer_rows_lem frame codes ∙ e in
          record { answer = rw (t, turn_call) (rw (e, rows_turn) at h.answer); join = rw (t, turn_call) (ap (join_with j) (rw (e, rows_turn) at h.part)); words = rw (t, turn_call) (rw (e, rows_turn) at h.words) }
      turns frame codes (Err n) e x out' h =
          let t = answer_rows_lem frame codes ∙ e in
          record { answer = rw (t, turn_call) (rw (e, rows_turn) at h.answer); join = rw (t, turn_call) (ap (join_with j) (rw (e, rows_turn) at h.part) ∙ part_spoiled j n); words = rw (t, turn_call) (rw (e, rows_turn) at h.words) }

    front_stops : front_of (left_width j) (waiting j left) ≡ None → TurnContract j left right out (record { answer = Err BadFrame; join = j }) out
    front_stops e = stops (Err BadFrame) (front_answer (front (left_width j) (waiting j left)) refl (front_broken (left_width j) (waiting j left) e)) refl

    codes_stop : (k : ℕ) → front_of (left_width j) (waiting j left) ≡ Some k → lacks_code j.options (frame_rows (left_width j) (take k (drop j.queue_start left))) ≡ true
        → TurnContract j left right out (record { answer = Err UnknownCode; join = j }) out
    unfolding waiting
    codes_stop k told u =
        stops (Err UnknownCode) (codes_answer (take k (drop j.queue_start left)) (front_here j.options (part_of j) left right k told) (front_frame j.options (part_of j) left right k told) u) refl

    frame_turns : (k : ℕ) → front_of (left_width j) (waiting j left) ≡ Some k → lacks_code j.options (frame_rows (left_width j) (take k (drop j.queue_start left))) ≡ false → (x : TurnedPart) (out' : Words)
        → RowsTurned j.options (part_of j) (frame_rows (left_width j) (take k (drop j.queue_start left))) (held_rows (right_width j) j.base j.held right) (length (take k (drop j.queue_start left))) out x out'
        → TurnContract j left right out (record { answer = x.answer; join = join_with j x.part }) out'
    unfolding held_of waiting
    frame_turns k told u x out' h =
        turns (take k (drop j.queue_start left)) (front_here j.options (part_of j) left right k told) (front_frame j.options (part_of j) left right k told) u _ refl x out' h

  -- What the function under the call leaves is what the call leaves.
  module _ (b : Bool) (is : b ≡ bad_join j left right) (x : TurnedPart) (out' : Words) (h : QueueTurned j.options b j.state (part_of j) left right out x out') where
    known : QueueTurned j.options (bad_join j left right) j.state (part_of j) left right out x out'
    known = rw is at h

    abbrev Goal : Type 0
    Goal = TurnContract j left right out (record { answer = x.answer; join = join_with j x.part }) out'

    -- A turn that changes nothing.
    unchanged : (a : Result Turn Refusal) → queue_turn j.options (bad_join j left right) j.state (part_of j) left right out ≡ unmoved a (part_of j) out → TurnContract j left right out (record { answer = a; join = j }) out → Goal
    unchanged a e z = record { answer = rw e at known.answer ∙ z.answer; join = ap (join_with j) (rw e at known.part) ∙ z.join; words = rw e at known.words ∙ z.words }

    fronted : Ready → (s : ℕ) → ready_answer j left right ≡ Ok (Wrote s) → (f : Option ℕ) → front_of (left_width j) (waiting j left) ≡ f → Goal
    unfolding queue_turn front_turn listed_turn waiting
    fronted r s e None n = unchanged (Err BadFrame) (rw (e, queue_turn, n, front_turn)) (front_stops r n)
    fronted r s e (Some k) n = go (lacks_code j.options (frame_rows (left_width j) (take k (drop j.queue_start left)))) refl
      where
        go : (b : Bool) → lacks_code j.options (frame_rows (left_width j) (take k (drop j.queue_start left))) ≡ b → Goal
        go true u = unchanged (Err UnknownCode) (rw (e, queue_turn, n, front_turn, listed_turn, u)) (codes_stop r k n u)
        go false u =
            frame_turns r k n u x out'
            (record { answer = rw (e, queue_turn, n, front_turn, listed_turn, u) at known.answer; part = rw (e, queue_turn, n, front_turn, listed_turn, u) at known.part; words = rw (e, queue_turn, n, front_turn, listed_turn, u) at known.words })

    pub queue_turns : Goal
    unfolding queue_turn
    queue_turns = go (ready_answer j left right) refl
      where
        go : (a : Result Turn Refusal) → ready_answer j left right ≡ a → Goal
        go (Ok (Wrote s)) e = fronted (ready_goes (ready_answer j left right) refl (ap wrote e)) s e (front_of (left_width j) (waiting j left)) refl
        go (Ok WantsRight) e = unchanged (Ok WantsRight) (rw (e, queue_turn)) (ready_stops (Ok WantsRight) (sym e) refl)
        go (Ok Idle) e = unchanged (Ok Idle) (rw (e, queue_turn)) (ready_stops (Ok Idle) (sym e) refl)
        go (Err n) e = unchanged (Err n) (rw (e, queue_turn)) (ready_stops (Err n) (sym e) refl)
