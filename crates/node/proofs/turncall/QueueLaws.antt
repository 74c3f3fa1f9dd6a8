-- A turn from its first test on: when it stops, and what is known of the front of the queue. Assumes nothing.
use Rattle.frames.specs.declared.outcomes.Turn.TheVariants.{Wrote, WantsRight, Idle}
use Rattle.frames.specs.declared.outcomes.Turn.{Turn}
use Rattle.std.specs.Prelude.{Some, None, Result, Ok, Err}
use mathlib.Core.Path.{◌≡◌, refl, sym, ap, ◌∙◌}
use mathlib.Core.Bool.{Bool, true, false}
use Prim.Native.Nat.{ℕ, ◌^◌, ◌≤◌, ◌<◌}
use native.Mathlib.Omega.{arith}
use lib.Dec.{eqb}
use lib.ListN.{length, take, drop, length-take}
use lib.Seq.{take-take}
use Rattle.frames.specs.Cells.{Words, Rows}
use Rattle.frames.specs.Frame.{is_frame, frame_rows, front}
use Rattle.frames.specs.Front.{front_of}
use Rattle.order.specs.declared.options.Options.{Options}
use Rattle.order.specs.options.Options.{columns, right_columns}
use Rattle.frames.proofs.FrontLaws.{Fronted, front_told}
use Rattle.order.specs.Listed.{lacks_code}
use Rattle.buffer.specs.area.Area.{capacity, held_rows}
use Rattle.buffer.proofs.area.PushLaws.{capacity_room}
use Rattle.buffer.proofs.area.AreaLaws.{rows_words}
use Rattle.matching.proofs.ChoiceLaws.{cond_ind}
use Rattle.frames.specs.outcomes.Answers.{is_done, wrote}
use Rattle.frames.specs.declared.outcomes.NodeState.{NodeState}
use Rattle.frames.specs.declared.refusals.Refusal.{Refusal}
use Rattle.frames.specs.declared.refusals.Refusal.TheVariants.{BadJoin, Failed, Closed, BadFrame, UnknownCode}
use Rattle.frames.proofs.outcomes.Tests.{past}
use Rattle.callrules.specs.Judged.{ready_judged}
use Rattle.node.specs.declared.turnparts.Part.{Part}
use Rattle.node.specs.turnfront.Turns.{RowsTurned, FrameIn}
use Rattle.node.specs.declared.turnfront.TurnedPart.{TurnedPart}
use Rattle.node.specs.turncall.Queue.{waiting_in, listed_turn, front_turn, queue_turn, ListedTurned, QueueTurned, QueueIn}

module _ (o : Options) (bad : Bool) (state : NodeState) (j : Part) (area right out : Words) where
  abbrev starts : Result Turn Refusal
  starts = ready_judged bad j.failed state j.queue_words j.sequence

  starts_all : (P : Result Turn Refusal → Type 0) → P (Err BadJoin) → P (Err Failed) → P (Err Closed) → P (Ok Idle) → P (Ok (Wrote j.sequence)) → P starts
  unfolding ready_judged
  starts_all P p2 p3 p4 pi p =
      cond_ind P bad (λ t. p2) (λ t.
      cond_ind P j.failed (λ t. p3) (λ t.
      cond_ind P (is_done state) (λ t. p4) (λ t.
      cond_ind P (eqb j.queue_words 0) (λ t. pi) (λ t. p))))

  -- A turn that goes on answers Wrote so far.
  pub goes : (t : Result Turn Refusal) → t ≡ starts → wrote t ≡ true → starts ≡ Ok (Wrote j.sequence)
  goes t e g = starts_all (λ a. wrote a ≡ true → a ≡ Ok (Wrote j.sequence)) (λ x. cc) (λ x. cc) (λ x. cc) (λ x. cc) (λ x. refl) (sym (ap wrote e) ∙ g)

  apart : (n : Refusal) (s : ℕ) → Err n ≡ Ok (Wrote s) → ⊥
  apart n s e = let z : ◌≡◌ {A = ℕ} 0 1 = cc in omega arith

  -- Its join is not bad.
  pub unbroken : starts ≡ Ok (Wrote j.sequence) → bad ≡ false
  unfolding ready_judged
  unbroken e = (past bad (Err BadJoin) _ (Ok (Wrote j.sequence)) (apart BadJoin _) e).0

  -- One that does not go on changes nothing.
  stops : (a : Result Turn Refusal) → starts ≡ a → wrote a ≡ false → QueueTurned o bad state j area right out (record { answer = a; part = j }) out
  unfolding queue_turn
  stops (Ok (Wrote s)) e g = let z : ◌≡◌ {A = ℕ} 0 1 = cc in absurd (omega arith)
  stops (Ok WantsRight) e g = record { answer = rw (e, queue_turn); part = rw (e, queue_turn); words = rw (e, queue_turn) }
  stops (Ok Idle) e g = record { answer = rw (e, queue_turn); part = rw (e, queue_turn); words = rw (e, queue_turn) }
  stops (Err n) e g = record { answer = rw (e, queue_turn); part = rw (e, queue_turn); words = rw (e, queue_turn) }

  pub ready_stops : (t : Result Turn Refusal) → t ≡ starts → wrote t ≡ false → QueueTurned o bad state j area right out (record { answer = t; part = j }) out
  ready_stops t e g = stops t (sym e) g

  -- No frame at the front.
  pub front_stops : starts ≡ Ok (Wrote j.sequence) → front_of (columns o) (waiting_in j area) ≡ None → QueueTurned o bad state j area right out (record { answer = Err BadFrame; part = j }) out
  unfolding queue_turn front_turn
  front_stops e n = record { answer = rw (e, queue_turn, n, front_turn); part = rw (e, queue_turn, n, front_turn); words = rw (e, queue_turn, n, front_turn) }

  -- A frame of k words at the front.
  pub front_turns : starts ≡ Ok (Wrote j.sequence) → (k : ℕ) → front_of (columns o) (waiting_in j area) ≡ Some k → (x : TurnedPart) (out' : Words)
      → ListedTurned o j (take k (drop j.queue_start area)) right out x out' → QueueTurned o bad state j area right out x out'
  unfolding queue_turn front_turn
  front_turns e k t x out' h = record { answer = rw (e, queue_turn, t, front_turn) h.answer; part = rw (e, queue_turn, t, front_turn) h.part; words = rw (e, queue_turn, t, front_turn) h.words }

-- ---- the frame at the front
module _ (o : Options) (j : Part) (f right out : Words) where
  abbrev rows : Rows
  rows = frame_rows (columns o) f

  -- With a value that the list lacks.
  pub codes_stop : lacks_code o rows ≡ true → ListedTurned o j f right out (record { answer = Err UnknownCode; part = j }) out
  unfolding listed_turn
  codes_stop u = record { answer = rw u; part = rw u; words = rw u }

  -- With listed values alone.
  pub listed_turns : lacks_code o rows ≡ false → (x : TurnedPart) (out' : Words)
      → RowsTurned o j rows (held_rows (right_columns o) j.base j.held right) (length f) out x out' → ListedTurned o j f right out x out'
  unfolding listed_turn
  listed_turns u x out' h = record { answer = rw u h.answer; part = rw u h.part; words = rw u h.words }

-- The front of so many words.
module _ (o : Options) (j : Part) (area right : Words) (k : ℕ) (told : front_of (columns o) (waiting_in j area) ≡ Some k) where
  is_front : Fronted (columns o) (waiting_in j area) k
  is_front = front_told (columns o) (waiting_in j area) k told

  pub front_within : k ≤ j.queue_words
  front_within = omega (arith, is_front.within, length-take j.queue_words (drop j.queue_start area))

  -- It is the first words of the queue.
  pub front_here : front (columns o) (waiting_in j area) ≡ take k (drop j.queue_start area)
  front_here = is_front.here ∙ take-take k j.queue_words (drop j.queue_start area) front_within

  pub front_frame : is_frame (columns o) (take k (drop j.queue_start area)) ≡ true
  front_frame = rw front_here at is_front.is

  pub frame_in : QueueIn o j area right → j.sequence < 2 ^ 64 → length area < 2 ^ 64 → length right < 2 ^ 64 → FrameIn o j (take k (drop j.queue_start area)) right
  frame_in g s l m =
      record {
        few = g.few;
        carried = g.carried;
        frame = front_frame;
        held = g.right_room;
        counts = record {
          base = omega (arith, g.right_room, capacity_room (right_columns o) right, rows_words (capacity (right_columns o) right) (right_columns o) (omega arith));
          rows = g.rows;
          start = omega (arith, g.left_room);
          words = rw (length-take k (drop j.queue_start area)) (omega (arith, front_within));
          even = g.even;
          sequence = s;
        };
      }
