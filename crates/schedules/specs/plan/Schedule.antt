-- The schedule by which areas are planned, as a list of calls; and the figures read off it. Assumes nothing.
use Rattle.frames.specs.declared.outcomes.Turn.TheVariants.{Wrote, WantsRight, Idle}
use Rattle.std.specs.Prelude.{Bool, false, ◌||◌, List, [], ◌∷◌, ◌++◌, map, ℕ, zero, suc, ◌+◌, max, eqb, length, Ok, Err}
use Rattle.frames.specs.Cells.{Words}
use Rattle.order.specs.declared.options.Options.{Options}
use Rattle.node.specs.Calls.{turn_answer}
use Rattle.lists.specs.Lists.{Call, left, right, end, turn, Event, on_left, on_right, on_end, on_ports, on_turn, World, start, step, final, right_frames, took_refusal, turns_in}
use Rattle.frames.specs.refusals.Refusals.{number}
use Rattle.frames.specs.declared.refusals.Refusal.TheVariants.{NoRoom}

-- Right ends as soon as no right frame is left.
abbrev pub end_if : List Words → List Call
end_if [] = end ∷ []
end_if (f ∷ fs) = []

-- Turns, each with the output of the next left frame; after one that wants right rows, the next right frame. The fuel is the number of frames.
unfoldable pub rounds : ℕ → World → List Words → List Words → List Call
rounds zero w rights outs = []
rounds (suc fuel) w rights [] = []
rounds (suc fuel) w [] (out ∷ outs) =
    elim (turn_answer w.join w.left w.right out) [
      | Ok (Wrote s) ↦ turn out ∷ rounds fuel (step w (turn out)).world [] outs
      | Ok WantsRight ↦ turn out ∷ []
      | Ok Idle ↦ turn out ∷ []
      | Err n ↦ turn out ∷ []
    ]
rounds (suc fuel) w (f ∷ fs) (out ∷ outs) =
    elim (turn_answer w.join w.left w.right out) [
      | Ok (Wrote s) ↦ turn out ∷ rounds fuel (step w (turn out)).world (f ∷ fs) outs
      | Ok WantsRight ↦
          let handed = turn out ∷ right f ∷ end_if fs in
          handed ++ rounds fuel (final w handed) fs (out ∷ outs)
      | Ok Idle ↦ turn out ∷ []
      | Err n ↦ turn out ∷ []
    ]

-- SCOPE 19.24: all left frames waiting; then the rounds.
unfoldable pub schedule : Options → Words → Words → List Words → List Words → List Words → List Call
schedule o l r lefts rights outs =
    let first = map left lefts ++ end_if rights in
    first ++ rounds (length lefts + length rights) (final (start o l r) first) rights outs

-- The most rows ever held: before the first call and after each.
unfoldable pub most_held : World → List Call → ℕ
most_held w [] = w.join.held
most_held w (c ∷ cs) = max w.join.held (most_held (step w c).world cs)

-- The turn calls, and the right frames taken.
abbrev pub turn_calls : List Event → ℕ
turn_calls es = length (turns_in es)

abbrev pub rights_taken : List Event → ℕ
rights_taken es = length (right_frames es)

-- Refusal 6 on the right.
abbrev pub no_room_right : Event → Bool
no_room_right (on_left f a) = false
no_room_right (on_right f a) = eqb (took_refusal a) (number NoRoom)
no_room_right (on_end a) = false
no_room_right (on_ports l r s a) = false
no_room_right (on_turn a out) = false

-- Is it met?
unfoldable pub meets_no_room : List Event → Bool
meets_no_room [] = false
meets_no_room (e ∷ es) = no_room_right e || meets_no_room es
