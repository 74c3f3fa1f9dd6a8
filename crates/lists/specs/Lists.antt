-- Lists of calls: what they answer and leave, and what the whole-table theorem reads off them (SCOPE 15). Assumes nothing.
use Rattle.frames.specs.declared.outcomes.Turn.TheVariants.{Wrote, WantsRight, Idle}
use Rattle.frames.specs.declared.outcomes.Turn.{Turn}
use Rattle.frames.specs.declared.refusals.Refusal.{Refusal}
use Rattle.std.specs.Prelude.{Bool, true, false, ◌&&◌, ◌||◌, List, [], ◌∷◌, ◌++◌, ℕ, zero, suc, ◌+◌, ◌-◌, ◌*◌, eqb, length, take, drop, Result, Ok, Err}
use Rattle.frames.specs.Cells.{Rows, Words}
use Rattle.frames.specs.Frame.{row_count, frame_rows, frame_words, front}
use Rattle.order.specs.declared.options.Options.{Options}
use Rattle.node.specs.State.{fresh, waiting, left_width}
use Rattle.frames.specs.refusals.Refusals.{number}
use Rattle.node.specs.Calls.{After, left_call, right_call, end_call, ports_call, turn_call}
use Rattle.callrules.specs.ports.Ports.{port_done}
use Rattle.node.specs.declared.Join.{Join}
use Rattle.frames.specs.declared.outcomes.PortState.{PortState}
use Rattle.frames.specs.declared.outcomes.Ports.{Ports}

-- A call: a left or right frame of any words, the end of right, ports (left, right, send), a turn with any words as its output.
pub data Call : Type 0 where
  left : Words → Call
  right : Words → Call
  end : Call
  ports : PortState → PortState → PortState → Call
  turn : Words → Call

-- A call with its answer; of a turn also its output as it returned.
pub data Event : Type 0 where
  on_left : Words → Result Unit Refusal → Event
  on_right : Words → Result Unit Refusal → Event
  on_end : Result Unit Refusal → Event
  on_ports : PortState → PortState → PortState → Result Ports Refusal → Event
  on_turn : Result Turn Refusal → Words → Event

-- A join and its two areas.
pub record World : Type 0 where
  pub join : Join
  pub left : Words
  pub right : Words

-- SCOPE 15.1: where a list begins.
abbrev pub start : Options → Words → Words → World
start o l r = record { join = fresh o; left = l; right = r }

-- One call, over the join and the areas that the last one left.
pub record Step : Type 0 where
  pub event : Event
  pub world : World

-- From what the call leaves.
abbrev pub stepped : {A : Type 0} → (A → Event) → After A → Step
stepped on a = record { event = on a.answer; world = record { join = a.join; left = a.left; right = a.right } }

-- The five calls.
unfoldable pub step : World → Call → Step
step w (left f) = stepped (on_left f) (left_call w.join w.left w.right f)
step w (right f) = stepped (on_right f) (right_call w.join w.left w.right f)
step w end = stepped on_end (end_call w.join w.left w.right)
step w (ports l r s) = stepped (on_ports l r s) (ports_call w.join w.left w.right l r s)
step w (turn out) = let a = turn_call w.join w.left w.right out in stepped (λ x. on_turn x a.out) a

-- The calls with their answers, in call order; and what the last one leaves.
unfoldable pub events : World → List Call → List Event
events w [] = []
events w (c ∷ cs) = let s = step w c in s.event ∷ events s.world cs

-- The join and the areas that the last call leaves.
unfoldable pub final : World → List Call → World
final w [] = w
final w (c ∷ cs) = final (step w c).world cs

-- ---- what the theorem reads off the events
-- Something, if a call was accepted; else nothing.
abbrev pub when {ℓ} : {A : Type ℓ} → Result Unit Refusal → List A → List A
when (Ok tt) xs = xs
when (Err n) xs = []

-- SCOPE 15.3: the frame of a left call, if it was accepted.
abbrev pub left_in : Event → List Words
left_in (on_left f a) = when a (f ∷ [])
left_in (on_right f a) = []
left_in (on_end a) = []
left_in (on_ports l r s a) = []
left_in (on_turn a out) = []

-- The frame of a right call, if it was accepted.
abbrev pub right_in : Event → List Words
right_in (on_left f a) = []
right_in (on_right f a) = when a (f ∷ [])
right_in (on_end a) = []
right_in (on_ports l r s a) = []
right_in (on_turn a out) = []

-- The accepted left frames, in call order.
unfoldable pub left_frames : List Event → List Words
left_frames [] = []
left_frames (e ∷ es) = left_in e ++ left_frames es

-- The accepted right frames, in call order.
unfoldable pub right_frames : List Event → List Words
right_frames [] = []
right_frames (e ∷ es) = right_in e ++ right_frames es

-- The rows of frames of c columns, in order.
unfoldable pub rows_in : ℕ → List Words → Rows
rows_in c [] = []
rows_in c (f ∷ fs) = frame_rows c f ++ rows_in c fs

-- The outputs of the turns that answered Wrote, as each returned.
abbrev pub when_wrote : Result Turn Refusal → List Words → List Words
when_wrote (Ok (Wrote s)) outs = outs
when_wrote (Ok WantsRight) outs = []
when_wrote (Ok Idle) outs = []
when_wrote (Err n) outs = []

-- The output of a turn that answered Wrote.
abbrev pub output_in : Event → List Words
output_in (on_left f a) = []
output_in (on_right f a) = []
output_in (on_end a) = []
output_in (on_ports l r s a) = []
output_in (on_turn a out) = when_wrote a (out ∷ [])

-- The outputs written, in call order.
unfoldable pub outputs : List Event → List Words
outputs [] = []
outputs (e ∷ es) = output_in e ++ outputs es

-- A row that a turn wrote in its output, by its words: values and marks.
pub record Entry : Type 0 where
  pub values : Words
  pub marks : Words

-- The first n rows, each c words wide, of values and marks that stand row by row.
unfoldable pub entries_of : ℕ → ℕ → Words → Words → List Entry
entries_of c zero vs ms = []
entries_of c (suc n) vs ms = record { values = take c vs; marks = take c ms } ∷ entries_of c n (drop c vs) (drop c ms)

-- The rows of an output of c columns: its values from word 2 on, its marks behind them.
unfoldable pub written_in : ℕ → Words → List Entry
written_in c out = entries_of c (row_count out) (drop 2 out) (drop (2 + row_count out * c) out)

-- The matches written, in call order.
unfoldable pub matches_in : ℕ → List Words → List Entry
matches_in c [] = []
matches_in c (out ∷ outs) = written_in c out ++ matches_in c outs

-- Whether a call was accepted.
abbrev pub accepted : Result Unit Refusal → Bool
accepted (Ok tt) = true
accepted (Err n) = false

-- An end-of-right call that was accepted.
abbrev pub ends_right : Event → Bool
ends_right (on_left f a) = false
ends_right (on_right f a) = false
ends_right (on_end a) = accepted a
ends_right (on_ports l r s a) = false
ends_right (on_turn a out) = false

-- SCOPE 15.7: right has ended.
unfoldable pub is_right_ended : List Event → Bool
is_right_ended [] = false
is_right_ended (e ∷ es) = ends_right e || is_right_ended es

-- Whether a port call was accepted.
abbrev pub accepted_ports : Result Ports Refusal → Bool
accepted_ports (Ok p) = true
accepted_ports (Err n) = false

-- An accepted port call that had left Done.
abbrev pub left_done : Event → Bool
left_done (on_left f a) = false
left_done (on_right f a) = false
left_done (on_end a) = false
left_done (on_ports l r s a) = accepted_ports a && port_done l
left_done (on_turn a out) = false

-- One of these events is an accepted port call that had left Done.
unfoldable pub left_ended : List Event → Bool
left_ended [] = false
left_ended (e ∷ es) = left_done e || left_ended es

-- How many frames wait: those accepted, less those turned.
unfoldable pub frames_waiting : List Event → ℕ
frames_waiting es = length (left_frames es) - length (outputs es)

-- SCOPE 15.8: this event, after those before it, makes the node done.
unfoldable pub done_by : List Event → Event → Bool
done_by before (on_left f a) = false
done_by before (on_right f a) = false
done_by before (on_end a) = false
done_by before (on_ports l r s a) = accepted_ports a && (port_done s || ((left_ended before || port_done l) && eqb (frames_waiting before) 0))
done_by before (on_turn a out) = false

-- The node is done at the end of es, where the events `before` came first.
unfoldable pub done_after : List Event → List Event → Bool
done_after before [] = false
done_after before (e ∷ es) = done_by before e || done_after (before ++ (e ∷ [])) es

-- From the first event on.
abbrev pub node_done : List Event → Bool
node_done es = done_after [] es

-- Frames, or parts of frames, back to back.
unfoldable pub back_to_back : List Words → Words
back_to_back [] = []
back_to_back (f ∷ fs) = f ++ back_to_back fs

-- The number of the refusal that a call met, or 0.
abbrev pub took_refusal : Result Unit Refusal → ℕ
took_refusal (Ok tt) = 0
took_refusal (Err n) = number n

-- The same of a port call.
abbrev pub ports_refusal : Result Ports Refusal → ℕ
ports_refusal (Ok p) = 0
ports_refusal (Err n) = number n

-- The same of a turn.
abbrev pub turn_refusal : Result Turn Refusal → ℕ
turn_refusal (Ok (Wrote s)) = 0
turn_refusal (Ok WantsRight) = 0
turn_refusal (Ok Idle) = 0
turn_refusal (Err n) = number n

-- The same of any call.
abbrev pub refusal_in : Event → ℕ
refusal_in (on_left f a) = took_refusal a
refusal_in (on_right f a) = took_refusal a
refusal_in (on_end a) = took_refusal a
refusal_in (on_ports l r s a) = ports_refusal a
refusal_in (on_turn a out) = turn_refusal a

-- Did a call meet refusal n?
unfoldable pub refused_with : ℕ → List Event → Bool
refused_with n [] = false
refused_with n (e ∷ es) = eqb (refusal_in e) n || refused_with n es

-- The turns of a list.
abbrev pub turn_in : Event → List Event
turn_in (on_left f a) = []
turn_in (on_right f a) = []
turn_in (on_end a) = []
turn_in (on_ports l r s a) = []
turn_in (on_turn a out) = on_turn a out ∷ []

-- The turns of a list, in call order.
unfoldable pub turns_in : List Event → List Event
turns_in [] = []
turns_in (e ∷ es) = turn_in e ++ turns_in es

-- The frames that stand back to back in words, each as long as its n and c give; the fuel is the number of words.
unfoldable pub frames_in : ℕ → ℕ → Words → List Words
frames_in zero c ws = []
frames_in (suc fuel) c [] = []
frames_in (suc fuel) c (w ∷ ws) = front c (w ∷ ws) ∷ frames_in fuel c (drop (frame_words (row_count (w ∷ ws)) c) (w ∷ ws))

-- The rows in the queue.
unfoldable pub queue_rows : World → Rows
queue_rows w = let ws = waiting w.join w.left in rows_in (left_width w.join) (frames_in (length ws) (left_width w.join) ws)
