-- Lists of calls in numbers, as a host in C makes them, and the list of the node's calls that each is. The statement; its proof stands in proofs/. Assumes nothing.
use Rattle.std.specs.Prelude.{◌≡◌, cond, ◌&&◌, List, [], ◌∷◌, ◌++◌, ℕ, length, drop, Err, Some}
use Rattle.frames.specs.Cells.{Words}
use Rattle.frames.specs.outcomes.Answers.{port_code}
use Rattle.frames.specs.declared.refusals.Refusal.TheVariants.{BadJoin}
use Rattle.ffi.specs.codes.Codes.{is_code, port_of}
use Rattle.ffi.specs.convert.Convert.{encode, decode}
use Rattle.ffi.specs.declared.convert.HostJoin.{HostJoin}
use Rattle.ffi.specs.results.Results.{took_host, ported_host, turned_host, ran_host}
use Rattle.ffi.specs.declared.results.HostTook.{HostTook}
use Rattle.ffi.specs.declared.results.HostPorted.{HostPorted}
use Rattle.ffi.specs.declared.results.HostTurned.{HostTurned}
use Rattle.ffi.specs.declared.results.HostRan.{HostRan}
use Rattle.hostcalls.specs.Calls.{left_host, right_host, end_host, ports_host, turn_host, run_host}
use Rattle.lists.specs.Lists.{Call, left as node_left, right as node_right, end as node_end, ports as node_ports, turn as node_turn, Event, on_left as node_on_left, on_right as node_on_right, on_end as node_on_end, on_ports as node_on_ports, on_turn as node_on_turn, World, Step, step, final, outputs}
use Rattle.lists.specs.Runs.{turns_of, answers_of, words_of, stop_in}

-- ---- what a host does
-- A call: a left or right frame, the end of right, ports by their codes (any numbers), a turn with its output, a run of at most k turns with its output.
pub data HostCall : Type 0 where
  left : Words → HostCall
  right : Words → HostCall
  end : HostCall
  ports : ℕ → ℕ → ℕ → HostCall
  turn : Words → HostCall
  run : ℕ → Words → HostCall

-- A call with the struct that it returned; of a turn and a run also the output as it is afterwards.
pub data HostEvent : Type 0 where
  on_left : Words → HostTook → HostEvent
  on_right : Words → HostTook → HostEvent
  on_end : HostTook → HostEvent
  on_ports : ℕ → ℕ → ℕ → HostPorted → HostEvent
  on_turn : HostTurned → Words → HostEvent
  on_run : HostRan → Words → HostEvent

-- A join in numbers and its two areas.
pub record HostWorld : Type 0 where
  pub join : HostJoin
  pub left : Words
  pub right : Words

-- One call, over the join and the areas that the last one left.
pub record HostStep : Type 0 where
  pub event : HostEvent
  pub world : HostWorld

-- From its parts.
abbrev pub host_stepped : HostEvent → HostJoin → Words → Words → HostStep
host_stepped e h l r = record { event = e; world = record { join = h; left = l; right = r } }

-- The six calls, as their contracts give them: the host goes on with the join that it was handed back, and with the area that was lent to write in; another
-- area, which the call only reads, is as it was.
unfoldable pub host_step : HostWorld → HostCall → HostStep
host_step v (left f) = let a = left_host v.join v.left v.right f in host_stepped (on_left f (took_host a.answer a.join)) a.join a.left v.right
host_step v (right f) = let a = right_host v.join v.left v.right f in host_stepped (on_right f (took_host a.answer a.join)) a.join v.left a.right
host_step v end = let a = end_host v.join v.left v.right in host_stepped (on_end (took_host a.answer a.join)) a.join v.left v.right
host_step v (ports l r s) =
    let a = ports_host v.join v.left v.right l r s in host_stepped (on_ports l r s (ported_host a.answer a.join)) a.join v.left v.right
host_step v (turn out) =
    let a = turn_host v.join v.left v.right out in host_stepped (on_turn (turned_host a.answer a.join) a.out) a.join v.left v.right
host_step v (run k out) =
    let a = run_host v.join k v.left v.right out in host_stepped (on_run (ran_host a.answer a.join) a.out) a.join v.left v.right

-- The calls with what they returned, in call order.
unfoldable pub host_events : HostWorld → List HostCall → List HostEvent
host_events v [] = []
host_events v (c ∷ cs) = let s = host_step v c in s.event ∷ host_events s.world cs

-- The join and the areas that the last call leaves.
unfoldable pub host_final : HostWorld → List HostCall → HostWorld
host_final v [] = v
host_final v (c ∷ cs) = host_final (host_step v c).world cs

-- ---- the node's calls
-- What the node is called with: a run is its turns; a port code above 2 reaches no node.
abbrev pub calls_for : World → HostCall → List Call
calls_for w (left f) = node_left f ∷ []
calls_for w (right f) = node_right f ∷ []
calls_for w end = node_end ∷ []
calls_for w (ports l r s) = cond (is_code l && is_code r && is_code s) (node_ports (port_of l) (port_of r) (port_of s) ∷ []) []
calls_for w (turn out) = node_turn out ∷ []
calls_for w (run k out) = turns_of k w out

-- The node's list.
unfoldable pub node_calls : World → List HostCall → List Call
node_calls w [] = []
node_calls w (c ∷ cs) = calls_for w c ++ node_calls (final w (calls_for w c)) cs

-- An event of the node in numbers, with the join that it leaves.
abbrev pub encode_event : HostJoin → Event → HostEvent
encode_event h (node_on_left f a) = on_left f (took_host a h)
encode_event h (node_on_right f a) = on_right f (took_host a h)
encode_event h (node_on_end a) = on_end (took_host a h)
encode_event h (node_on_ports l r s a) = on_ports (port_code l) (port_code r) (port_code s) (ported_host a h)
encode_event h (node_on_turn a out) = on_turn (turned_host a h) out

-- From a step of the node.
abbrev pub encode_step : Step → HostEvent
encode_step s = encode_event (encode s.world.join) s.event

-- A run in numbers, by its turns: as many as wrote, their words back to back at the front of the output, and the answer that ended them.
abbrev pub encode_run : ℕ → World → Words → HostEvent
encode_run k w out =
    let es = answers_of k w out in
    let ws = words_of k w out in
    on_run (ran_host (record { turns = length (outputs es); words = length ws; stop = stop_in es }) (encode (final w (turns_of k w out)).join)) (ws ++ drop (length ws) out)

-- What a call in numbers returns, told by the node's calls for it. Ports that cannot be are refused as 2 with the join as it was.
abbrev pub event_for : World → HostCall → HostEvent
event_for w (left f) = encode_step (step w (node_left f))
event_for w (right f) = encode_step (step w (node_right f))
event_for w end = encode_step (step w node_end)
event_for w (ports l r s) =
    cond (is_code l && is_code r && is_code s) (encode_step (step w (node_ports (port_of l) (port_of r) (port_of s)))) (on_ports l r s (ported_host (Err BadJoin) (encode w.join)))
event_for w (turn out) = encode_step (step w (node_turn out))
event_for w (run k out) = encode_run k w out

-- The same of a list.
unfoldable pub node_events : World → List HostCall → List HostEvent
node_events w [] = []
node_events w (c ∷ cs) = event_for w c ∷ node_events (final w (calls_for w c)) cs

-- ---- the theorem
-- The numbers are the node's join, over the same areas.
pub record Agree (v : HostWorld) (w : World) : Type 0 where
  pub join : decode v.join ≡ Some w.join
  pub left : v.left ≡ w.left
  pub right : v.right ≡ w.right

-- What the calls return, refused ones too, is the node's list of events in numbers; the numbers that the last call hands back are the join that the node's
-- list leaves, and the areas are the node's.
pub record ListFollows (v : HostWorld) (w : World) (calls : List HostCall) : Type 0 where
  pub events : host_events v calls ≡ node_events w calls
  pub leaves : Agree (host_final v calls) (final w (node_calls w calls))

-- Of any numbers that are a join, good or bad, any areas and any calls.
abbrev pub HostLists : Type 0
HostLists = (v : HostWorld) (w : World) → Agree v w → (calls : List HostCall) → ListFollows v w calls
