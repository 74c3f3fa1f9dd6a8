-- The ports: where a port call takes the node, and what each port is told there. Assumes nothing.
use Rattle.frames.specs.declared.refusals.Refusal.{Refusal}
use Rattle.std.specs.Prelude.{◌≡◌, [], ◌∷◌, Bool, true, false, cond, ◌&&◌, ◌||◌, ℕ, eqb, Result, Ok, Err}
use Rattle.frames.specs.outcomes.Answers.{is_running}
use Rattle.frames.specs.declared.outcomes.NodeState.{NodeState}
use Rattle.frames.specs.declared.outcomes.NodeState.TheVariants.{Running, Flush, Done}
use Rattle.frames.specs.declared.outcomes.PortState.{PortState}
use Rattle.frames.specs.declared.outcomes.PortState.TheVariants.{Blocked, Ready, Done as PortDone}
use Rattle.frames.specs.declared.outcomes.Ports.{Ports}
use Rattle.frames.specs.refusals.Tests.{test, first_of}
use Rattle.frames.specs.declared.refusals.Refusal.TheVariants.{BadJoin, Failed}
use Rattle.callrules.specs.declared.ports.PortsMoved.{PortsMoved}

-- A port that came Done.
abbrev pub port_done : PortState → Bool
port_done Blocked = false
port_done Ready = false
port_done PortDone = true

-- A port that came Blocked.
abbrev pub port_blocked : PortState → Bool
port_blocked Blocked = true
port_blocked Ready = false
port_blocked PortDone = false

-- SCOPE 13.1.
abbrev pub to_flush : NodeState → PortState → PortState → NodeState
to_flush s l d = cond (port_done d) Done (cond (is_running s && port_done l) Flush s)

-- SCOPE 13.2, by the number of words that wait.
abbrev pub to_done : NodeState → ℕ → NodeState
to_done Running words = Running
to_done Flush words = cond (eqb words 0) Done Flush
to_done Done words = Done

-- Ready unless another one came Blocked.
abbrev pub ready_unless : Bool → PortState
ready_unless blocked = cond blocked Blocked Ready

-- SCOPE 13.3: what is returned to each port, by the node's new state.
abbrev pub ports_in : NodeState → PortState → PortState → PortState → Ports
ports_in Running l r s =
    record {
      left = ready_unless (port_blocked r || port_blocked s);
      right = ready_unless (port_blocked l || port_blocked s);
      send = ready_unless (port_blocked l || port_blocked r);
    }
ports_in Flush l r s = record { left = PortDone; right = ready_unless (port_blocked s); send = ready_unless (port_blocked r) }
ports_in Done l r s = record { left = PortDone; right = PortDone; send = PortDone }

-- A port call by the numbers of a join: refused by 2 or 3, or what the ports are told in the node's next state, with so many words waiting.
unfoldable pub ports_judged : Bool → Bool → NodeState → PortState → PortState → PortState → ℕ → Result Ports Refusal
ports_judged bad failed state l r s words =
    first_of (test bad (Err BadJoin) ∷ test failed (Err Failed) ∷ []) (Ok (ports_in (to_done (to_flush state l s) words) l r s))

-- The node's state afterwards: a refused call leaves it.
unfoldable pub moved_state : Bool → Bool → NodeState → PortState → PortState → ℕ → NodeState
moved_state bad failed state l s words = cond bad state (cond failed state (to_done (to_flush state l s) words))

-- A port call: its answer, and the state that it leaves.
pub record Moves (bad failed : Bool) (state : NodeState) (l r s : PortState) (words : ℕ) (x : PortsMoved) : Type 0 where
  pub answer : x.answer ≡ ports_judged bad failed state l r s words
  pub state_is : x.state ≡ moved_state bad failed state l s words
