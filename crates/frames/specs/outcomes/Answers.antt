-- The codes of states and ports, and tests of states and answers. Assumes nothing.
use Rattle.frames.specs.declared.outcomes.Turn.TheVariants.{Wrote, WantsRight, Idle}
use Rattle.frames.specs.declared.outcomes.Turn.{Turn}
use Rattle.frames.specs.declared.refusals.Refusal.{Refusal}
use Rattle.std.specs.Prelude.{Bool, true, false, ℕ, ◌-◌, ◌^◌, Result, Ok, Err}
use Rattle.frames.specs.declared.outcomes.NodeState.{NodeState}
use Rattle.frames.specs.declared.outcomes.NodeState.TheVariants.{Running, Flush, Done}
use Rattle.frames.specs.declared.outcomes.PortState.{PortState}
use Rattle.frames.specs.declared.outcomes.PortState.TheVariants.{Blocked, Ready, Done as PortDone}

-- The node's states by number: 0 Running, 1 Flush, 2 Done.
abbrev pub state_code : NodeState → ℕ
state_code Running = 0
state_code Flush = 1
state_code Done = 2

-- The ports' states by number: 0 Blocked, 1 Ready, 2 Done.
abbrev pub port_code : PortState → ℕ
port_code Blocked = 0
port_code Ready = 1
port_code PortDone = 2

-- Whether the node is Running.
abbrev pub is_running : NodeState → Bool
is_running Running = true
is_running Flush = false
is_running Done = false

-- Whether the node is Done.
abbrev pub is_done : NodeState → Bool
is_done Running = false
is_done Flush = false
is_done Done = true

-- Whether a turn wrote.
abbrev pub wrote : Result Turn Refusal → Bool
wrote (Ok (Wrote s)) = true
wrote (Ok WantsRight) = false
wrote (Ok Idle) = false
wrote (Err n) = false

-- The greatest number of right rows: 2^63 − 1.
abbrev pub most_rows : ℕ
most_rows = 2 ^ 63 - 1

-- The last sequence: 2^64 − 2.
abbrev pub last_sequence : ℕ
last_sequence = 2 ^ 64 - 2
