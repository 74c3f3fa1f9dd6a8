-- Flags, states, ports and refusals as numbers. Assumes nothing.
use Rattle.frames.specs.declared.outcomes.Stop.{Stop}
use Rattle.frames.specs.declared.outcomes.Stop.TheVariants.{Used, WantsRight, Idle}
use Rattle.frames.specs.declared.refusals.Refusal.{Refusal}
use Rattle.std.specs.Prelude.{Bool, true, cond, ◌&&◌, List, [], ◌∷◌, ℕ, ltb, eqb, Result, Ok, Err}
use Rattle.order.specs.declared.options.Check.{Check}
use Rattle.order.specs.declared.options.Check.TheVariants.{Off, On, Strict}
use Rattle.frames.specs.refusals.Refusals.{number}
use Rattle.frames.specs.declared.outcomes.NodeState.{NodeState}
use Rattle.frames.specs.declared.outcomes.NodeState.TheVariants.{Running, Flush, Done}
use Rattle.frames.specs.declared.outcomes.PortState.{PortState}
use Rattle.frames.specs.declared.outcomes.PortState.TheVariants.{Blocked, Ready, Done as PortDone}

-- A flag is 0 or 1.
abbrev pub is_flag : ℕ → Bool
is_flag x = ltb x 2

-- 1 says yes.
abbrev pub flag_of : ℕ → Bool
flag_of x = eqb x 1

-- The flag of yes and of no.
abbrev pub flag_code : Bool → ℕ
flag_code b = cond b 1 0

-- Whether each is a flag.
unfoldable pub are_flags : List ℕ → Bool
are_flags [] = true
are_flags (x ∷ xs) = is_flag x && are_flags xs

-- What each says.
unfoldable pub flags_of : List ℕ → List Bool
flags_of [] = []
flags_of (x ∷ xs) = flag_of x ∷ flags_of xs

-- The flag of each.
unfoldable pub flag_codes : List Bool → List ℕ
flag_codes [] = []
flag_codes (b ∷ bs) = flag_code b ∷ flag_codes bs

-- Order check: 0 off, 1 on, 2 strict; `check_code` is the way back.
abbrev pub check_of : ℕ → Check
check_of x = cond (eqb x 0) Off (cond (eqb x 1) On Strict)

-- An order check's setting, a node's state and a port's state are numbers up to 2.
abbrev pub is_code : ℕ → Bool
is_code x = ltb x 3

-- 0 is Running, 1 Flush, 2 Done; `state_code` is the way back.
abbrev pub state_of : ℕ → NodeState
state_of x = cond (eqb x 0) Running (cond (eqb x 1) Flush Done)

-- 0 is Blocked, 1 Ready, 2 Done; `port_code` is the way back.
abbrev pub port_of : ℕ → PortState
port_of x = cond (eqb x 0) Blocked (cond (eqb x 1) Ready PortDone)

-- Accepted is 0, a refusal its number.
abbrev pub took_code : Result Unit Refusal → ℕ
took_code (Ok tt) = 0
took_code (Err n) = number n

-- What ended a run: 0 its turns are used, 1 wants right, 2 idle, 3 refused.
abbrev pub stop_code : Result Stop Refusal → ℕ
stop_code (Ok Used) = 0
stop_code (Ok WantsRight) = 1
stop_code (Ok Idle) = 2
stop_code (Err n) = 3

-- The refusal's number, where a refused turn ended it.
abbrev pub stop_refusal : Result Stop Refusal → ℕ
stop_refusal (Ok Used) = 0
stop_refusal (Ok WantsRight) = 0
stop_refusal (Ok Idle) = 0
stop_refusal (Err n) = number n
