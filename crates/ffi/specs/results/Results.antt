-- What the calls answer, in numbers. Assumes nothing.
use Rattle.frames.specs.declared.outcomes.Turn.TheVariants.{Wrote, WantsRight, Idle}
use Rattle.frames.specs.declared.outcomes.Stop.{Stop}
use Rattle.frames.specs.declared.outcomes.Turn.{Turn}
use Rattle.frames.specs.declared.refusals.Refusal.{Refusal}
use Rattle.std.specs.Prelude.{ℕ, replicate, Result, Ok, Err}
use Rattle.order.specs.Keyed.{no_row}
use Rattle.frames.specs.outcomes.Answers.{state_code, port_code}
use Rattle.frames.specs.refusals.Refusals.{number}
use Rattle.frames.specs.declared.outcomes.NodeState.TheVariants.{Running}
use Rattle.frames.specs.declared.refusals.Refusal.TheVariants.{BadJoin}
use Rattle.frames.specs.declared.outcomes.Ports.{Ports}
use Rattle.ffi.specs.codes.Codes.{took_code, stop_code, stop_refusal}
use Rattle.ffi.specs.convert.Convert.{layout_now, encode_row}
use Rattle.ffi.specs.declared.hostoptions.HostOptions.{HostOptions}
use Rattle.ffi.specs.declared.convert.HostJoin.{HostJoin}
use Rattle.ffi.specs.declared.results.HostTook.{HostTook}
use Rattle.ffi.specs.declared.results.HostPorted.{HostPorted}
use Rattle.ffi.specs.declared.results.HostTurned.{HostTurned}
use Rattle.ffi.specs.declared.results.HostRan.{HostRan}

-- Of opening, a left or right frame, and the end of right: 0 accepted, or the refusal's number.
abbrev pub took_host : Result Unit Refusal → HostJoin → HostTook
took_host t h = record { refusal = took_code t; join = h }

-- Of a port call: what left, right and send are told, or the refusal's number and zeros.
abbrev pub ported_host : Result Ports Refusal → HostJoin → HostPorted
ported_host (Ok p) h = record { refusal = 0; left = port_code p.left; right = port_code p.right; send = port_code p.send; join = h }
ported_host (Err n) h = record { refusal = number n; left = 0; right = 0; send = 0; join = h }

-- Of a turn: 0 wrote, with the old sequence; 1 wants right; 2 idle; 3 refused, with the refusal's number.
abbrev pub turned_host : Result Turn Refusal → HostJoin → HostTurned
turned_host (Ok (Wrote s)) h = record { answer = 0; refusal = 0; sequence = s; join = h }
turned_host (Ok WantsRight) h = record { answer = 1; refusal = 0; sequence = 0; join = h }
turned_host (Ok Idle) h = record { answer = 2; refusal = 0; sequence = 0; join = h }
turned_host (Err n) h = record { answer = 3; refusal = number n; sequence = 0; join = h }

-- What a run made: its turns, the words that they wrote, and what ended it.
pub record Made : Type 0 where
  pub turns : ℕ
  pub words : ℕ
  pub stop : Result Stop Refusal

-- Of a run: its turns, its words, and what ended it, with the refusal's number.
abbrev pub ran_host : Made → HostJoin → HostRan
ran_host m h = record { turns = m.turns; words = m.words; stop = stop_code m.stop; refusal = stop_refusal m.stop; join = h }

-- A run of no join makes no turn.
abbrev pub refused_run : Made
refused_run = record { turns = 0; words = 0; stop = Err BadJoin }

-- A fresh join with any options, in numbers.
abbrev pub fresh_host : HostOptions → HostJoin
fresh_host h = record {
  layout = layout_now;
  options = h;
  rising = replicate 64 0;
  base = 0;
  held = 0;
  pruned = 0;
  queue_start = 0;
  queue_words = 0;
  state = state_code Running;
  right_ended = 0;
  failed = 0;
  sequence = 0;
  last_left = encode_row no_row;
  last_right = encode_row no_row;
}
