-- What each exported call leaves: its answer and the join in numbers, and the words of what it was lent to write in, as Calls gives them. Assumes nothing.
use Rattle.std.specs.Prelude.{◌≡◌, ℕ}
use Rattle.frames.specs.Cells.{Words}
use Rattle.ffi.specs.results.Results.{took_host, ported_host, turned_host, ran_host}
use Rattle.hostcalls.specs.Calls.{open_host, left_host, right_host, end_host, move_host, ports_host, turn_host, run_host}
use Rattle.ffi.specs.declared.hostoptions.HostOptions.{HostOptions}
use Rattle.ffi.specs.declared.convert.HostJoin.{HostJoin}
use Rattle.ffi.specs.declared.results.HostTook.{HostTook}
use Rattle.ffi.specs.declared.results.HostPorted.{HostPorted}
use Rattle.ffi.specs.declared.results.HostTurned.{HostTurned}
use Rattle.ffi.specs.declared.results.HostRan.{HostRan}

-- Opening.
pub record HostOpenContract (h : HostOptions) (r : HostTook) : Type 0 where
  pub result : r ≡ open_host h

-- A left frame; the left area's words as they are afterwards.
pub record HostLeftContract (h : HostJoin) (left right frame : Words) (r : HostTook) (left' : Words) : Type 0 where
  pub result : r ≡ took_host (left_host h left right frame).answer (left_host h left right frame).join
  pub words : left' ≡ (left_host h left right frame).left

-- A right frame; the right area's words as they are afterwards.
pub record HostRightContract (h : HostJoin) (left right frame : Words) (r : HostTook) (right' : Words) : Type 0 where
  pub result : r ≡ took_host (right_host h left right frame).answer (right_host h left right frame).join
  pub words : right' ≡ (right_host h left right frame).right

-- The end of right.
pub record HostEndContract (h : HostJoin) (left right : Words) (r : HostTook) : Type 0 where
  pub result : r ≡ took_host (end_host h left right).answer (end_host h left right).join

-- A move to other areas; the new areas' words as they are afterwards.
pub record HostMoveContract (h : HostJoin) (left right new_left new_right : Words) (r : HostTook) (left' right' : Words) : Type 0 where
  pub result : r ≡ took_host (move_host h left right new_left new_right).answer (move_host h left right new_left new_right).join
  pub left_words : left' ≡ (move_host h left right new_left new_right).left
  pub right_words : right' ≡ (move_host h left right new_left new_right).right

-- A port call that comes with l, r and s.
pub record HostPortsContract (h : HostJoin) (left right : Words) (l r s : ℕ) (x : HostPorted) : Type 0 where
  pub result : x ≡ ported_host (ports_host h left right l r s).answer (ports_host h left right l r s).join

-- A turn; the output's words as they are afterwards.
pub record HostTurnContract (h : HostJoin) (left right out : Words) (r : HostTurned) (out' : Words) : Type 0 where
  pub result : r ≡ turned_host (turn_host h left right out).answer (turn_host h left right out).join
  pub words : out' ≡ (turn_host h left right out).out

-- A run of at most k turns; the output's words as they are afterwards.
pub record HostRunContract (h : HostJoin) (k : ℕ) (left right out : Words) (r : HostRan) (out' : Words) : Type 0 where
  pub result : r ≡ ran_host (run_host h k left right out).answer (run_host h k left right out).join
  pub words : out' ≡ (run_host h k left right out).out
