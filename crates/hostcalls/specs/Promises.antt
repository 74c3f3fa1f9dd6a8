-- What a host can lean on, told of the calls in numbers. Assumes nothing.
use Rattle.frames.specs.declared.outcomes.Turn.TheVariants.{Wrote, WantsRight, Idle}
use Rattle.frames.specs.declared.outcomes.Stop.{Stop}
use Rattle.frames.specs.declared.outcomes.Stop.TheVariants.{Used, WantsRight as StopWants, Idle as StopIdle}
use Rattle.frames.specs.declared.outcomes.Turn.{Turn}
use Rattle.std.specs.Prelude.{◌≡◌, Bool, true, false, not, [], ℕ, suc, eqb, Result, Ok, Err, None, Some}
use Rattle.frames.specs.Cells.{Words}
use Rattle.order.specs.declared.options.Options.{Options}
use Rattle.node.specs.State.{fresh}
use Rattle.frames.specs.outcomes.Answers.{port_code}
use Rattle.node.specs.Calls.{After, left_call, right_call, end_call, ports_call, turn_call}
use Rattle.node.specs.declared.Join.{Join}
use Rattle.frames.specs.declared.outcomes.PortState.{PortState}
use Rattle.frames.specs.refusals.Refusals.{marks_failed}
use Rattle.frames.specs.declared.refusals.Refusal.{Refusal}
use Rattle.frames.specs.declared.refusals.Refusal.TheVariants.{BadJoin}
use Rattle.node.specs.runs.Run.{run_call}
use Rattle.node.specs.moves.Moves.{move_call}
use Rattle.ffi.specs.convert.Convert.{layout_now, decode}
use Rattle.ffi.specs.hostoptions.HostOptions.{decode_options}
use Rattle.ffi.specs.results.Results.{Made}
use Rattle.hostcalls.specs.Calls.{HostAfter, after_host, encode_after, open_host, left_host, right_host, end_host, move_host, ports_host, turn_host, ran_after, run_host}
use Rattle.ffi.specs.declared.hostoptions.HostOptions.{HostOptions}
use Rattle.ffi.specs.declared.convert.HostJoin.{HostJoin}

-- The answers of a turn that changes nothing: Wants right, Idle, and any refusal but 8 and 9.
abbrev pub stays : Result Turn Refusal → Bool
stays (Ok (Wrote s)) = false
stays (Ok WantsRight) = true
stays (Ok Idle) = true
stays (Err n) = not (marks_failed n)

-- What ends a run without a change: its turns are used, Wants right, Idle, and any refusal but 8 and 9.
abbrev pub stays_at : Result Stop Refusal → Bool
stays_at (Ok Used) = true
stays_at (Ok StopWants) = true
stays_at (Ok StopIdle) = true
stays_at (Err n) = not (marks_failed n)

-- What a run tells that made no turn.
abbrev pub no_turn : Result Stop Refusal → Made
no_turn s = record { turns = 0; words = 0; stop = s }

-- A refused call hands back exactly the numbers that came and alters no lent word; so does a turn that changes nothing, and a run that made no turn and was
-- ended by one that changes nothing. (A run that was refused after some turns leaves what these left: it is the list of its turns, as hostlists tells.)
pub record Kept (h : HostJoin) (left right : Words) : Type 0 where
  pub by_left : (f : Words) (n : Refusal) → (left_host h left right f).answer ≡ Err n → left_host h left right f ≡ after_host (Err n) h left right []
  pub by_right : (f : Words) (n : Refusal) → (right_host h left right f).answer ≡ Err n → right_host h left right f ≡ after_host (Err n) h left right []
  pub by_end : (n : Refusal) → (end_host h left right).answer ≡ Err n → end_host h left right ≡ after_host (Err n) h left right []
  pub by_move : (new_left new_right : Words) (n : Refusal) → (move_host h left right new_left new_right).answer ≡ Err n → move_host h left right new_left new_right ≡ after_host (Err n) h new_left new_right []
  pub by_ports : (l r s : ℕ) (n : Refusal) → (ports_host h left right l r s).answer ≡ Err n → ports_host h left right l r s ≡ after_host (Err n) h left right []
  pub by_turn : (out : Words) (a : Result Turn Refusal) → stays a ≡ true → (turn_host h left right out).answer ≡ a → turn_host h left right out ≡ after_host a h left right out
  pub by_run : (k : ℕ) (out : Words) (s : Result Stop Refusal) → stays_at s ≡ true → (run_host h k left right out).answer ≡ no_turn s → run_host h k left right out ≡ after_host (no_turn s) h left right out

-- Every call answers 2 to the join of a refused opening, and so does every run of at least one turn.
pub record Shut (h : HostJoin) (left right : Words) : Type 0 where
  pub by_left : (f : Words) → (left_host h left right f).answer ≡ Err BadJoin
  pub by_right : (f : Words) → (right_host h left right f).answer ≡ Err BadJoin
  pub by_end : (end_host h left right).answer ≡ Err BadJoin
  pub by_move : (new_left new_right : Words) → (move_host h left right new_left new_right).answer ≡ Err BadJoin
  pub by_ports : (l r s : ℕ) → (ports_host h left right l r s).answer ≡ Err BadJoin
  pub by_turn : (out : Words) → (turn_host h left right out).answer ≡ Err BadJoin
  pub by_run : (k : ℕ) (out : Words) → (run_host h (suc k) left right out).answer ≡ no_turn (Err BadJoin)

-- Numbers that are no join: every call answers 2, hands back exactly the numbers that came and alters no lent word; so does every run, one of no turns too
-- (SCOPE 16.5).
pub record NoJoin (h : HostJoin) (left right : Words) : Type 0 where
  pub by_left : (f : Words) → left_host h left right f ≡ after_host (Err BadJoin) h left right []
  pub by_right : (f : Words) → right_host h left right f ≡ after_host (Err BadJoin) h left right []
  pub by_end : end_host h left right ≡ after_host (Err BadJoin) h left right []
  pub by_move : (new_left new_right : Words) → move_host h left right new_left new_right ≡ after_host (Err BadJoin) h new_left new_right []
  pub by_ports : (l r s : ℕ) → ports_host h left right l r s ≡ after_host (Err BadJoin) h left right []
  pub by_turn : (out : Words) → turn_host h left right out ≡ after_host (Err BadJoin) h left right out
  pub by_run : (k : ℕ) (out : Words) → run_host h k left right out ≡ after_host (no_turn (Err BadJoin)) h left right out

-- What a call in numbers leaves is what the node's call leaves, and its join is read as the node's.
pub record Same {A : Type 0} (x : HostAfter A) (y : After A) : Type 0 where
  pub whole : x ≡ encode_after y
  pub again : decode x.join ≡ Some y.join

-- Where the numbers are join j, each call is the node's call of j. That a list of calls in numbers is a list of the node's is proved in hostlists.
pub record Follows (h : HostJoin) (j : Join) (left right : Words) : Type 0 where
  pub by_left : (f : Words) → Same (left_host h left right f) (left_call j left right f)
  pub by_right : (f : Words) → Same (right_host h left right f) (right_call j left right f)
  pub by_end : Same (end_host h left right) (end_call j left right)
  pub by_move : (new_left new_right : Words) → Same (move_host h left right new_left new_right) (move_call j left right new_left new_right)
  pub by_ports : (l r s : PortState) → Same (ports_host h left right (port_code l) (port_code r) (port_code s)) (ports_call j left right l r s)
  pub by_turn : (out : Words) → Same (turn_host h left right out) (turn_call j left right out)
  pub by_run : (k : ℕ) (out : Words) → Same (run_host h k left right out) (ran_after (run_call k j left right out) left right)

-- Of any numbers and any areas; of any opening. Numbers of another layout are no join.
pub record Promises : Type 0 where
  pub kept : (h : HostJoin) (left right : Words) → Kept h left right
  pub shut : (o : HostOptions) (left right : Words) → eqb (open_host o).refusal 0 ≡ false → Shut (open_host o).join left right
  pub no_join : (h : HostJoin) (left right : Words) → decode h ≡ None → NoJoin h left right
  pub other_layout : (h : HostJoin) → eqb h.layout layout_now ≡ false → decode h ≡ None
  pub opens : (h : HostOptions) (o : Options) → decode_options h ≡ Some o → decode (open_host h).join ≡ Some (fresh o)
  pub follows : (h : HostJoin) (j : Join) (left right : Words) → decode h ≡ Some j → Follows h j left right
