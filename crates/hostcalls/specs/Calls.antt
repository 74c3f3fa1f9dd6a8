-- What each exported call answers, and the join that it hands back, in numbers. Assumes nothing.
use Rattle.frames.specs.declared.outcomes.Ports.{Ports}
use Rattle.frames.specs.declared.outcomes.Turn.{Turn}
use Rattle.frames.specs.declared.refusals.Refusal.{Refusal}
use Rattle.std.specs.Prelude.{cond, ◌&&◌, [], ℕ, Result, Err, None, Some}
use Rattle.frames.specs.Cells.{Words}
use Rattle.node.specs.State.{fresh}
use Rattle.node.specs.Calls.{After, after, left_call, right_call, end_call, ports_call, turn_call}
use Rattle.callrules.specs.Judged.{open_answer}
use Rattle.node.specs.moves.Moves.{move_call}
use Rattle.node.specs.runs.Run.{Ran, run_call}
use Rattle.node.specs.declared.Join.{Join}
use Rattle.frames.specs.declared.refusals.Refusal.TheVariants.{BadOptions, BadJoin}
use Rattle.ffi.specs.codes.Codes.{is_code, port_of}
use Rattle.ffi.specs.convert.Convert.{decode, encode}
use Rattle.ffi.specs.hostoptions.HostOptions.{decode_options}
use Rattle.ffi.specs.declared.hostoptions.HostOptions.{HostOptions}
use Rattle.ffi.specs.declared.convert.HostJoin.{HostJoin}
use Rattle.ffi.specs.results.Results.{took_host, fresh_host, Made, refused_run}
use Rattle.ffi.specs.declared.results.HostTook.{HostTook}

-- Opening: options that cannot be encoded are refused as 1, others by the first of 1, 10 and 11 that they meet; the join holds them, with everything else as in a fresh join.
unfoldable pub open_host : HostOptions → HostTook
open_host h =
    elim (decode_options h) [
      | None ↦ took_host (Err BadOptions) (fresh_host h)
      | Some o ↦ took_host (open_answer o) (encode (fresh o))
    ]

-- What a call leaves, in numbers: its answer, the join handed back, and the words of the two areas and of the output (of a call that is lent one).
pub record HostAfter (A : Type 0) : Type 0 where
  pub answer : A
  pub join : HostJoin
  pub left : Words
  pub right : Words
  pub out : Words

-- From its parts.
abbrev pub after_host : {A : Type 0} → A → HostJoin → Words → Words → Words → HostAfter A
after_host a h l r out = record { answer = a; join = h; left = l; right = r; out = out }

-- What the node's call leaves, in numbers.
abbrev pub encode_after : {A : Type 0} → After A → HostAfter A
encode_after x = after_host x.answer (encode x.join) x.left x.right x.out

-- Any other call: what no join can encode is refused as a bad join and handed back unchanged, with no lent word altered; else all is as the node's call leaves it.
unfoldable pub by_join : {A : Type 0} → HostJoin → HostAfter A → (Join → After A) → HostAfter A
by_join h refused call = elim (decode h) [ None ↦ refused | Some j ↦ encode_after (call j) ]

-- A left frame.
unfoldable pub left_host : HostJoin → Words → Words → Words → HostAfter (Result Unit Refusal)
left_host h left right f = by_join h (after_host (Err BadJoin) h left right []) (λ j. left_call j left right f)

-- A right frame.
unfoldable pub right_host : HostJoin → Words → Words → Words → HostAfter (Result Unit Refusal)
right_host h left right f = by_join h (after_host (Err BadJoin) h left right []) (λ j. right_call j left right f)

-- The end of right.
unfoldable pub end_host : HostJoin → Words → Words → HostAfter (Result Unit Refusal)
end_host h left right = by_join h (after_host (Err BadJoin) h left right []) (λ j. end_call j left right)

-- A move to other areas; the words that it leaves are those of the new areas.
unfoldable pub move_host : HostJoin → Words → Words → Words → Words → HostAfter (Result Unit Refusal)
move_host h left right new_left new_right = by_join h (after_host (Err BadJoin) h new_left new_right []) (λ j. move_call j left right new_left new_right)

-- A port call: what no port can say is refused like a join that cannot be.
unfoldable pub ports_host : HostJoin → Words → Words → ℕ → ℕ → ℕ → HostAfter (Result Ports Refusal)
ports_host h left right l r s =
    let refused = after_host (Err BadJoin) h left right [] in
    cond (is_code l && is_code r && is_code s) (by_join h refused (λ j. ports_call j left right (port_of l) (port_of r) (port_of s))) refused

-- A turn.
unfoldable pub turn_host : HostJoin → Words → Words → Words → HostAfter (Result Turn Refusal)
turn_host h left right out = by_join h (after_host (Err BadJoin) h left right out) (λ j. turn_call j left right out)

-- What the node's run leaves, as a call does.
abbrev pub ran_after : Ran → Words → Words → After Made
ran_after r left right = after (record { turns = r.turns; words = r.words; stop = r.stop }) r.join left right r.out

-- A run of at most k turns.
unfoldable pub run_host : HostJoin → ℕ → Words → Words → Words → HostAfter Made
run_host h k left right out = by_join h (after_host refused_run h left right out) (λ j. ran_after (run_call k j left right out) left right)
