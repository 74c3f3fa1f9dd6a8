-- One list of calls in numbers, with a port code that cannot be, a run of two turns and a turn: what each call returns and what a host reads off it, by computation.
-- Assumes nothing.
use mathlib.Core.Path.{◌≡◌, refl}
use mathlib.Core.List.{List, [], ◌∷◌, map}
use Prim.Native.Nat.{ℕ}
use lib.IntN.{pos, negsuc}
use lib.ListN.{replicate}
use Rattle.order.proofs.Samples.{row, keys, frame_of}
use Rattle.ffi.specs.codes.Codes.{are_flags, flags_of, flag_codes}
use Rattle.ffi.specs.convert.Convert.{is_join, decode}
use Rattle.ffi.specs.hostoptions.HostOptions.{is_options, decode_options}
use Rattle.ffi.specs.declared.hostoptions.HostOptions.{HostOptions}
use Rattle.ffi.specs.declared.hostoptions.HostRanks.{HostRanks}
use Rattle.node.specs.runs.Run.{run_call}
use Rattle.hostcalls.specs.Calls.{by_join, open_host, left_host, right_host, end_host, ports_host, turn_host, run_host}
use Rattle.lists.specs.Lists.{Entry, entries_of, written_in, matches_in}
use Rattle.lists.proofs.Script.{left_area, right_area, space, speak_all}
use Rattle.hostcalls.specs.hostlists.HostLists.{HostCall, left, right, end, ports, turn, run, HostEvent, on_left, on_right, on_end, on_ports, on_turn, on_run, host_step, host_events, host_final}
use Rattle.hostcalls.specs.hostlists.HostTable.{run_outputs, host_lefts, host_rights, host_outputs, returned, has, host_waiting, host_matches}

-- No list of ranks.
abbrev none_given : HostRanks
none_given = record { given = 0; column = 0; count = 0; codes = replicate 64 (pos 0) }

-- Backward with equality, no by-column, no tolerance, the check on.
abbrev h : HostOptions
h = record {
  by = 0;
  strategy = 0;
  allow_eq = 1;
  tolerance = negsuc 0;
  check = 1;
  descending = 0 ∷ 0 ∷ 0 ∷ 0 ∷ [];
  nulls_last = 0 ∷ 0 ∷ 0 ∷ 0 ∷ [];
  carried = 0;
  ranks = none_given;
  with_distance = 0;
}

-- The numbers of what a call returned, without its join.
abbrev numbers : HostEvent → List ℕ
numbers (on_left f t) = t.refusal ∷ []
numbers (on_right f t) = t.refusal ∷ []
numbers (on_end t) = t.refusal ∷ []
numbers (on_ports l r s t) = t.refusal ∷ t.left ∷ t.right ∷ t.send ∷ []
numbers (on_turn t out) = t.answer ∷ t.refusal ∷ t.sequence ∷ []
numbers (on_run t out) = t.turns ∷ t.words ∷ t.stop ∷ t.refusal ∷ []

abbrev entry : ℕ → ℕ → Entry
entry n m = record { values = pos n ∷ []; marks = pos m ∷ [] }

unfoldable pub calls : List HostCall
calls =
    right (frame_of 1 (keys (10 ∷ 20 ∷ [])))
    ∷ left (frame_of 1 (keys (5 ∷ 15 ∷ [])))
    ∷ left (frame_of 1 (keys (25 ∷ [])))
    ∷ turn (space 9)
    ∷ ports 1 7 1
    ∷ left (pos 1 ∷ pos 2 ∷ pos 5 ∷ pos 1 ∷ [])
    ∷ run 5 (space 9)
    ∷ left (frame_of 1 (keys (30 ∷ [])))
    ∷ end
    ∷ run 5 (space 9)
    ∷ left (frame_of 1 (keys (40 ∷ [])))
    ∷ ports 1 1 1
    ∷ []

pub returns : map numbers (returned h (left_area 20) (right_area 8) calls)
    ≡ (0 ∷ [])
    ∷ (0 ∷ [])
    ∷ (0 ∷ [])
    ∷ (0 ∷ 0 ∷ 0 ∷ [])
    ∷ (2 ∷ 0 ∷ 0 ∷ 0 ∷ [])
    ∷ (5 ∷ [])
    ∷ (0 ∷ 0 ∷ 1 ∷ 0 ∷ [])
    ∷ (0 ∷ [])
    ∷ (0 ∷ [])
    ∷ (2 ∷ 8 ∷ 2 ∷ 0 ∷ [])
    ∷ (0 ∷ [])
    ∷ (0 ∷ 1 ∷ 1 ∷ 1 ∷ [])
    ∷ []
unfolding speak_all calls host_events host_step open_host left_host right_host end_host ports_host turn_host run_host by_join decode is_join decode_options is_options are_flags flags_of flag_codes run_call
returns = refl

-- The four rows that were written, and the frame that waits; the join says that right has ended and that the node runs.
pub reads : (host_matches h (left_area 20) (right_area 8) calls ≡ entry 0 0 ∷ entry 0 1 ∷ entry 1 1 ∷ entry 1 1 ∷ [])
    × (host_waiting h (left_area 20) (right_area 8) calls ≡ frame_of 1 (keys (40 ∷ [])) ∷ [])
    × ((has h (left_area 20) (right_area 8) calls).join.right_ended ≡ 1)
    × ((has h (left_area 20) (right_area 8) calls).join.state ≡ 0)
unfolding speak_all calls host_events host_final host_step open_host left_host right_host end_host ports_host turn_host run_host by_join decode is_join decode_options is_options are_flags flags_of flag_codes run_call host_lefts host_rights host_outputs run_outputs matches_in written_in entries_of
reads = (refl, refl, refl, refl)

-- With a carried column: a run of two turns writes twice 2 + 2 × 2 words, number and price of each, and a host reads both off its output.
abbrev carrying : HostOptions
carrying = record {
  by = 0;
  strategy = 0;
  allow_eq = 1;
  tolerance = negsuc 0;
  check = 1;
  descending = 0 ∷ 0 ∷ 0 ∷ 0 ∷ [];
  nulls_last = 0 ∷ 0 ∷ 0 ∷ 0 ∷ [];
  carried = 1;
  ranks = none_given;
  with_distance = 0;
}

unfoldable pub prices : List HostCall
prices =
    right (frame_of 2 (row (10 ∷ 100 ∷ []) ∷ row (20 ∷ 200 ∷ []) ∷ []))
    ∷ left (frame_of 1 (keys (15 ∷ [])))
    ∷ left (frame_of 1 (keys (25 ∷ [])))
    ∷ end
    ∷ run 5 (space 12)
    ∷ []

pub carries : (map numbers (returned carrying (left_area 20) (right_area 8) prices) ≡ (0 ∷ []) ∷ (0 ∷ []) ∷ (0 ∷ []) ∷ (0 ∷ []) ∷ (2 ∷ 12 ∷ 2 ∷ 0 ∷ []) ∷ [])
    × (host_matches carrying (left_area 20) (right_area 8) prices
    ≡ record { values = map pos (0 ∷ 100 ∷ []); marks = map pos (1 ∷ 1 ∷ []) } ∷ record { values = map pos (1 ∷ 200 ∷ []); marks = map pos (1 ∷ 1 ∷ []) } ∷ [])
unfolding speak_all prices host_events host_final host_step open_host left_host right_host end_host ports_host turn_host run_host by_join decode is_join decode_options is_options are_flags flags_of flag_codes run_call host_lefts host_rights host_outputs run_outputs matches_in written_in entries_of
carries = (refl, refl)
