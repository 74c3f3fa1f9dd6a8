-- The whole-table theorem of what a host in C does, from its opening on, read off the structs that its calls return. The statement; its proof stands in proofs/. Assumes nothing.
use Rattle.std.specs.Prelude.{◌≡◌, true, cond, List, [], ◌∷◌, ◌++◌, map, ℕ, zero, suc, ◌^◌, ◌≤◌, ◌<◌, eqb, length, take, drop}
use Rattle.frames.specs.Cells.{Rows, Words}
use Rattle.frames.specs.Frame.{row_count, frame_words}
use Rattle.order.specs.options.Options.{columns, right_columns, answer_columns}
use Rattle.order.specs.Order.{sorted}
use Rattle.order.specs.declared.options.Options.{Options}
use Rattle.node.specs.runs.Run.{turn_words}
use Rattle.ffi.specs.hostoptions.HostOptions.{options_of}
use Rattle.ffi.specs.declared.hostoptions.HostOptions.{HostOptions}
use Rattle.hostcalls.specs.Calls.{open_host}
use Rattle.lists.specs.Lists.{Entry, rows_in, matches_in}
use Rattle.lists.specs.WholeTables.{due_over, Each}
use Rattle.hostcalls.specs.hostlists.HostLists.{HostCall, turn, HostEvent, on_left, on_right, on_end, on_ports, on_turn, on_run, HostWorld, host_events, host_final}

-- The host opens a join and lends two areas of any words.
abbrev pub host_start : HostOptions → Words → Words → HostWorld
host_start h l r = record { join = (open_host h).join; left = l; right = r }

-- ---- what a host reads off its calls
-- The frame of a left call that returned refusal 0.
abbrev pub host_left_in : HostEvent → List Words
host_left_in (on_left f t) = cond (eqb t.refusal 0) (f ∷ []) []
host_left_in (on_right f t) = []
host_left_in (on_end t) = []
host_left_in (on_ports l r s t) = []
host_left_in (on_turn t out) = []
host_left_in (on_run t out) = []

-- The frame of a right call that returned refusal 0.
abbrev pub host_right_in : HostEvent → List Words
host_right_in (on_left f t) = []
host_right_in (on_right f t) = cond (eqb t.refusal 0) (f ∷ []) []
host_right_in (on_end t) = []
host_right_in (on_ports l r s t) = []
host_right_in (on_turn t out) = []
host_right_in (on_run t out) = []

-- The outputs of n turns that wrote rows of c columns back to back: each starts behind the words of the one before.
unfoldable pub run_outputs : ℕ → ℕ → Words → List Words
run_outputs c zero out = []
run_outputs c (suc n) out = out ∷ run_outputs c n (drop (turn_words c out) out)

-- What a call wrote, in rows of c columns: a turn that returned answer 0 its output; a run as many as its turns tell.
abbrev pub host_output_in : ℕ → HostEvent → List Words
host_output_in c (on_left f t) = []
host_output_in c (on_right f t) = []
host_output_in c (on_end t) = []
host_output_in c (on_ports l r s t) = []
host_output_in c (on_turn t out) = cond (eqb t.answer 0) (out ∷ []) []
host_output_in c (on_run t out) = run_outputs c t.turns out

-- The accepted left frames, in call order.
unfoldable pub host_lefts : List HostEvent → List Words
host_lefts [] = []
host_lefts (e ∷ es) = host_left_in e ++ host_lefts es

-- The accepted right frames, in call order.
unfoldable pub host_rights : List HostEvent → List Words
host_rights [] = []
host_rights (e ∷ es) = host_right_in e ++ host_rights es

-- The outputs written, in call order.
unfoldable pub host_outputs : ℕ → List HostEvent → List Words
host_outputs c [] = []
host_outputs c (e ∷ es) = host_output_in c e ++ host_outputs c es

-- ---- the theorem
-- For a list of calls that begins with an opening by these numbers; the areas are arbitrary.
module _ (h : HostOptions) (l r : Words) (calls : List HostCall) where
  -- The options that the numbers tell.
  abbrev pub o : Options
  o = options_of h

  -- What the calls returned.
  abbrev pub returned : List HostEvent
  returned = host_events (host_start h l r) calls

  -- The join and the areas as the host has them afterwards.
  abbrev pub has : HostWorld
  has = host_final (host_start h l r) calls

  -- What they wrote.
  abbrev pub wrote : List Words
  wrote = host_outputs (answer_columns o) returned

  -- The accepted left rows.
  abbrev pub left_rows : Rows
  left_rows = rows_in (columns o) (host_lefts returned)

  -- The accepted right rows.
  abbrev pub right_rows : Rows
  right_rows = rows_in (right_columns o) (host_rights returned)

  -- The rows of as many left frames as outputs were written.
  abbrev pub written_rows : Rows
  written_rows = rows_in (columns o) (take (length wrote) (host_lefts returned))

  -- The frames that wait.
  abbrev pub host_waiting : List Words
  host_waiting = drop (length wrote) (host_lefts returned)

  -- The matches written, in call order.
  abbrev pub host_matches : List Entry
  host_matches = matches_in (answer_columns o) wrote

  -- The rows accepted on a side, in one table, are sorted; so on both sides.
  abbrev pub HostDeclared : Type 0
  HostDeclared = (sorted o left_rows ≡ true) × (sorted o right_rows ≡ true)

  -- The matches written are those of the whole-table rule, over all right rows that were accepted.
  abbrev pub HostWholeTable : Type 0
  HostWholeTable = HostDeclared → host_matches ≡ map (due_over o right_rows) written_rows

  -- What further turns return.
  abbrev pub host_further : List Words → List HostEvent
  host_further outs = host_events has (map turn outs)

  -- Where the join says that right has ended and that the node is not done, as many further turns as frames wait, each with output enough, all write, and the
  -- matches are then those of every accepted left row.
  abbrev pub HostRestWritten : Type 0
  HostRestWritten =
      HostDeclared → has.join.right_ended ≡ 1 → has.join.state < 2 → (outs : List Words) → Each (λ f out. frame_words (row_count f) (answer_columns o) ≤ length out) host_waiting outs
      → length (host_lefts returned) < 2 ^ 63
      → (length (host_outputs (answer_columns o) (host_further outs)) ≡ length outs)
      × (host_matches ++ matches_in (answer_columns o) (host_outputs (answer_columns o) (host_further outs)) ≡ map (due_over o right_rows) left_rows)

-- The two.
pub record HostTable (h : HostOptions) (l r : Words) (calls : List HostCall) : Type 0 where
  pub whole_table : HostWholeTable h l r calls
  pub rest_written : HostRestWritten h l r calls

-- Of every opening that returned refusal 0.
abbrev pub HostTables : Type 0
HostTables = (h : HostOptions) → (open_host h).refusal ≡ 0 → (l r : Words) (calls : List HostCall) → HostTable h l r calls
