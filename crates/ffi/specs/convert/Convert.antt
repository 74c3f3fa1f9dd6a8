-- A join as a host keeps it, in numbers alone; which join it is, and which numbers are no join. Assumes nothing.
use Rattle.std.specs.Prelude.{◌≡◌, Bool, cond, ◌&&◌, ℕ, ◌<◌, eqb, Option, None, Some}
use Rattle.order.specs.declared.options.Options.{Options}
use Rattle.order.specs.declared.Row.{Row}
use Rattle.frames.specs.outcomes.Answers.{state_code}
use Rattle.node.specs.declared.Join.{Join}
use Rattle.ffi.specs.codes.Codes.{is_flag, flag_of, flag_code, is_code, state_of}
use Rattle.ffi.specs.hostoptions.HostOptions.{is_options, kept_ranks, given_ranks, options_with, encode_ranks, encode_options, decode_options}
use Rattle.ffi.specs.declared.hostoptions.HostOptions.{HostOptions}
use Rattle.ffi.specs.declared.convert.HostRow.{HostRow}
use Rattle.ffi.specs.declared.convert.HostJoin.{HostJoin}

-- ---- a remembered row
-- Its flag says whether a row is remembered; its words are the row's own.
abbrev pub row_of : HostRow → Row
row_of h = record { some = flag_of h.some; values = h.values; marks = h.marks }

-- The numbers of a remembered row.
abbrev pub encode_row : Row → HostRow
encode_row r = record { some = flag_code r.some; values = r.values; marks = r.marks }

-- ---- the join
-- The first word of a join: the bytes "rowkeep", then the layout's version. Joins of another layout have another first word (SCOPE 16.5).
abbrev pub layout_now : ℕ
layout_now = 0x726f_776b_6565_7004

-- A join that the library could have written: this layout, one of the three states, and flags that are 0 or 1.
unfoldable pub is_join : HostJoin → Bool
is_join h =
    eqb h.layout layout_now
    && ((is_options h.options && is_code h.state)
    && ((is_flag h.right_ended && is_flag h.failed) && (is_flag h.last_left.some && is_flag h.last_right.some)))

-- The join that such numbers tell.
abbrev pub join_of : HostJoin → Join
join_of h = record {
  options = options_with h.options (kept_ranks h.options.ranks h.rising);
  base = h.base;
  held = h.held;
  pruned = h.pruned;
  queue_start = h.queue_start;
  queue_words = h.queue_words;
  state = state_of h.state;
  right_ended = flag_of h.right_ended;
  failed = flag_of h.failed;
  sequence = h.sequence;
  last_left = row_of h.last_left;
  last_right = row_of h.last_right;
}

-- The numbers of a join.
abbrev pub encode : Join → HostJoin
encode j = record {
  layout = layout_now;
  options = encode_options j.options;
  rising = j.options.ranks.rising;
  base = j.base;
  held = j.held;
  pruned = j.pruned;
  queue_start = j.queue_start;
  queue_words = j.queue_words;
  state = state_code j.state;
  right_ended = flag_code j.right_ended;
  failed = flag_code j.failed;
  sequence = j.sequence;
  last_left = encode_row j.last_left;
  last_right = encode_row j.last_right;
}

-- Numbers that no join encodes are none.
unfoldable pub decode : HostJoin → Option Join
decode h = cond (is_join h) (Some (join_of h)) None

-- ---- there and back
-- What the library writes is read as what it was (a strategy is a byte in every join that runs; options alone do not tell a list's places in
-- rising order, which are found anew); what is read came from exactly these numbers,
-- so a call that changes no field hands back the words that came.
pub record ThereAndBack : Type 0 where
  pub options_back : (o : Options) → o.strategy < 256 → given_ranks (encode_ranks o.ranks) ≡ o.ranks → decode_options (encode_options o) ≡ Some o
  pub options_there : (h : HostOptions) (o : Options) → decode_options h ≡ Some o → encode_options o ≡ h
  pub join_back : (j : Join) → j.options.strategy < 256 → decode (encode j) ≡ Some j
  pub join_there : (h : HostJoin) (j : Join) → decode h ≡ Some j → encode j ≡ h
