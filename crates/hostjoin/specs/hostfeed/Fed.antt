-- The numbers of a join with what a frame's call changes. Assumes nothing.
use Rattle.std.specs.Prelude.{ℕ}
use Rattle.ffi.specs.declared.convert.HostJoin.{HostJoin}

-- The numbers with another queue, and with other held rows.
abbrev pub queue_in : HostJoin → ℕ → ℕ → HostJoin
queue_in h start words = record {
  layout = h.layout;
  options = h.options;
  rising = h.rising;
  base = h.base;
  held = h.held;
  pruned = h.pruned;
  queue_start = start;
  queue_words = words;
  state = h.state;
  right_ended = h.right_ended;
  failed = h.failed;
  sequence = h.sequence;
  last_left = h.last_left;
  last_right = h.last_right;
}

abbrev pub held_in : HostJoin → ℕ → ℕ → HostJoin
held_in h base held = record {
  layout = h.layout;
  options = h.options;
  rising = h.rising;
  base = base;
  held = held;
  pruned = h.pruned;
  queue_start = h.queue_start;
  queue_words = h.queue_words;
  state = h.state;
  right_ended = h.right_ended;
  failed = h.failed;
  sequence = h.sequence;
  last_left = h.last_left;
  last_right = h.last_right;
}
