-- The numbers of a join with the part that a turn leaves. Assumes nothing.
use Rattle.node.specs.declared.turnparts.Part.{Part}
use Rattle.ffi.specs.codes.Codes.{flag_code}
use Rattle.ffi.specs.convert.Convert.{encode_row}
use Rattle.ffi.specs.declared.convert.HostJoin.{HostJoin}

-- Layout, options, places of codes and state are those that came.
abbrev pub part_in : HostJoin → Part → HostJoin
part_in h p = record {
  layout = h.layout;
  options = h.options;
  rising = h.rising;
  base = p.base;
  held = p.held;
  pruned = p.pruned;
  queue_start = p.queue_start;
  queue_words = p.queue_words;
  state = h.state;
  right_ended = flag_code p.right_ended;
  failed = flag_code p.failed;
  sequence = p.sequence;
  last_left = encode_row p.last_left;
  last_right = encode_row p.last_right;
}
