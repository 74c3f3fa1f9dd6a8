-- What the functions inside the calls answer: whether a turn may look at its queue, and the join without its options and its state, on which a turn works. Assumes nothing.
use Rattle.frames.specs.declared.outcomes.Turn.{Turn}
use Rattle.frames.specs.declared.refusals.Refusal.{Refusal}
use Rattle.std.specs.Prelude.{Result}
use Rattle.frames.specs.Cells.{Words}
use Rattle.callrules.specs.Judged.{ready_judged}
use Rattle.node.specs.declared.turnparts.Part.{Part}
use Rattle.node.specs.State.{join_of, bad_join}
use Rattle.node.specs.declared.Join.{Join}

-- Refusals 2, 3, in Done 4; no waiting frame: Idle. Wrote is that of a turn that goes on.
abbrev pub ready_answer : Join → Words → Words → Result Turn Refusal
ready_answer j left right = ready_judged (bad_join j left right) j.failed j.state j.queue_words j.sequence

-- The join without its options and its state.
abbrev pub part_of : Join → Part
part_of j = record {
  base = j.base;
  held = j.held;
  pruned = j.pruned;
  queue_start = j.queue_start;
  queue_words = j.queue_words;
  right_ended = j.right_ended;
  failed = j.failed;
  sequence = j.sequence;
  last_left = j.last_left;
  last_right = j.last_right;
}

-- The join's options and state, and the rest after a turn.
abbrev pub join_with : Join → Part → Join
join_with j p =
    join_of j.options p.base p.held p.pruned p.queue_start p.queue_words j.state p.right_ended p.failed p.sequence p.last_left p.last_right
