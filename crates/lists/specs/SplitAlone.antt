-- The order check looks at the held rows and at the split of the prune. The split never faults alone: from a fresh join, refusal 9 comes of unsorted held rows.
-- The statement; its proof stands in proofs/. Assumes nothing.
use Rattle.std.specs.Prelude.{◌≡◌, true, false, not, ◌&&◌, List, ℕ}
use Rattle.frames.specs.Cells.{Rows, Words}
use Rattle.order.specs.options.Options.{refused_options, is_on}
use Rattle.order.specs.Order.{sorted}
use Rattle.order.specs.declared.options.Options.{Options}
use Rattle.order.specs.declared.Row.{Row}
use Rattle.searching.specs.Reach.{bad_split}
use Rattle.node.specs.State.{held_of}
use Rattle.matchframe.specs.turnrows.Prunes.{bad_right}
use Rattle.lists.specs.Lists.{Call, start, final}

module _ (o : Options) (l r : Words) (calls : List Call) where
  -- The rows that the join holds after the calls.
  abbrev pub held_after : Rows
  held_after = held_of (final (start o l r) calls).join (final (start o l r) calls).right

  -- The right row that it remembers.
  abbrev pub remembered_after : Row
  remembered_after = (final (start o l r) calls).join.last_right

-- After any calls from a fresh join, sorted or not. With the check on, sorted held rows are in order at the split of a prune by any row of any frame;
-- so what a turn asks of the right side before it writes is whether the held rows are sorted, and the remembered right row decides no answer.
pub record SplitAlone (o : Options) (l r : Words) (calls : List Call) : Type 0 where
  pub never_alone : is_on o.check ≡ true → sorted o (held_after o l r calls) ≡ true → (i : ℕ) (left : Rows)
      → bad_split o (remembered_after o l r calls) i left (held_after o l r calls) ≡ false
  pub fault_is : (left : Rows) → bad_right o (remembered_after o l r calls) left (held_after o l r calls) ≡ (is_on o.check && not (sorted o (held_after o l r calls)))

-- For all options that are not refused, areas of any length and any words, and lists of calls.
abbrev pub SplitsAlone : Type 0
SplitsAlone = (o : Options) → refused_options o ≡ false → (l r : Words) (calls : List Call) → SplitAlone o l r calls
