-- `intake::feed_left` meets its contract. Assumes nothing.
use mathlib.Core.Path.{sym, ◌∙◌}
use Rattle.std.proofs.Common.{arith}
use Rattle.callrules.proofs.FeedLaws.{left_taken, taken_of}
use Rattle.callrules.proofs.intake.feed_left.Goals as goal

pub append-to-requires : goal.append-to-requires
append-to-requires c =
    let t = left_taken _ _ _ _ _ _ _ (sym c.judge_left-answer.ensures ∙ taken_of _ c.is_err.ensures.value c.if-is_err.false) in
    record { within = (c.requires t.unbroken).room; room = t.room }

pub overflow_add-waiting : goal.overflow_add-waiting
overflow_add-waiting c =
    let t = left_taken _ _ _ _ _ _ _ (sym c.judge_left-answer.ensures ∙ taken_of _ c.is_err.ensures.value c.if-is_err.false) in
    omega (arith, t.room)
