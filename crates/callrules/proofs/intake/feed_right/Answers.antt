-- `intake::feed_right` meets its contract. Assumes nothing.
use mathlib.Core.Path.{sym, ◌∙◌}
use Rattle.std.proofs.Common.{arith}
use Rattle.callrules.proofs.FeedLaws.{right_taken, has_count, taken_of}
use Rattle.callrules.proofs.intake.feed_right.Goals as goal

pub right_columns-c-requires : goal.right_columns-c-requires
right_columns-c-requires c =
    let t = right_taken _ _ _ _ _ _ _ _ _ (sym c.judge_right-answer.ensures ∙ taken_of _ c.is_err.ensures.value c.if-is_err.false) in
    let h = c.requires t.unbroken in
    (h.few.by, h.carried)

pub push-to-requires : goal.push-to-requires
push-to-requires c =
    let t = right_taken _ _ _ _ _ _ _ _ _ (sym c.judge_right-answer.ensures ∙ taken_of _ c.is_err.ensures.value c.if-is_err.false) in
    let h = c.requires t.unbroken in
    rw c.right_columns-c.ensures (record { columns = record { some = omega arith; few = omega (arith, h.few.by, h.carried) }; frame = t.frame; within = h.room; room = t.room })

pub row_count-requires : goal.row_count-requires
row_count-requires c =
    let t = right_taken _ _ _ _ _ _ _ _ _ (sym c.judge_right-answer.ensures ∙ taken_of _ c.is_err.ensures.value c.if-is_err.false) in
    has_count _ _ t.frame

pub overflow_add-rows : goal.overflow_add-rows
overflow_add-rows c =
    let t = right_taken _ _ _ _ _ _ _ _ _ (sym c.judge_right-answer.ensures ∙ taken_of _ c.is_err.ensures.value c.if-is_err.false) in
    omega (arith, c.row_count.ensures, t.rows)
