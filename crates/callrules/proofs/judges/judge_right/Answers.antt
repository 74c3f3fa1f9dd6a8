-- `judges::judge_right` meets its contract. Assumes nothing.
use mathlib.Core.Path.{sym, ◌∙◌}
use Rattle.std.proofs.Common.{◌≡◌, arith, Bool, ℕ}
use Rattle.std.specs.Prelude.{Result, Ok}
use borrow.Author.Tests.{not-false}
use Rattle.std.proofs.lemmas.Result.{err_from_is_err_and}
use Rattle.frames.specs.Cells.{Words}
use Rattle.frames.specs.declared.outcomes.NodeState.{NodeState}
use Rattle.frames.specs.declared.refusals.Refusal.{Refusal}
use Rattle.frames.proofs.FrontLaws.{frame_table}
use Rattle.order.specs.declared.options.Options.{Options}
use Rattle.callrules.specs.Judged.{end_judged, right_judged}
use Rattle.callrules.proofs.FeedLaws.{right_rest, end_taken, right_shut, right_open, has_count}
use Rattle.callrules.proofs.judges.judge_right.Goals as goal

-- Where right is open, a right frame is judged by the rest of its tests.
rest : (bad failed ended : Bool) (state : NodeState) (o : Options) (held pruned : ℕ) (right f : Words) (r : Result Unit Refusal)
    → end_judged bad failed ended state ≡ Ok tt → r ≡ right_rest o held pruned right f → r ≡ right_judged bad failed ended state o held pruned right f
rest bad failed ended state o held pruned right f r taken e = e ∙ sym (right_open bad failed ended state o held pruned right f taken)

pub returns-in_err-judge_end : goal.returns-in_err-judge_end
returns-in_err-judge_end c =
    let p = err_from_is_err_and c.from_residual.result c.from_residual.ensures.1 in
    rw (p.1, p.2) (sym (right_shut _ _ _ _ _ _ _ _ _ _ (sym c.judge_end.ensures ∙ c.in_err-judge_end.was)))

pub right_columns-c-requires : goal.right_columns-c-requires
right_columns-c-requires c =
    let h = c.requires (end_taken _ _ _ _ (sym c.judge_end.ensures ∙ c.in_ok-judge_end.was)).unbroken in
    (h.0.by, h.1)

pub returns-then-not-is_frame : goal.returns-then-not-is_frame
returns-then-not-is_frame c =
    let frame = rw c.right_columns-c.ensures at c.is_frame.ensures in
    rest _ _ _ _ _ _ _ _ _ _ (sym c.judge_end.ensures ∙ c.in_ok-judge_end.was) (simp (← frame, c.if-not-is_frame.true-raw))

pub lacks_code-requires : goal.lacks_code-requires
lacks_code-requires c =
    let h = c.requires (end_taken _ _ _ _ (sym c.judge_end.ensures ∙ c.in_ok-judge_end.was)).unbroken in
    (h.0, omega (arith, c.right_columns-c.ensures), frame_table _ _ (sym c.is_frame.ensures ∙ not-false c.is_frame.result c.if-not-is_frame.false-raw))

pub returns-then-lacks_code : goal.returns-then-lacks_code
returns-then-lacks_code c =
    let frame = rw c.right_columns-c.ensures at c.is_frame.ensures in
    let codes = rw c.right_columns-c.ensures at c.lacks_code.ensures in
    rest _ _ _ _ _ _ _ _ _ _ (sym c.judge_end.ensures ∙ c.in_ok-judge_end.was) (simp (← frame, c.if-not-is_frame.false-raw, ← codes, c.if-lacks_code.true))

pub row_count-n-requires : goal.row_count-n-requires
row_count-n-requires c = has_count _ _ (sym c.is_frame.ensures ∙ not-false c.is_frame.result c.if-not-is_frame.false-raw)

pub overflow_mul-c : goal.overflow_mul-c
overflow_mul-c c =
    let h = c.requires (end_taken _ _ _ _ (sym c.judge_end.ensures ∙ c.in_ok-judge_end.was)).unbroken in
    omega (arith, c.right_columns-c.ensures, h.0.by, h.1)

pub returns-then-above : goal.returns-then-above
returns-then-above c =
    let frame = rw c.right_columns-c.ensures at c.is_frame.ensures in
    let codes = rw c.right_columns-c.ensures at c.lacks_code.ensures in
    let room = rw (c.right_columns-c.ensures, c.row_count-n.ensures) at c.above.ensures in
    rest _ _ _ _ _ _ _ _ _ _ (sym c.judge_end.ensures ∙ c.in_ok-judge_end.was)
    (simp (← frame, c.if-not-is_frame.false-raw, ← codes, c.if-lacks_code.false, ← room, c.if-above.true))

pub overflow_add-pruned : goal.overflow_add-pruned
overflow_add-pruned c =
    let h = c.requires (end_taken _ _ _ _ (sym c.judge_end.ensures ∙ c.in_ok-judge_end.was)).unbroken in
    omega (arith, h.2)

pub returns-then-above-2 : goal.returns-then-above-2
returns-then-above-2 c =
    let frame = rw c.right_columns-c.ensures at c.is_frame.ensures in
    let codes = rw c.right_columns-c.ensures at c.lacks_code.ensures in
    let room = rw (c.right_columns-c.ensures, c.row_count-n.ensures) at c.above.ensures in
    let numbers = rw c.row_count-n.ensures at c.above-2.ensures in
    rest _ _ _ _ _ _ _ _ _ _ (sym c.judge_end.ensures ∙ c.in_ok-judge_end.was)
    (simp (← frame, c.if-not-is_frame.false-raw, ← codes, c.if-lacks_code.false, ← room, c.if-above.false, ← numbers, c.if-above-2.true))

pub returns : goal.returns
returns c =
    let frame = rw c.right_columns-c.ensures at c.is_frame.ensures in
    let codes = rw c.right_columns-c.ensures at c.lacks_code.ensures in
    let room = rw (c.right_columns-c.ensures, c.row_count-n.ensures) at c.above.ensures in
    let numbers = rw c.row_count-n.ensures at c.above-2.ensures in
    rest _ _ _ _ _ _ _ _ _ _ (sym c.judge_end.ensures ∙ c.in_ok-judge_end.was)
    (simp (← frame, c.if-not-is_frame.false-raw, ← codes, c.if-lacks_code.false, ← room, c.if-above.false, ← numbers, c.if-above-2.false))
