-- `takewords::judge_sales` meets its contract. Assumes nothing.
use Rattle.std.specs.Prelude.{Ok}
use mathlib.Core.Path.{◌≡◌, sym, ◌∙◌}
use mathlib.Core.Bool.{true, ◌&&◌}
use Prim.Native.Nat.{ℕ, suc, ◌+◌}
use native.Mathlib.Omega.{arith}
use lib.Dec.{eqb}
use Rattle.frames.specs.Frame.{is_table, is_frame, row_count, frame_rows}
use Rattle.frames.proofs.FrontLaws.{frame_table}
use Rattle.order.specs.options.Options.{with_list, columns, Few}
use Rattle.order.proofs.options.OptionLaws.{Allowed, allowed_few}
use Rattle.order.specs.Listed.{lacks_code}
use Rattle.callrules.specs.Judged.{open_answer}
use Rattle.takings.specs.Calls.{table_width, any_frame}
use Rattle.subtotals.specs.takewords.Judged.{sales_judged}
use Rattle.subtotals.proofs.takewords.JudgeLaws.{open_allowed, sales_rest, sales_shut, sales_open, frames_parts}
use Rattle.std.proofs.lemmas.Result.{err_from_is_err_and}
use Rattle.subtotals.proofs.takewords.judge_sales.Goals.{After-are_frames, After-is_table, After-lacks_code, After-lacks_code-2, Else-not-are_frames, In_ok-judge_open}
use Rattle.subtotals.proofs.takewords.judge_sales.Goals as goal

pub returns-in_err-judge_open : goal.returns-in_err-judge_open
returns-in_err-judge_open c =
    let p = err_from_is_err_and c.from_residual.result c.from_residual.ensures.1 in
    rw (p.1, p.2) (sym (sales_shut _ _ _ _ _ (sym c.judge_open.ensures ∙ c.in_err-judge_open.was)))

-- The options are not refused.
opened : (c : In_ok-judge_open) → let a = c.args in open_answer (with_list a.rules.terms a.rules.codes.now a.rules.rising.now) ≡ Ok tt
opened c = sym c.judge_open.ensures ∙ c.in_ok-judge_open.was

judged : (c : In_ok-judge_open) → let a = c.args in
    sales_judged (with_list a.rules.terms a.rules.codes.now a.rules.rising.now) a.table.now a.left.now a.answer.now ≡ sales_rest (with_list a.rules.terms a.rules.codes.now a.rules.rising.now) a.table.now a.left.now a.answer.now
judged c = sales_open _ _ _ _ (opened c)

allowed : (c : In_ok-judge_open) → let a = c.args in Allowed (with_list a.rules.terms a.rules.codes.now a.rules.rising.now)
allowed c = open_allowed _ (opened c)

few : (c : In_ok-judge_open) → let a = c.args in Few (with_list a.rules.terms a.rules.codes.now a.rules.rising.now)
few c = allowed_few _ (allowed c) c.requires.0 c.requires.1

-- The widths, as the definitions have them.
width : (b : ℕ) → b + 2 ≡ suc (suc b)
width b = omega arith

left-width : (b : ℕ) → b + 1 ≡ suc b
left-width b = omega arith

pub overflow_add-w : goal.overflow_add-w
overflow_add-w c =
    omega (arith, (allowed (goal.at.overflow_add-w c).In_ok-judge_open).by)

pub overflow_add-c : goal.overflow_add-c
overflow_add-c c =
    omega (arith, (allowed (goal.at.overflow_add-c c).In_ok-judge_open).by)

-- What the calls say, by the definitions' names.
table : (c : After-is_table) → let a = c.args in c.is_table.result ≡ is_table (table_width (with_list a.rules.terms a.rules.codes.now a.rules.rising.now)) a.table.now
table c = rw (width c.args.rules.terms.by) at c.is_table.ensures

pub returns-then-not-is_table : goal.returns-then-not-is_table
returns-then-not-is_table c =
    simp (judged (goal.at.returns-then-not-is_table c).In_ok-judge_open, ← table (goal.at.returns-then-not-is_table c).After-is_table, c.if-not-is_table.true)

both : (c : After-are_frames) → let a = c.args in
    c.are_frames.result ≡ (is_frame (columns (with_list a.rules.terms a.rules.codes.now a.rules.rising.now)) a.left.now && any_frame a.answer.now && eqb (row_count a.left.now) (row_count a.answer.now))
both c = rw (left-width c.args.rules.terms.by) at c.are_frames.ensures

pub returns-then-not-are_frames : goal.returns-then-not-are_frames
returns-then-not-are_frames c =
    simp (judged (goal.at.returns-then-not-are_frames c).In_ok-judge_open, ← table (goal.at.returns-then-not-are_frames c).After-is_table, c.if-not-is_table.false, ← both (goal.at.returns-then-not-are_frames c).After-are_frames, c.if-not-are_frames.true)

frame_is : (c : Else-not-are_frames) → let a = c.args in is_frame (a.rules.terms.by + 1) a.left.now ≡ true
frame_is c = let e = sym c.are_frames.ensures ∙ c.if-not-are_frames.false in let a = c.args in (frames_parts (is_frame (a.rules.terms.by + 1) a.left.now) (any_frame a.answer.now) (eqb (row_count a.left.now) (row_count a.answer.now)) e).0

answer_is : (c : Else-not-are_frames) → any_frame c.args.answer.now ≡ true
answer_is c = let e = sym c.are_frames.ensures ∙ c.if-not-are_frames.false in let a = c.args in (frames_parts (is_frame (a.rules.terms.by + 1) a.left.now) (any_frame a.answer.now) (eqb (row_count a.left.now) (row_count a.answer.now)) e).1

pub lacks_code-requires : goal.lacks_code-requires
lacks_code-requires c =
    (few (goal.at.lacks_code-requires c).In_ok-judge_open, omega arith, sym c.is_table.ensures ∙ c.if-not-is_table.false)

first : (c : After-lacks_code) → let a = c.args in c.lacks_code.result ≡ lacks_code (with_list a.rules.terms a.rules.codes.now a.rules.rising.now) (frame_rows (table_width (with_list a.rules.terms a.rules.codes.now a.rules.rising.now)) a.table.now)
first c = rw (width c.args.rules.terms.by) at c.lacks_code.ensures

pub returns-then-lacks_code : goal.returns-then-lacks_code
returns-then-lacks_code c =
    simp (judged (goal.at.returns-then-lacks_code c).In_ok-judge_open, ← table (goal.at.returns-then-lacks_code c).After-is_table, c.if-not-is_table.false, ← both (goal.at.returns-then-lacks_code c).After-are_frames, c.if-not-are_frames.false, ← first (goal.at.returns-then-lacks_code c).After-lacks_code, c.if-lacks_code.true)

pub lacks_code-requires-2 : goal.lacks_code-requires-2
lacks_code-requires-2 c =
    (few (goal.at.lacks_code-requires-2 c).In_ok-judge_open, omega arith, frame_table _ _ (frame_is (goal.at.lacks_code-requires-2 c).Else-not-are_frames))

second : (c : After-lacks_code-2) → let a = c.args in
    c.lacks_code-2.result ≡ lacks_code (with_list a.rules.terms a.rules.codes.now a.rules.rising.now) (frame_rows (columns (with_list a.rules.terms a.rules.codes.now a.rules.rising.now)) a.left.now)
second c = rw (left-width c.args.rules.terms.by) at c.lacks_code-2.ensures

pub returns-then-lacks_code-2 : goal.returns-then-lacks_code-2
returns-then-lacks_code-2 c =
    simp (judged (goal.at.returns-then-lacks_code-2 c).In_ok-judge_open, ← table (goal.at.returns-then-lacks_code-2 c).After-is_table, c.if-not-is_table.false, ← both (goal.at.returns-then-lacks_code-2 c).After-are_frames, c.if-not-are_frames.false, ← first (goal.at.returns-then-lacks_code-2 c).After-lacks_code, c.if-lacks_code.false, ← second (goal.at.returns-then-lacks_code-2 c).After-lacks_code-2, c.if-lacks_code-2.true)

pub is_known-requires : goal.is_known-requires
is_known-requires c =
    (answer_is (goal.at.is_known-requires c).Else-not-are_frames, (allowed (goal.at.is_known-requires c).In_ok-judge_open).carried)

pub returns-then-not-is_known : goal.returns-then-not-is_known
returns-then-not-is_known c =
    simp (judged (goal.at.returns-then-not-is_known c).In_ok-judge_open, ← table (goal.at.returns-then-not-is_known c).After-is_table, c.if-not-is_table.false, ← both (goal.at.returns-then-not-is_known c).After-are_frames, c.if-not-are_frames.false, ← first (goal.at.returns-then-not-is_known c).After-lacks_code, c.if-lacks_code.false, ← second (goal.at.returns-then-not-is_known c).After-lacks_code-2, c.if-lacks_code-2.false, ← c.is_known.ensures, c.if-not-is_known.true)

pub returns : goal.returns
returns c =
    simp (judged (goal.at.returns c).In_ok-judge_open, ← table (goal.at.returns c).After-is_table, c.if-not-is_table.false, ← both (goal.at.returns c).After-are_frames, c.if-not-are_frames.false, ← first (goal.at.returns c).After-lacks_code, c.if-lacks_code.false, ← second (goal.at.returns c).After-lacks_code-2, c.if-lacks_code-2.false, ← c.is_known.ensures, c.if-not-is_known.false)
