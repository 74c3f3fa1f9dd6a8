-- `cutcall::judge_words` meets its contract. Assumes nothing.
use Rattle.std.specs.Prelude.{Ok}
use mathlib.Core.Path.{◌≡◌, sym, ◌∙◌}
use native.Mathlib.Omega.{arith}
use Rattle.frames.specs.Frame.{is_table, frame_rows}
use Rattle.frames.proofs.FrontLaws.{frame_table}
use Rattle.order.specs.options.Options.{with_list, Few}
use Rattle.order.proofs.options.OptionLaws.{Allowed, allowed_few}
use Rattle.order.specs.Listed.{lacks_code}
use Rattle.callrules.specs.Judged.{open_answer}
use Rattle.cutting.specs.cutcall.Calls.{side_columns, words_judged}
use Rattle.books.proofs.bookjudge.JudgeLaws.{open_allowed}
use Rattle.cutting.proofs.cutcall.CallLaws.{words_rest, words_shut, words_open, side_wide}
use Rattle.std.proofs.lemmas.Result.{err_from_is_err_and}
use Rattle.cutting.proofs.cutcall.judge_words.Goals.{After-is_table, After-lacks_code, In_ok-judge_open}
use Rattle.cutting.proofs.cutcall.judge_words.Goals as goal

pub returns-in_err-judge_open : goal.returns-in_err-judge_open
returns-in_err-judge_open c =
    let p = err_from_is_err_and c.from_residual.result c.from_residual.ensures.1 in
    rw (p.1, p.2) (sym (words_shut _ _ _ _ _ (sym c.judge_open.ensures ∙ c.in_err-judge_open.was)))

-- The options are not refused.
opened : (c : In_ok-judge_open) → let a = c.args in open_answer (with_list a.rules.terms a.rules.codes.now a.rules.rising.now) ≡ Ok tt
opened c = sym c.judge_open.ensures ∙ c.in_ok-judge_open.was

judged : (c : In_ok-judge_open) → let a = c.args in
    words_judged (with_list a.rules.terms a.rules.codes.now a.rules.rising.now) a.right a.table.now a.boundaries.now ≡ words_rest (with_list a.rules.terms a.rules.codes.now a.rules.rising.now) a.right a.table.now a.boundaries.now
judged c = words_open _ _ _ _ (opened c)

allowed : (c : In_ok-judge_open) → let a = c.args in Allowed (with_list a.rules.terms a.rules.codes.now a.rules.rising.now)
allowed c = open_allowed _ (opened c)

few : (c : In_ok-judge_open) → let a = c.args in Few (with_list a.rules.terms a.rules.codes.now a.rules.rising.now)
few c = allowed_few _ (allowed c) c.requires.0 c.requires.1

pub side_columns-c-requires : goal.side_columns-c-requires
side_columns-c-requires c =
    ((allowed (goal.at.side_columns-c-requires c).In_ok-judge_open).by, (allowed (goal.at.side_columns-c-requires c).In_ok-judge_open).carried)

-- What the calls say, by the definitions' names.
table : (c : After-is_table) → let a = c.args in c.is_table.result ≡ is_table (side_columns (with_list a.rules.terms a.rules.codes.now a.rules.rising.now) a.right) a.table.now
table c = rw c.side_columns-c.ensures at c.is_table.ensures

pub returns-then-not-is_table : goal.returns-then-not-is_table
returns-then-not-is_table c =
    simp (judged (goal.at.returns-then-not-is_table c).In_ok-judge_open, ← table (goal.at.returns-then-not-is_table c).After-is_table, c.if-not-is_table.true)

pub returns-then-not-is_frame : goal.returns-then-not-is_frame
returns-then-not-is_frame c =
    simp (judged (goal.at.returns-then-not-is_frame c).In_ok-judge_open, ← table (goal.at.returns-then-not-is_frame c).After-is_table, c.if-not-is_table.false, ← c.is_frame.ensures, c.if-not-is_frame.true)

pub lacks_code-requires : goal.lacks_code-requires
lacks_code-requires c =
    let a = c.args in
    (few (goal.at.lacks_code-requires c).In_ok-judge_open, omega (arith, c.side_columns-c.ensures, side_wide (with_list a.rules.terms a.rules.codes.now a.rules.rising.now) a.right), sym c.is_table.ensures ∙ c.if-not-is_table.false)

first : (c : After-lacks_code) → let a = c.args in
    c.lacks_code.result ≡ lacks_code (with_list a.rules.terms a.rules.codes.now a.rules.rising.now) (frame_rows (side_columns (with_list a.rules.terms a.rules.codes.now a.rules.rising.now) a.right) a.table.now)
first c = rw c.side_columns-c.ensures at c.lacks_code.ensures

pub returns-then-lacks_code : goal.returns-then-lacks_code
returns-then-lacks_code c =
    simp (judged (goal.at.returns-then-lacks_code c).In_ok-judge_open, ← table (goal.at.returns-then-lacks_code c).After-is_table, c.if-not-is_table.false, ← c.is_frame.ensures, c.if-not-is_frame.false, ← first (goal.at.returns-then-lacks_code c).After-lacks_code, c.if-lacks_code.true)

pub lacks_code-requires-2 : goal.lacks_code-requires-2
lacks_code-requires-2 c =
    (few (goal.at.lacks_code-requires-2 c).In_ok-judge_open, omega arith, frame_table _ _ (sym c.is_frame.ensures ∙ c.if-not-is_frame.false))

pub returns-then-lacks_code-2 : goal.returns-then-lacks_code-2
returns-then-lacks_code-2 c =
    simp (judged (goal.at.returns-then-lacks_code-2 c).In_ok-judge_open, ← table (goal.at.returns-then-lacks_code-2 c).After-is_table, c.if-not-is_table.false, ← c.is_frame.ensures, c.if-not-is_frame.false, ← first (goal.at.returns-then-lacks_code-2 c).After-lacks_code, c.if-lacks_code.false, ← c.lacks_code-2.ensures, c.if-lacks_code-2.true)

pub returns : goal.returns
returns c =
    simp (judged (goal.at.returns c).In_ok-judge_open, ← table (goal.at.returns c).After-is_table, c.if-not-is_table.false, ← c.is_frame.ensures, c.if-not-is_frame.false, ← first (goal.at.returns c).After-lacks_code, c.if-lacks_code.false, ← c.lacks_code-2.ensures, c.if-lacks_code-2.false)
