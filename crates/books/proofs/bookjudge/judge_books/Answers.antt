-- `bookjudge::judge_books` meets its contract. Assumes nothing.
use Rattle.std.specs.Prelude.{Ok}
use mathlib.Core.Path.{◌≡◌, sym, ◌∙◌}
use native.Mathlib.Omega.{arith}
use Rattle.frames.specs.Frame.{is_table, frame_rows}
use Rattle.order.specs.options.Options.{with_list, right_columns, Few}
use Rattle.order.proofs.options.OptionLaws.{Allowed, allowed_few}
use Rattle.order.specs.Listed.{lacks_code}
use Rattle.callrules.specs.Judged.{open_answer}
use Rattle.books.specs.bookjudge.Judged.{books_judged}
use Rattle.books.proofs.bookjudge.JudgeLaws.{open_allowed, books_rest, books_shut, books_open}
use Rattle.std.proofs.lemmas.Result.{err_from_is_err_and}
use Rattle.books.proofs.bookjudge.judge_books.Goals.{After-is_table, After-is_table-2, After-lacks_code, After-lacks_code-2, In_ok-judge_open}
use Rattle.books.proofs.bookjudge.judge_books.Goals as goal

pub returns-in_err-judge_open : goal.returns-in_err-judge_open
returns-in_err-judge_open c =
    let p = err_from_is_err_and c.from_residual.result c.from_residual.ensures.1 in
    rw (p.1, p.2) (sym (books_shut _ _ _ _ (sym c.judge_open.ensures ∙ c.in_err-judge_open.was)))

-- The options are not refused.
opened : (c : In_ok-judge_open) → let a = c.args in open_answer (with_list a.rules.terms a.rules.codes.now a.rules.rising.now) ≡ Ok tt
opened c = sym c.judge_open.ensures ∙ c.in_ok-judge_open.was

judged : (c : In_ok-judge_open) → let a = c.args in
    books_judged (with_list a.rules.terms a.rules.codes.now a.rules.rising.now) a.house.now a.festival.now ≡ books_rest (with_list a.rules.terms a.rules.codes.now a.rules.rising.now) a.house.now a.festival.now
judged c = books_open _ _ _ (opened c)

allowed : (c : In_ok-judge_open) → let a = c.args in Allowed (with_list a.rules.terms a.rules.codes.now a.rules.rising.now)
allowed c = open_allowed _ (opened c)

few : (c : In_ok-judge_open) → let a = c.args in Few (with_list a.rules.terms a.rules.codes.now a.rules.rising.now)
few c = allowed_few _ (allowed c) c.requires.0 c.requires.1

pub right_columns-c-requires : goal.right_columns-c-requires
right_columns-c-requires c =
    ((allowed (goal.at.right_columns-c-requires c).In_ok-judge_open).by, (allowed (goal.at.right_columns-c-requires c).In_ok-judge_open).carried)

-- What the calls say, by the definitions' names.
house : (c : After-is_table) → let a = c.args in c.is_table.result ≡ is_table (right_columns (with_list a.rules.terms a.rules.codes.now a.rules.rising.now)) a.house.now
house c = rw c.right_columns-c.ensures at c.is_table.ensures

pub returns-then-not-is_table : goal.returns-then-not-is_table
returns-then-not-is_table c =
    simp (judged (goal.at.returns-then-not-is_table c).In_ok-judge_open, ← house (goal.at.returns-then-not-is_table c).After-is_table, c.if-not-is_table.true)

festival : (c : After-is_table-2) → let a = c.args in c.is_table-2.result ≡ is_table (right_columns (with_list a.rules.terms a.rules.codes.now a.rules.rising.now)) a.festival.now
festival c = rw c.right_columns-c.ensures at c.is_table-2.ensures

pub returns-then-not-is_table-2 : goal.returns-then-not-is_table-2
returns-then-not-is_table-2 c =
    simp (judged (goal.at.returns-then-not-is_table-2 c).In_ok-judge_open, ← house (goal.at.returns-then-not-is_table-2 c).After-is_table, c.if-not-is_table.false, ← festival (goal.at.returns-then-not-is_table-2 c).After-is_table-2, c.if-not-is_table-2.true)

pub lacks_code-requires : goal.lacks_code-requires
lacks_code-requires c =
    (few (goal.at.lacks_code-requires c).In_ok-judge_open, omega (arith, c.right_columns-c.ensures), sym c.is_table.ensures ∙ c.if-not-is_table.false)

first : (c : After-lacks_code) → let a = c.args in
    c.lacks_code.result ≡ lacks_code (with_list a.rules.terms a.rules.codes.now a.rules.rising.now) (frame_rows (right_columns (with_list a.rules.terms a.rules.codes.now a.rules.rising.now)) a.house.now)
first c = rw c.right_columns-c.ensures at c.lacks_code.ensures

pub returns-then-lacks_code : goal.returns-then-lacks_code
returns-then-lacks_code c =
    simp (judged (goal.at.returns-then-lacks_code c).In_ok-judge_open, ← house (goal.at.returns-then-lacks_code c).After-is_table, c.if-not-is_table.false, ← festival (goal.at.returns-then-lacks_code c).After-is_table-2, c.if-not-is_table-2.false, ← first (goal.at.returns-then-lacks_code c).After-lacks_code, c.if-lacks_code.true)

pub lacks_code-requires-2 : goal.lacks_code-requires-2
lacks_code-requires-2 c =
    (few (goal.at.lacks_code-requires-2 c).In_ok-judge_open, omega (arith, c.right_columns-c.ensures), sym c.is_table-2.ensures ∙ c.if-not-is_table-2.false)

second : (c : After-lacks_code-2) → let a = c.args in
    c.lacks_code-2.result ≡ lacks_code (with_list a.rules.terms a.rules.codes.now a.rules.rising.now) (frame_rows (right_columns (with_list a.rules.terms a.rules.codes.now a.rules.rising.now)) a.festival.now)
second c = rw c.right_columns-c.ensures at c.lacks_code-2.ensures

pub returns-then-lacks_code-2 : goal.returns-then-lacks_code-2
returns-then-lacks_code-2 c =
    simp (judged (goal.at.returns-then-lacks_code-2 c).In_ok-judge_open, ← house (goal.at.returns-then-lacks_code-2 c).After-is_table, c.if-not-is_table.false, ← festival (goal.at.returns-then-lacks_code-2 c).After-is_table-2, c.if-not-is_table-2.false, ← first (goal.at.returns-then-lacks_code-2 c).After-lacks_code, c.if-lacks_code.false, ← second (goal.at.returns-then-lacks_code-2 c).After-lacks_code-2, c.if-lacks_code-2.true)

pub returns : goal.returns
returns c =
    simp (judged (goal.at.returns c).In_ok-judge_open, ← house (goal.at.returns c).After-is_table, c.if-not-is_table.false, ← festival (goal.at.returns c).After-is_table-2, c.if-not-is_table-2.false, ← first (goal.at.returns c).After-lacks_code, c.if-lacks_code.false, ← second (goal.at.returns c).After-lacks_code-2, c.if-lacks_code-2.false)
