-- `takewords::judge_tables` meets its contract: each exit is the next test of the definition. Assumes nothing.
use Rattle.std.specs.Prelude.{Ok}
use mathlib.Core.Path.{◌≡◌, sym, ◌∙◌}
use Prim.Native.Nat.{ℕ, suc, ◌+◌}
use native.Mathlib.Omega.{arith}
use borrow.Author.Tests.{eq-eqb, ne_eqb}
use Rattle.std.proofs.lemmas.Result.{err_from_is_err_and}
use Rattle.order.specs.options.Options.{with_list, Few}
use Rattle.order.proofs.options.OptionLaws.{Allowed, allowed_few}
use Rattle.callrules.specs.Judged.{open_answer}
use Rattle.subtotals.specs.takewords.Judged.{tables_judged}
use Rattle.subtotals.proofs.takewords.JudgeLaws.{open_allowed, tables_rest, tables_shut, tables_open}
use Rattle.subtotals.proofs.takewords.judge_tables.Goals.{In_ok-judge_open}
use Rattle.subtotals.proofs.takewords.judge_tables.Goals as goal

pub returns-in_err-judge_open : goal.returns-in_err-judge_open
returns-in_err-judge_open c =
    let p = err_from_is_err_and c.from_residual.result c.from_residual.ensures.1 in
    rw (p.1, p.2) (sym (tables_shut _ _ _ _ (sym c.judge_open.ensures ∙ c.in_err-judge_open.was)))

-- The options are not refused.
opened : (c : In_ok-judge_open) → open_answer (with_list c.args.rules.terms c.args.rules.codes.now c.args.rules.rising.now) ≡ Ok tt
opened c = sym c.judge_open.ensures ∙ c.in_ok-judge_open.was

judged : (c : In_ok-judge_open) → let o = with_list c.args.rules.terms c.args.rules.codes.now c.args.rules.rising.now in
    tables_judged o c.args.table.now c.args.other.now ≡ tables_rest o c.args.table.now c.args.other.now
judged c = tables_open _ _ _ (opened c)

allowed : (c : In_ok-judge_open) → Allowed (with_list c.args.rules.terms c.args.rules.codes.now c.args.rules.rising.now)
allowed c = open_allowed _ (opened c)

few : (c : In_ok-judge_open) → Few (with_list c.args.rules.terms c.args.rules.codes.now c.args.rules.rising.now)
few c = allowed_few _ (allowed c) c.requires.0 c.requires.1

-- The width, as the definitions have it.
width : (b : ℕ) → b + 2 ≡ suc (suc b)
width b = omega arith

pub overflow_add-w : goal.overflow_add-w
overflow_add-w c = omega (arith, (allowed (goal.at.overflow_add-w c).In_ok-judge_open).by)

pub returns-then-not-is_table : goal.returns-then-not-is_table
returns-then-not-is_table c =
    simp (judged (goal.at.returns-then-not-is_table c).In_ok-judge_open, rw (width c.args.rules.terms.by) at (sym c.is_table.ensures ∙ c.if-not-is_table.true))

pub returns-then-not-is_table-2 : goal.returns-then-not-is_table-2
returns-then-not-is_table-2 c =
    simp (
      judged (goal.at.returns-then-not-is_table-2 c).In_ok-judge_open,
      rw (width c.args.rules.terms.by) at (sym c.is_table.ensures ∙ c.if-not-is_table.false),
      rw (width c.args.rules.terms.by) at (sym c.is_table-2.ensures ∙ c.if-not-is_table-2.true),
    )

pub lacks_code-requires : goal.lacks_code-requires
lacks_code-requires c = (few (goal.at.lacks_code-requires c).In_ok-judge_open, omega arith, sym c.is_table.ensures ∙ c.if-not-is_table.false)

pub returns-then-lacks_code : goal.returns-then-lacks_code
returns-then-lacks_code c =
    simp (
      judged (goal.at.returns-then-lacks_code c).In_ok-judge_open,
      rw (width c.args.rules.terms.by) at (sym c.is_table.ensures ∙ c.if-not-is_table.false),
      rw (width c.args.rules.terms.by) at (sym c.is_table-2.ensures ∙ c.if-not-is_table-2.false),
      rw (width c.args.rules.terms.by) at (sym c.lacks_code.ensures ∙ c.if-lacks_code.true),
    )

pub lacks_code-requires-2 : goal.lacks_code-requires-2
lacks_code-requires-2 c = (few (goal.at.lacks_code-requires-2 c).In_ok-judge_open, omega arith, sym c.is_table-2.ensures ∙ c.if-not-is_table-2.false)

pub returns-then-lacks_code-2 : goal.returns-then-lacks_code-2
returns-then-lacks_code-2 c =
    simp (
      judged (goal.at.returns-then-lacks_code-2 c).In_ok-judge_open,
      rw (width c.args.rules.terms.by) at (sym c.is_table.ensures ∙ c.if-not-is_table.false),
      rw (width c.args.rules.terms.by) at (sym c.is_table-2.ensures ∙ c.if-not-is_table-2.false),
      rw (width c.args.rules.terms.by) at (sym c.lacks_code.ensures ∙ c.if-lacks_code.false),
      rw (width c.args.rules.terms.by) at (sym c.lacks_code-2.ensures ∙ c.if-lacks_code-2.true),
    )

pub returns-then-rules-eq0 : goal.returns-then-rules-eq0
returns-then-rules-eq0 c =
    simp (
      judged (goal.at.returns-then-rules-eq0 c).In_ok-judge_open,
      rw (width c.args.rules.terms.by) at (sym c.is_table.ensures ∙ c.if-not-is_table.false),
      rw (width c.args.rules.terms.by) at (sym c.is_table-2.ensures ∙ c.if-not-is_table-2.false),
      rw (width c.args.rules.terms.by) at (sym c.lacks_code.ensures ∙ c.if-lacks_code.false),
      rw (width c.args.rules.terms.by) at (sym c.lacks_code-2.ensures ∙ c.if-lacks_code-2.false),
      eq-eqb _ 0 c.if-rules-eq0.true,
    )

pub returns : goal.returns
returns c =
    simp (
      judged (goal.at.returns c).In_ok-judge_open,
      rw (width c.args.rules.terms.by) at (sym c.is_table.ensures ∙ c.if-not-is_table.false),
      rw (width c.args.rules.terms.by) at (sym c.is_table-2.ensures ∙ c.if-not-is_table-2.false),
      rw (width c.args.rules.terms.by) at (sym c.lacks_code.ensures ∙ c.if-lacks_code.false),
      rw (width c.args.rules.terms.by) at (sym c.lacks_code-2.ensures ∙ c.if-lacks_code-2.false),
      ne_eqb _ 0 c.if-rules-eq0.false,
    )
