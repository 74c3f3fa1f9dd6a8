-- `plancall::plan_rows` meets its contract. Assumes nothing.
use mathlib.Core.Path.{◌≡◌, sym, ◌∙◌}
use mathlib.Core.Bool.{true, false}
use borrow.Author.Tests.{not-true, not-false}
use Rattle.frames.specs.Cells.{Rows, rows_of}
use Rattle.frames.proofs.WordLaws.{rows_length}
use Rattle.order.specs.options.Options.{with_list}
use Rattle.order.specs.Order.{sorted}
use Rattle.planning.specs.Heights.{bad_heights}
use Rattle.planning.proofs.plancall.CallLaws.{unsorted_left, unsorted_right, bad_left_lem, bad_right_lem, walk_in, walked_is}
use borrow.Author.Rules.{rules}
use Rattle.planning.proofs.plancall.plan_rows.Statement.{statement}
use Rattle.planning.proofs.plancall.plan_rows.Tie as tie

-- The rows of both tables.
abbrev lefts : (s : tie.Start) → Rows
lefts s = rows_of s.args.left.width s.args.left.count s.args.left.values.now s.args.left.marks.now

abbrev rights : (s : tie.Start) → Rows
rights s = rows_of s.args.right.width s.args.right.count s.args.right.values.now s.args.right.marks.now

is-sorted-requires : tie.Need-is_sorted-requires
is-sorted-requires c κs = search rules

returns : tie.Need-returns-then-not-is_sorted
returns c =
    let s = c in
    let a = s.args in
    unsorted_left (with_list a.rules.terms a.rules.codes.now a.rules.rising.now) (lefts s.before.before) (rights s.before.before) a.hl.now a.hr.now (sym c.is_sorted.ensures ∙ not-true c.is_sorted.result c.if-not-is_sorted.true-raw)

is-sorted-requires-2 : tie.Need-is_sorted-requires-2
is-sorted-requires-2 c κs = search rules

returns-2 : tie.Need-returns-then-not-is_sorted-2
returns-2 c =
    let s = c in
    let a = s.args in
    unsorted_right (with_list a.rules.terms a.rules.codes.now a.rules.rising.now) (lefts s.before.before.before.before) (rights s.before.before.before.before) a.hl.now a.hr.now (sym c.is_sorted-2.ensures ∙ not-true c.is_sorted-2.result c.if-not-is_sorted-2.true-raw)

-- Both are sorted.
left_sorted : (c : tie.Else-not-is_sorted-2) → let s = c in sorted (with_list s.args.rules.terms s.args.rules.codes.now s.args.rules.rising.now) (lefts s.before.before.before.before) ≡ true
left_sorted c = let e = c in sym e.is_sorted.ensures ∙ not-false e.is_sorted.result e.if-not-is_sorted.false-raw

right_sorted : (c : tie.Else-not-is_sorted-2) → let s = c in sorted (with_list s.args.rules.terms s.args.rules.codes.now s.args.rules.rising.now) (rights s.before.before.before.before) ≡ true
right_sorted c = sym c.is_sorted-2.ensures ∙ not-false c.is_sorted-2.result c.if-not-is_sorted-2.false-raw

fit-heights-requires : tie.Need-fit_heights-requires
fit-heights-requires c κs = search rules

returns-3 : tie.Need-returns-then-not-fit_heights
returns-3 c =
    let e = c in
    let s = e in
    let a = s.args in
    bad_left_lem (with_list a.rules.terms a.rules.codes.now a.rules.rising.now) (lefts s.before.before.before.before.before.before) (rights s.before.before.before.before.before.before) a.hl.now a.hr.now (left_sorted e.before.before) (right_sorted e.before.before) a.left.count a.right.count
    (rows_length a.left.width a.left.count a.left.values.now a.left.marks.now) (rows_length a.right.width a.right.count a.right.values.now a.right.marks.now)
    (not-false (bad_heights a.left.count a.hl.now) (sym c.fit_heights.ensures ∙ not-true c.fit_heights.result c.if-not-fit_heights.true-raw))

fit-heights-requires-2 : tie.Need-fit_heights-requires-2
fit-heights-requires-2 c κs = search rules

returns-4 : tie.Need-returns-then-not-fit_heights-2
returns-4 c =
    let e = c in
    let s = e in
    let a = s.args in
    bad_right_lem (with_list a.rules.terms a.rules.codes.now a.rules.rising.now) (lefts s.before.before.before.before.before.before.before.before) (rights s.before.before.before.before.before.before.before.before) a.hl.now a.hr.now (left_sorted e.before.before.before.before) (right_sorted e.before.before.before.before) a.left.count a.right.count
    (rows_length a.left.width a.left.count a.left.values.now a.left.marks.now) (rows_length a.right.width a.right.count a.right.values.now a.right.marks.now)
    (not-false (bad_heights a.right.count a.hr.now) (sym c.fit_heights-2.ensures ∙ not-true c.fit_heights-2.result c.if-not-fit_heights-2.true-raw))

-- Both have heights that make them.
left_fits : (c : tie.Else-not-fit_heights-2) → let s = c in bad_heights s.args.left.count s.args.hl.now ≡ false
left_fits c =
    let e = c in
    let s = e in
    not-true (bad_heights s.args.left.count s.args.hl.now) (sym e.fit_heights.ensures ∙ not-false e.fit_heights.result e.if-not-fit_heights.false-raw)

right_fits : (c : tie.Else-not-fit_heights-2) → let s = c in bad_heights s.args.right.count s.args.hr.now ≡ false
right_fits c =
    let s = c in
    not-true (bad_heights s.args.right.count s.args.hr.now) (sym c.fit_heights-2.ensures ∙ not-false c.fit_heights-2.result c.if-not-fit_heights-2.false-raw)

walk-frames-requires : tie.Need-walk_frames-requires
walk-frames-requires c κs =
    let e = c in
    let s = e in
    walk_in s.requires.0 s.requires.1 (left_sorted e.before.before.before.before) (right_sorted e.before.before.before.before) s.args.hl.now s.args.hr.now (left_fits c) (right_fits c)

returns-5 : tie.Need-returns
returns-5 c =
    let f = c in
    let e = f in
    let s = e in
    walked_is s.requires.0 s.requires.1 (left_sorted e.before.before.before.before.before) (right_sorted e.before.before.before.before.before) s.args.hl.now s.args.hr.now (left_fits f.before) (right_fits f.before) c.walk_frames.result c.walk_frames.ensures

pub plan_rows_spec : {M : Type 1} → statement M
plan_rows_spec =
    tie.close
    (tie.spec is-sorted-requires returns is-sorted-requires-2 returns-2 fit-heights-requires returns-3 fit-heights-requires-2 returns-4 walk-frames-requires returns-5)
