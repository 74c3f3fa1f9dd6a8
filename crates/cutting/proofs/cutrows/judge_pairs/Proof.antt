-- `cutrows::judge_pairs` meets its contract. Assumes nothing.
use mathlib.Core.Path.{◌≡◌, sym, ◌∙◌}
use mathlib.Core.Bool.{true, false}
use borrow.Author.Tests.{not-true, not-false}
use Rattle.frames.specs.Cells.{Rows, rows_of}
use Rattle.frames.proofs.WordLaws.{rows_length}
use Rattle.order.specs.options.Options.{with_list}
use Rattle.order.specs.declared.options.Options.{Options}
use Rattle.order.specs.Order.{sorted}
use Rattle.cutting.specs.boundaries.Boundaries.{bad_boundaries}
use Rattle.cutting.specs.cutpairs.Cut.{Pair}
use Rattle.cutting.specs.cutroom.Requires.{pair_in}
use Rattle.cutting.proofs.cutrows.RowsLaws.{unsorted_left, unsorted_right, bad, no_output, no_area, written, cuts_in}
use borrow.Author.Rules.{rules}
use Rattle.cutting.proofs.cutrows.judge_pairs.Statement.{statement}
use Rattle.cutting.proofs.cutrows.judge_pairs.Tie as tie

-- The options with their list, both tables, and the boundaries.
abbrev whole : tie.Start → Options
whole s = with_list s.args.rules.terms s.args.rules.codes.now s.args.rules.rising.now

abbrev tables : tie.Start → Pair
tables s = pair_in s.args.left.width s.args.left.count s.args.left.values.now s.args.left.marks.now s.args.right.width s.args.right.count s.args.right.values.now s.args.right.marks.now

abbrev groups : tie.Start → Rows
groups s = rows_of s.args.rules.terms.by s.args.bounds.count s.args.bounds.values.now s.args.bounds.marks.now

is-sorted-requires : tie.Need-is_sorted-requires
is-sorted-requires c κs = c.requires.left

returns : tie.Need-returns-then-not-is_sorted
returns c =
    let s = c in
    unsorted_left (whole s.before.before) (tables s.before.before) (groups s.before.before) _ _ _ (sym c.is_sorted.ensures ∙ not-true c.is_sorted.result c.if-not-is_sorted.true-raw)

is-sorted-requires-2 : tie.Need-is_sorted-requires-2
is-sorted-requires-2 c κs = c.requires.right

returns-2 : tie.Need-returns-then-not-is_sorted-2
returns-2 c =
    let s = c in
    unsorted_right (whole s.before.before.before.before) (tables s.before.before.before.before) (groups s.before.before.before.before) _ _ _ (sym c.is_sorted-2.ensures ∙ not-true c.is_sorted-2.result c.if-not-is_sorted-2.true-raw)

-- Both are sorted.
left_sorted : (c : tie.Else-not-is_sorted-2) → let s = c in sorted (whole s.before.before.before.before) (tables s.before.before.before.before).left ≡ true
left_sorted c = let e = c in sym e.is_sorted.ensures ∙ not-false e.is_sorted.result e.if-not-is_sorted.false-raw

right_sorted : (c : tie.Else-not-is_sorted-2) → let s = c in sorted (whole s.before.before.before.before) (tables s.before.before.before.before).right ≡ true
right_sorted c = sym c.is_sorted-2.ensures ∙ not-false c.is_sorted-2.result c.if-not-is_sorted-2.false-raw

bad-boundaries-requires : tie.Need-bad_boundaries-requires
bad-boundaries-requires c κs = c.requires.groups

returns-3 : tie.Need-returns-then-bad_boundaries
returns-3 c =
    let e = c in
    let s = e in
    bad (whole s.before.before.before.before.before.before) (tables s.before.before.before.before.before.before) (groups s.before.before.before.before.before.before) _ _ _ (left_sorted e.before.before) (right_sorted e.before.before) (sym c.bad_boundaries.ensures ∙ c.if-bad_boundaries.true)

-- The boundaries are good.
good : (c : tie.Else-bad_boundaries) → let s = c in bad_boundaries (whole s.before.before.before.before.before.before) (groups s.before.before.before.before.before.before) ≡ false
good c = sym c.bad_boundaries.ensures ∙ c.if-bad_boundaries.false

answer-columns-requires : tie.Need-answer_columns-requires
answer-columns-requires c κs = c.requires.carried

has-room-requires : tie.Need-has_room-requires
has-room-requires c κs = search rules

returns-4 : tie.Need-returns-then-not-has_room
returns-4 c =
    let h = c in
    let g = h in
    let e = g in
    let s = e in
    let a = s.args in
    no_output (whole s.before.before.before.before.before.before.before.before.before.before) (tables s.before.before.before.before.before.before.before.before.before.before) (groups s.before.before.before.before.before.before.before.before.before.before) _ _ _ (left_sorted e.before.before.before.before.before.before) (right_sorted e.before.before.before.before.before.before) (good g.before.before.before.before) a.left.count h.answer_columns.result (sym (rows_length a.left.width a.left.count a.left.values.now a.left.marks.now)) h.answer_columns.ensures
    (sym h.has_room.ensures ∙ not-true h.has_room.result c.if-not-has_room.true-raw)

any-short-requires : tie.Need-any_short-requires
any-short-requires c κs =
    let e = c in
    let s = e in
    cuts_in _ _ _ _ _ _ _ _ _ _ _ _ s.requires (left_sorted e.before.before.before.before.before.before) (right_sorted e.before.before.before.before.before.before)

returns-5 : tie.Need-returns-then-any_short
returns-5 c =
    let t = c in
    let h = t in
    let g = h in
    let e = g in
    let s = e in
    let a = s.args in
    no_area (whole s.before.before.before.before.before.before.before.before.before.before.before.before) (tables s.before.before.before.before.before.before.before.before.before.before.before.before) (groups s.before.before.before.before.before.before.before.before.before.before.before.before) _ _ _ (left_sorted e.before.before.before.before.before.before.before.before) (right_sorted e.before.before.before.before.before.before.before.before) (good g.before.before.before.before.before.before) a.left.count h.answer_columns.result (sym (rows_length a.left.width a.left.count a.left.values.now a.left.marks.now)) h.answer_columns.ensures
    (sym t.any_short.ensures ∙ c.if-any_short.true)

returns-6 : tie.Need-returns
returns-6 c =
    let t = c in
    let r = t in
    let h = r in
    let g = h in
    let e = g in
    let s = e in
    let a = s.args in
    written (whole s.before.before.before.before.before.before.before.before.before.before.before.before) (tables s.before.before.before.before.before.before.before.before.before.before.before.before) (groups s.before.before.before.before.before.before.before.before.before.before.before.before) _ _ _ (left_sorted e.before.before.before.before.before.before.before.before) (right_sorted e.before.before.before.before.before.before.before.before) (good g.before.before.before.before.before.before) a.left.count h.answer_columns.result (sym (rows_length a.left.width a.left.count a.left.values.now a.left.marks.now)) h.answer_columns.ensures
    (sym h.has_room.ensures ∙ not-false h.has_room.result r.if-not-has_room.false-raw) (sym t.any_short.ensures ∙ c.if-any_short.false)

pub judge_pairs_spec : {M : Type 1} → statement M
judge_pairs_spec =
    tie.close
    (tie.spec is-sorted-requires returns is-sorted-requires-2 returns-2 bad-boundaries-requires returns-3 answer-columns-requires has-room-requires returns-4 any-short-requires returns-5 returns-6)
