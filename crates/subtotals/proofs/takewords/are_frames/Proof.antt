-- `takewords::are_frames` meets its contract. Assumes nothing.
use mathlib.Core.Path.{◌≡◌, sym, ◌∙◌}
use mathlib.Core.Bool.{true}
use borrow.Author.Tests.{not-true, not-false}
use lib.Dec.{eqb}
use Rattle.frames.specs.Frame.{is_frame, row_count}
use Rattle.frames.proofs.FrontLaws.{frame_count}
use Rattle.takings.specs.Calls.{any_frame}
use Rattle.subtotals.proofs.takewords.JudgeLaws.{frames_first, frames_second, frames_last}
use borrow.Author.Rules.{rules}
use Rattle.subtotals.proofs.takewords.are_frames.Statement.{statement}
use Rattle.subtotals.proofs.takewords.are_frames.Tie as tie

is-frame-requires : tie.Need-is_frame-requires
is-frame-requires c κs = search rules

returns : tie.Need-returns-then-not-is_frame
returns c = let a = c.args in frames_first (is_frame a.c a.left.now) (any_frame a.answer.now) (eqb (row_count a.left.now) (row_count a.answer.now)) (sym c.is_frame.ensures ∙ not-true c.is_frame.result c.if-not-is_frame.true-raw)

is-any-frame-requires : tie.Need-is_any_frame-requires
is-any-frame-requires c κs = search rules

first : (c : tie.Else-not-is_frame) → let a = c.args in is_frame a.c a.left.now ≡ true
first c = sym c.is_frame.ensures ∙ not-false c.is_frame.result c.if-not-is_frame.false-raw

returns-2 : tie.Need-returns-then-not-is_any_frame
returns-2 c =
    let e = c in
    let a = e.args in
    frames_second (is_frame a.c a.left.now) (any_frame a.answer.now) (eqb (row_count a.left.now) (row_count a.answer.now)) (first e.before.before) (sym c.is_any_frame.ensures ∙ not-true c.is_any_frame.result c.if-not-is_any_frame.true-raw)

second : (c : tie.Else-not-is_any_frame) → any_frame c.args.answer.now ≡ true
second c = sym c.is_any_frame.ensures ∙ not-false c.is_any_frame.result c.if-not-is_any_frame.false-raw

row-count-requires : tie.Need-row_count-requires
row-count-requires c κs = frame_count _ _ (first c.before.before)

row-count-requires-2 : tie.Need-row_count-requires-2
row-count-requires-2 c κs = frame_count _ _ (second c.before)

returns-3 : tie.Need-returns
returns-3 c =
    let f = c in
    let e = f in
    let a = e.args in
    frames_last (is_frame a.c a.left.now) (any_frame a.answer.now) (eqb (row_count a.left.now) (row_count a.answer.now)) _ (first e.before.before.before.before) (second f.before.before) (rw (c.row_count.ensures, c.row_count-2.ensures))

pub are_frames_spec : {M : Type 1} → statement M
are_frames_spec =
    tie.close
    (tie.spec is-frame-requires returns is-any-frame-requires returns-2 row-count-requires row-count-requires-2 returns-3)
