use mathlib.Core.Path.{sym, ◌∙◌}
use native.Mathlib.Omega.{arith}
use borrow.Author.Tests.{not-true, not-false}
use Rattle.spans.proofs.CallLaws.{cover_points, cover_short, cover_wrote}
use Rattle.spans.proofs.spancall.cover.Goals as goal

pub returns-then-not-ascending_points : goal.returns-then-not-ascending_points
returns-then-not-ascending_points c =
    let a = c.args in
    cover_points a.b a.points.count a.points.values.now a.points.marks.now a.intervals.count a.intervals.values.now a.intervals.marks.now a.out.now (sym c.ascending_points.ensures ∙ not-true c.ascending_points.result c.if-not-ascending_points.true-raw)

pub returns-then-out-k : goal.returns-then-out-k
returns-then-out-k c =
    let a = c.args in
    cover_short a.b a.points.count a.points.values.now a.points.marks.now a.intervals.count a.intervals.values.now a.intervals.marks.now a.out.now
    (sym c.ascending_points.ensures ∙ not-false c.ascending_points.result c.if-not-ascending_points.false-raw)
    c.count_pairs-k.result c.count_pairs-k.ensures.0 c.if-out-k.true

pub put_pairs-requires : goal.put_pairs-requires
put_pairs-requires c =
    let s = c in
    let n = c.count_pairs-k.ensures.0 in
    record { points = s.requires.0; intervals = s.requires.1; counted = omega (arith, n); room = omega (arith, c.if-out-k.false) }

pub returns : goal.returns
returns c =
    let d = c in
    let a = d.args in
    cover_wrote a.b a.points.count a.points.values.now a.points.marks.now a.intervals.count a.intervals.values.now a.intervals.marks.now a.out.now
    (sym d.ascending_points.ensures ∙ not-false d.ascending_points.result d.if-not-ascending_points.false-raw)
    d.count_pairs-k.result d.count_pairs-k.ensures.0 c.if-out-k.false
    _ _ c.put_pairs.ensures c.put_head.ensures
