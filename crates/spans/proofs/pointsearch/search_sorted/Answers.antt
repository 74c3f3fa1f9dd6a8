use native.Mathlib.Omega.{arith}
use mir.Facts.{to_z-of_z}
use Rattle.frames.specs.Cells.{value, rows_of}
use Rattle.order.specs.options.Options.{key_rule}
use Rattle.frames.proofs.WordLaws.{rows_length}
use Rattle.searching.proofs.Bounds.{find_within}
use Rattle.order.proofs.ranks.KeptLaws.{none_indexed}
use borrow.Author.Rules.{rules}
use Rattle.spans.proofs.pointsearch.search_sorted.Goals as goal

pub find-requires : goal.find-requires
find-requires c = (none_indexed, search rules)

pub returns : goal.returns
returns c =
    let s = c in
    let a = s.args in
    let e = rw (to_z-of_z s.ranges.v) at (c.find.ensures a.points.count (omega arith)) in
    (rw (rows_length 1 a.points.count a.points.values.now a.points.marks.now) e, rw e (find_within a.seek key_rule 0 (value a.v) (rows_of 1 a.points.count a.points.values.now a.points.marks.now) 0 a.points.count (omega arith)).1)
