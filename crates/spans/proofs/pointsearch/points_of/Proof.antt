use Rattle.frames.specs.Cells.{value, rows_of}
use Rattle.spans.specs.Port.{seek_lower, seek_upper, search_sorted}
use mathlib.Core.Path.{◌≡◌, sym, ◌∙◌}
use Prim.Native.Nat.{◌+◌}
use lib.IntN.{pos}
use lib.ListN.{get_or}
use Rattle.order.specs.Requires.{cell_at}
use Rattle.frames.proofs.Signed.{back}
use Rattle.spans.proofs.WalkLaws.{present, matched_no_start, matched_no_end, matched_some, matched_none}
use borrow.Author.Rules.{rules}
use Rattle.spans.proofs.pointsearch.points_of.Statement.{statement}
use Rattle.spans.proofs.pointsearch.points_of.Tie as tie

add-q : tie.Need-overflow_add-q
add-q c = search rules

null-at-requires : tie.Need-null_at-requires
null-at-requires c κs = search rules

returns : tie.Need-returns-then-null_at
returns c =
    let a = c.args in
    matched_no_start a.b a.points.count a.points.values.now a.points.marks.now _ _ (sym (c.null_at.ensures a.intervals.values.now) ∙ c.if-null_at.true)

null-at-requires-2 : tie.Need-null_at-requires-2
null-at-requires-2 c κs = search rules

returns-2 : tie.Need-returns-then-null_at-2
returns-2 c =
    let a = c.args in
    matched_no_end a.b a.points.count a.points.values.now a.points.marks.now _ _ (sym (c.null_at-2.ensures a.intervals.values.now) ∙ c.if-null_at-2.true)

seek-lower-requires : tie.Need-seek_lower-requires
seek-lower-requires c κs = search rules

mul-search-sorted : tie.Need-offset_bounds-intervals-p
mul-search-sorted c = search rules

shared-slice-copy-out-search-sorted : tie.Need-bounds-intervals-p
shared-slice-copy-out-search-sorted c = search rules

search-sorted-requires : tie.Need-search_sorted-start-requires
search-sorted-requires c κs = search rules

seek-upper-requires : tie.Need-seek_upper-requires
seek-upper-requires c κs = search rules

mul-search-sorted-2 : tie.Need-offset_bounds-intervals-q
mul-search-sorted-2 c = search rules

shared-slice-copy-out-search-sorted-2 : tie.Need-bounds-intervals-q
shared-slice-copy-out-search-sorted-2 c = search rules

search-sorted-requires-2 : tie.Need-search_sorted-end-requires
search-sorted-requires-2 c κs = search rules

-- both bounds are there, and the two searches are those of the port
found : (c : tie.After-search_sorted-end) →
    let a = c.args in
    let pts = rows_of 1 a.points.count a.points.values.now a.points.marks.now in
    (cell_at a.p a.intervals.values.now a.intervals.marks.now ≡ value (get_or a.intervals.values.now a.p (pos 0)))
    × (cell_at (a.p + 1) a.intervals.values.now a.intervals.marks.now ≡ value (get_or a.intervals.values.now (a.p + 1) (pos 0)))
    × (c.search_sorted-start.result ≡ search_sorted (seek_lower a.b) (get_or a.intervals.values.now a.p (pos 0)) pts)
    × (c.search_sorted-end.result ≡ search_sorted (seek_upper a.b) (get_or a.intervals.values.now (a.p + 1) (pos 0)) pts)
found c =
    let a = c.args in (
      present (get_or a.intervals.values.now a.p (pos 0)) (get_or a.intervals.marks.now a.p (pos 0)) (sym (c.null_at.ensures a.intervals.values.now) ∙ c.if-null_at.false),
      present (get_or a.intervals.values.now (a.p + 1) (pos 0)) (get_or a.intervals.marks.now (a.p + 1) (pos 0)) (sym (c.null_at-2.ensures a.intervals.values.now) ∙ c.if-null_at-2.false),
      rw (back (get_or a.intervals.values.now a.p (pos 0)) c.search_sorted-arg-1.given, c.seek_lower.ensures) at c.search_sorted-start.ensures.0,
      rw (back (get_or a.intervals.values.now (a.p + 1) (pos 0)) c.search_sorted-arg-2-1.given, c.seek_upper.ensures) at c.search_sorted-end.ensures.0,
    )

returns-3 : tie.Need-returns-then-end-start
returns-3 c =
    let f = found c.before in
    let a = c.args in
    matched_none a.b a.points.count a.points.values.now a.points.marks.now _ _ _ _ f.0 f.1 _ _ f.2 f.3 c.search_sorted-start.ensures.1 c.search_sorted-end.ensures.1 c.if-end-start.true

returns-4 : tie.Need-returns
returns-4 c =
    let f = found c.before in
    let a = c.args in
    matched_some a.b a.points.count a.points.values.now a.points.marks.now _ _ _ _ f.0 f.1 _ _ f.2 f.3 c.search_sorted-start.ensures.1 c.search_sorted-end.ensures.1 c.if-end-start.false

pub points_of_spec : {M : Type 1} → statement M
points_of_spec =
    tie.close
    (tie.spec add-q null-at-requires returns null-at-requires-2 returns-2 seek-lower-requires mul-search-sorted shared-slice-copy-out-search-sorted search-sorted-requires seek-upper-requires mul-search-sorted-2 shared-slice-copy-out-search-sorted-2 search-sorted-requires-2 returns-3 returns-4)
