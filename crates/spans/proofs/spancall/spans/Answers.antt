use mathlib.Core.Path.{◌≡◌, refl, sym, ◌∙◌}
use mathlib.Core.Bool.{Bool, true, false, ◌&&◌}
use Prim.Native.Nat.{◌+◌, ◌*◌}
use native.Mathlib.Omega.{arith}
use borrow.Author.Tests.{not-true, not-false}
use lib.ListN.{length}
use Rattle.frames.specs.Frame.{is_frame, row_count}
use Rattle.frames.proofs.FrameLaws.{frame_length}
use Rattle.frames.proofs.FrontLaws.{frame_count, values_part, marks_part}
use Rattle.spans.proofs.CallLaws.{span_bad, span_covers, points_in, intervals_in}
use Rattle.spans.proofs.spancall.spans.Goals as goal

pub returns-then-not-is_frame : goal.returns-then-not-is_frame
returns-then-not-is_frame c =
    let a = c.args in
    span_bad a.b a.points.now a.intervals.now a.out.now (rw (← c.is_frame.ensures, not-true c.is_frame.result c.if-not-is_frame.true-raw))

pub returns-then-not-is_frame-2 : goal.returns-then-not-is_frame-2
returns-then-not-is_frame-2 c =
    let a = c.args in
    span_bad a.b a.points.now a.intervals.now a.out.now
    (and-false (is_frame 1 a.points.now) (is_frame 2 a.intervals.now) (sym c.is_frame-2.ensures ∙ not-true c.is_frame-2.result c.if-not-is_frame-2.true-raw))
  where
    and-false : (x y : Bool) → y ≡ false → (x && y) ≡ false
    and-false true y e = e
    and-false false y e = refl

-- both are frames
first : (c : goal.Else-not-is_frame-2) → is_frame 1 c.args.points.now ≡ true
first c = sym c.is_frame.ensures ∙ not-false c.is_frame.result c.if-not-is_frame.false-raw

second : (c : goal.Else-not-is_frame-2) → is_frame 2 c.args.intervals.now ≡ true
second c = sym c.is_frame-2.ensures ∙ not-false c.is_frame-2.result c.if-not-is_frame-2.false-raw

-- their words, by their rows
record Lengths (c : goal.After-row_count-m) : Type 0 where
  points : 2 + 2 * c.row_count-n.result ≡ length c.args.points.now
  intervals : 2 + 4 * c.row_count-m.result ≡ length c.args.intervals.now

lengths : (c : goal.After-row_count-m) → Lengths c
lengths c =
    let a = c.args in
    record {
      points = omega (arith, frame_length 1 a.points.now (first c.before.before), c.row_count-n.ensures);
      intervals = omega (arith, frame_length 2 a.intervals.now (second c.before.before), c.row_count-m.ensures);
    }

pub row_count-n-requires : goal.row_count-n-requires
row_count-n-requires c = let a = c.args in frame_count 1 a.points.now (first c)

pub row_count-m-requires : goal.row_count-m-requires
row_count-m-requires c = let a = c.args in frame_count 2 a.intervals.now (second c.before)

pub overflow_add-e : goal.overflow_add-e
overflow_add-e c = omega (arith, (lengths c).points)

pub overflow_mul-f : goal.overflow_mul-f
overflow_mul-f c = omega (arith, (lengths c).intervals)

pub overflow_add-f : goal.overflow_add-f
overflow_add-f c = omega (arith, (lengths c).intervals)

pub slice_bounds-cover-end : goal.slice_bounds-cover-end
slice_bounds-cover-end c = omega (arith, (lengths c).points)

pub offset_bounds-points-e : goal.offset_bounds-points-e
offset_bounds-points-e c = omega (arith, (lengths c.before).points)

pub slice_bounds-cover-count-2 : goal.slice_bounds-cover-count-2
slice_bounds-cover-count-2 c = omega (arith, (lengths c.before).points)

pub slice_bounds-cover-start-2 : goal.slice_bounds-cover-start-2
slice_bounds-cover-start-2 c = omega (arith, (lengths c.before).points)

pub slice_bounds-cover-end-3 : goal.slice_bounds-cover-end-3
slice_bounds-cover-end-3 c = omega (arith, (lengths c.before.before).intervals)

pub offset_bounds-intervals-f : goal.offset_bounds-intervals-f
offset_bounds-intervals-f c = omega (arith, (lengths c.before.before.before).intervals)

pub slice_bounds-cover-count-4 : goal.slice_bounds-cover-count-4
slice_bounds-cover-count-4 c = omega (arith, (lengths c.before.before.before).intervals)

pub slice_bounds-cover-start-4 : goal.slice_bounds-cover-start-4
slice_bounds-cover-start-4 c = omega (arith, (lengths c.before.before.before).intervals)

pub cover-requires : goal.cover-requires
cover-requires c =
    let r = c in
    let a = r.args in
    let e : 2 + r.row_count-n.result ≡ 2 + row_count a.points.now * 1 = omega (arith, r.row_count-n.ensures) in
    let f : 2 + 2 * r.row_count-m.result ≡ 2 + row_count a.intervals.now * 2 = omega (arith, r.row_count-m.ensures) in
    rw (
      values_part 1 a.points.now (2 + r.row_count-n.result) e,
      marks_part 1 a.points.now (2 + r.row_count-n.result) e,
      values_part 2 a.intervals.now (2 + 2 * r.row_count-m.result) f,
      marks_part 2 a.intervals.now (2 + 2 * r.row_count-m.result) f,
      r.row_count-n.ensures,
      r.row_count-m.ensures,
    )
    (points_in a.b a.points.now a.intervals.now a.out.now (first r.before.before.before.before.before.before.before), intervals_in a.b a.points.now a.intervals.now a.out.now (second r.before.before.before.before.before.before.before))

pub returns : goal.returns
returns c =
    let r = c in
    let a = r.args in
    let e : 2 + r.row_count-n.result ≡ 2 + row_count a.points.now * 1 = omega (arith, r.row_count-n.ensures) in
    let f : 2 + 2 * r.row_count-m.result ≡ 2 + row_count a.intervals.now * 2 = omega (arith, r.row_count-m.ensures) in
    span_covers a.b a.points.now a.intervals.now a.out.now (first r.before.before.before.before.before.before.before.before.before) (second r.before.before.before.before.before.before.before.before.before) _ _
    (rw (
      values_part 1 a.points.now (2 + r.row_count-n.result) e,
      marks_part 1 a.points.now (2 + r.row_count-n.result) e,
      values_part 2 a.intervals.now (2 + 2 * r.row_count-m.result) f,
      marks_part 2 a.intervals.now (2 + 2 * r.row_count-m.result) f,
      r.row_count-n.ensures,
      r.row_count-m.ensures,
    )
    at c.cover.ensures)
