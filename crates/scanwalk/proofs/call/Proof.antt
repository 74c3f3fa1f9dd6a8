use mathlib.Core.Path.{◌≡◌, sym, ◌∙◌}
use mathlib.Core.Bool.{true}
use Prim.Native.Nat.{◌+◌, ◌*◌, ◌≤◌}
use native.Mathlib.Omega.{arith}
use lib.ListN.{length}
use Rattle.frames.specs.Frame.{is_frame, row_count}
use Rattle.frames.proofs.FrameLaws.{frame_length}
use Rattle.frames.proofs.FrontLaws.{frame_count, values_part, marks_part}
use Rattle.scanwalk.specs.Drive.{judged}
use Rattle.scanwalk.proofs.DriveLaws.{fine, refused, parts_in_lem, taken}
use borrow.Author.Rules.{rules}
use Rattle.scanwalk.proofs.call.Statement.{statement}
use Rattle.scanwalk.proofs.call.Tie as tie

judge-requires : tie.Need-judge-refusal-requires
judge-requires c κs = search rules

returns : tie.Need-returns-then-refusal-ne0
returns c =
    let a = c.args in
    refused a.walked a.strategy a.left.now a.right.now a.out.now c.judge-refusal.result c.judge-refusal.ensures c.if-refusal-ne0.true

-- nothing is refused
no_refusal : (c : tie.Else-refusal-ne0) → let a = c.args in judged a.strategy a.left.now a.right.now (length a.out.now) ≡ 0
no_refusal c = sym c.judge-refusal.ensures ∙ c.if-refusal-ne0.false

both : (c : tie.Else-refusal-ne0) → let a = c.args in (is_frame 1 a.left.now ≡ true) × (is_frame 1 a.right.now ≡ true) × (2 + 2 * row_count a.left.now ≤ length a.out.now)
both c = let a = c.args in fine a.strategy a.left.now a.right.now (length a.out.now) (no_refusal c)

row-count-requires : tie.Need-row_count-n-requires
row-count-requires c κs = frame_count 1 c.args.left.now (both c).0

row-count-requires-2 : tie.Need-row_count-m-requires
row-count-requires-2 c κs = frame_count 1 c.args.right.now (both c.before).1

-- the words of both, by their rows
record Lengths (c : tie.After-row_count-m) : Type 0 where
  left : 2 + 2 * c.row_count-n.result ≡ length c.args.left.now
  right : 2 + 2 * c.row_count-m.result ≡ length c.args.right.now

lengths : (c : tie.After-row_count-m) → Lengths c
lengths c =
    let a = c.args in
    let f = both c.before.before in
    record {
      left = omega (arith, frame_length 1 a.left.now f.0, c.row_count-n.ensures);
      right = omega (arith, frame_length 1 a.right.now f.1, c.row_count-m.ensures);
    }

add-e : tie.Need-overflow_add-e
add-e c = omega (arith, (lengths c).left)

add-f : tie.Need-overflow_add-f
add-f c = omega (arith, (lengths c).right)

sub-drive : tie.Need-slice_bounds-drive-count
sub-drive c = search rules

part-drive-start : tie.Need-slice_bounds-drive-start
part-drive-start c = search rules

part-drive-end : tie.Need-slice_bounds-drive-end
part-drive-end c = omega (arith, (lengths c).left)

mul-drive : tie.Need-offset_bounds-left-e
mul-drive c = omega (arith, (lengths c.before).left)

sub-drive-2 : tie.Need-slice_bounds-drive-count-2
sub-drive-2 c = omega (arith, (lengths c.before).left)

part-drive-start-2 : tie.Need-slice_bounds-drive-start-2
part-drive-start-2 c = omega (arith, (lengths c.before).left)

part-drive-end-2 : tie.Need-slice_bounds-drive-end-2
part-drive-end-2 c = search rules

sub-drive-3 : tie.Need-slice_bounds-drive-count-3
sub-drive-3 c = search rules

part-drive-start-3 : tie.Need-slice_bounds-drive-start-3
part-drive-start-3 c = search rules

part-drive-end-3 : tie.Need-slice_bounds-drive-end-3
part-drive-end-3 c = omega (arith, (lengths c.before.before).right)

mul-drive-2 : tie.Need-offset_bounds-right-f
mul-drive-2 c = omega (arith, (lengths c.before.before.before).right)

sub-drive-4 : tie.Need-slice_bounds-drive-count-4
sub-drive-4 c = omega (arith, (lengths c.before.before.before).right)

part-drive-start-4 : tie.Need-slice_bounds-drive-start-4
part-drive-start-4 c = omega (arith, (lengths c.before.before.before).right)

part-drive-end-4 : tie.Need-slice_bounds-drive-end-4
part-drive-end-4 c = search rules

drive-requires : tie.Need-drive-requires
drive-requires c κs =
    let r = c in
    let a = r.args in
    let e : 2 + r.row_count-n.result ≡ 2 + row_count a.left.now * 1 = omega (arith, r.row_count-n.ensures) in
    let f : 2 + r.row_count-m.result ≡ 2 + row_count a.right.now * 1 = omega (arith, r.row_count-m.ensures) in
    rw (
      values_part 1 a.left.now (2 + r.row_count-n.result) e,
      marks_part 1 a.left.now (2 + r.row_count-n.result) e,
      values_part 1 a.right.now (2 + r.row_count-m.result) f,
      marks_part 1 a.right.now (2 + r.row_count-m.result) f,
      r.row_count-n.ensures,
      r.row_count-m.ensures,
    )
    (parts_in_lem a.walked a.strategy a.left.now a.right.now a.out.now (no_refusal r.before.before.before.before.before.before.before))

same_length : tie.Need-shape_of-out
same_length c = search rules

returns-2 : tie.Need-returns
returns-2 c =
    let r = c in
    let a = r.args in
    let e : 2 + r.row_count-n.result ≡ 2 + row_count a.left.now * 1 = omega (arith, r.row_count-n.ensures) in
    let f : 2 + r.row_count-m.result ≡ 2 + row_count a.right.now * 1 = omega (arith, r.row_count-m.ensures) in
    taken a.walked a.strategy a.left.now a.right.now a.out.now (no_refusal r.before.before.before.before.before.before.before.before.before) _ _
    (rw (
      values_part 1 a.left.now (2 + r.row_count-n.result) e,
      marks_part 1 a.left.now (2 + r.row_count-n.result) e,
      values_part 1 a.right.now (2 + r.row_count-m.result) f,
      marks_part 1 a.right.now (2 + r.row_count-m.result) f,
      r.row_count-n.ensures,
      r.row_count-m.ensures,
    )
    at c.drive.ensures)

pub call_spec : {M : Type 1} → statement M
call_spec =
    tie.close
    (tie.spec judge-requires returns row-count-requires row-count-requires-2 add-e add-f sub-drive part-drive-start part-drive-end mul-drive sub-drive-2 part-drive-start-2 part-drive-end-2 sub-drive-3 part-drive-start-3 part-drive-end-3 mul-drive-2 sub-drive-4 part-drive-start-4 part-drive-end-4 drive-requires same_length returns-2)
