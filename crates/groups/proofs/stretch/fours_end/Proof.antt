use mathlib.Core.Path.{◌≡◌}
use Prim.Native.Nat.{ℕ, ◌+◌, ◌*◌, ◌≤◌, ◌<◌}
use native.Mathlib.Nat.{mul-le-mul_right}
use native.Mathlib.Omega.{arith}
use borrow.Author.Tests.{not-false}
use mir.Syntax.{w64}
use mir.Val.{to_z, of_z}
use mir.Facts.{to_z-of_z}
use Rattle.frames.specs.Cells.{cell_of}
use Rattle.order.specs.Requires.{cell_at}
use Rattle.groups.proofs.stretch.StretchLaws.{walk_start, left_room, left_less, pass_more, have_passed}
use Rattle.groups.proofs.stretch.fours_end.Statement.{statement}
use Rattle.groups.proofs.stretch.fours_end.Tie as tie

abbrev invariant-loop : tie.invariant-loop-left
invariant-loop rows e v m left₀ q₀ left q =
    (left ≤ rows.count) × (e + left ≤ rows.count) × (q + left * rows.width ≡ rows.count * rows.width) × ((k : ℕ) → e ≤ k → k + left < rows.count → cell_at (k * rows.width) rows.values.now rows.marks.now ≡ cell_of (to_z w64 v) (to_z w64 m))

abbrev decreases-loop : tie.decreases-loop-left
decreases-loop rows e v m left₀ q₀ left q = left

sub-left : tie.Need-overflow_sub-left invariant-loop decreases-loop
sub-left c = omega arith

mul-q : tie.Need-overflow_mul-q invariant-loop decreases-loop
mul-q c = let a = c.args in omega (arith, mul-le-mul_right {m = a.e} {n = a.rows.count} a.rows.width c.requires.within)

loop-holds : tie.Need-loop-left-init invariant-loop decreases-loop
loop-holds c =
    let a = c.args in
    let h = c.requires.within in
    (omega arith, omega arith, walk_start a.e a.rows.count a.rows.width h, λ k g h. absurd (omega (arith, g, h)))

four-have-requires : tie.Need-four_have-requires invariant-loop decreases-loop
four-have-requires c κs =
    let l = c.loop-left in
    let s = c in
    let r = left_room l.left s.args.rows.width 4 c.loop-left-test.true in
    let p = s.requires.wide in
    record { values = omega arith; marks = omega arith }

sub-result : tie.Need-overflow_sub-result invariant-loop decreases-loop
sub-result c = omega arith

returns : tie.Need-returns-then-not-four_have invariant-loop decreases-loop
returns c =
    let l = c.loop-left in
    let s = c in
    let a = s.args in
    have_passed a.rows.width a.e a.rows.count a.rows.values.now a.rows.marks.now (cell_of a.v a.m) l.left l.invariant.1 (λ k g h. rw (to_z-of_z s.ranges.v, to_z-of_z s.ranges.m) at (l.invariant.3 k g h))

mul-q-2 : tie.Need-overflow_mul-q-in-loop-left invariant-loop decreases-loop
mul-q-2 c =
    let l = c.loop-left in
    let s = c in
    let r = left_room l.left s.args.rows.width 4 c.loop-left-test.true in
    omega arith

add-q : tie.Need-overflow_add-q invariant-loop decreases-loop
add-q c =
    let l = c.loop-left in
    let s = c in
    let r = left_room l.left s.args.rows.width 4 c.loop-left-test.true in
    omega arith

sub-left-2 : tie.Need-overflow_sub-left-in-loop-left invariant-loop decreases-loop
sub-left-2 c = omega arith

loop-less : tie.Need-loop-left-smaller invariant-loop decreases-loop
loop-less c = omega arith

loop-again : tie.Need-loop-left-preserved invariant-loop decreases-loop
loop-again c =
    let l = c.loop-left in
    let a = c.args in
    let t = c.loop-left-test.true in (
      omega arith,
      omega arith,
      left_less a.rows.count a.rows.width l.left l.q 4 t l.invariant.2,
      pass_more (λ k. cell_at k a.rows.values.now a.rows.marks.now ≡ cell_of (to_z w64 (of_z w64 a.v)) (to_z w64 (of_z w64 a.m))) a.e a.rows.count a.rows.width l.left l.q 4 l.invariant.0 t l.invariant.2 l.invariant.3 (c.four_have.ensures (not-false c.four_have.result c.if-not-four_have.false-raw)),
    )

sub-result-2 : tie.Need-overflow_sub-result-2 invariant-loop decreases-loop
sub-result-2 c = omega arith

returns-2 : tie.Need-returns invariant-loop decreases-loop
returns-2 c =
    let l = c.loop-left in
    let s = c in
    let a = s.args in
    have_passed a.rows.width a.e a.rows.count a.rows.values.now a.rows.marks.now (cell_of a.v a.m) l.left l.invariant.1 (λ k g h. rw (to_z-of_z s.ranges.v, to_z-of_z s.ranges.m) at (l.invariant.3 k g h))

pub fours_end_spec : {M : Type 1} → statement M
fours_end_spec =
    tie.close
    (tie.spec invariant-loop decreases-loop sub-left mul-q loop-holds four-have-requires sub-result returns mul-q-2 add-q sub-left-2 loop-less loop-again sub-result-2 returns-2)
