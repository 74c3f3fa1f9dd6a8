use mathlib.Core.Path.{◌≡◌}
use mathlib.Core.Bool.{false}
use Prim.Native.Nat.{ℕ, ◌+◌, ◌-◌, ◌*◌, ◌≤◌, ◌<◌}
use native.Mathlib.Omega.{arith}
use borrow.Author.Tests.{not-false}
use Rattle.order.proofs.RowLaws.{one_row}
use Rattle.groups.proofs.stretch.StretchLaws.{left_room, left_less, pass_more}
use Rattle.groups.specs.rising.Rising.{key_falls}
use Rattle.groups.proofs.rising.RiseLaws.{rises_passed}
use Rattle.groups.proofs.rising.fours_rise.Statement.{statement}
use Rattle.groups.proofs.rising.fours_rise.Tie as tie

abbrev invariant-loop : tie.invariant-loop-left
invariant-loop rows left₀ p₀ left p =
    (left ≤ rows.count - 1) × (p + left * rows.width ≡ (rows.count - 1) * rows.width) × ((k : ℕ) → 0 ≤ k → k + left < rows.count - 1 → key_falls (k * rows.width) (k * rows.width + rows.width) rows.values.now rows.marks.now ≡ false)

abbrev decreases-loop : tie.decreases-loop-left
decreases-loop rows left₀ p₀ left p = left

sub-left : tie.Need-overflow_sub-left invariant-loop decreases-loop
sub-left c = omega (arith, c.requires.1)

loop-holds : tie.Need-loop-left-init invariant-loop decreases-loop
loop-holds c = (omega arith, omega arith, λ k g h. absurd (omega (arith, h)))

four-rise-requires : tie.Need-four_rise-requires invariant-loop decreases-loop
four-rise-requires c κs =
    let l = c.loop-left in
    let s = c in
    let r = left_room l.left s.args.rows.width 4 c.loop-left-test.true in
    let o = one_row s.args.rows.count s.args.rows.width s.requires.1 in
    let p = s.requires.0 in
    record { values = omega arith; marks = omega arith }

sub-result : tie.Need-overflow_sub-result invariant-loop decreases-loop
sub-result c = omega arith

returns : tie.Need-returns-then-not-four_rise invariant-loop decreases-loop
returns c =
    let l = c.loop-left in
    let s = c in
    let a = s.args in
    let h = s.requires.1 in
    let k = l.invariant.0 in
    (omega arith, omega arith, rises_passed a.rows.width a.rows.values.now a.rows.marks.now a.rows.count l.left (omega arith) l.invariant.2)

mul-p : tie.Need-overflow_mul-p invariant-loop decreases-loop
mul-p c =
    let l = c.loop-left in
    let s = c in
    let r = left_room l.left s.args.rows.width 4 c.loop-left-test.true in
    let o = one_row s.args.rows.count s.args.rows.width s.requires.1 in
    let p = s.requires.0 in
    omega arith

add-p : tie.Need-overflow_add-p invariant-loop decreases-loop
add-p c =
    let l = c.loop-left in
    let s = c in
    let r = left_room l.left s.args.rows.width 4 c.loop-left-test.true in
    let o = one_row s.args.rows.count s.args.rows.width s.requires.1 in
    let p = s.requires.0 in
    omega arith

sub-left-2 : tie.Need-overflow_sub-left-in-loop-left invariant-loop decreases-loop
sub-left-2 c = omega arith

loop-less : tie.Need-loop-left-smaller invariant-loop decreases-loop
loop-less c = omega arith

loop-again : tie.Need-loop-left-preserved invariant-loop decreases-loop
loop-again c =
    let l = c.loop-left in
    let a = c.args in
    let t = c.loop-left-test.true in (
      omega arith,
      left_less (a.rows.count - 1) a.rows.width l.left l.p 4 t l.invariant.1,
      pass_more (λ k. key_falls k (k + a.rows.width) a.rows.values.now a.rows.marks.now ≡ false) 0 (a.rows.count - 1) a.rows.width l.left l.p 4 l.invariant.0 t l.invariant.1 l.invariant.2
          (c.four_rise.ensures (not-false c.four_rise.result c.if-not-four_rise.false-raw)),
    )

sub-result-2 : tie.Need-overflow_sub-result-2 invariant-loop decreases-loop
sub-result-2 c = omega arith

returns-2 : tie.Need-returns invariant-loop decreases-loop
returns-2 c =
    let l = c.loop-left in
    let s = c in
    let a = s.args in
    let h = s.requires.1 in
    let k = l.invariant.0 in
    (omega arith, omega arith, rises_passed a.rows.width a.rows.values.now a.rows.marks.now a.rows.count l.left (omega arith) l.invariant.2)

pub fours_rise_spec : {M : Type 1} → statement M
fours_rise_spec =
    tie.close
    (tie.spec invariant-loop decreases-loop sub-left loop-holds four-rise-requires sub-result returns mul-p add-p sub-left-2 loop-less loop-again sub-result-2 returns-2)
