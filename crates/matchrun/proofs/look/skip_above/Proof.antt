use mathlib.Core.Path.{◌≡◌}
use mathlib.Core.Bool.{true}
use Prim.Native.Nat.{ℕ, ◌+◌, ◌-◌, ◌*◌, ◌≤◌, ◌<◌}
use native.Mathlib.Nat.{mul-le-mul_right}
use native.Mathlib.Omega.{arith}
use native.Mathlib.Decide.{dec_lt}
use borrow.Author.Tests.{not-false}
use lib.IntN.{pos}
use lib.ListN.{get_or}
use lib.Signed.{lt_z}
use mir.Syntax.{w64}
use mir.Val.{to_z, of_z}
use mir.Facts.{to_z-of_z}
use Rattle.matchrun.proofs.look.skip_above.Statement.{statement}
use Rattle.matchrun.proofs.look.skip_above.Tie as tie

abbrev invariant-loop : tie.invariant-loop-i
invariant-loop rv at end w by v i₀ i = (at ≤ i) × (i ≤ end) × ((k : ℕ) → i ≤ k → k < end → lt_z (to_z w64 v) (get_or rv (k * w + by) (pos 0)) ≡ true)

abbrev decreases-loop : tie.decreases-loop-i
decreases-loop rv at end w by v i₀ i = i

loop-holds : tie.Need-loop-i-init invariant-loop decreases-loop
loop-holds c = (c.requires.0, omega arith, λ k l h. absurd (omega (arith, l, h)))

sub-loop : tie.Need-overflow_sub-i invariant-loop decreases-loop
sub-loop c = omega (arith, c.loop-i.invariant.0)

four-above-requires : tie.Need-four_above-requires invariant-loop decreases-loop
four-above-requires c κs =
    let l = c.loop-i in
    let s = c in
    let a = s.args in
    let m = mul-le-mul_right {m = l.i} {n = a.end} a.w l.invariant.1 in
    (omega (arith, c.loop-i-test.true), s.requires.1, omega (arith, m, s.requires.2))

returns : tie.Need-returns-then-not-four_above invariant-loop decreases-loop
returns c =
    let l = c.loop-i in
    let v = to_z-of_z c.ranges.v in
    record { start = l.invariant.0; within = l.invariant.1; above = λ k g h. rw v at (l.invariant.2 k g h) }

sub-i : tie.Need-overflow_sub-i-in-loop-i invariant-loop decreases-loop
sub-i c = omega (arith, c.loop-i-test.true)

loop-less : tie.Need-loop-i-smaller invariant-loop decreases-loop
loop-less c = omega (arith, c.loop-i-test.true)

loop-again : tie.Need-loop-i-preserved invariant-loop decreases-loop
loop-again c =
    let l = c.loop-i in
    let t = c.loop-i-test.true in
    (omega (arith, t), omega (arith, l.invariant.1), λ k g h. by k g h (dec_lt k l.i))
  where
    by : let a = c.args in
        let i = c.loop-i.i in
        (k : ℕ) → i - 4 ≤ k → k < a.end → Dec (k < i) → lt_z (to_z w64 (of_z w64 a.v)) (get_or a.rv.now (k * a.w + a.by) (pos 0)) ≡ true
    by k g h (yes e) = c.four_above.ensures (not-false c.four_above.result c.if-not-four_above.false-raw) k (omega (arith, g)) e
    by k g h (no e) = c.loop-i.invariant.2 k (omega (arith, e)) h

returns-2 : tie.Need-returns invariant-loop decreases-loop
returns-2 c =
    let l = c.loop-i in
    let v = to_z-of_z c.ranges.v in
    record { start = l.invariant.0; within = l.invariant.1; above = λ k g h. rw v at (l.invariant.2 k g h) }

pub skip_above_spec : {M : Type 1} → statement M
skip_above_spec = tie.close (tie.spec invariant-loop decreases-loop loop-holds sub-loop four-above-requires returns sub-i loop-less loop-again returns-2)
