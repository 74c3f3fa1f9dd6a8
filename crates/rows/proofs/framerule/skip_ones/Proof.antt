-- `framerule::skip_ones` meets its contract. Assumes nothing.
use Rattle.std.proofs.Common.{◌≡◌, ◌+◌, ◌-◌, ◌%◌, ◌≤◌, refl, arith}
use borrow.Author.Tests.{not-false}
use Rattle.frames.specs.Cells.{Words}
use Rattle.rows.specs.framerule.Pairs.{FineBetween}
use Rattle.rows.proofs.framerule.PairLaws.{between_join}
use Rattle.rows.proofs.framerule.skip_ones.Statement.{statement}
use Rattle.rows.proofs.framerule.skip_ones.Tie as tie

abbrev invariant-loop : tie.invariant-loop-i
invariant-loop marks end i₀ i = (i % 4 ≡ 0) × (i ≤ end) × ((vs : Words) → FineBetween 0 i vs marks)

abbrev decreases-loop : tie.decreases-loop-i
decreases-loop marks end i₀ i = end - i

-- four marks are left
next : (c : tie.In-loop-i invariant-loop decreases-loop) → c.loop-i.i + 4 ≤ c.args.end
next c = omega (arith, c.loop-i-test.true, c.loop-i.invariant.0, c.requires.0)

loop-holds : tie.Need-loop-i-init invariant-loop decreases-loop
loop-holds c = (refl, omega arith, λ vs h. refl)

four-ones-requires : tie.Need-four_ones-requires invariant-loop decreases-loop
four-ones-requires c κs = let l = next c in omega (arith, l, c.requires.1)

returns : tie.Need-returns-then-not-four_ones invariant-loop decreases-loop
returns c = let l = c.loop-i in (l.invariant.0, l.invariant.1, l.invariant.2)

add-i : tie.Need-overflow_add-i invariant-loop decreases-loop
add-i c = let l = next c.before.before in omega arith

loop-less : tie.Need-loop-i-smaller invariant-loop decreases-loop
loop-less c = omega (arith, c.loop-i-test.true)

loop-again : tie.Need-loop-i-preserved invariant-loop decreases-loop
loop-again c =
    let d = c in
    let l = d.loop-i in
    let f = c.four_ones.ensures (not-false c.four_ones.result c.if-not-four_ones.false-raw) in
    (omega (arith, l.invariant.0), next d.before.before, λ vs. between_join vs d.args.marks.now 0 l.i (l.i + 4) (omega arith) (l.invariant.2 vs) (f vs))

returns-2 : tie.Need-returns invariant-loop decreases-loop
returns-2 c = let l = c.loop-i in (l.invariant.0, l.invariant.1, l.invariant.2)

pub skip_ones_spec : {M : Type 1} → statement M
skip_ones_spec =
    tie.close
    (tie.spec invariant-loop decreases-loop loop-holds four-ones-requires returns add-i loop-less loop-again returns-2)
