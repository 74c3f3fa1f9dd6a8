-- `framerule::pairs_fine` meets its contract. Assumes nothing.
use Rattle.std.proofs.Common.{◌≡◌, ◌+◌, ◌-◌, ◌%◌, ◌≤◌, ◌&&◌, length, drop, sym, ◌∙◌, arith}
use borrow.Author.Tests.{not-true, not-false}
use Rattle.frames.specs.Frame.{pairs_fine}
use Rattle.rows.proofs.framerule.pairs_fine.Statement.{statement}
use Rattle.rows.proofs.framerule.pairs_fine.Tie as tie

abbrev invariant-loop : tie.invariant-loop-i
invariant-loop values marks len end i₀ i = (i % 4 ≡ 0) × (i ≤ end) × (pairs_fine values marks ≡ pairs_fine (drop i values) (drop i marks))

abbrev decreases-loop : tie.decreases-loop-i
decreases-loop values marks len end i₀ i = end - i

-- four pairs are left
next : (c : tie.In-loop-i invariant-loop decreases-loop) → c.loop-i.i + 4 ≤ length c.args.values.now
next c = omega (arith, c.loop-i-test.true, c.loop-i.invariant.0)

-- the pairs that are left are four and those behind them
more : (c : tie.After-four_fine invariant-loop decreases-loop) →
    let a = c.args in
    let i = c.loop-i.i in
    pairs_fine a.values.now a.marks.now ≡ (c.four_fine.result && pairs_fine (drop (i + 4) a.values.now) (drop (i + 4) a.marks.now))
more c = c.loop-i.invariant.2 ∙ c.four_fine.ensures

sub-end : tie.Need-overflow_sub-end invariant-loop decreases-loop
sub-end c = omega arith

skip-ones-requires : tie.Need-skip_ones-i-requires invariant-loop decreases-loop
skip-ones-requires c κs = (omega arith, omega arith)

loop-holds : tie.Need-loop-i-init invariant-loop decreases-loop
loop-holds c = let e = c.skip_ones-i.ensures in (e.0, e.1, e.2 c.args.values.now (omega (arith, e.1)))

four-fine-requires : tie.Need-four_fine-requires invariant-loop decreases-loop
four-fine-requires c κs = let l = next c in (omega arith, omega arith)

returns : tie.Need-returns-then-not-four_fine invariant-loop decreases-loop
returns c = sym (more c.before ∙ rw (not-true c.four_fine.result c.if-not-four_fine.true-raw))

add-i : tie.Need-overflow_add-i invariant-loop decreases-loop
add-i c = let l = next c.before.before in omega arith

loop-less : tie.Need-loop-i-smaller invariant-loop decreases-loop
loop-less c = let l = next c.before.before in omega arith

loop-again : tie.Need-loop-i-preserved invariant-loop decreases-loop
loop-again c =
    let d = c in
    let l = next d.before.before in
    (omega (arith, d.loop-i.invariant.0), omega arith, more c.before ∙ rw (not-false c.four_fine.result c.if-not-four_fine.false-raw))

rest-fine-requires : tie.Need-rest_fine-requires invariant-loop decreases-loop
rest-fine-requires c κs = (omega (arith, c.loop-i.invariant.1), c.requires)

returns-2 : tie.Need-returns invariant-loop decreases-loop
returns-2 c = c.rest_fine.ensures ∙ sym c.loop-i.invariant.2

pub pairs_fine_spec : {M : Type 1} → statement M
pairs_fine_spec =
    tie.close
    (tie.spec invariant-loop decreases-loop sub-end skip-ones-requires loop-holds four-fine-requires returns add-i loop-less loop-again rest-fine-requires returns-2)
