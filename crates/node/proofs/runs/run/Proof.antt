-- The loop's invariant: the rest of the run, behind the words written, gives what the whole run gives. The measure is what is left of k. Assumes nothing.
use mathlib.Core.Path.{◌≡◌, sym, ◌∙◌}
use mathlib.Core.Bool.{true}
use Prim.Native.Nat.{◌-◌, ◌<◌}
use native.Mathlib.Omega.{arith}
use borrow.Author.Tests.{not-true, not-false}
use Rattle.order.specs.options.Options.{without_list}
use Rattle.order.proofs.options.ColumnLaws.{ten_columns}
use Rattle.frames.specs.outcomes.Answers.{wrote}
use Rattle.node.proofs.runs.RunLaws.{Made, run_starts, put_length, run_stops, run_carried, run_count, run_within, run_more, run_used}
use borrow.Author.Rules.{rules}
use Rattle.node.proofs.runs.run.Statement.{statement}
use Rattle.node.proofs.runs.run.Tie as tie

abbrev invariant-loop : tie.invariant-loop-made
invariant-loop self₀ k left right out₀ at₀ made₀ self out at made = Made k self₀ left right out₀ made at self out

abbrev decreases-loop : tie.decreases-loop-made
decreases-loop self₀ k left right out₀ at₀ made₀ self out at made = k - made

loop-holds : tie.Need-loop-made-init invariant-loop decreases-loop
loop-holds c = run_starts _ _ _ _ _

-- Another turn is tried only where fewer than k wrote.
more : (c : tie.In-loop-made invariant-loop decreases-loop) → c.loop-made.made < c.args.k
more c = omega (arith, c.loop-made-test.true)

mul-turn : tie.Need-offset_bounds-out-at invariant-loop decreases-loop
mul-turn c = omega arith

sub-turn : tie.Need-slice_bounds-turn-count invariant-loop decreases-loop
sub-turn c = omega arith

part-turn-start : tie.Need-slice_bounds-turn-start invariant-loop decreases-loop
part-turn-start c = omega arith

part-turn-end : tie.Need-slice_bounds-turn-end invariant-loop decreases-loop
part-turn-end c = omega arith

turn-requires : tie.Need-turn-t-requires invariant-loop decreases-loop
turn-requires c κs = search rules

goes-on-requires : tie.Need-goes_on-requires invariant-loop decreases-loop
goes-on-requires c κs = search rules

stop-of-requires : tie.Need-stop_of-requires invariant-loop decreases-loop
stop-of-requires c κs = search rules

same_length : tie.Need-shape_of-out-then-not-goes_on invariant-loop decreases-loop
same_length c =
    let u = c in
    let l = u in
    put_length _ _ _ _ _ l.loop-made.invariant (more l.before.before.before.before.before.before.before) _ _ u.turn-t.ensures ∙ l.loop-made.invariant.same

returns : tie.Need-returns-then-not-goes_on invariant-loop decreases-loop
returns c =
    let i = c in
    let u = i in
    let l = u in
    run_stops _ _ _ _ _ l.loop-made.invariant (more l.before.before.before.before.before.before.before) _ _ u.turn-t.ensures
    (sym i.goes_on.ensures ∙ not-true i.goes_on.result i.if-not-goes_on.true-raw) _ c.stop_of.ensures

-- The turn wrote.
goes : (c : tie.Else-not-goes_on invariant-loop decreases-loop) → wrote c.turn-t.result.answer ≡ true
goes c = sym c.goes_on.ensures ∙ not-false c.goes_on.result c.if-not-goes_on.false-raw

terms-of-requires : tie.Need-terms_of-requires invariant-loop decreases-loop
terms-of-requires c κs = search rules

answer-columns-requires : tie.Need-answer_columns-c-requires invariant-loop decreases-loop
answer-columns-requires c κs =
    let i = c in
    let u = i in
    let l = u in
    rw c.terms_of.ensures (run_carried _ _ _ _ _ l.loop-made.invariant (more l.before.before.before.before.before.before.before.before) _ _ u.turn-t.ensures (goes i.before.before))

mul-turn-words : tie.Need-offset_bounds-out-at-in-loop-made invariant-loop decreases-loop
mul-turn-words c = mul-turn c.before.before.before.before.before.before.before.before.before

sub-turn-words : tie.Need-slice_bounds-turn_words-count invariant-loop decreases-loop
sub-turn-words c =
    let u = c in
    let l = u in
    omega (arith, put_length _ _ _ _ _ l.loop-made.invariant (more l.before.before.before.before.before.before.before.before.before) _ _ u.turn-t.ensures, l.loop-made.invariant.within)

part-turn-words-start : tie.Need-slice_bounds-turn_words-start invariant-loop decreases-loop
part-turn-words-start c = sub-turn-words c

part-turn-words-end : tie.Need-slice_bounds-turn_words-end invariant-loop decreases-loop
part-turn-words-end c = omega arith

turn-words-requires : tie.Need-turn_words-at-requires invariant-loop decreases-loop
turn-words-requires c κs =
    let a = c in
    let t = a in
    let i = t in
    let u = i in
    let l = u in
    let n = run_count _ _ _ _ _ l.loop-made.invariant (more l.before.before.before.before.before.before.before.before.before.before) _ _ u.turn-t.ensures (goes i.before.before.before.before) in
    (n.0, n.1, ten_columns (without_list t.terms_of.result) a.answer_columns-c.result a.answer_columns-c.ensures (answer-columns-requires c.before.before tt))

add_at : tie.Need-overflow_add-at invariant-loop decreases-loop
add_at c =
    let a = c in
    let t = a in
    let i = t in
    let u = i in
    let l = u in
    omega (arith, run_within _ _ _ _ _ l.loop-made.invariant (more l.before.before.before.before.before.before.before.before.before.before.before) _ _ u.turn-t.ensures (goes i.before.before.before.before.before) _ _ (rw t.terms_of.ensures at a.answer_columns-c.ensures) c.turn_words-at.ensures, l.loop-made.invariant.same, l.well_formed.1.1.1.1.0.0)

step-made : tie.Need-overflow_step-made invariant-loop decreases-loop
step-made c = omega arith

loop-less : tie.Need-loop-made-smaller invariant-loop decreases-loop
loop-less c = omega arith

loop-again : tie.Need-loop-made-preserved invariant-loop decreases-loop
loop-again c =
    let a = c in
    let t = a in
    let i = t in
    let u = i in
    let l = u in
    run_more _ _ _ _ _ l.loop-made.invariant (more l.before.before.before.before.before.before.before.before.before.before.before) _ _ u.turn-t.ensures (goes i.before.before.before.before.before) _ _ (rw t.terms_of.ensures at a.answer_columns-c.ensures) c.turn_words-at.ensures

same-length-2 : tie.Need-shape_of-out invariant-loop decreases-loop
same-length-2 c = c.loop-made.invariant.same

returns-2 : tie.Need-returns invariant-loop decreases-loop
returns-2 c =
    let l = c.loop-made in
    let e : l.made ≡ c.args.k = omega (arith, l.invariant.few, c.loop-made-test.false) in
    rw e at (run_used _ _ _ _ _ l.invariant (omega (arith, c.loop-made-test.false)))

pub run_spec : {M : Type 1} → statement M
run_spec =
    tie.close
    (tie.spec invariant-loop decreases-loop loop-holds mul-turn sub-turn part-turn-start part-turn-end turn-requires goes-on-requires stop-of-requires same_length returns terms-of-requires answer-columns-requires mul-turn-words sub-turn-words part-turn-words-start part-turn-words-end turn-words-requires add_at step-made loop-less loop-again same-length-2 returns-2)
