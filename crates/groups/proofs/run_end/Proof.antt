use mathlib.Core.Path.{◌≡◌, sym, ◌∙◌}
use mathlib.Core.Bool.{Bool, true, false}
use Prim.Native.Nat.{◌+◌, ◌-◌, ◌*◌, ◌≤◌, ◌<◌}
use native.Mathlib.Nat.{mul-le-mul_right}
use native.Mathlib.Omega.{arith}
use borrow.Author.Tests.{not-true, not-false}
use Rattle.order.specs.options.Options.{with_list, without_list}
use Rattle.frames.specs.Cells.{row_from}
use Rattle.order.specs.Requires.{RowAt}
use Rattle.order.proofs.RowLaws.{row_room, one_row}
use Rattle.order.proofs.TermLaws.{row_terms}
use Rattle.matching.specs.Groups.{same_run}
use Rattle.matching.specs.Stretches.{between, run_on, run_length}
use Rattle.matching.proofs.ScanLaws.{same_yes}
use Rattle.matching.proofs.WalkLaws.{run_past, on_first, on_more, on_stop, on_end_lem}
use Rattle.groups.proofs.RunLaws.{on_stretch}
use Rattle.groups.proofs.run_end.Statement.{statement}
use Rattle.groups.proofs.run_end.Tie as tie

abbrev invariant-loop : tie.invariant-loop-e
invariant-loop rows i rules by p₀ e₀ p e =
    (i < e) × (e ≤ rows.count) × (p + rows.width ≡ e * rows.width)
    × (i + run_length (with_list rules.terms rules.codes.now rules.rising.now) (between rows.width i rows.count rows.values.now rows.marks.now) ≡ e + run_on (with_list rules.terms rules.codes.now rules.rising.now) (row_from rows.width p rows.values.now rows.marks.now) (between rows.width e rows.count rows.values.now rows.marks.now))

abbrev decreases-loop : tie.decreases-loop-e
decreases-loop rows i rules by p₀ e₀ p e = rows.count - e

-- row i is among the rows
low : (c : tie.Else-i-rows invariant-loop decreases-loop) → c.args.i < c.args.rows.count
low c = let l = c.if-i-rows.false in omega arith

-- row e ends within them
room : (c : tie.In-loop-e invariant-loop decreases-loop) → c.loop-e.e * c.args.rows.width + c.args.rows.width ≤ c.args.rows.count * c.args.rows.width
room c = row_room c.loop-e.e c.args.rows.count c.args.rows.width c.loop-e-test.true

-- the two rows are there
rows_at : (c : tie.In-loop-e invariant-loop decreases-loop) → let l = c.loop-e in let a = c.args in
    RowAt (with_list a.rules.terms a.rules.codes.now a.rules.rising.now) l.p a.rows.values.now a.rows.marks.now × RowAt (with_list a.rules.terms a.rules.codes.now a.rules.rising.now) (l.p + a.rows.width) a.rows.values.now a.rows.marks.now
rows_at c =
    let r = room c in
    let p = c.requires.rows in
    (record { few = p.few; values = omega arith; marks = omega arith }, record { few = p.few; values = omega arith; marks = omega arith })

-- and whatever the list
plain_at : (c : tie.In-loop-e invariant-loop decreases-loop) → let l = c.loop-e in let a = c.args in
    RowAt (without_list a.rules.terms) l.p a.rows.values.now a.rows.marks.now × RowAt (without_list a.rules.terms) (l.p + a.rows.width) a.rows.values.now a.rows.marks.now
plain_at c =
    let a = c.args in
    let r = rows_at c in
    let plain = row_terms a.rules.terms a.rules.codes.now a.rules.rising.now in
    (plain c.loop-e.p a.rows.values.now a.rows.marks.now r.0, plain (c.loop-e.p + a.rows.width) a.rows.values.now a.rows.marks.now r.1)

-- rows with the same by-values are of one run
alike : (c : tie.Then-same_values invariant-loop decreases-loop) →
    let l = c.loop-e in
    let a = c.args in
    same_run (with_list a.rules.terms a.rules.codes.now a.rules.rising.now) (row_from a.rows.width l.p a.rows.values.now a.rows.marks.now) (row_from a.rows.width (l.e * a.rows.width) a.rows.values.now a.rows.marks.now) ≡ true
alike c =
    let s = c in
    let l = c.loop-e in
    sym (same_yes (with_list s.args.rules.terms s.args.rules.codes.now s.args.rules.rising.now) _ _ (rw l.invariant.2 at (c.same_values.ensures c.if-same_values.true s.args.rules.codes.now s.args.rules.rising.now s.args.rows.width s.requires.rows.wide)))

-- what `same_run` says is what row e says to the row before it
told : (c : tie.After-same_run invariant-loop decreases-loop) (t : Bool) → c.same_run.result ≡ t →
    let l = c.loop-e in
    let a = c.args in
    same_run (with_list a.rules.terms a.rules.codes.now a.rules.rising.now) (row_from a.rows.width l.p a.rows.values.now a.rows.marks.now) (row_from a.rows.width (l.e * a.rows.width) a.rows.values.now a.rows.marks.now) ≡ t
told c t e =
    let s = c in
    let l = c.loop-e in
    sym (rw l.invariant.2 at (c.same_run.ensures s.args.rules.codes.now s.args.rules.rising.now s.args.rows.width s.requires.rows.wide)) ∙ e

returns : tie.Need-returns-then-i-rows invariant-loop decreases-loop
returns c =
    let a = c.args in
    rw (c.if-i-rows.true, run_past (with_list a.rules.terms a.rules.codes.now a.rules.rising.now) a.rows.width a.rows.count a.rows.values.now a.rows.marks.now) (omega arith)

mul-p : tie.Need-overflow_mul-p invariant-loop decreases-loop
mul-p c = omega (arith, row_room c.args.i c.args.rows.count c.args.rows.width (low c))

add-e : tie.Need-overflow_add-e invariant-loop decreases-loop
add-e c = omega (arith, low c)

loop-holds : tie.Need-loop-e-init invariant-loop decreases-loop
loop-holds c =
    let a = c.args in
    let h = low c in
    (omega arith, omega arith, omega arith, on_first (with_list a.rules.terms a.rules.codes.now a.rules.rising.now) a.rows.width a.rows.count a.rows.values.now a.rows.marks.now a.i h)

add-q : tie.Need-overflow_add-q invariant-loop decreases-loop
add-q c = omega (arith, room c)

same-values-requires : tie.Need-same_values-requires invariant-loop decreases-loop
same-values-requires c κs = plain_at c.before

same-end-requires : tie.Need-same_end-e-requires invariant-loop decreases-loop
same-end-requires c κs =
    let t = c.loop-e-test.true in
    let r = c.requires.rows in
    (record { wide = omega (arith, r.wide); within = omega arith; values = r.values; marks = r.marks }, t)

-- the row before the one where the stretch ends is among the rows
last : (c : tie.After-same_end-e invariant-loop decreases-loop) → let a = c.args in
    (c.same_end-e.result - 1) * a.rows.width + a.rows.width ≡ c.same_end-e.result * a.rows.width
last c =
    let s = c.same_end-e.ensures.start in
    sym (one_row c.same_end-e.result c.args.rows.width (omega arith))

sub-p : tie.Need-overflow_sub-p invariant-loop decreases-loop
sub-p c = omega (arith, c.same_end-e.ensures.start)

mul-p-2 : tie.Need-overflow_mul-p-then-same_values invariant-loop decreases-loop
mul-p-2 c =
    let s = c in
    let m = mul-le-mul_right {m = c.same_end-e.result} {n = s.args.rows.count} s.args.rows.width c.same_end-e.ensures.within in
    omega (arith, last c, m, s.requires.rows.values)

loop-less : tie.Need-loop-e-smaller-then-same_values invariant-loop decreases-loop
loop-less c =
    let t = c.loop-e-test.true in
    omega (arith, c.same_end-e.ensures.start, c.same_end-e.ensures.within)

loop-again : tie.Need-loop-e-preserved-then-same_values invariant-loop decreases-loop
loop-again c =
    let l = c.loop-e in
    let s = c in
    let a = s.args in
    let t = c.loop-e-test.true in
    let k = c.same_end-e.ensures in
    let m = on_more _ _ _ _ _ _ l.e t (alike c.before) in
    let n = on_stretch (with_list a.rules.terms a.rules.codes.now a.rules.rising.now) a.rows.width a.rows.count a.rows.values.now a.rows.marks.now s.requires.rows.wide s.requires.rows.values l.e c.same_end-e.result k in
    (omega (arith, k.start), k.within, last c, l.invariant.3 ∙ m ∙ n)

same-run-requires : tie.Need-same_run-requires invariant-loop decreases-loop
same-run-requires c κs = plain_at c.before.before.before.before

returns-2 : tie.Need-returns-then-not-same_run invariant-loop decreases-loop
returns-2 c =
    let l = c.loop-e in
    sym (l.invariant.3 ∙ on_stop _ _ _ _ _ _ l.e c.loop-e-test.true (told c.before false (not-true _ c.if-not-same_run.true-raw)))

add-e-2 : tie.Need-overflow_add-e-else-same_values invariant-loop decreases-loop
add-e-2 c = omega arith

loop-less-2 : tie.Need-loop-e-smaller invariant-loop decreases-loop
loop-less-2 c = omega arith

loop-again-2 : tie.Need-loop-e-preserved invariant-loop decreases-loop
loop-again-2 c =
    let l = c.loop-e in
    let m = on_more _ _ _ _ _ _ l.e c.loop-e-test.true (told c.before true (not-false _ c.if-not-same_run.false-raw)) in
    (omega arith, omega arith, omega arith, l.invariant.3 ∙ rw l.invariant.2 m)

returns-3 : tie.Need-returns invariant-loop decreases-loop
returns-3 c =
    let l = c.loop-e in
    sym (l.invariant.3 ∙ on_end_lem _ _ _ _ _ _ l.e (omega arith))

pub run_end_spec : {M : Type 1} → statement M
run_end_spec =
    tie.close
    (tie.spec invariant-loop decreases-loop returns mul-p add-e loop-holds add-q same-values-requires same-end-requires sub-p mul-p-2 loop-less loop-again same-run-requires returns-2 add-e-2 loop-less-2 loop-again-2 returns-3)
