-- `saleplace::find_single` meets its contract. Assumes nothing.
use mathlib.Core.Path.{◌≡◌, sym, ap, ◌∙◌}
use Prim.Native.Nat.{ℕ, ◌+◌, ◌-◌, ◌*◌, ◌/◌, ◌^◌, ◌≤◌, ◌<◌}
use native.Mathlib.Omega.{arith}
use borrow.Author.Rules.{rules}
use Rattle.std.specs.declared.cmp.Ordering.TheVariants.{Less, Greater}
use Rattle.order.proofs.RowLaws.{row_room}
use Rattle.sales.specs.saleplace.Place.{cmp_one}
use Rattle.sales.proofs.saleplace.PlaceLaws.{at_least, found_by, missing_by}
use Rattle.sales.proofs.saleplace.find_single.Statement.{statement}
use Rattle.sales.proofs.saleplace.find_single.Tie as tie

abbrev invariant-loop : tie.invariant-loop-from
invariant-loop body low high w left q o from₀ to₀ from to =
    (low ≤ from) × (from ≤ to) × (to ≤ high) × (low < from → cmp_one o w body q left.values.now left.marks.now (from - 1) ≡ Less)
    × (to < high → cmp_one o w body q left.values.now left.marks.now to ≡ Greater)

abbrev decreases-loop : tie.decreases-loop-from
decreases-loop body low high w left q o from₀ to₀ from to = to - from

loop-holds : tie.Need-loop-from-init invariant-loop decreases-loop
loop-holds c = let s = c in (omega arith, s.requires.range, omega arith, λ l. absurd (omega arith), λ l. absurd (omega arith))

-- The words bound the rows.
few : (s : tie.Start invariant-loop decreases-loop) → s.args.high < 2 ^ 63
few s =
    let g = s.well_formed.0 in
    omega (arith, g.0, g.1, at_least s.args.high s.args.w (omega (arith, s.requires.wide)), s.requires.rows)

-- The row in the middle is there.
place : (c : tie.In-loop-from invariant-loop decreases-loop) → let l = c.loop-from in let a = c.args in (l.from + l.to) / 2 * a.w + a.w ≤ a.high * a.w
place c =
    let l = c.loop-from in
    let a = c.args in
    let t = c.loop-from-test.true in
    row_room ((l.from + l.to) / 2) a.high a.w (omega (arith, l.invariant.2))

add_half : tie.Need-overflow_add-half invariant-loop decreases-loop
add_half c = let l = c.loop-from in omega (arith, few c.before.before, l.invariant.1, l.invariant.2, c.loop-from-test.true)

mul-cmp-first : tie.Need-overflow_mul-half invariant-loop decreases-loop
mul-cmp-first c = let s = c in omega (arith, place c, s.requires.rows)

cmp-first-requires : tie.Need-cmp_first-requires invariant-loop decreases-loop
cmp-first-requires c κs =
    let s = c in
    record { row = omega (arith, place c, s.requires.rows, s.requires.wide); values = s.requires.values; marks = s.requires.marks }

enum_told : tie.Need-enum_told-1 invariant-loop decreases-loop
enum_told c = search rules

add-from : tie.Need-overflow_add-from invariant-loop decreases-loop
add-from c = let l = c.loop-from in omega (arith, few c.before.before.before.before, l.invariant.1, l.invariant.2, c.loop-from-test.true)

loop-less : tie.Need-loop-from-smaller-in-Less invariant-loop decreases-loop
loop-less c = let l = c.loop-from in omega (arith, c.loop-from-test.true)

loop-again : tie.Need-loop-from-preserved-in-Less invariant-loop decreases-loop
loop-again c =
    let l = c.loop-from in
    let a = c.args in
    let m = (l.from + l.to) / 2 in
    let t = c.loop-from-test.true in
    let e : m + 1 - 1 ≡ m = omega arith in
    let d : cmp_one a.o a.w a.body.now a.q a.left.values.now a.left.marks.now m ≡ Less = sym c.cmp_first.ensures ∙ c.in-Less.is in
    (omega (arith, l.invariant.0), omega arith, l.invariant.2, λ k. ap (λ (i : ℕ). cmp_one a.o a.w a.body.now a.q a.left.values.now a.left.marks.now i) e ∙ d, l.invariant.4)

enum-told-2 : tie.Need-enum_told-in-Equal invariant-loop decreases-loop
enum-told-2 c = search rules

returns : tie.Need-returns-in-Equal invariant-loop decreases-loop
returns c =
    let l = c.loop-from in
    let a = c.args in
    let t = c.loop-from-test.true in
    found_by (cmp_one a.o a.w a.body.now a.q a.left.values.now a.left.marks.now) a.low a.high ((l.from + l.to) / 2) (omega (arith, l.invariant.0)) (omega (arith, l.invariant.2)) (sym c.cmp_first.ensures ∙ c.in-Equal.is)

enum-told-3 : tie.Need-enum_told-in-Greater invariant-loop decreases-loop
enum-told-3 c = search rules

loop-less-2 : tie.Need-loop-from-smaller invariant-loop decreases-loop
loop-less-2 c = let l = c.loop-from in omega (arith, c.loop-from-test.true)

loop-again-2 : tie.Need-loop-from-preserved invariant-loop decreases-loop
loop-again-2 c =
    let l = c.loop-from in
    let t = c.loop-from-test.true in
    (l.invariant.0, omega arith, omega (arith, l.invariant.2), l.invariant.3, λ k. sym c.cmp_first.ensures ∙ c.in-Greater.is)

returns-2 : tie.Need-returns invariant-loop decreases-loop
returns-2 c =
    let l = c.loop-from in
    let a = c.args in
    let e : l.from ≡ l.to = omega (arith, l.invariant.1, c.loop-from-test.false) in
    missing_by (cmp_one a.o a.w a.body.now a.q a.left.values.now a.left.marks.now) a.low a.high l.from l.invariant.0 (omega (arith, l.invariant.1, l.invariant.2)) l.invariant.3 (rw e l.invariant.4)

pub find_single_spec : {M : Type 1} → statement M
find_single_spec =
    tie.close
    (tie.spec invariant-loop decreases-loop loop-holds add_half mul-cmp-first cmp-first-requires enum_told add-from loop-less loop-again enum-told-2 returns enum-told-3 loop-less-2 loop-again-2 returns-2)
