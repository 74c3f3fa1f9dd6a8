-- `saleplace::reach` meets its contract. Assumes nothing.
use mathlib.Core.Path.{◌≡◌, sym, ◌∙◌}
use Prim.Native.Nat.{ℕ, suc, ◌+◌, ◌-◌, ◌*◌, ◌^◌, ◌≤◌, ◌<◌}
use native.Mathlib.Omega.{arith}
use borrow.Author.Rules.{rules}
use Rattle.frames.specs.Cells.{row_from}
use Rattle.order.specs.options.Options.{with_list, options_of}
use Rattle.std.specs.declared.cmp.Ordering.TheVariants.{Less}
use Rattle.order.proofs.RowLaws.{row_room}
use Rattle.sales.specs.saleplace.Place.{cmp_at}
use Rattle.sales.proofs.saleplace.PlaceLaws.{at_least, found, placed_within}
use Rattle.sales.proofs.saleplace.reach.Statement.{statement}
use Rattle.sales.proofs.saleplace.reach.Tie as tie

abbrev invariant-loop : tie.invariant-loop-low
invariant-loop body start n w left q rules low₀ low =
    (start ≤ low) × (low ≤ n) × (start < low → cmp_at (with_list rules.terms rules.codes.now rules.rising.now) w body (row_from (suc rules.terms.by) q left.values.now left.marks.now) (low - 1) ≡ Less)

abbrev decreases-loop : tie.decreases-loop-low
decreases-loop body start n w left q rules low₀ low = n - low

loop-holds : tie.Need-loop-low-init invariant-loop decreases-loop
loop-holds c = let s = c in (omega arith, s.requires.range, λ l. absurd (omega arith))

sub-loop : tie.Need-overflow_sub-low invariant-loop decreases-loop
sub-loop c = omega (arith, c.loop-low.invariant.0)

sub-loop-2 : tie.Need-overflow_sub-n invariant-loop decreases-loop
sub-loop-2 c = omega (arith, c.loop-low.invariant.1)

sub_at : tie.Need-overflow_sub-at invariant-loop decreases-loop
sub_at c = omega (arith, c.loop-low.invariant.0)

-- The words bound the rows.
few : (s : tie.Start invariant-loop decreases-loop) → s.args.n < 2 ^ 63
few s =
    let g = s.well_formed.0 in
    omega (arith, g.0, g.1, at_least s.args.n s.args.w (omega (arith, s.requires.wide)), s.requires.rows)

-- The row that is looked at, and that it is there.
abbrev at : tie.In-loop-low invariant-loop decreases-loop → ℕ
at c = c.loop-low.low + (c.loop-low.low - c.args.start)

there : (c : tie.In-loop-low invariant-loop decreases-loop) → at c < c.args.n
there c = omega (arith, c.loop-low-test.true, c.loop-low.invariant.0, c.loop-low.invariant.1)

place : (c : tie.In-loop-low invariant-loop decreases-loop) → let a = c.args in at c * a.w + a.w ≤ a.n * a.w
place c = let a = c.args in row_room (at c) a.n a.w (there c)

add_at : tie.Need-overflow_add-at invariant-loop decreases-loop
add_at c = omega (arith, there c, few c.before.before)

mul-cmp-sale : tie.Need-overflow_mul-at invariant-loop decreases-loop
mul-cmp-sale c = let s = c in omega (arith, place c, s.requires.rows)

cmp-sale-requires : tie.Need-cmp_sale-requires invariant-loop decreases-loop
cmp-sale-requires c κs =
    let s = c in
    record { compare = s.requires.compare; row = omega (arith, place c, s.requires.rows, s.requires.wide); values = s.requires.values; marks = s.requires.marks }

enum_told : tie.Need-enum_told-1 invariant-loop decreases-loop
enum_told c = search rules

add_low : tie.Need-overflow_add-low invariant-loop decreases-loop
add_low c = let t = c in omega (arith, there t.before.before, few t.before.before.before.before)

loop-less : tie.Need-loop-low-smaller invariant-loop decreases-loop
loop-less c = let t = c in omega (arith, there t.before.before)

loop-again : tie.Need-loop-low-preserved invariant-loop decreases-loop
loop-again c =
    let t = c in
    let s = t in
    let a = s.args in
    let e : at t.before.before + 1 - 1 ≡ at t.before.before = omega arith in
    let d : cmp_at (options_of s.args.rules) a.w a.body.now (row_from (suc s.args.rules.terms.by) s.args.q s.args.left.values.now s.args.left.marks.now) (at t.before.before) ≡ Less = sym c.cmp_sale.ensures ∙ c.in-Less.is in
    (omega (arith, t.loop-low.invariant.0), omega (arith, there t.before.before), λ k. rw e d)

enum-told-2 : tie.Need-enum_told-in-Equal invariant-loop decreases-loop
enum-told-2 c = search rules

returns : tie.Need-returns-in-Equal invariant-loop decreases-loop
returns c =
    let t = c in
    let s = t in
    let a = s.args in
    found (options_of s.args.rules) a.w a.start a.n a.body.now (row_from (suc s.args.rules.terms.by) s.args.q s.args.left.values.now s.args.left.marks.now) (at t.before.before) (omega (arith, t.loop-low.invariant.0)) (there t.before.before) (sym c.cmp_sale.ensures ∙ c.in-Equal.is)

enum-told-3 : tie.Need-enum_told-in-Greater invariant-loop decreases-loop
enum-told-3 c = search rules

find-place-requires : tie.Need-find_place-requires invariant-loop decreases-loop
find-place-requires c κs =
    let t = c in
    let p = t.requires in
    record { compare = p.compare; wide = p.wide; range = omega arith; rows = omega (arith, place t.before.before, p.rows); values = p.values; marks = p.marks }

returns-2 : tie.Need-returns-in-Greater invariant-loop decreases-loop
returns-2 c =
    let t = c in
    let l = t.loop-low in
    let s = t in
    let a = s.args in
    placed_within (options_of s.args.rules) a.w a.start a.n a.body.now (row_from (suc s.args.rules.terms.by) s.args.q s.args.left.values.now s.args.left.marks.now) l.low (at t.before.before.before) _ _ l.invariant.0 (omega (arith, there t.before.before.before)) l.invariant.2 (λ k. sym c.cmp_sale.ensures ∙ c.in-Greater.is) c.find_place.ensures

find-place-requires-2 : tie.Need-find_place-requires-2 invariant-loop decreases-loop
find-place-requires-2 c κs =
    let p = c.requires in
    record { compare = p.compare; wide = p.wide; range = c.loop-low.invariant.1; rows = p.rows; values = p.values; marks = p.marks }

returns-3 : tie.Need-returns invariant-loop decreases-loop
returns-3 c =
    let l = c.loop-low in
    let s = c in
    let a = s.args in
    placed_within (options_of s.args.rules) a.w a.start a.n a.body.now (row_from (suc s.args.rules.terms.by) s.args.q s.args.left.values.now s.args.left.marks.now) l.low a.n _ _ l.invariant.0 (omega arith) l.invariant.2 (λ k. absurd (omega arith)) c.find_place-2.ensures

pub reach_spec : {M : Type 1} → statement M
reach_spec =
    tie.close
    (tie.spec invariant-loop decreases-loop loop-holds sub-loop sub-loop-2 sub_at add_at mul-cmp-sale cmp-sale-requires enum_told add_low loop-less loop-again enum-told-2 returns enum-told-3 find-place-requires returns-2 find-place-requires-2 returns-3)
