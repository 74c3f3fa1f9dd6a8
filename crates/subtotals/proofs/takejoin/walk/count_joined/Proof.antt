-- `takejoin::walk::count_joined` meets its contract. Assumes nothing.
use mathlib.Core.Path.{◌≡◌, sym, ap, ◌∙◌}
use Prim.Native.Nat.{ℕ, ◌+◌, ◌-◌, ◌^◌, ◌≤◌, ◌<◌}
use borrow.Author.Rules.{rules}
use native.Mathlib.Omega.{arith}
use Rattle.order.specs.options.Options.{with_list}
use lib.ListN.{length}
use Rattle.std.specs.declared.cmp.Ordering.TheVariants.{Less, Equal, Greater}
use Rattle.tables.proofs.CellLaws.{at_least}
use Rattle.subtotals.specs.takejoin.Join.{side, joined, subs_from}
use Rattle.subtotals.proofs.takejoin.WalkLaws.{left_first, left_second, step_less, step_greater, step_equal, none_joined}
use Rattle.subtotals.proofs.takejoin.walk.count_joined.Statement.{statement}
use Rattle.subtotals.proofs.takejoin.walk.count_joined.Tie as tie

abbrev invariant-loop : tie.invariant-loop-i
invariant-loop table added rules n₀ i₀ j₀ n i j =
    (i ≤ table.count) × (j ≤ added.count) × (n ≤ i + j)
    × (length (joined (with_list rules.terms rules.codes.now rules.rising.now) (subs_from (with_list rules.terms rules.codes.now rules.rising.now) table.width 0 table.count table.values.now table.marks.now) (subs_from (with_list rules.terms rules.codes.now rules.rising.now) table.width 0 added.count added.values.now added.marks.now)) ≡ n + length (joined (with_list rules.terms rules.codes.now rules.rising.now) (subs_from (with_list rules.terms rules.codes.now rules.rising.now) table.width i table.count table.values.now table.marks.now) (subs_from (with_list rules.terms rules.codes.now rules.rising.now) table.width j added.count added.values.now added.marks.now)))

abbrev decreases-loop : tie.decreases-loop-i
decreases-loop table added rules n₀ i₀ j₀ n i j = table.count + added.count - (i + j)

loop-holds : tie.Need-loop-i-init invariant-loop decreases-loop
loop-holds c = (omega arith, omega arith, omega arith, omega arith)

-- the tables' words bound their rows
few : (s : tie.Start invariant-loop decreases-loop) → s.args.table.count + s.args.added.count < 2 ^ 63
few s =
    let a = s.args in
    let g = s.ranges.table in
    let f = s.ranges.added in
    let h = s.requires.first in
    let k = s.requires.second in
    omega (arith, g.1, f.1, at_least a.table.count a.table.width (omega (arith, h.wide)), at_least a.added.count a.table.width (omega (arith, h.wide)), h.values, k.values)

add-loop : tie.Need-overflow_add-i invariant-loop decreases-loop
add-loop c = omega (arith, few c.before, c.loop-i.invariant.0, c.loop-i.invariant.1)

add-loop-2 : tie.Need-overflow_add-table invariant-loop decreases-loop
add-loop-2 c = omega (arith, few c.before)

next-side-requires : tie.Need-next_side-requires invariant-loop decreases-loop
next-side-requires c κs =
    let p = c.requires in
    (record { rows = p.first; within = c.loop-i.invariant.0 }, record { rows = p.second; within = c.loop-i.invariant.1 })

enum_told : tie.Need-enum_told-1 invariant-loop decreases-loop
enum_told c = search rules

-- which row is next, and that it is there
less : (c : tie.In-Less invariant-loop decreases-loop) → let a = c.args in let l = c.loop-i in
    side (with_list a.rules.terms a.rules.codes.now a.rules.rising.now) (subs_from (with_list a.rules.terms a.rules.codes.now a.rules.rising.now) a.table.width l.i a.table.count a.table.values.now a.table.marks.now) (subs_from (with_list a.rules.terms a.rules.codes.now a.rules.rising.now) a.table.width l.j a.added.count a.added.values.now a.added.marks.now) ≡ Less
less c = sym c.next_side.ensures ∙ c.in-Less.is

less-there : (c : tie.In-Less invariant-loop decreases-loop) → c.loop-i.i < c.args.table.count
less-there c =
    let a = c.args in
    let l = c.loop-i in
    left_first (with_list a.rules.terms a.rules.codes.now a.rules.rising.now) a.table.width a.table.count a.table.values.now a.table.marks.now a.added.count a.added.values.now a.added.marks.now l.i l.j l.invariant.0 (λ e. let d = less c in let z : ◌≡◌ {A = ℕ} 0 1 = cc in omega arith)

add-i : tie.Need-overflow_add-i-in-Less invariant-loop decreases-loop
add-i c = omega (arith, less-there (c), few c.before.before.before.before)

add-n : tie.Need-overflow_add-n invariant-loop decreases-loop
add-n c = omega (arith, few c.before.before.before.before, c.loop-i.invariant.0, c.loop-i.invariant.1, c.loop-i.invariant.2)

loop-less : tie.Need-loop-i-smaller-in-Less invariant-loop decreases-loop
loop-less c = omega (arith, less-there (c), c.loop-i-test.true)

loop-again : tie.Need-loop-i-preserved-in-Less invariant-loop decreases-loop
loop-again c =
    let a = c.args in
    let l = c.loop-i in
    let d = ap length (step_less (with_list a.rules.terms a.rules.codes.now a.rules.rising.now) a.table.width a.table.count a.table.values.now a.table.marks.now a.added.count a.added.values.now a.added.marks.now l.i l.j (less-there (c)) (less (c))) in
    (omega (arith, less-there (c)), l.invariant.1, omega (arith, l.invariant.2), omega (arith, l.invariant.3, d))

enum-told-2 : tie.Need-enum_told-in-Equal invariant-loop decreases-loop
enum-told-2 c = search rules

equal : (c : tie.In-Equal invariant-loop decreases-loop) → let a = c.args in let l = c.loop-i in
    side (with_list a.rules.terms a.rules.codes.now a.rules.rising.now) (subs_from (with_list a.rules.terms a.rules.codes.now a.rules.rising.now) a.table.width l.i a.table.count a.table.values.now a.table.marks.now) (subs_from (with_list a.rules.terms a.rules.codes.now a.rules.rising.now) a.table.width l.j a.added.count a.added.values.now a.added.marks.now) ≡ Equal
equal c = sym c.next_side.ensures ∙ c.in-Equal.is

equal-there : (c : tie.In-Equal invariant-loop decreases-loop) → (c.loop-i.i < c.args.table.count) × (c.loop-i.j < c.args.added.count)
equal-there c =
    let a = c.args in
    let l = c.loop-i in (
      left_first (with_list a.rules.terms a.rules.codes.now a.rules.rising.now) a.table.width a.table.count a.table.values.now a.table.marks.now a.added.count a.added.values.now a.added.marks.now l.i l.j l.invariant.0 (λ e. let d = equal c in let z : ◌≡◌ {A = ℕ} 0 1 = cc in omega arith),
      left_second (with_list a.rules.terms a.rules.codes.now a.rules.rising.now) a.table.width a.table.count a.table.values.now a.table.marks.now a.added.count a.added.values.now a.added.marks.now l.i l.j l.invariant.0 l.invariant.1 c.loop-i-test.true (λ e. let d = equal c in let z : ◌≡◌ {A = ℕ} 0 1 = cc in omega arith),
    )

add-i-2 : tie.Need-overflow_add-i-in-Equal invariant-loop decreases-loop
add-i-2 c = omega (arith, (equal-there (c)).0, few c.before.before.before.before)

add-j : tie.Need-overflow_add-j invariant-loop decreases-loop
add-j c = omega (arith, (equal-there (c)).1, few c.before.before.before.before)

add-n-2 : tie.Need-overflow_add-n-in-Equal invariant-loop decreases-loop
add-n-2 c = omega (arith, few c.before.before.before.before, c.loop-i.invariant.0, c.loop-i.invariant.1, c.loop-i.invariant.2)

loop-less-2 : tie.Need-loop-i-smaller-in-Equal invariant-loop decreases-loop
loop-less-2 c = omega (arith, (equal-there (c)).0, c.loop-i-test.true)

loop-again-2 : tie.Need-loop-i-preserved-in-Equal invariant-loop decreases-loop
loop-again-2 c =
    let a = c.args in
    let l = c.loop-i in
    let t = equal-there (c) in
    let d = ap length (step_equal (with_list a.rules.terms a.rules.codes.now a.rules.rising.now) a.table.width a.table.count a.table.values.now a.table.marks.now a.added.count a.added.values.now a.added.marks.now l.i l.j t.0 t.1 (equal (c))) in
    (omega (arith, t.0), omega (arith, t.1), omega (arith, l.invariant.2), omega (arith, l.invariant.3, d))

enum-told-3 : tie.Need-enum_told-in-Greater invariant-loop decreases-loop
enum-told-3 c = search rules

greater : (c : tie.In-Greater invariant-loop decreases-loop) → let a = c.args in let l = c.loop-i in
    side (with_list a.rules.terms a.rules.codes.now a.rules.rising.now) (subs_from (with_list a.rules.terms a.rules.codes.now a.rules.rising.now) a.table.width l.i a.table.count a.table.values.now a.table.marks.now) (subs_from (with_list a.rules.terms a.rules.codes.now a.rules.rising.now) a.table.width l.j a.added.count a.added.values.now a.added.marks.now) ≡ Greater
greater c = sym c.next_side.ensures ∙ c.in-Greater.is

greater-there : (c : tie.In-Greater invariant-loop decreases-loop) → c.loop-i.j < c.args.added.count
greater-there c =
    let a = c.args in
    let l = c.loop-i in
    left_second (with_list a.rules.terms a.rules.codes.now a.rules.rising.now) a.table.width a.table.count a.table.values.now a.table.marks.now a.added.count a.added.values.now a.added.marks.now l.i l.j l.invariant.0 l.invariant.1 c.loop-i-test.true (λ e. let d = greater c in let z : ◌≡◌ {A = ℕ} 0 1 = cc in omega arith)

add-j-2 : tie.Need-overflow_add-j-in-Greater invariant-loop decreases-loop
add-j-2 c = omega (arith, greater-there (c), few c.before.before.before.before)

add-n-3 : tie.Need-overflow_add-n-in-Greater invariant-loop decreases-loop
add-n-3 c = omega (arith, few c.before.before.before.before, c.loop-i.invariant.0, c.loop-i.invariant.1, c.loop-i.invariant.2)

loop-less-3 : tie.Need-loop-i-smaller invariant-loop decreases-loop
loop-less-3 c = omega (arith, greater-there (c), c.loop-i-test.true)

loop-again-3 : tie.Need-loop-i-preserved invariant-loop decreases-loop
loop-again-3 c =
    let a = c.args in
    let l = c.loop-i in
    let t = greater-there (c) in
    let d = ap length (step_greater (with_list a.rules.terms a.rules.codes.now a.rules.rising.now) a.table.width a.table.count a.table.values.now a.table.marks.now a.added.count a.added.values.now a.added.marks.now l.i l.j t (greater (c))) in
    (l.invariant.0, omega (arith, t), omega (arith, l.invariant.2), omega (arith, l.invariant.3, d))

returns : tie.Need-returns invariant-loop decreases-loop
returns c =
    let a = c.args in
    let l = c.loop-i in
    let d = none_joined (with_list a.rules.terms a.rules.codes.now a.rules.rising.now) a.table.width a.table.count a.table.values.now a.table.marks.now a.added.count a.added.values.now a.added.marks.now l.i l.j (omega (arith, c.loop-i-test.false, l.invariant.0, l.invariant.1)) (omega (arith, c.loop-i-test.false, l.invariant.0, l.invariant.1)) in
    (omega (arith, l.invariant.3, d), omega (arith, l.invariant.0, l.invariant.1, l.invariant.2))

pub count_joined_spec : {M : Type 1} → statement M
count_joined_spec =
    tie.close
    (tie.spec invariant-loop decreases-loop loop-holds add-loop add-loop-2 next-side-requires enum_told add-i add-n loop-less loop-again enum-told-2 add-i-2 add-j add-n-2 loop-less-2 loop-again-2 enum-told-3 add-j-2 add-n-3 loop-less-3 loop-again-3 returns)
