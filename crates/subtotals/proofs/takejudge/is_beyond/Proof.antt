-- `takejudge::is_beyond` meets its contract. Assumes nothing.
use mathlib.Core.Path.{◌≡◌, sym, ◌∙◌}
use Prim.Native.Nat.{◌≤◌}
use native.Mathlib.Omega.{arith}
use Rattle.order.specs.options.Options.{with_list}
use lib.Dec.{T}
use lib.IntN.{nat_abs}
use lib.Signed.{non_neg}
use mir.Facts.{to_z-of_z}
use Rattle.takings.specs.Subtotals.{beyond_number, most_sales}
use Rattle.subtotals.proofs.takejudge.JudgeLaws.{by_number, by_other, by_first, by_second, by_sum, number_fine}
use borrow.Author.Rules.{rules}
use Rattle.subtotals.proofs.takejudge.is_beyond.Statement.{statement}
use Rattle.subtotals.proofs.takejudge.is_beyond.Tie as tie

bad-number-requires : tie.Need-bad_number-requires
bad-number-requires c κs = search rules

-- what was said of the two numbers
said : (c : tie.After-bad_number) → c.bad_number.result ≡ beyond_number c.args.number
said c = rw (to_z-of_z c.ranges.number) at c.bad_number.ensures

returns : tie.Need-returns-then-bad_number
returns c =
    let s = c in
    let a = s.args in
    λ codes rising. by_number (with_list a.o codes rising) a.table.width a.table.count a.table.values.now a.table.marks.now s.requires.0 a.added.count a.added.values.now a.added.marks.now s.requires.1 a.number a.other (sym (said c.before) ∙ c.if-bad_number.true)

bad-number-requires-2 : tie.Need-bad_number-requires-2
bad-number-requires-2 c κs = search rules

said-other : (c : tie.After-bad_number-2) → c.bad_number-2.result ≡ beyond_number c.args.other
said-other c = rw (to_z-of_z c.ranges.other) at c.bad_number-2.ensures

returns-2 : tie.Need-returns-then-bad_number-2
returns-2 c =
    let s = c in
    let a = s.args in
    λ codes rising. by_other (with_list a.o codes rising) a.table.width a.table.count a.table.values.now a.table.marks.now s.requires.0 a.added.count a.added.values.now a.added.marks.now s.requires.1 a.number a.other (sym (said-other c.before) ∙ c.if-bad_number-2.true)

count-sales-requires : tie.Need-count_sales-s-requires
count-sales-requires c κs =
    let p = c.requires.0 in
    (record { wide = omega (arith, p.width); values = omega (arith, p.values) }, omega arith)

returns-3 : tie.Need-returns-then-s-gt-MOST_SALES
returns-3 c =
    let s = c in
    let a = s.args in
    λ codes rising. by_first (with_list a.o codes rising) a.table.width a.table.count a.table.values.now a.table.marks.now s.requires.0 a.added.count a.added.values.now a.added.marks.now s.requires.1 a.number a.other _ c.count_sales-s.ensures c.if-s-gt-MOST_SALES.true

count-sales-requires-2 : tie.Need-count_sales-t-requires
count-sales-requires-2 c κs =
    let p = c.requires.1 in
    (record { wide = omega (arith, p.width); values = omega (arith, p.values) }, c.if-s-gt-MOST_SALES.false)

returns-4 : tie.Need-returns-then-t-gt-MOST_SALES
returns-4 c =
    let s = c in
    let a = s.args in
    λ codes rising. by_second (with_list a.o codes rising) a.table.width a.table.count a.table.values.now a.table.marks.now s.requires.0 a.added.count a.added.values.now a.added.marks.now s.requires.1 a.number a.other _ _ c.count_sales-s.ensures c.if-s-gt-MOST_SALES.false c.count_sales-t.ensures c.if-t-gt-MOST_SALES.true

fine : (c : tie.Else-bad_number-2) → (T (non_neg c.args.number) × (nat_abs c.args.number ≤ most_sales)) × (T (non_neg c.args.other) × (nat_abs c.args.other ≤ most_sales))
fine c = (number_fine c.args.number (sym (said c.before.before.before) ∙ c.if-bad_number.false), number_fine c.args.other (sym (said-other c.before) ∙ c.if-bad_number-2.false))

cast-result : tie.Need-overflow_cast-result
cast-result c = rw (to_z-of_z c.ranges.number) ((fine c.before.before.before.before.before.before).0.0, omega (arith, (fine c.before.before.before.before.before.before).0.1))

cast-result-2 : tie.Need-overflow_cast-result-2
cast-result-2 c = rw (to_z-of_z c.ranges.other) ((fine c.before.before.before.before.before.before).1.0, omega (arith, (fine c.before.before.before.before.before.before).1.1))

add-result : tie.Need-overflow_add-result
add-result c = rw (to_z-of_z c.ranges.number, to_z-of_z c.ranges.other) (omega (arith, (fine c.before.before.before.before.before.before).0.1, (fine c.before.before.before.before.before.before).1.1))

returns-5 : tie.Need-returns
returns-5 c =
    let s = c in
    let a = s.args in
    rw (to_z-of_z s.ranges.number, to_z-of_z s.ranges.other)
    (λ codes rising. by_sum (with_list a.o codes rising) a.table.width a.table.count a.table.values.now a.table.marks.now s.requires.0 a.added.count a.added.values.now a.added.marks.now s.requires.1 a.number a.other _ _ (sym (said c.before.before.before.before.before.before.before.before.before) ∙ c.if-bad_number.false) (sym (said-other c.before.before.before.before.before.before.before) ∙ c.if-bad_number-2.false) c.count_sales-s.ensures c.if-s-gt-MOST_SALES.false c.count_sales-t.ensures c.if-t-gt-MOST_SALES.false)

pub is_beyond_spec : {M : Type 1} → statement M
is_beyond_spec =
    tie.close
    (tie.spec bad-number-requires returns bad-number-requires-2 returns-2 count-sales-requires returns-3 count-sales-requires-2 returns-4 cast-result cast-result-2 add-result returns-5)
