use mathlib.Core.Path.{◌≡◌}
use mathlib.Core.Bool.{false}
use Prim.Native.Nat.{ℕ, ◌+◌, ◌-◌, ◌*◌, ◌/◌, ◌%◌, ◌≤◌, ◌<◌}
use native.Mathlib.Nat.{mul-le-mul_right}
use native.Mathlib.Omega.{arith}
use borrow.Author.Rules.{rules}
use lib.ListN.{length}
use Rattle.frames.specs.Cells.{is_null}
use Rattle.order.specs.Requires.{cell_at}
use Rattle.matchrun.proofs.cursor.RiseLaws.{risen_none}
use Rattle.matchrun.proofs.cursor.skip_risen.Statement.{statement}
use Rattle.matchrun.proofs.cursor.skip_risen.Tie as tie

-- the last row that is reached four rows at a time
abbrev last : (c : tie.Start) → ℕ
last c = c.args.from + (c.args.to - c.args.from - 1) / 4 * 4

-- what is asked of rows that are w wide
asked : (c : tie.Else-count-lt9) →
    let s = c in
    let a = s.args in
    let vs = a.rows.values.now in
    let ms = a.rows.marks.now in
    (a.o.by < a.rows.width) × (a.from ≤ last s.before) × ((last s.before - a.from) % 4 ≡ 0) × ((last s.before + 1) * a.rows.width ≤ length vs) × ((last s.before + 1) * a.rows.width ≤ length ms) × (is_null (cell_at (a.from * a.rows.width + a.o.by) vs ms) ≡ false)
asked c =
    let s = c in
    let p = s.requires.0 in
    let m = mul-le-mul_right {m = last s.before + 1} {n = s.args.to} s.args.rows.width (omega (arith, c.if-count-lt9.false)) in
    (p.wide, omega arith, omega arith, omega (arith, m, p.values), omega (arith, m, p.marks), s.requires.2)

sub-rows : tie.Need-overflow_sub-count
sub-rows c = search rules

returns : tie.Need-returns-then-count-lt9
returns c = let s = c in let a = s.args in (s.requires.1, risen_none a.rows.width a.o.by a.rows.values.now a.rows.marks.now a.from s.requires.2)

sub-end : tie.Need-overflow_sub-end
sub-end c = search rules

mul-end : tie.Need-overflow_mul-end
mul-end c = search rules

add-end : tie.Need-overflow_add-end
add-end c = search rules

skip-four-requires : tie.Need-skip_four-requires
skip-four-requires c κs = rw c.if-rows-eq1.true at (asked c.before.before.before)

returns-2 : tie.Need-returns-then-rows-eq1
returns-2 c = let r = c.skip_four.ensures in (omega (arith, r.0, c.if-count-lt9.false), rw c.if-rows-eq1.true r.1)

skip-four-requires-2 : tie.Need-skip_four-requires-then-rows-eq2
skip-four-requires-2 c κs = rw c.if-rows-eq2.true at (asked c.before.before.before.before)

returns-3 : tie.Need-returns-then-rows-eq2
returns-3 c = let r = c.skip_four-then-rows-eq2.ensures in (omega (arith, r.0, c.if-count-lt9.false), rw c.if-rows-eq2.true r.1)

returns-4 : tie.Need-returns
returns-4 c = let s = c in let a = s.args in (s.requires.1, risen_none a.rows.width a.o.by a.rows.values.now a.rows.marks.now a.from s.requires.2)

pub skip_risen_spec : {M : Type 1} → statement M
skip_risen_spec =
    tie.close
    (tie.spec sub-rows returns sub-end mul-end add-end skip-four-requires returns-2 skip-four-requires-2 returns-3 returns-4)
