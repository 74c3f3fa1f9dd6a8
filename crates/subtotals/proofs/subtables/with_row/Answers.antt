-- `subtables::with_row` meets its contract. Assumes nothing.
use mathlib.Core.Path.{refl}
use Prim.Native.Nat.{◌≤◌}
use native.Mathlib.Omega.{arith}
use lib.Dec.{T}
use lib.IntN.{nat_abs}
use lib.Signed.{non_neg}
use mir.Facts.{to_z-of_z}
use Rattle.takings.specs.Subtotals.{most_sales}
use Rattle.subtotals.proofs.subtables.SheetLaws.{pair_low, pair_high, pair_over, pair_within, few_sold}
use Rattle.subtotals.proofs.subtables.with_row.Goals as goal

pub returns-then-count-lt1 : goal.returns-then-count-lt1
returns-then-count-lt1 c = let s = c in pair_low s.args.total s.args.count s.args.sum _ (rw (to_z-of_z s.ranges.count) at c.if-count-lt1.true) refl

pub returns-then-count-gt2147483648 : goal.returns-then-count-gt2147483648
returns-then-count-gt2147483648 c = let s = c in pair_high s.args.total s.args.count s.args.sum _ (rw (to_z-of_z s.ranges.count) at c.if-count-gt2147483648.true) refl

sold : (c : goal.Else-count-gt2147483648) → let n = c.args.count in T (non_neg n) × (1 ≤ nat_abs n) × (nat_abs n ≤ most_sales)
sold c =
    let s = c in
    few_sold s.args.count (rw (to_z-of_z s.ranges.count) at c.if-count-lt1.false) (rw (to_z-of_z s.ranges.count) at c.if-count-gt2147483648.false)

pub overflow_cast-count : goal.overflow_cast-count
overflow_cast-count c = rw (to_z-of_z c.ranges.count) ((sold (c)).0, omega (arith, (sold (c)).2))

pub overflow_mul-count : goal.overflow_mul-count
overflow_mul-count c = rw (to_z-of_z c.ranges.count) (omega (arith, (sold (c)).2))

pub returns-then-count-distance : goal.returns-then-count-distance
returns-then-count-distance c =
    let s = c in
    pair_over s.args.total s.args.count s.args.sum _ (rw (to_z-of_z s.ranges.count) at c.if-count-lt1.false) (rw (to_z-of_z s.ranges.count, c.distance.ensures, to_z-of_z s.ranges.total) at c.if-count-distance.true) refl

pub overflow_cast-result : goal.overflow_cast-result
overflow_cast-result c = rw (to_z-of_z c.ranges.count) ((sold c.before.before).0, omega (arith, (sold c.before.before).2))

pub overflow_add-result-2 : goal.overflow_add-result-2
overflow_add-result-2 c = rw (to_z-of_z c.ranges.count) (omega (arith, (sold c.before.before).2, c.requires))

pub returns : goal.returns
returns c =
    let s = c in
    pair_within s.args.total s.args.count s.args.sum _ (rw (to_z-of_z s.ranges.count) at c.if-count-lt1.false) (rw (to_z-of_z s.ranges.count, c.distance.ensures, to_z-of_z s.ranges.total) at c.if-count-distance.false) (rw (to_z-of_z s.ranges.count))
