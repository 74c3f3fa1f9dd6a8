use native.Mathlib.Omega.{arith}
use Prim.Native.Nat.{◌+◌, ◌<◌}
use Rattle.order.proofs.RowLaws.{row_room}
use Rattle.searching.proofs.ReachLaws.{row_at}
use Rattle.matching.proofs.RestLaws.{rows_less}
use Rattle.groups.proofs.sortedruns.skip_alike.Goals as goal

pub returns-then-rows-i-le16 : goal.returns-then-rows-i-le16
returns-then-rows-i-le16 c = (omega arith, c.requires.1, λ l. absurd (omega arith))

-- the row that is asked is one of them
there : (c : goal.Else-rows-i-le16) → c.args.i + 16 < c.args.rows.count
there c = omega (arith, c.if-rows-i-le16.false)

pub overflow_mul-i : goal.overflow_mul-i
overflow_mul-i c = let s = c in omega (arith, row_room s.args.i s.args.rows.count s.args.rows.width (omega (arith, there c)), s.requires.0.values)

pub overflow_mul-i-2 : goal.overflow_mul-i-2
overflow_mul-i-2 c = let s = c in omega (arith, row_room (s.args.i + 16) s.args.rows.count s.args.rows.width (there c), s.requires.0.values)

pub same_values-requires : goal.same_values-requires
same_values-requires c = let s = c in (row_at s.requires.0 s.args.i (omega (arith, there c)), row_at s.requires.0 (s.args.i + 16) (there c))

pub returns-then-not-same_values : goal.returns-then-not-same_values
returns-then-not-same_values c = (omega arith, c.requires.1, λ l. absurd (omega arith))

pub last_alike-requires : goal.last_alike-requires
last_alike-requires c =
    let s = c in
    (rows_less _ _ _ _ _ s.args.rows.count c.reach-high.ensures.1 s.requires.0, c.reach-high.ensures.0)

pub returns : goal.returns
returns c =
    let e = c.last_alike.ensures in
    let r = c.reach-high.ensures in
    (e.0, omega (arith, e.1, r.1), λ l. (omega (arith, e.1, r.1), e.2))
