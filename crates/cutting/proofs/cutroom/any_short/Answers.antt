-- `cutroom::any_short` meets its contract. Assumes nothing.
use mathlib.Core.Path.{sym, ◌∙◌}
use Prim.Native.Nat.{◌+◌, ◌≤◌}
use native.Mathlib.Omega.{arith}
use Rattle.cutting.proofs.cutroom.RoomLaws.{parts_in_lem, starts, left_fits, right_fits, met, steps, ends}
use Rattle.cutting.proofs.cutroom.any_short.Goals.{After-cut_behind-m}
use Rattle.cutting.proofs.cutroom.any_short.Goals as goal

pub loop-i-init : goal.loop-i-init
loop-i-init c = starts _ _ _ _ _ _ _ _ _ _ _ _ _ _

-- The pair is within both tables.
left_within : (c : After-cut_behind-m) → c.loop-i.a + c.cut_behind-n.result ≤ c.args.left.count
left_within c = left_fits _ _ _ _ _ _ _ _ _ _ _ _ _ _ _ _ _ c.loop-i.invariant c.loop-i-test.true _ _ c.cut_behind-n.ensures c.cut_behind-m.ensures

right_within : (c : After-cut_behind-m) → c.loop-i.b + c.cut_behind-m.result ≤ c.args.right.count
right_within c = right_fits _ _ _ _ _ _ _ _ _ _ _ _ _ _ _ _ _ c.loop-i.invariant c.loop-i-test.true _ _ c.cut_behind-n.ensures c.cut_behind-m.ensures

pub too_short-requires : goal.too_short-requires
too_short-requires c =
    let m = (goal.at.too_short-requires c).After-cut_behind-m in
    parts_in_lem _ _ _ _ _ _ _ _ _ _ _ _ c.requires _ _ _ _ (left_within m) (right_within m)

pub returns-then-too_short : goal.returns-then-too_short
returns-then-too_short c =
    met _ _ _ _ _ _ _ _ _ _ _ _ _ _ _ _ _ c.loop-i.invariant c.loop-i-test.true _ _ c.cut_behind-n.ensures c.cut_behind-m.ensures (sym c.too_short.ensures ∙ c.if-too_short.true)

pub overflow_add-a : goal.overflow_add-a
overflow_add-a c = omega (arith, left_within (goal.at.overflow_add-a c).After-cut_behind-m)

pub overflow_add-b : goal.overflow_add-b
overflow_add-b c = omega (arith, right_within (goal.at.overflow_add-b c).After-cut_behind-m)

pub loop-i-preserved : goal.loop-i-preserved
loop-i-preserved c =
    steps _ _ _ _ _ _ _ _ _ _ _ _ _ _ _ _ _ c.loop-i.invariant c.loop-i-test.true _ _ c.cut_behind-n.ensures c.cut_behind-m.ensures (sym c.too_short.ensures ∙ c.if-too_short.false)

pub too_short-requires-2 : goal.too_short-requires-2
too_short-requires-2 c =
    parts_in_lem _ _ _ _ _ _ _ _ _ _ _ _ c.requires _ _ _ _ (omega (arith, c.loop-i.invariant.left)) (omega (arith, c.loop-i.invariant.right))

pub returns : goal.returns
returns c = c.too_short-2.ensures ∙ ends _ _ _ _ _ _ _ _ _ _ _ _ _ _ _ _ _ c.loop-i.invariant c.loop-i-test.false
