use mathlib.Core.Path.{refl}
use Prim.Native.Nat.{◌<◌}
use native.Mathlib.Omega.{arith}
use mir.Facts.{to_z-of_z}
use Rattle.matchrun.proofs.walk.choice_back.Goals as goal

-- the cursor moved on
moved : (c : goal.Else-c-at) → c.args.at < c.args.c
moved c = omega (arith, c.if-c-at.false, c.requires.0)

pub returns-then-c-at : goal.returns-then-c-at
returns-then-c-at c = (tt, λ e. refl, λ h. absurd (omega (arith, h, c.if-c-at.true)))

pub overflow_sub-k : goal.overflow_sub-k
overflow_sub-k c = c.requires.1 (moved c)

pub near_row-requires : goal.near_row-requires
near_row-requires c = (c.requires.2 (moved c), omega (arith, c.requires.3))

pub returns : goal.returns
returns c =
    let s = c in
    let r = rw (to_z-of_z s.ranges.v, to_z-of_z s.ranges.tolerance) at c.near_row.ensures in
    (r.0, λ e. absurd (omega (arith, e, moved c.before)), λ h. r.1)
