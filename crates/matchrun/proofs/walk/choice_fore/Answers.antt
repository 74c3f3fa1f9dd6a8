use mathlib.Core.Path.{refl}
use Prim.Native.Nat.{◌<◌}
use native.Mathlib.Omega.{arith}
use mir.Facts.{to_z-of_z}
use Rattle.matchrun.proofs.walk.choice_fore.Goals as goal

-- the cursor is at a row
there : (c : goal.Else-c-end) → c.args.c < c.args.end
there c = omega (arith, c.if-c-end.false, c.requires.0)

pub returns-then-c-end : goal.returns-then-c-end
returns-then-c-end c = (tt, λ e. refl, λ h. absurd (omega (arith, h, c.if-c-end.true)))

pub near_row-requires : goal.near_row-requires
near_row-requires c = (c.requires.1 (there c), c.requires.2)

pub returns : goal.returns
returns c =
    let s = c in
    let r = rw (to_z-of_z s.ranges.v, to_z-of_z s.ranges.tolerance) at c.near_row.ensures in
    (r.0, λ e. absurd (omega (arith, e, there c.before)), λ h. r.1)
