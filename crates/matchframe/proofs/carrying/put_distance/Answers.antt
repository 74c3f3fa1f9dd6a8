-- `carrying::put_distance` meets its contract. Assumes nothing.
use mathlib.Core.Path.{◌∙◌}
use Prim.Native.Nat.{◌-◌, ◌^◌, ◌≤◌, ◌<◌}
use native.Mathlib.Omega.{arith}
use mir.Syntax.{w64}
use mir.ValLaws.{to_z_pos}
use Rattle.matchframe.proofs.carrying.DistanceLaws.{too_far_lem, near}
use Rattle.matchframe.proofs.carrying.put_distance.Goals as goal

pub returns-then-d-gt-MOST : goal.returns-then-d-gt-MOST
returns-then-d-gt-MOST c =
    let d = c.args.d in
    let h : 2 ^ 63 - 1 < d = omega (arith, c.if-d-gt-MOST.true) in
    c.put_cell.ensures ∙ rw (too_far_lem d h)

pub returns-else-d-gt-MOST : goal.returns-else-d-gt-MOST
returns-else-d-gt-MOST c =
    let d = c.args.d in
    let h : d ≤ 2 ^ 63 - 1 = omega (arith, c.if-d-gt-MOST.false) in
    c.put_cell-else-d-gt-MOST.ensures ∙ rw (near d h, to_z_pos w64 d (omega arith))
