use mathlib.Core.Path.{◌≡◌}
use Prim.Native.Nat.{◌+◌, ◌-◌}
use native.Mathlib.Omega.{arith}
use Rattle.node.proofs.moving.copy_left.Goals as goal

pub returns : goal.returns
returns c =
    let a = c.args in
    let e : a.start + a.n - a.start ≡ a.n = omega arith in
    rw e at c.copy_front.ensures
