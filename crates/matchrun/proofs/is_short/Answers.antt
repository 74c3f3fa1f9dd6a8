-- `matchrun::is_short` meets its contract. Assumes nothing.
use mathlib.Core.Path.{refl}
use Prim.Native.Nat.{◌-◌}
use borrow.Author.Tests.{le-leb, lt-leb}
use Rattle.matchrun.proofs.is_short.Goals as goal

pub returns-then-to-from-le1 : goal.returns-then-to-from-le1
returns-then-to-from-le1 c = let a = c.args in rw (le-leb (a.to - a.from) 1 c.if-to-from-le1.true) refl

pub returns : goal.returns
returns c = let a = c.args in rw (lt-leb (a.to - a.from) 1 c.if-to-from-le1.false) refl
