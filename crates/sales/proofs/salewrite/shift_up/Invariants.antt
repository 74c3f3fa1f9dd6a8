-- The loop of `salewrite::shift_up`: the words from k on stand w places higher. Assumes nothing.
use mathlib.Core.Path.{◌≡◌}
use Prim.Native.Nat.{◌+◌, ◌-◌, ◌≤◌}
use lib.ListN.{drop}
use lib.Seq.{paste}
use Rattle.sales.proofs.salewrite.shift_up.Given as goal

abbrev pub invariant-loop-k : goal.invariant-loop-k
invariant-loop-k l = (l.from ≤ l.k) × (l.body ≡ paste l.initial.body (l.k + l.w) (drop l.k l.initial.body) (l.to - l.k))
