-- The loop of `advance::rest`: the rows before it are below, its place is that of its key, and each row is a move. Assumes nothing.
use mathlib.Core.Path.{◌≡◌}
use mathlib.Core.Bool.{true}
use Prim.Native.Nat.{ℕ, ◌+◌, ◌-◌, ◌*◌, ◌≤◌, ◌<◌}
use lib.IntN.{pos}
use lib.ListN.{get_or}
use Rattle.matchrun.specs.advance.Below.{below}
use Rattle.matchrun.proofs.advance.rest.Given as goal

abbrev pub invariant-loop-row : goal.invariant-loop-row
invariant-loop-row l = record {
  here : l.place ≡ l.row * l.w + (l.p - l.at * l.w);
  before : (k : ℕ) → l.at ≤ k → k < l.row → below l.inclusive l.v (get_or l.rv (k * l.w + (l.p - l.at * l.w)) (pos 0)) ≡ true;
  counted : l.moves ≡ l.moved + (l.row - l.at);
}
