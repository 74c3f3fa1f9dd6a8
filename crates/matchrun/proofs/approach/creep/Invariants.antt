-- The loop of `approach::creep`: the rows passed give way to the row, its place is that of its key, and each row is a move. Assumes nothing.
use mathlib.Core.Path.{◌≡◌}
use mathlib.Core.Bool.{true}
use Prim.Native.Nat.{ℕ, ◌+◌, ◌-◌, ◌*◌, ◌≤◌}
use Rattle.frames.specs.Cells.{value}
use Rattle.order.specs.declared.options.Strategy.TheVariants.{Nearest}
use Rattle.matching.specs.Moves.{Rising, Behind}
use Rattle.matchrun.specs.advance.Below.{keyed}
use Rattle.matchrun.proofs.approach.creep.Given as goal

abbrev pub invariant-loop-row : goal.invariant-loop-row
invariant-loop-row l = record {
  here : l.place ≡ l.row * l.w + (l.p - l.at * l.w);
  behind : (start : ℕ) → start ≤ l.at → Rising (keyed l.w (l.p - l.at * l.w) l.rv) start l.end → Behind Nearest true (keyed l.w (l.p - l.at * l.w) l.rv) start (value l.v) l.at
      → Behind Nearest true (keyed l.w (l.p - l.at * l.w) l.rv) start (value l.v) l.row;
  counted : l.moves ≡ l.moved + (l.row - l.at);
}
