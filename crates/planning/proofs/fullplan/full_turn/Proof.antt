-- `fullplan::full_turn` meets its contract. Assumes nothing.
use Prim.Native.Nat.{◌+◌, ◌^◌, ◌<◌}
use native.Mathlib.Omega.{arith}
use lib.ListN.{length}
use Rattle.planning.proofs.fullplan.FullLaws.{to_in, full_in, full_stands}
use borrow.Author.Rules.{rules}
use Rattle.planning.proofs.fullplan.full_turn.Statement.{statement}
use Rattle.planning.proofs.fullplan.full_turn.Tie as tie

-- How many words a slice can have.
left-size : (s : tie.Start) → length s.args.left.values.now + 1 < 2 ^ 64
left-size s = omega arith

right-size : (s : tie.Start) → length s.args.right.values.now + 1 < 2 ^ 64
right-size s = omega arith

sub-full-height : tie.Need-overflow_sub-left
sub-full-height c = search rules

full-height-requires : tie.Need-full_height-n-requires
full-height-requires c κs = search rules

sub-full-height-2 : tie.Need-overflow_sub-right
sub-full-height-2 c = let s = c in to_in s.requires.0 s.requires.1 s.args.s s.requires.2

full-height-requires-2 : tie.Need-full_height-h-requires
full-height-requires-2 c κs = search rules

take-turn-requires : tie.Need-take_turn-requires
take-turn-requires c κs =
    let s = c in
    let h = c.full_height-h in
    let n = c.full_height-n in
    full_in s.requires.0 s.requires.1 s.args.s s.requires.2 s.requires.3 n.result h.result n.ensures h.ensures (left-size s.before.before.before.before.before) (right-size s.before.before.before.before.before)

returns : tie.Need-returns
returns c =
    let s = c in
    let h = c.full_height-h in
    let n = c.full_height-n in
    full_stands s.requires.0 s.requires.1 s.args.s s.requires.2 s.requires.3 n.result h.result n.ensures h.ensures c.take_turn.result c.take_turn.ensures

pub full_turn_spec : {M : Type 1} → statement M
full_turn_spec =
    tie.close
    (tie.spec sub-full-height full-height-requires sub-full-height-2 full-height-requires-2 take-turn-requires returns)
