-- `hostturn::part_turned` meets its contract. Assumes nothing.
use mathlib.Core.Path.{◌≡◌, sym}
use native.Mathlib.Omega.{arith}
use lib.ListN.{length}
use Rattle.ffi.proofs.convert.ConvertLaws.{join_parts}
use Rattle.hostcalls.proofs.NumberLaws.{bad_is}
use Rattle.hostjoin.proofs.hostturn.TurnLaws.{queue_holds, turn_numbers}
use borrow.Author.Rules.{rules}
use Rattle.hostjoin.proofs.hostturn.part_turned.Statement.{statement}
use Rattle.hostjoin.proofs.hostturn.part_turned.Tie as tie

-- The lengths of the list's arrays, from what the type says of its fields.
codes-long : (s : tie.Start) → length s.args.h.options.ranks.codes ≡ 64
codes-long s = search rules

rising_long : (s : tie.Start) → length s.args.h.rising ≡ 64
rising_long s = search rules

terms-from-requires : tie.Need-terms_from-requires
terms-from-requires c κs = (join_parts _ c.requires).options

slice-aggregate-bad-numbers : tie.Need-slice_bounds-rules-end-2
slice-aggregate-bad-numbers c = search rules

bad-numbers-requires : tie.Need-bad_numbers-bad-requires
bad-numbers-requires c κs = let s = c in (omega (arith, codes-long s.before.before.before.before.before.before), omega (arith, rising_long s.before.before.before.before.before.before))

part-from-requires : tie.Need-part_from-part-requires
part-from-requires c κs = search rules

state-of-requires : tie.Need-state_of-requires
state-of-requires c κs = search rules

turn-queue-requires : tie.Need-turn_queue-requires
turn-queue-requires c κs =
    let k = c in
    let s = k in
    let told = k.terms_from.ensures s.args.h.rising in
    rw c.part_from-part.ensures (queue_holds s.args.h s.args.left.now s.args.right.now _ told _ (bad_is s.args.h s.args.left.now s.args.right.now _ _ told c.bad_numbers-bad.ensures) (codes-long s.before.before.before.before.before.before.before.before.before.before.before) (rising_long s.before.before.before.before.before.before.before.before.before.before.before))

same_length : tie.Need-shape_of-out
same_length c = search rules

returns : tie.Need-returns
returns c =
    let k = c in
    let s = k in
    let told = k.terms_from.ensures s.args.h.rising in
    turn_numbers s.args.h s.args.left.now s.args.right.now _ told _ (bad_is s.args.h s.args.left.now s.args.right.now _ _ told c.bad_numbers-bad.ensures) s.requires _ _ _ (rw (c.part_from-part.ensures, c.state_of.ensures) at c.turn_queue.ensures)

pub part_turned_spec : {M : Type 1} → statement M
part_turned_spec =
    tie.close
    (tie.spec terms-from-requires slice-aggregate-bad-numbers bad-numbers-requires part-from-requires state-of-requires turn-queue-requires same_length returns)
