-- `planwalk::take_turn` meets its contract. Assumes nothing.
use Prim.Native.Nat.{◌^◌, ◌<◌}
use native.Mathlib.Omega.{arith}
use lib.ListN.{length}
use Rattle.planning.proofs.planwalk.WalkLaws.{passed_words, from_words, read_in_lem, take_fits, write_fits, turn_takes, turn_writes}
use borrow.Author.Rules.{rules}
use Rattle.planning.proofs.planwalk.take_turn.Statement.{statement}
use Rattle.planning.proofs.planwalk.take_turn.Tie as tie

-- How many words a slice can have.
left-size : (s : tie.Start) → length s.args.left.values.now < 2 ^ 64
left-size s = omega arith

right-size : (s : tie.Start) → length s.args.right.values.now < 2 ^ 64
right-size s = omega arith

from-row-requires : tie.Need-from_row-fv-requires
from-row-requires c κs = (passed_words c.requires).0

from-row-requires-2 : tie.Need-from_row-fm-requires
from-row-requires-2 c κs = (passed_words c.requires).1

from-row-requires-3 : tie.Need-from_row-kv-requires
from-row-requires-3 c κs = (from_words c.requires).0

from-row-requires-4 : tie.Need-from_row-km-requires
from-row-requires-4 c κs = (from_words c.requires).1

sub_held : tie.Need-overflow_sub-held
sub_held c = search rules

wants-requires : tie.Need-wants-requires
wants-requires c κs =
    let f = c in
    read_in_lem f.requires _ _ _ _ f.from_row-fv.ensures f.from_row-fm.ensures f.from_row-kv.ensures f.from_row-km.ensures

take-right-requires : tie.Need-take_right-requires
take-right-requires c κs =
    let v = c in
    let f = v in
    take_fits f.requires _ _ _ _ f.from_row-fv.ensures f.from_row-fm.ensures f.from_row-kv.ensures f.from_row-km.ensures v.wants.result v.wants.ensures c.if-wants.true

returns : tie.Need-returns-then-wants
returns c =
    let v = c in
    let f = v in
    turn_takes f.requires _ _ _ _ f.from_row-fv.ensures f.from_row-fm.ensures f.from_row-kv.ensures f.from_row-km.ensures v.wants.result v.wants.ensures c.if-wants.true c.take_right.result c.take_right.ensures

last-prune-requires : tie.Need-last_prune-d-requires
last-prune-requires c κs =
    let f = c in
    read_in_lem f.requires _ _ _ _ f.from_row-fv.ensures f.from_row-fm.ensures f.from_row-kv.ensures f.from_row-km.ensures

write-left-requires : tie.Need-write_left-requires
write-left-requires c κs =
    let v = c in
    let f = v in
    let s = f in
    write_fits s.requires _ _ _ _ f.from_row-fv.ensures f.from_row-fm.ensures f.from_row-kv.ensures f.from_row-km.ensures v.wants.result v.wants.ensures c.last_prune-d.result c.last_prune-d.ensures (left-size s.before.before.before.before.before.before.before.before.before.before.before.before) (right-size s.before.before.before.before.before.before.before.before.before.before.before.before)

returns-2 : tie.Need-returns
returns-2 c =
    let l = c in
    let v = l in
    let f = v in
    turn_writes f.requires _ _ _ _ f.from_row-fv.ensures f.from_row-fm.ensures f.from_row-kv.ensures f.from_row-km.ensures v.wants.result v.wants.ensures l.last_prune-d.result l.last_prune-d.ensures l.if-wants.false c.write_left.result c.write_left.ensures

pub take_turn_spec : {M : Type 1} → statement M
take_turn_spec =
    tie.close
    (tie.spec from-row-requires from-row-requires-2 from-row-requires-3 from-row-requires-4 sub_held wants-requires take-right-requires returns last-prune-requires write-left-requires returns-2)
