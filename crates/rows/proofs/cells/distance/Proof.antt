-- `cells::distance` meets its contract. Assumes nothing.
use Rattle.std.proofs.Common.{arith, to_z-of_z, rules}
use Rattle.order.proofs.Apart.{dist_above, dist_below}
use Rattle.frames.proofs.Signed.{lt_flag}
use Rattle.rows.proofs.cells.distance.Statement.{statement}
use Rattle.rows.proofs.cells.distance.Tie as tie

image-requires : tie.Need-image-requires
image-requires c κs = search rules

image-requires-2 : tie.Need-image-requires-then-a-b
image-requires-2 c κs = search rules

wrapping-sub-u64-requires : tie.Need-wrapping_sub_u64-requires
wrapping-sub-u64-requires c κs = search rules

returns : tie.Need-returns-then-a-b
returns c =
    let f = c.ranges in
    let eb = rw (to_z-of_z f.b) at c.image.ensures in
    let ea = rw (to_z-of_z f.a) at c.image-then-a-b.ensures in
    let ok = c.wrapping_sub_u64.type_inv in
    dist_below c.wrapping_sub_u64.result f.a f.b (omega arith) (lt_flag f.a f.b c.if-a-b.true)
    (rw (ea, eb) at c.wrapping_sub_u64.ensures)

image-requires-3 : tie.Need-image-requires-2
image-requires-3 c κs = search rules

image-requires-4 : tie.Need-image-requires-3
image-requires-4 c κs = search rules

wrapping-sub-u64-requires-2 : tie.Need-wrapping_sub_u64-requires-2
wrapping-sub-u64-requires-2 c κs = search rules

returns-2 : tie.Need-returns
returns-2 c =
    let f = c.ranges in
    let ea = rw (to_z-of_z f.a) at c.image-2.ensures in
    let eb = rw (to_z-of_z f.b) at c.image-3.ensures in
    let ok = c.wrapping_sub_u64-2.type_inv in
    dist_above c.wrapping_sub_u64-2.result f.a f.b (omega arith) (lt_flag f.a f.b c.if-a-b.false)
    (rw (ea, eb) at c.wrapping_sub_u64-2.ensures)

pub distance_spec : {M : Type 1} → statement M
distance_spec =
    tie.close
    (tie.spec image-requires image-requires-2 wrapping-sub-u64-requires returns image-requires-3 image-requires-4 wrapping-sub-u64-requires-2 returns-2)
