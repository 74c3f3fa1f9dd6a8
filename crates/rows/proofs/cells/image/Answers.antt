-- `cells::image` meets its contract. Assumes nothing.
use Rattle.std.proofs.Common.{arith, to_z-of_z, w64}
use mir.ValLaws.{to_z_pos}
use Rattle.order.proofs.Apart.{low, in_word, whole, same}
use Rattle.rows.proofs.cells.image.Goals as goal

pub overflow_cast-result : goal.overflow_cast-result
overflow_cast-result c =
    let f = c.ranges.a in
    let t = rw (to_z-of_z f) at c.if-a-lt0.true in
    let l = low _ f t in
    rw (to_z_pos w64 _ l) (tt, omega arith)

pub returns-then-a-lt0 : goal.returns-then-a-lt0
returns-then-a-lt0 c =
    let f = c.ranges.a in
    let t = rw (to_z-of_z f) at c.if-a-lt0.true in
    let l = low _ f t in
    let k = in_word _ f in
    rw (to_z_pos w64 _ l) (omega arith)

pub overflow_cast-result-2 : goal.overflow_cast-result-2
overflow_cast-result-2 c =
    let f = c.ranges.a in
    rw (to_z-of_z f) (whole _ f (rw (to_z-of_z f) at c.if-a-lt0.false))

pub returns : goal.returns
returns c =
    let f = c.ranges.a in
    rw (to_z-of_z f) (same c.args.a (rw (to_z-of_z f) at c.if-a-lt0.false))
