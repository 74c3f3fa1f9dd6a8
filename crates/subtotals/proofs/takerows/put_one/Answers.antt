-- `takerows::put_one` meets its contract. Assumes nothing.
use Prim.Native.Nat.{◌+◌, ◌*◌, ◌≤◌}
use native.Mathlib.Omega.{arith}
use lib.IntN.{pos}
use lib.ListN.{length, get_or}
use Rattle.order.proofs.RowLaws.{row_room}
use Rattle.frames.proofs.Signed.{back}
use Rattle.subtotals.proofs.takejoin.WalkLaws.{row_within}
use Rattle.subtotals.proofs.takerows.put_one.Goals as goal

-- the row's words are there
here : (s : goal.Start) → (s.args.i * s.args.rows.width + s.args.by + 2 ≤ length s.args.rows.values.now) × (s.args.i * s.args.rows.width + s.args.by + 2 ≤ length s.args.rows.marks.now)
here s =
    let a = s.args in
    let p = s.requires.account in
    let r = row_room a.i a.rows.count a.rows.width s.requires.is in
    (omega (arith, p.values, p.width), omega (arith, p.marks, p.width))

pub overflow_mul-p : goal.overflow_mul-p
overflow_mul-p c = omega (arith, (here (c)).0)

pub overflow_add-s : goal.overflow_add-s
overflow_add-s c = omega (arith, (here (c)).0)

pub offset_bounds-rows-s : goal.offset_bounds-rows-s
offset_bounds-rows-s c = omega (arith, (here c.before).0)

pub bounds-rows-s : goal.bounds-rows-s
bounds-rows-s c = omega (arith, (here c.before).0)

pub overflow_add-s-2 : goal.overflow_add-s-2
overflow_add-s-2 c = omega (arith, (here c.before.before).0)

pub offset_bounds-rows-s-2 : goal.offset_bounds-rows-s-2
offset_bounds-rows-s-2 c = omega (arith, (here c.before.before).0)

pub bounds-rows-s-2 : goal.bounds-rows-s-2
bounds-rows-s-2 c = omega (arith, (here c.before.before).0)

pub put_subtotal-requires : goal.put_subtotal-requires
put_subtotal-requires c =
    let s = c in
    let a = s.args in
    let p = s.requires.account in
    let q = row_within a.by a.rows.width a.rows.count a.rows.values.now a.i s.requires.is p.within p.few in
    record {
      values = omega (arith, (here s.before.before.before).0);
      marks = omega (arith, (here s.before.before.before).1);
      paired = p.paired;
      fine = p.fine;
      sold = rw (back (get_or a.rows.values.now (a.i * a.rows.width + a.by + 1) (pos 0)) c.put_subtotal-arg-3-1.given) q.0;
      there = omega (arith, s.requires.there, p.width);
      room = s.requires.room;
    }

pub returns : goal.returns
returns c =
    let s = c in
    let a = s.args in
    rw (back (get_or a.rows.values.now (a.i * a.rows.width + a.by) (pos 0)) c.put_subtotal-arg-2-1.given, back (get_or a.rows.values.now (a.i * a.rows.width + a.by + 1) (pos 0)) c.put_subtotal-arg-3-1.given) at c.put_subtotal.ensures
