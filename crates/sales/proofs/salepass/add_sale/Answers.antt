-- `salepass::add_sale` meets its contract. Assumes nothing.
use mathlib.Core.Path.{◌≡◌}
use Prim.Native.Nat.{ℕ, suc, ◌+◌, ◌-◌}
use native.Mathlib.Omega.{arith}
use mir.Facts.{to_z-of_z}
use Rattle.frames.specs.Cells.{row_from}
use Rattle.order.specs.options.Options.{options_of}
use Rattle.sales.proofs.saleinsert.InsertLaws.{times_least}
use Rattle.sales.proofs.salepass.PassLaws.{among_added, placed_behind}
use Rattle.sales.proofs.salepass.add_sale.Goals as goal

width : (b : ℕ) → b + 2 ≡ suc (suc b)
width b = omega arith

pub put_behind-requires : goal.put_behind-requires
put_behind-requires c =
    let s = c in
    let p = s.requires in
    record { compare = p.compare; table_rows = p.table_rows; within = p.within; room = p.room; values = p.values; marks = p.marks; small = rw (to_z-of_z s.ranges.amount) p.small; addable = p.addable; table_addable = p.table_addable }

pub returns-then-m-place : goal.returns-then-m-place
returns-then-m-place c =
    let s = c in
    let a = s.args in
    let n = c.place_near-p in
    rw (to_z-of_z s.ranges.amount) at (c.put_behind.ensures (placed_behind (options_of s.args.rules) a.m a.body.now (row_from (suc a.rules.terms.by) a.q a.left.values.now a.left.marks.now) n.result.row n.result.here (rw (width a.rules.terms.by) at n.ensures) c.if-m-place.true))

pub put_at-rows-requires : goal.put_at-rows-requires
put_at-rows-requires c =
    let s = c in
    let a = s.args in
    let n = c.place_near-p in
    let l = c.if-m-place.false in
    record {
      few = s.requires.compare.by;
      room = omega (arith, s.requires.room, times_least a.m (a.m + (a.table.count - a.taken)) (suc (suc a.rules.terms.by)) (omega arith));
      there = s.requires.values;
      range = n.ensures.within;
      is = λ t. omega (arith, l);
      small = rw (to_z-of_z s.ranges.amount) s.requires.small;
      addable = λ t. s.requires.addable n.result.row (omega (arith, l));
    }

pub returns : goal.returns
returns c =
    let s = c in
    let a = s.args in
    let n = c.place_near-p in
    among_added (options_of s.args.rules) a.table.count a.m a.taken a.q a.table.values.now a.left.values.now a.left.marks.now a.amount a.body.now n.result.row n.result.here (rw (width a.rules.terms.by) at n.ensures) (omega (arith, c.if-m-place.false)) _ _ (rw (to_z-of_z s.ranges.amount) at (c.put_at-rows.ensures a.left.marks.now a.rules.codes.now a.rules.rising.now))
