-- `takerows::put_sum` meets its contract. Assumes nothing.
use mathlib.Core.Path.{ap, ◌∙◌}
use Prim.Native.Nat.{◌+◌, ◌*◌, ◌^◌, ◌≤◌, ◌<◌}
use native.Mathlib.Omega.{arith}
use lib.IntN.{pos, ◌+ℤ◌}
use lib.Signed.{mag}
use lib.ListN.{length, get_or}
use Rattle.order.proofs.RowLaws.{row_room}
use Rattle.frames.proofs.Signed.{back}
use Rattle.tables.specs.Lay.{lay_cells}
use Rattle.takings.specs.Subtotals.{Subtotal, row_of}
use Rattle.subtotals.proofs.takejoin.WalkLaws.{RowWithin, sum_told, row_within, sum_fits, sum_counts}
use Rattle.subtotals.proofs.takerows.put_sum.Goals as goal

-- both rows' words are there
here : (s : goal.Start) → (s.args.i * s.args.table.width + s.args.by + 2 ≤ length s.args.table.values.now) × (s.args.i * s.args.table.width + s.args.by + 2 ≤ length s.args.table.marks.now)
here s =
    let a = s.args in
    let p = s.requires.0.account in
    let r = row_room a.i a.table.count a.table.width s.requires.0.is in
    (omega (arith, p.values, p.width), omega (arith, p.marks, p.width))

there : (s : goal.Start) → s.args.j * s.args.table.width + s.args.by + 2 ≤ length s.args.added.values.now
there s =
    let a = s.args in
    let p = s.requires.1.account in
    let r = row_room a.j a.added.count a.table.width s.requires.1.is in
    omega (arith, p.values, p.width)

-- and within their bounds
first : (s : goal.Start) → let a = s.args in RowWithin a.by a.table.width a.table.values.now a.i
first s = let a = s.args in let p = s.requires.0.account in row_within a.by a.table.width a.table.count a.table.values.now a.i s.requires.0.is p.within p.few

second : (s : goal.Start) → let a = s.args in RowWithin a.by a.table.width a.added.values.now a.j
second s = let a = s.args in let p = s.requires.1.account in row_within a.by a.table.width a.added.count a.added.values.now a.j s.requires.1.is p.within p.few

total_fits : (s : goal.Start) → let a = s.args in mag (get_or a.table.values.now (a.i * a.table.width + a.by) (pos 0) +ℤ get_or a.added.values.now (a.j * a.table.width + a.by) (pos 0)) < 2 ^ 63
total_fits s =
    let a = s.args in
    sum_fits (get_or a.table.values.now (a.i * a.table.width + a.by) (pos 0)) (get_or a.added.values.now (a.j * a.table.width + a.by) (pos 0)) (first s).1 (second s).1

count_fits : (s : goal.Start) → let a = s.args in mag (get_or a.table.values.now (a.i * a.table.width + a.by + 1) (pos 0) +ℤ get_or a.added.values.now (a.j * a.table.width + a.by + 1) (pos 0)) < 2 ^ 63
count_fits s =
    let a = s.args in
    sum_fits (get_or a.table.values.now (a.i * a.table.width + a.by + 1) (pos 0)) (get_or a.added.values.now (a.j * a.table.width + a.by + 1) (pos 0)) (omega (arith, (first s).2)) (omega (arith, (second s).2))

pub overflow_mul-p : goal.overflow_mul-p
overflow_mul-p c = omega (arith, (here (c)).0)

pub overflow_add-s : goal.overflow_add-s
overflow_add-s c = omega (arith, (here (c)).0)

pub overflow_mul-t : goal.overflow_mul-t
overflow_mul-t c = omega (arith, there (c))

pub overflow_add-t : goal.overflow_add-t
overflow_add-t c = omega (arith, there (c))

pub offset_bounds-table-s : goal.offset_bounds-table-s
offset_bounds-table-s c = omega (arith, (here (c)).0)

pub bounds-table-s : goal.bounds-table-s
bounds-table-s c = omega (arith, (here (c)).0)

pub offset_bounds-added-t : goal.offset_bounds-added-t
offset_bounds-added-t c = omega (arith, there c.before)

pub bounds-added-t : goal.bounds-added-t
bounds-added-t c = omega (arith, there c.before)

pub overflow_add-total : goal.overflow_add-total
overflow_add-total c =
    let a = c.args in
    rw (back (get_or a.table.values.now (a.i * a.table.width + a.by) (pos 0)) c.total-1.given, back (get_or a.added.values.now (a.j * a.table.width + a.by) (pos 0)) c.total-2-1.given) (record { sfits = total_fits c.before.before })

pub overflow_add-count : goal.overflow_add-count
overflow_add-count c = omega (arith, (here c.before.before).0)

pub offset_bounds-table-s-2 : goal.offset_bounds-table-s-2
offset_bounds-table-s-2 c = omega (arith, (here c.before.before).0)

pub bounds-table-s-2 : goal.bounds-table-s-2
bounds-table-s-2 c = omega (arith, (here c.before.before).0)

pub overflow_add-count-2 : goal.overflow_add-count-2
overflow_add-count-2 c = omega (arith, there c.before.before.before)

pub offset_bounds-added-t-2 : goal.offset_bounds-added-t-2
offset_bounds-added-t-2 c = omega (arith, there c.before.before.before)

pub bounds-added-t-2 : goal.bounds-added-t-2
bounds-added-t-2 c = omega (arith, there c.before.before.before)

pub overflow_add-count-3 : goal.overflow_add-count-3
overflow_add-count-3 c =
    let a = c.args in
    rw (back (get_or a.table.values.now (a.i * a.table.width + a.by + 1) (pos 0)) c.count-1.given, back (get_or a.added.values.now (a.j * a.table.width + a.by + 1) (pos 0)) c.count-2-1.given) (record { sfits = count_fits c.before.before.before.before })

pub put_subtotal-requires : goal.put_subtotal-requires
put_subtotal-requires c =
    let s = c in
    let a = s.args in
    let p = s.requires.0.account in
    let x = get_or a.table.values.now (a.i * a.table.width + a.by + 1) (pos 0) in
    let y = get_or a.added.values.now (a.j * a.table.width + a.by + 1) (pos 0) in
    record {
      values = omega (arith, (here s.before.before.before.before.before).0);
      marks = omega (arith, (here s.before.before.before.before.before).1);
      paired = p.paired;
      fine = p.fine;
      sold = rw (back x c.count-1.given, back y c.count-2-1.given, back (x +ℤ y) (count_fits s.before.before.before.before.before)) (sum_counts x y (first s.before.before.before.before.before).0 (second s.before.before.before.before.before).0).1;
      there = omega (arith, s.requires.0.there, p.width);
      room = s.requires.0.room;
    }

pub returns : goal.returns
returns c =
    let s = c in
    let a = s.args in
    let t = get_or a.table.values.now (a.i * a.table.width + a.by) (pos 0) in
    let u = get_or a.added.values.now (a.j * a.table.width + a.by) (pos 0) in
    let x = get_or a.table.values.now (a.i * a.table.width + a.by + 1) (pos 0) in
    let y = get_or a.added.values.now (a.j * a.table.width + a.by + 1) (pos 0) in
    rw (back t c.total-1.given, back u c.total-2-1.given, back (t +ℤ u) (total_fits s.before.before.before.before.before.before.before), back x c.count-1.given, back y c.count-2-1.given, back (x +ℤ y) (count_fits s.before.before.before.before.before.before.before)) at c.put_subtotal.ensures
    ∙ ap (λ (t : Subtotal). lay_cells a.m a.k (row_of t) a.out.now)
    (sum_told a.by a.table.width a.i a.table.values.now a.table.marks.now a.j a.added.values.now a.added.marks.now (sum_counts x y (first s.before.before.before.before.before.before.before).0 (second s.before.before.before.before.before.before.before).0).0)
