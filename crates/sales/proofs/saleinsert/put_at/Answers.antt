-- `saleinsert::put_at` meets its contract. Assumes nothing.
use mathlib.Core.Path.{◌≡◌}
use Prim.Native.Nat.{ℕ, suc, ◌+◌, ◌*◌, ◌≤◌}
use native.Mathlib.Omega.{arith}
use mir.Facts.{to_z-of_z}
use Rattle.order.specs.options.Options.{with_list}
use Rattle.order.proofs.RowLaws.{row_room}
use Rattle.sales.proofs.saleinsert.InsertLaws.{inserted_here, inserted_new, times_least}
use Rattle.sales.proofs.saleinsert.put_at.Goals as goal

-- The width, as the definitions have it.
width : (b : ℕ) → b + 2 ≡ suc (suc b)
width b = omega arith

-- The place is at or before the end of the rows.
below : (s : goal.Start) → s.args.row * suc (suc s.args.o.by) ≤ s.args.n * suc (suc s.args.o.by)
below s = times_least s.args.row s.args.n (suc (suc s.args.o.by)) s.requires.range

pub overflow_mul-a : goal.overflow_mul-a
overflow_mul-a c = let g = c.well_formed.0 in omega (arith, below c, width c.args.o.by, c.requires.room, g.0, g.1)

pub add_to-requires : goal.add_to-requires
add_to-requires c =
    let s = c in
    let a = s.args in
    let h = c.if-here.true in
    record {
      there = omega (arith, s.requires.there);
      room = omega (arith, row_room a.row a.n (suc (suc a.o.by)) (s.requires.is h), s.requires.room, width a.o.by);
      addable = rw (width a.o.by) (s.requires.addable h);
      small = rw (to_z-of_z s.ranges.amount) s.requires.small;
    }

pub returns-then-here : goal.returns-then-here
returns-then-here c =
    λ ms codes rising. let s = c in
    let a = s.args in
    let h = c.if-here.true in
    record {
      holds = λ ts b₀ l f e t k. inserted_here (with_list a.o codes rising) a.q a.values.now ms s.requires.there l f a.amount a.n ts b₀ a.body.now k e a.row (s.requires.is h) (t.yes h).1 _ (rw (width a.o.by, to_z-of_z s.ranges.amount) at c.add_to.ensures);
    }

pub open_row-requires : goal.open_row-requires
open_row-requires c =
    let s = c in
    let a = s.args in
    record { there = omega (arith, s.requires.there); range = rw (width a.o.by) (below s.before.before); room = omega (arith, s.requires.room, width a.o.by) }

pub returns : goal.returns
returns c =
    λ ms codes rising. let s = c in
    let a = s.args in
    let h = c.if-here.false in
    record {
      holds = λ ts b₀ l f e t k. inserted_new (with_list a.o codes rising) a.q a.values.now ms s.requires.there l f a.amount a.n ts b₀ a.body.now k e a.row s.requires.range (t.no h).0 (λ z. (t.no h).1 (omega (arith, k.rows))) s.requires.room _ (rw (width a.o.by, to_z-of_z s.ranges.amount) at c.open_row.ensures);
    }
