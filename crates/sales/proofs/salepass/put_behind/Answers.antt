-- `salepass::put_behind` meets its contract. Assumes nothing.
use mathlib.Core.Path.{◌≡◌, ap, ◌∙◌}
use mathlib.Core.Bool.{Bool, true, cond}
use Prim.Native.Nat.{ℕ, suc, ◌+◌, ◌-◌, ◌*◌, ◌≤◌, ◌<◌}
use native.Mathlib.Omega.{arith}
use lib.ListN.{length}
use mir.Facts.{to_z-of_z}
use Rattle.order.specs.options.Options.{options_of}
use Rattle.sales.proofs.saleinsert.InsertLaws.{times_least}
use Rattle.sales.proofs.salepass.PassLaws.{end_range, behind_added, passed_addable}
use Rattle.sales.proofs.salepass.put_behind.Goals.{After-end_of-end}
use Rattle.sales.proofs.salepass.put_behind.Goals as goal

-- The width, as the definitions have it.
width : (b : ℕ) → b + 2 ≡ suc (suc b)
width b = omega arith

-- How far the rows are passed.
range : (c : After-end_of-end) → let p = c.reach-p.result in let a = c.args in (p.row ≤ c.end_of-end.result) × (c.end_of-end.result ≤ a.table.count)
range c =
    let p = c.reach-p in
    let a = c.args in
    rw (← c.end_of-end.ensures) at (end_range (options_of a.rules) a.table.count p.result.row p.result.here p.ensures.within (λ t. (p.ensures.yes t).0))

-- They are in the table, and have room, with one more.
there : (c : After-end_of-end) → let a = c.args in c.end_of-end.result * suc (suc a.rules.terms.by) ≤ length a.table.values.now
there c = let a = c.args in omega (arith, times_least c.end_of-end.result a.table.count (suc (suc a.rules.terms.by)) (range c).1, c.requires.table_rows)

room : (c : After-end_of-end) → let a = c.args in (a.m + (c.end_of-end.result - a.taken)) * suc (suc a.rules.terms.by) + suc (suc a.rules.terms.by) ≤ length a.body.now
room c = let a = c.args in omega (arith, times_least (a.m + (c.end_of-end.result - a.taken)) (a.m + (a.table.count - a.taken)) (suc (suc a.rules.terms.by)) (omega (arith, (range c).1)), c.requires.room)

-- A row of the sale's group is among those that are passed.
before : (c : After-end_of-end) → c.reach-p.result.here ≡ true → c.reach-p.result.row < c.end_of-end.result
before c t = omega (arith, c.end_of-end.ensures ∙ ap (λ (z : Bool). cond z (c.reach-p.result.row + 1) c.reach-p.result.row) t)

pub put_at-rows-requires : goal.put_at-rows-requires
put_at-rows-requires c =
    let e = (goal.at.put_at-rows-requires c).After-end_of-end in
    let r = c.reach-p in
    let a = c.args in
    let p = c.pass_rows in
    record {
      few = c.requires.compare.by;
      room = rw p.auto.body (room e);
      there = c.requires.values;
      range = omega (arith, (range e).0);
      is = λ t. omega (arith, before e t, r.ensures.least);
      small = rw (to_z-of_z c.ranges.amount) c.requires.small;
      addable = λ t. passed_addable a.rules.terms.by a.m a.taken c.end_of-end.result a.table.values.now a.body.now _ (rw (width a.rules.terms.by) at p.ensures) (omega (arith, room e)) (there e) a.table.count r.result.row c.requires.table_addable (r.ensures.yes t).0 r.ensures.least (before e t);
    }

pub returns : goal.returns
returns c =
    λ b. let e = (goal.at.returns c).After-end_of-end in
    let r = c.reach-p in
    let a = c.args in
    let p = c.pass_rows in
    rw (← c.end_of-end.ensures) at (behind_added (options_of a.rules) a.table.count a.m a.taken a.q a.table.values.now a.left.values.now a.left.marks.now a.amount a.body.now r.result.row r.result.here b (rw (width a.rules.terms.by) at r.ensures))
    (omega (arith, room e)) _ (rw (width a.rules.terms.by) at p.ensures) _ _ (rw (to_z-of_z c.ranges.amount) at (c.put_at-rows.ensures a.left.marks.now a.rules.codes.now a.rules.rising.now))
