-- `list::put_notices` meets its contract. Assumes nothing.
use mathlib.Core.Path.{◌≡◌, refl, sym, ap, ◌∙◌}
use mathlib.Core.List.{List}
use Prim.Native.Nat.{suc, ◌+◌, ◌-◌, ◌*◌, ◌≤◌, ◌<◌}
use native.Mathlib.Omega.{arith}
use Rattle.order.specs.options.Options.{options_of}
use Rattle.frames.specs.Cells.{Cell, row_from}
use Rattle.tables.specs.Lay.{lay_cells}
use Rattle.order.proofs.RowLaws.{row_room}
use Rattle.tables.specs.Requires.{rest}
use Rattle.books.specs.Standing.{last_of}
use Rattle.books.proofs.notices.NoticeLaws.{notice_terms, last_is, last_within, one_more_by, none_done, all_done}
use Rattle.books.proofs.notices.list.put_notices.Goals.{After-last_row-last}
use Rattle.books.proofs.notices.list.put_notices.Goals as goal

pub loop-i-init : goal.loop-i-init
loop-i-init c =
    let a = c.args in
    let r = a.rows in
    record { within = omega arith; kept = refl; last = λ l. absurd (omega arith); laid = sym (none_done (options_of a.rules) r.width r.count r.values.now r.marks.now a.column a.m r.count a.out.now (omega arith)) }

-- the row before, and its last row
place : (c : After-last_row-last) → (c.loop-i.i - 1 < c.args.rows.count) × (c.loop-i.i - 1 + 1 ≡ c.loop-i.i)
place c = (omega (arith, c.loop-i.auto.i, c.loop-i-test.true), omega (arith, c.loop-i-test.true))

named : (c : After-last_row-last) → let a = c.args in let r = a.rows in let j = c.loop-i.i - 1 in
    c.last_row-last.result ≡ last_of (options_of a.rules) (row_from r.width (j * r.width) r.values.now r.marks.now) j (suc j) (rest r.width (j + 1) r.count r.values.now r.marks.now)
named c =
    let a = c.args in
    let r = a.rows in
    let l = c.loop-i in
    let p = place c in
    c.last_row-last.ensures ∙ last_is (options_of a.rules) r.width r.count r.values.now r.marks.now a.column a.m c.requires.in_order (l.i - 1) l.last p.0 (rw p.1 l.invariant.last)

few : (c : After-last_row-last) → c.last_row-last.result ≤ c.args.rows.count
few c =
    let a = c.args in
    let r = a.rows in
    let l = c.loop-i in
    let p = place c in
    rw c.last_row-last.ensures (last_within (options_of a.rules) (row_from r.width ((l.i - 1) * r.width) r.values.now r.marks.now) (l.i - 1) l.last r.count (rest r.width (l.i - 1 + 1) r.count r.values.now r.marks.now) (omega (arith, p.0)) l.invariant.within)

pub put_notice-requires : goal.put_notice-requires
put_notice-requires c =
    let m = (goal.at.put_notice-requires c).After-last_row-last in
    let q = c.requires in
    let p = place m in
    let r = row_room (c.loop-i.i - 1) c.args.rows.count c.args.rows.width p.0 in
    record {
      few = q.rows.few.by;
      wide = q.wide;
      values = omega (arith, q.rows.values);
      marks = omega (arith, q.rows.marks);
      number = omega (arith, few m, q.counted, q.room);
      there = omega (arith, p.0, q.counted);
      room = omega (arith, q.room, c.loop-i.invariant.kept);
    }

pub loop-i-preserved : goal.loop-i-preserved
loop-i-preserved c =
    let m = (goal.at.loop-i-preserved c).After-last_row-last in
    let a = c.args in
    let r = a.rows in
    let l = c.loop-i in
    let p = place m in
    record {
      within = few m;
      kept = c.put_notice.auto.out ∙ l.invariant.kept;
      last = λ k. named m;
      laid = c.put_notice.ensures
          ∙ ap (λ (x : List Cell). lay_cells a.m (2 * (l.i - 1)) x l.out) (notice_terms a.rules.terms a.rules.codes.now a.rules.rising.now a.column (l.i - 1) c.last_row-last.result (row_from r.width ((l.i - 1) * r.width) r.values.now r.marks.now))
          ∙ one_more_by (options_of a.rules) r.width r.count r.values.now r.marks.now a.column a.m c.requires.counted (l.i - 1) c.last_row-last.result a.out.now p.0 (named m) l.i (sym p.1) l.out l.invariant.laid;
    }

pub returns : goal.returns
returns c =
    let a = c.args in
    let r = a.rows in
    let l = c.loop-i in
    l.invariant.laid ∙ all_done (options_of a.rules) r.width r.count r.values.now r.marks.now a.column a.m l.i a.out.now (omega (arith, c.loop-i-test.false))
