-- `salekind::count_kinds` meets its contract. Assumes nothing.
use mathlib.Core.Path.{◌≡◌, sym, ◌∙◌}
use mathlib.Core.List.{List}
use Prim.Native.Nat.{ℕ, suc, ◌+◌, ◌*◌, ◌≤◌}
use native.Mathlib.Omega.{arith}
use borrow.Author.Rules.{rules}
use lib.IntN.{pos}
use lib.ListN.{length, get_or}
use Rattle.frames.specs.Cells.{Words, row_from}
use Rattle.frames.proofs.Signed.{back}
use Rattle.order.specs.options.Options.{with_list}
use Rattle.order.proofs.RowLaws.{row_room}
use Rattle.sales.specs.salekind.Kinds.{kind_of}
use Rattle.sales.proofs.salekind.KindLaws.{going_unmatched, going_nothing, going_amount, going_beyond, going_ends}
use Rattle.sales.proofs.salekind.count_kinds.Goals.{After-kind_of, in-Unmatched, in-Nothing, in-Amount+else-distance-gt1000000000}
use Rattle.sales.proofs.salekind.count_kinds.Goals as goal

-- The row's kind.
kind : (c : After-kind_of) (lv codes : Words) (rising : List ℕ) → let i = c.loop-i.i in let a = c.args in length a.left.marks.now ≤ length lv
    → c.kind_of.result ≡ kind_of (with_list a.o codes rising) (row_from (suc a.o.by) (i * suc a.o.by) lv a.left.marks.now) (row_from a.answers.width (i * a.answers.width) a.answers.values.now a.answers.marks.now)
kind c lv codes rising h =
    let a = c.args in
    let i = c.loop-i.i in
    let p = c.requires in
    let w : a.o.by + 1 ≡ suc a.o.by = omega arith in
    rw w at (c.kind_of.ensures lv a.answers.values.now a.answers.width (omega (arith, row_room i a.left.count (suc a.o.by) c.loop-i-test.true, p.left_in, h)) (omega (arith, row_room i a.left.count a.answers.width c.loop-i-test.true, p.values_in, p.wide)) p.wide)

pub returns-then-distance-gt1000000000 : goal.returns-then-distance-gt1000000000
returns-then-distance-gt1000000000 c =
    λ lv codes rising h.
    let a = c.args in
    let l = c.loop-i in
    let p = c.requires in
    going_beyond (with_list a.o codes rising) a.left.count a.answers.width lv a.left.marks.now a.answers.values.now a.answers.marks.now p.wide p.values_in p.paired p.fine l.i l.sales l.nulls c.loop-i-test.true
    (sym (kind (goal.at.returns-then-distance-gt1000000000 c).After-kind_of lv codes rising h) ∙ c.in-Amount.is) (l.invariant.going lv codes rising h)
    (rw (c.distance.ensures, back (get_or a.answers.values.now (l.i * a.answers.width + 1) (pos 0)) (search rules)) at c.if-distance-gt1000000000.true)

pub loop-i-preserved : goal.loop-i-preserved
loop-i-preserved c =
    let a = c.args in
    let l = c.loop-i in
    let p = c.requires in
    let t = c.loop-i-test.true in
    let k = kind (goal.at.loop-i-preserved c).After-kind_of in
    elim c.match-kind_of.branch [
      | in-Unmatched w ↦ rw (w.sales-is, w.nulls-is) (record {
        few_sales = omega (arith, l.invariant.few_sales);
        few_nulls = omega (arith, l.invariant.few_nulls);
        going = λ lv codes rising h. going_unmatched (with_list a.o codes rising) a.left.count a.answers.width lv a.left.marks.now a.answers.values.now a.answers.marks.now l.i l.sales l.nulls t (sym (k lv codes rising h) ∙ w.in-Unmatched.is) (l.invariant.going lv codes rising h);
      })
      | in-Nothing w ↦ rw (w.sales-is, w.nulls-is) (record {
        few_sales = omega (arith, l.invariant.few_sales);
        few_nulls = omega (arith, l.invariant.few_nulls);
        going = λ lv codes rising h. going_nothing (with_list a.o codes rising) a.left.count a.answers.width lv a.left.marks.now a.answers.values.now a.answers.marks.now l.i l.sales l.nulls t (sym (k lv codes rising h) ∙ w.in-Nothing.is) (l.invariant.going lv codes rising h);
      })
      | in-Amount+else-distance-gt1000000000 w ↦ rw (w.sales-is, w.nulls-is) (record {
        few_sales = omega (arith, l.invariant.few_sales);
        few_nulls = omega (arith, l.invariant.few_nulls);
        going = λ lv codes rising h. going_amount (with_list a.o codes rising) a.left.count a.answers.width lv a.left.marks.now a.answers.values.now a.answers.marks.now p.wide p.values_in p.paired p.fine l.i l.sales l.nulls t (sym (k lv codes rising h) ∙ w.in-Amount.is) (l.invariant.going lv codes rising h)
            (rw (w.distance.ensures, back (get_or a.answers.values.now (l.i * a.answers.width + 1) (pos 0)) (search rules)) at w.if-distance-gt1000000000.false);
      })
    ]

pub returns : goal.returns
returns c =
    λ lv codes rising h.
    let a = c.args in
    let l = c.loop-i in
    let v = l.invariant in
    going_ends (with_list a.o codes rising) a.left.count a.answers.width lv a.left.marks.now a.answers.values.now a.answers.marks.now l.i l.sales l.nulls c.loop-i-test.false (omega (arith, v.few_sales, c.requires.few)) (omega (arith, v.few_nulls, c.requires.few)) (v.going lv codes rising h)
