-- `saleorder::count_ordered` meets its contract. Assumes nothing.
use mathlib.Core.Path.{◌≡◌, sym, ◌∙◌}
use mathlib.Core.Bool.{false}
use Prim.Native.Nat.{ℕ, suc, ◌+◌, ◌*◌, ◌≤◌}
use native.Mathlib.Omega.{arith}
use lib.ListN.{length}
use Rattle.frames.specs.Cells.{Words, row_from}
use Rattle.order.specs.options.Options.{options_of}
use Rattle.order.proofs.RowLaws.{row_room}
use Rattle.std.proofs.lemmas.Option.{same_Some}
use Rattle.std.specs.declared.cmp.Ordering.TheVariants.{Less}
use Rattle.sales.proofs.salekind.KindLaws.{from_all}
use Rattle.sales.specs.saleorder.Ordered.{side_of}
use Rattle.sales.proofs.saleorder.OrderedLaws.{to_starts, to_less, to_equal, to_ends, passed_starts, passed_place, passed_more, side_less, more_most}
use Rattle.sales.proofs.saleorder.count_ordered.Goals.{After-side_of, in-Less, in-Equal}
use Rattle.sales.proofs.saleorder.count_ordered.Goals as goal

pub loop-i-init : goal.loop-i-init
loop-i-init c =
    let a = c.args in
    let o = options_of a.rules in
    let x = row_from (suc a.rules.terms.by) 0 a.left.values.now a.left.marks.now in
    record {
      few = omega arith;
      there = λ e. (let z : ◌≡◌ {A = ℕ} 0 1 = cc in absurd (omega arith));
      passed = passed_starts o a.table.count a.table.values.now false x;
      counted = λ ts av h t. to_starts o a.table.count a.left.count a.answers.width a.table.values.now a.left.values.now a.left.marks.now av a.answers.marks.now ts t x;
    }

-- How the last sale stands to this row.
side : (c : After-side_of) (av : Words) → let l = c.loop-i in let a = c.args in let b = suc a.rules.terms.by in length a.answers.marks.now ≤ length av
    → c.side_of.result ≡ side_of (options_of a.rules) l.any (row_from b l.last a.left.values.now a.left.marks.now) (row_from b (l.i * b) a.left.values.now a.left.marks.now) (row_from a.answers.width (l.i * a.answers.width) av a.answers.marks.now)
side c av h =
    let a = c.args in
    let p = c.requires in
    let w : a.rules.terms.by + 1 ≡ suc a.rules.terms.by = omega arith in
    rw w at (c.side_of.ensures av a.answers.width (omega (arith, row_room c.loop-i.i a.left.count a.answers.width c.loop-i-test.true, p.answers, p.wide, h)) p.wide)

pub loop-i-preserved : goal.loop-i-preserved
loop-i-preserved c =
    let a = c.args in
    let o = options_of a.rules in
    let b = suc a.rules.terms.by in
    let l = c.loop-i in
    let v = l.invariant in
    let x = row_from b l.last a.left.values.now a.left.marks.now in
    let y = row_from b (l.i * b) a.left.values.now a.left.marks.now in
    let s = side (goal.at.loop-i-preserved c).After-side_of in
    elim c.match-side_of.branch [
      | in-Less w ↦
          let r = w.reach-p in
          let m = w.more-m.ensures in
          let z1 : a.rules.terms.by + 1 ≡ b = omega arith in
          let z2 : a.rules.terms.by + 2 ≡ suc b = omega arith in
          let p = rw (z1, z2) at r.ensures in
          let e : (av : Words) → length a.answers.marks.now ≤ length av → side_of o l.any x y (row_from a.answers.width (l.i * a.answers.width) av a.answers.marks.now) ≡ Less = λ av h. sym (s av h) ∙ w.in-Less.is in
          let g = side_less o l.any x y (row_from a.answers.width (l.i * a.answers.width) a.answers.marks.now a.answers.marks.now) (e a.answers.marks.now (omega arith)) in
          rw (w.m-is, w.near-is, w.any-is, w.last-is, z1) (record {
            few = omega (arith, v.few, m, more_most r.result.here l.m);
            there = λ z. omega (arith, row_room l.i a.left.count b c.loop-i-test.true);
            passed = rw (← w.more-near.ensures) at (passed_more o l.near a.table.count a.table.values.now l.any x v.passed y g r.result.row r.result.here p);
            counted = λ ts av h t. rw (← m) at
                (to_less o a.table.count a.left.count a.answers.width a.table.values.now a.left.values.now a.left.marks.now av a.answers.marks.now ts t l.any x l.m l.i c.loop-i-test.true (v.counted ts av h t) (e av h) r.result.row r.result.here
                (passed_place o l.near a.table.count a.table.values.now l.any x v.passed y g r.result.row r.result.here p));
          })
      | in-Equal w ↦ rw (w.m-is, w.near-is, w.any-is, w.last-is) (record {
        few = omega (arith, v.few);
        there = v.there;
        passed = v.passed;
        counted = λ ts av h t. to_equal o a.table.count a.left.count a.answers.width a.table.values.now a.left.values.now a.left.marks.now av a.answers.marks.now ts t l.any x l.m l.i c.loop-i-test.true (v.counted ts av h t) (sym (s av h) ∙ w.in-Equal.is);
      })
    ]

pub returns : goal.returns
returns c =
    let a = c.args in
    let o = options_of a.rules in
    let l = c.loop-i in
    let x = row_from (suc a.rules.terms.by) l.last a.left.values.now a.left.marks.now in
    λ ts av m e h t. sym (same_Some l.m m e) ∙ rw (from_all o a.left.count a.answers.width a.left.values.now a.left.marks.now av a.answers.marks.now) at (to_ends o a.table.count a.left.count a.answers.width a.table.values.now a.left.values.now a.left.marks.now av a.answers.marks.now ts t l.any x l.m l.i c.loop-i-test.false (l.invariant.counted ts av h t))
