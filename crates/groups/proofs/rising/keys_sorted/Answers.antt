-- `rising::keys_sorted` meets its contract. Assumes nothing.
use Rattle.std.proofs.Common.{◌≡◌, ℕ, ◌+◌, ◌-◌, ◌*◌, ◌<◌, ◌≤◌, Bool, length, sym, ap, ◌∙◌, arith}
use Rattle.frames.specs.Cells.{Words, row_from}
use Rattle.order.specs.declared.options.Options.{Options}
use Rattle.order.specs.Order.{cmp_row, is_greater, sorted}
use Rattle.order.proofs.RowLaws.{rest_all, row_room, sorted_few, one_row}
use Rattle.groups.specs.rising.Rising.{key_falls}
use Rattle.groups.proofs.rising.RiseLaws.{sorted_on, sorted_stop, keys_fall, keys_start}
use Rattle.groups.proofs.rising.keys_sorted.Goals as goal

pub returns-then-rows-eq0 : goal.returns-then-rows-eq0
returns-then-rows-eq0 c = λ o none.
    let r = c.args.rows in
    sym (ap (sorted o) (rest_all o r.width r.values.now r.marks.now r.count) ∙ sorted_few o r.width r.values.now r.marks.now 0 r.count (omega (arith, c.if-rows-eq0.true)))

pub loop-i-init : goal.loop-i-init
loop-i-init c = λ o none.
    let r = c.args.rows in
    let e = c.fours_rise-e.ensures in
    keys_start o none r.width r.values.now r.marks.now (omega (arith, c.requires.wide)) r.count c.fours_rise-e.result c.requires.values e.0 e.1 e.2

-- row i and the one before it, by their keys
told : (o : Options) (w n i : ℕ) (vs ms : Words) (b : Bool) → o.by ≡ 0 → 0 < w → 0 < i → i < n → n * w ≤ length vs → key_falls (i * w - w) (i * w) vs ms ≡ b
    → is_greater (cmp_row o (row_from w ((i - 1) * w) vs ms) (row_from w ((i - 1) * w + w) vs ms)) ≡ b
told o w n i vs ms b none wide g h l e =
    let r = row_room i n w h in
    let y : (i - 1) * w + w ≡ i * w = sym (one_row i w g) in
    let z : (i - 1) * w ≡ i * w - w = omega arith in
    keys_fall o none w vs ms wide ((i - 1) * w) ((i - 1) * w + w) (omega arith) (omega arith) ∙ rw (y, z) e

pub returns-then-key_falls : goal.returns-then-key_falls
returns-then-key_falls c = λ o none.
    let r = c.args.rows in
    let l = c.loop-i in
    let t = c.loop-i-test.true in
    let p = c.requires in
    let e = told o r.width r.count l.i r.values.now r.marks.now _ none (omega arith) (omega (arith, c.fours_rise-e.ensures.0)) t p.values (sym c.key_falls.ensures ∙ c.if-key_falls.true) in
    sym (l.invariant o none ∙ sorted_stop o r.width r.values.now r.marks.now (omega arith) ((l.i - 1) * r.width) (r.count - l.i + 1) (omega arith) e)

pub loop-i-preserved : goal.loop-i-preserved
loop-i-preserved c = λ o none.
    let r = c.args.rows in
    let l = c.loop-i in
    let t = c.loop-i-test.true in
    let p = c.requires in
    let e = told o r.width r.count l.i r.values.now r.marks.now _ none (omega arith) (omega (arith, c.fours_rise-e.ensures.0)) t p.values (sym c.key_falls.ensures ∙ c.if-key_falls.false) in
    let x : l.i + 1 - 1 ≡ l.i = omega arith in
    let y : (l.i + 1 - 1) * r.width ≡ (l.i - 1) * r.width + r.width = rw x (one_row l.i r.width (omega (arith, c.fours_rise-e.ensures.0))) in
    let z : r.count - (l.i + 1) + 1 ≡ r.count - l.i + 1 - 1 = omega arith in
    rw (y, z) (l.invariant o none ∙ sorted_on o r.width r.values.now r.marks.now (omega arith) ((l.i - 1) * r.width) (r.count - l.i + 1) (omega arith) e)

pub returns : goal.returns
returns c = λ o none.
    let r = c.args.rows in
    let l = c.loop-i in
    sym (l.invariant o none ∙ sorted_few o r.width r.values.now r.marks.now ((l.i - 1) * r.width) (r.count - l.i + 1) (omega (arith, c.loop-i-test.false)))
