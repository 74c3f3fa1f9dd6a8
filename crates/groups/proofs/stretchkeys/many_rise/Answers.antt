-- `stretchkeys::many_rise` meets its contract. Assumes nothing.
use Rattle.std.proofs.Common.{◌≡◌, true, false, ◌+◌, ◌-◌, ◌*◌, sym, ◌∙◌, arith, rules}
use Rattle.order.proofs.RowLaws.{one_row}
use Rattle.groups.proofs.stretch.StretchLaws.{same_more}
use Rattle.groups.proofs.rising.RiseLaws.{rises_more}
use Rattle.groups.proofs.stretchkeys.many_rise.Goals as goal

pub loop-e-preserved : goal.loop-e-preserved
loop-e-preserved c =
    let a = c.args in
    let r = a.rows in
    let l = c.loop-e in
    let p = l.e * r.width - r.width in
    let t : c.same_words.result ≡ true = search rules in
    let f : c.key_falls.result ≡ false = search rules in
    let z : p + r.width ≡ l.e * r.width = omega (arith, one_row l.e r.width (omega arith)) in
    record {
      same = same_more a.by r.width r.count r.values.now r.marks.now a.i l.e p l.invariant.same c.loop-e-test.true z (λ j h. rw z (c.same_words.ensures t j h));
      rises = rises_more a.by r.width r.values.now r.marks.now a.i l.e p l.invariant.rises z (rw z (sym c.key_falls.ensures ∙ f));
    }
