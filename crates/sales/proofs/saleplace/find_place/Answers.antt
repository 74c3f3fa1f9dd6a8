-- `saleplace::find_place` meets its contract. Assumes nothing.
use mathlib.Core.Path.{refl, sym, ◌∙◌}
use Prim.Native.Nat.{suc, ◌*◌}
use native.Mathlib.Omega.{arith}
use Rattle.frames.specs.Cells.{row_from}
use Rattle.order.specs.options.Options.{with_list}
use Rattle.order.proofs.RowLaws.{row_room}
use Rattle.sales.specs.saleplace.Place.{cmp_one}
use Rattle.sales.proofs.salegroup.GroupLaws.{single_told}
use Rattle.sales.proofs.saleplace.PlaceLaws.{placed_alike}
use Rattle.sales.proofs.saleplace.find_place.Goals as goal

pub returns-then-is_single : goal.returns-then-is_single
returns-then-is_single c =
    let s = c in
    let a = s.args in
    let p = s.requires in
    let o = with_list a.rules.terms a.rules.codes.now a.rules.rising.now in
    let t = sym c.is_single.ensures ∙ c.if-is_single.true in
    placed_alike o a.w a.low a.high a.body.now (row_from (suc a.rules.terms.by) a.q a.left.values.now a.left.marks.now) (cmp_one a.rules.terms a.w a.body.now a.q a.left.values.now a.left.marks.now) c.find_single.result.row c.find_single.result.here
    (λ i l. single_told o (i * a.w) a.body.now a.q a.left.values.now a.left.marks.now _ (record { compare = p.compare; row = omega (arith, row_room i a.high a.w l, p.rows, p.wide); values = p.values; marks = p.marks }) t refl) c.find_single.ensures
