-- `salewrite::put_sale` meets its contract. Assumes nothing.
use mathlib.Core.Path.{◌≡◌}
use Prim.Native.Nat.{◌+◌, ◌-◌}
use native.Mathlib.Omega.{arith}
use lib.ListN.{length, take, drop, length-drop}
use lib.Seq.{paste, length-take-le}
use mir.Facts.{to_z-of_z}
use Rattle.sales.proofs.salewrite.WordLaws.{row_laid}
use Rattle.sales.proofs.salewrite.put_sale.Goals as goal

pub returns : goal.returns
returns c =
    let a = c.args in
    let g = take a.by (drop a.q a.values.now) in
    let n : length g ≡ a.by = length-take-le a.by (drop a.q a.values.now) (omega (arith, length-drop a.q a.values.now, c.requires.there)) in
    let x : a.q + a.by - a.q ≡ a.by = omega arith in
    let told : c.copy_words.new.body ≡ paste a.body.now a.at g a.by = rw (x, n) at c.copy_words.ensures in
    rw (to_z-of_z c.ranges.total, to_z-of_z c.ranges.count) (row_laid a.body.now c.copy_words.new.body g a.at a.by a.total a.count c.requires.room n told)
