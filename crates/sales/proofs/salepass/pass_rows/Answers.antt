-- `salepass::pass_rows` meets its contract. Assumes nothing.
use mathlib.Core.Path.{◌≡◌, ◌∙◌}
use Prim.Native.Nat.{◌-◌, ◌*◌, ◌≤◌}
use native.Mathlib.Omega.{arith}
use lib.ListN.{length, drop, length-drop}
use Rattle.sales.proofs.saleinsert.InsertLaws.{times_least, times_less}
use Rattle.sales.proofs.salepass.PassLaws.{pasted_part}
use Rattle.sales.proofs.salepass.pass_rows.Goals as goal

pub returns : goal.returns
returns c =
    let a = c.args in
    let below : a.from * a.w ≤ a.to * a.w = times_least a.from a.to a.w c.requires.range in
    let words : (a.to - a.from) * a.w ≡ a.to * a.w - a.from * a.w = times_less a.to a.from a.w c.requires.range in
    let part : (a.to - a.from) * a.w ≤ length (drop (a.from * a.w) a.table.now) = omega (arith, words, below, c.requires.there, length-drop (a.from * a.w) a.table.now) in
    rw (← words) at c.copy_words.ensures ∙ pasted_part a.body.now (drop (a.from * a.w) a.table.now) (a.m * a.w) ((a.to - a.from) * a.w) part
