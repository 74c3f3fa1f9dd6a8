-- `salegrow::write_sales` meets its contract. Assumes nothing.
use mathlib.Core.Path.{◌≡◌, sym, ap, ◌∙◌}
use mathlib.Core.List.{List, ◌++◌}
use Prim.Native.Nat.{ℕ, suc, ◌+◌, ◌-◌, ◌*◌, ◌≤◌}
use native.Mathlib.Omega.{arith}
use lib.IntN.{pos}
use lib.ListN.{length, take, drop, replicate, length-append, length-drop, length-replicate}
use lib.Seq.{paste, length-take-le}
use Rattle.order.specs.options.Options.{options_of}
use Rattle.takings.specs.Subtotals.{Subtotal, add_all}
use Rattle.sales.specs.saleinsert.Held.{Held}
use Rattle.sales.specs.saleadd.Adds.{amounts_in}
use Rattle.sales.specs.salegrow.Grows.{Grows}
use Rattle.sales.proofs.salewrite.WordLaws.{put_pasted}
use Rattle.sales.proofs.salegrow.GrowLaws.{starts, finished, back_whole, lent_whole}
use Rattle.sales.proofs.salegrow.write_sales.Goals.{After-add_frame-m}
use Rattle.sales.proofs.salegrow.write_sales.Goals as goal

-- The width, as the definitions have it.
width : (b : ℕ) → b + 2 ≡ suc (suc b)
width b = omega arith

-- The grown table.
held : (c : After-add_frame-m) (ts : List Subtotal) → let a = c.args in let o = options_of a.rules in Grows o a.table.count a.left.count a.answers.width ts a.table.values.now a.left.values.now a.left.marks.now a.answers.values.now a.answers.marks.now (drop 2 a.out.now)
    → Held o c.add_frame-m.result (add_all o ts (amounts_in o a.left.count a.answers.width a.left.values.now a.left.marks.now a.answers.values.now a.answers.marks.now)) (drop 2 a.out.now) c.add_frame-m.new.body
held c ts t =
    let a = c.args in
    rw (lent_whole a.out.now) at (c.add_frame-m.ensures ts (rw (lent_whole a.out.now) (starts (options_of a.rules) a.table.count a.left.count a.answers.width ts a.table.values.now a.left.values.now a.left.marks.now a.answers.values.now a.answers.marks.now (drop 2 a.out.now) t)))

-- Twice its rows have room.
room : (c : After-add_frame-m) → let a = c.args in c.add_frame-m.result * suc (suc a.rules.terms.by) + c.add_frame-m.result * suc (suc a.rules.terms.by) ≤ length (drop 2 a.out.now)
room c =
    let p = c.requires.grow in
    rw (← (held c p.ts p.grows).rows) p.grows.room

pub returns : goal.returns
returns c =
    λ ts t. let a = c.args in
    let o = options_of a.rules in
    let w = a.rules.terms.by + 2 in
    let s = (goal.at.returns c).After-add_frame-m in
    let h = held s ts t in
    let m = c.add_frame-m.result in
    let O = take 2 a.out.now ++ (c.add_frame-m.new.body ++ drop (length a.out.now - 2) (drop 2 a.out.now)) in
    let k = m * w in
    let lo : length O ≡ length a.out.now = ap length (back_whole a.out.now c.add_frame-m.new.body) ∙ length-append (take 2 a.out.now) c.add_frame-m.new.body ∙ omega (arith, h.long, length-drop 2 a.out.now, length-take-le 2 a.out.now c.requires.two, c.requires.two) in
    let n : length (take k (drop (2 + k) O)) ≡ k = length-take-le k (drop (2 + k) O) (omega (arith, length-drop (2 + k) O, lo, room s, width a.rules.terms.by, length-drop 2 a.out.now, c.requires.two)) in
    let z : 2 + k + k - (2 + k) ≡ k = omega arith in
    let e : c.fill.new.self ≡ replicate k (pos 1) = rw (z, n) at (c.fill.ensures.after (λ y d. d)) in
    let f : take (2 + k) O ++ (c.fill.new.self ++ drop (2 + k + k - (2 + k)) (drop (2 + k) O)) ≡ paste O (2 + k) (replicate k (pos 1)) k = rw (z, e) (put_pasted O (replicate k (pos 1)) (2 + k) k (length-replicate k (pos 1))) in
    (sym h.rows, rw (width a.rules.terms.by) at c.put_head.ensures ∙ finished o m (add_all o ts (amounts_in o a.left.count a.answers.width a.left.values.now a.left.marks.now a.answers.values.now a.answers.marks.now)) a.out.now _ _ _ c.requires.two h (room s) (back_whole a.out.now _) (rw (width a.rules.terms.by) at f))
