-- `saleplace::place_near` meets its contract. Assumes nothing.
use mathlib.Core.Path.{◌≡◌, sym, ◌∙◌}
use Prim.Native.Nat.{suc, ◌+◌, ◌-◌, ◌*◌, ◌≤◌}
use native.Mathlib.Omega.{arith}
use Rattle.frames.specs.Cells.{row_from}
use Rattle.order.specs.options.Options.{options_of}
use Rattle.std.specs.declared.cmp.Ordering.TheVariants.{Less}
use Rattle.order.proofs.RowLaws.{row_room}
use Rattle.sales.specs.saleplace.Place.{cmp_at}
use Rattle.sales.proofs.saleplace.PlaceLaws.{found, placed_within}
use Rattle.sales.proofs.saleplace.place_near.Goals as goal

-- The row that is looked at first is there.
place : (c : goal.Else-n-near) → let a = c.args in a.near * a.w + a.w ≤ a.n * a.w
place c = let a = c.args in row_room a.near a.n a.w c.if-n-near.false

pub overflow_mul-near : goal.overflow_mul-near
overflow_mul-near c = let s = c in omega (arith, place c, s.requires.rows)

pub cmp_sale-requires : goal.cmp_sale-requires
cmp_sale-requires c =
    let s = c in
    record { compare = s.requires.compare; row = omega (arith, place c, s.requires.rows, s.requires.wide); values = s.requires.values; marks = s.requires.marks }

pub find_place-requires-in-Greater : goal.find_place-requires-in-Greater
find_place-requires-in-Greater c =
    let e = c in
    let s = e in
    let p = s.requires in
    record { compare = p.compare; wide = p.wide; range = omega arith; rows = omega (arith, place e.before.before, p.rows); values = p.values; marks = p.marks }

pub returns-in-Less : goal.returns-in-Less
returns-in-Less c =
    let e = c in
    let s = e in
    let a = s.args in
    let z : a.near + 1 - 1 ≡ a.near = omega arith in
    let d : cmp_at (options_of s.args.rules) a.w a.body.now (row_from (suc s.args.rules.terms.by) s.args.q s.args.left.values.now s.args.left.marks.now) a.near ≡ Less = sym c.cmp_sale.ensures ∙ c.in-Less.is in
    placed_within (options_of s.args.rules) a.w 0 a.n a.body.now (row_from (suc s.args.rules.terms.by) s.args.q s.args.left.values.now s.args.left.marks.now) (a.near + 1) a.n _ _ (omega arith) (omega arith) (λ k. rw z d) (λ k. absurd (omega arith)) c.find_place-in-Less.ensures

pub returns-in-Equal : goal.returns-in-Equal
returns-in-Equal c =
    let e = c in
    let s = e in
    let a = s.args in
    found (options_of s.args.rules) a.w 0 a.n a.body.now (row_from (suc s.args.rules.terms.by) s.args.q s.args.left.values.now s.args.left.marks.now) a.near (omega arith) e.if-n-near.false (sym c.cmp_sale.ensures ∙ c.in-Equal.is)

pub returns-in-Greater : goal.returns-in-Greater
returns-in-Greater c =
    let e = c in
    let s = e in
    let a = s.args in
    placed_within (options_of s.args.rules) a.w 0 a.n a.body.now (row_from (suc s.args.rules.terms.by) s.args.q s.args.left.values.now s.args.left.marks.now) 0 a.near _ _ (omega arith) (omega (arith, e.if-n-near.false)) (λ k. absurd (omega arith)) (λ k. sym c.cmp_sale.ensures ∙ c.in-Greater.is) c.find_place-in-Greater.ensures
