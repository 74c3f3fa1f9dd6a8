use mathlib.Core.Path.{◌≡◌, sym, ◌∙◌}
use Prim.Native.Nat.{◌+◌, ◌≤◌}
use native.Mathlib.Omega.{arith}
use borrow.Author.Tests.{not-true, not-false}
use Rattle.frames.specs.Cells.{rows_of}
use Rattle.order.specs.options.Options.{with_list}
use Rattle.matchframe.specs.turnrows.Prunes.{last_prune}
use Rattle.node.proofs.turnfront.TurnLaws.{first_in, first_words, kept_in, kept_are, last_is, both_in, write_in, order_stops, order_goes}
use Rattle.node.proofs.turnfront.turn_pruned.Goals as goal

pub from_row-kv-requires : goal.from_row-kv-requires
from_row-kv-requires c = let p = c.requires.0 in first_words p _ c.first_prune-first.ensures c.args.right.values.now p.right.values

pub from_row-km-requires : goal.from_row-km-requires
from_row-km-requires c = let f = c in let p = f.requires.0 in first_words p _ f.first_prune-first.ensures f.args.right.marks.now p.right.marks

pub overflow_sub-j : goal.overflow_sub-j
overflow_sub-j c = let f = c in first_in f.requires.0 _ f.first_prune-first.ensures

pub last_prune-last-requires : goal.last_prune-last-requires
last_prune-last-requires c = let f = c in let p = f.requires.0 in (p.left, kept_in p _ f.first_prune-first.ensures _ _ c.from_row-kv.ensures c.from_row-km.ensures)

-- The split is that of the prune by the last row, and is among the held rows.
split : (c : goal.After-last_prune-last) → let a = c.args in
    c.last_prune-last.result ≡ last_prune (with_list a.rules.terms a.rules.codes.now a.rules.rising.now) (rows_of a.left.width a.left.count a.left.values.now a.left.marks.now) (rows_of a.right.width a.j.held a.right.values.now a.right.marks.now)
split c =
    let f = c in
    last_is f.requires.0 _ f.first_prune-first.ensures _ _ c.from_row-kv.ensures c.from_row-km.ensures _ c.last_prune-last.ensures

within : (c : goal.After-last_prune-last) → let a = c.args in c.first_prune-first.result + c.last_prune-last.result ≤ a.j.held
within c =
    let f = c in
    both_in f.requires.0 _ f.first_prune-first.ensures _ _ c.from_row-kv.ensures c.from_row-km.ensures _ c.last_prune-last.ensures

pub judge_order-order-requires : goal.judge_order-order-requires
judge_order-order-requires c = let f = c in let p = f.requires.0 in (p, omega (arith, within c))

pub returns-then-not-goes_on : goal.returns-then-not-goes_on
returns-then-not-goes_on c =
    let i = c in
    let q = i in
    let l = q in
    let f = l in
    let x = f in
    rw (c.unturned.ensures, c.fail.ensures) (order_stops _ _ _ _ _ x.args.out.now x.requires.1 _ (split l.before.before.before.before.before) _ q.judge_order-order.ensures (sym i.goes_on.ensures ∙ not-true i.goes_on.result i.if-not-goes_on.true-raw))

pub overflow_sub-j-2 : goal.overflow_sub-j-2
overflow_sub-j-2 c = let f = c in first_in f.requires.0 _ f.first_prune-first.ensures

pub write_turn-requires : goal.write_turn-requires
write_turn-requires c =
    let i = c in
    let q = i in
    let l = q in
    let f = l in
    let x = f in
    write_in x.requires.0 _ f.first_prune-first.ensures _ _ l.from_row-kv.ensures l.from_row-km.ensures _ l.last_prune-last.ensures x.args.out.now x.requires.1
    _ q.judge_order-order.ensures (sym i.goes_on.ensures ∙ not-false i.goes_on.result i.if-not-goes_on.false-raw)

pub returns : goal.returns
returns c =
    let i = c in
    let q = i in
    let l = q in
    let f = l in
    let x = f in
    order_goes _ _ _ _ _ x.args.out.now x.requires.1 _ (split l.before.before.before.before.before.before.before) _ q.judge_order-order.ensures (sym i.goes_on.ensures ∙ not-false i.goes_on.result i.if-not-goes_on.false-raw)
    _ _ _ _ (kept_are x.requires.0 _ f.first_prune-first.ensures _ _ l.from_row-kv.ensures l.from_row-km.ensures) f.first_prune-first.ensures c.write_turn.ensures
