use mathlib.Core.Path.{◌≡◌}
use Prim.Native.Nat.{suc, ◌+◌, ◌≤◌}
use native.Mathlib.Omega.{arith}
use Rattle.frames.specs.Cells.{row_from, rows_of}
use Rattle.order.specs.options.Options.{with_list}
use Rattle.frames.proofs.WordLaws.{rows_length}
use Rattle.order.proofs.RowLaws.{row_cell}
use Rattle.searching.proofs.ReachLaws.{column_in, narrow_end, narrowed_all, split_is}
use borrow.Author.Rules.{rules}
use Rattle.buffer.proofs.pruning.split_at.Statement.{statement}
use Rattle.buffer.proofs.pruning.split_at.Tie as tie

strategy-of-requires : tie.Need-strategy_of-strategy-requires
strategy-of-requires c κs = search rules

find-key-requires : tie.Need-find_key-key-requires
find-key-requires c κs = search rules

step-back-requires : tie.Need-step_back-requires
step-back-requires c κs = search rules

returns : tie.Need-returns-then-rules-eq0
returns c = λ wl h.
    let i = c in
    let s = i in
    let a = s.args in
    let o = with_list a.rules.terms a.rules.codes.now a.rules.rising.now in
    let z : a.p + a.rules.terms.by ≡ a.p = omega (arith, i.if-rules-eq0.true) in
    rw (c.step_back.ensures, i.strategy_of-strategy.ensures)
    (split_is o (row_from wl a.p a.left.values.now a.left.marks.now) (rows_of a.right.width a.right.count a.right.values.now a.right.marks.now) _ _ _ (narrowed_all o (row_from wl a.p a.left.values.now a.left.marks.now) (rows_of a.right.width a.right.count a.right.values.now a.right.marks.now) a.right.count i.if-rules-eq0.true (rows_length a.right.width a.right.count a.right.values.now a.right.marks.now)) (rw z at (row_cell wl a.p a.rules.terms.by a.left.values.now a.left.marks.now h s.requires.0.values)) (c.find_key-key.ensures a.right.count (omega arith)))

narrow-requires : tie.Need-narrow-s-requires
narrow-requires c κs = search rules

add-find-key : tie.Need-overflow_add-p
add-find-key c = search rules

-- the stretch ends at or before the last row
within : (c : tie.After-narrow-s) → c.narrow-s.result.end ≤ c.args.right.count
within c = let a = c.args in narrow_end _ _ _ _ _ _ (rows_length a.right.width a.right.count a.right.values.now a.right.marks.now) (c.narrow-s.ensures (suc a.rules.terms.by) (omega arith))

find-key-requires-2 : tie.Need-find_key-at-requires
find-key-requires-2 c κs =
    let s = c in
    (record { values = s.requires.0.values; marks = s.requires.0.marks }, column_in s.requires.1 _ _ s.requires.1.wide (within c.before))

step-back-requires-2 : tie.Need-step_back-requires-2
step-back-requires-2 c κs = search rules

returns-2 : tie.Need-returns
returns-2 c = λ wl h.
    let f = c in
    let s = f in
    let a = s.args in
    rw (c.step_back-2.ensures, f.strategy_of-strategy.ensures)
    (split_is (with_list a.rules.terms a.rules.codes.now a.rules.rising.now) _ _ _ _ _ (f.narrow-s.ensures wl h) (row_cell wl a.p a.rules.terms.by a.left.values.now a.left.marks.now h s.requires.0.values) (c.find_key-at.ensures a.right.count (within f.before.before.before)))

pub split_at_spec : {M : Type 1} → statement M
split_at_spec =
    tie.close
    (tie.spec strategy-of-requires find-key-requires step-back-requires returns narrow-requires add-find-key find-key-requires-2 step-back-requires-2 returns-2)
