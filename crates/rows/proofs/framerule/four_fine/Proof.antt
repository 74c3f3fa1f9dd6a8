-- `framerule::four_fine` meets its contract. Assumes nothing.
use Rattle.std.proofs.Common.{◌≡◌, ◌+◌, ◌&&◌, get_or, drop, pos, ◌∙◌, rules}
use borrow.Author.Tests.{not-true, not-false}
use Rattle.frames.specs.Frame.{pair_fine, pairs_fine}
use Rattle.rows.proofs.framerule.PairLaws.{pairs_four}
use Rattle.rows.proofs.framerule.four_fine.Statement.{statement}
use Rattle.rows.proofs.framerule.four_fine.Tie as tie

-- the pairs from place i on are these four and those behind them
four : (c : tie.Start) → let a = c.args in let vs = a.values.now in let ms = a.marks.now in pairs_fine (drop a.i vs) (drop a.i ms)
    ≡ (pair_fine (get_or vs a.i (pos 0)) (get_or ms a.i (pos 0)) && (pair_fine (get_or vs (a.i + 1) (pos 0)) (get_or ms (a.i + 1) (pos 0)) && (pair_fine (get_or vs (a.i + 2) (pos 0)) (get_or ms (a.i + 2) (pos 0))
    && (pair_fine (get_or vs (a.i + 3) (pos 0)) (get_or ms (a.i + 3) (pos 0)) && pairs_fine (drop (a.i + 4) vs) (drop (a.i + 4) ms)))))
four c = pairs_four c.args.values.now c.args.marks.now c.args.i c.requires.0 c.requires.1

fine-at-requires : tie.Need-fine_at-requires
fine-at-requires c κs = search rules

returns : tie.Need-returns-then-not-fine_at
returns c = four c.before.before ∙ rw (← c.fine_at.ensures, not-true c.fine_at.result c.if-not-fine_at.true-raw)

add-fine-at : tie.Need-overflow_add-i
add-fine-at c = search rules

fine-at-requires-2 : tie.Need-fine_at-requires-2
fine-at-requires-2 c κs = search rules

returns-2 : tie.Need-returns-then-not-fine_at-2
returns-2 c =
    let one = c in
    let two = c in
    four one.before.before.before.before ∙ rw (← one.fine_at.ensures, not-false one.fine_at.result two.if-not-fine_at.false-raw, ← two.fine_at-2.ensures, not-true two.fine_at-2.result c.if-not-fine_at-2.true-raw)

add-fine-at-2 : tie.Need-overflow_add-i-2
add-fine-at-2 c = search rules

fine-at-requires-3 : tie.Need-fine_at-requires-3
fine-at-requires-3 c κs = search rules

returns-3 : tie.Need-returns-then-not-fine_at-3
returns-3 c =
    let one = c in
    let two = c in
    let three = c in
    four one.before.before.before.before.before.before
    ∙ rw (← one.fine_at.ensures, not-false one.fine_at.result two.if-not-fine_at.false-raw, ← two.fine_at-2.ensures, not-false two.fine_at-2.result three.if-not-fine_at-2.false-raw, ← three.fine_at-3.ensures, not-true three.fine_at-3.result c.if-not-fine_at-3.true-raw)

add-fine-at-3 : tie.Need-overflow_add-i-3
add-fine-at-3 c = search rules

fine-at-requires-4 : tie.Need-fine_at-requires-4
fine-at-requires-4 c κs = search rules

returns-4 : tie.Need-returns
returns-4 c =
    let one = c in
    let two = c in
    let three = c in
    four one.before.before.before.before.before.before.before
    ∙ rw (← one.fine_at.ensures, not-false one.fine_at.result two.if-not-fine_at.false-raw, ← two.fine_at-2.ensures, not-false two.fine_at-2.result three.if-not-fine_at-2.false-raw, ← three.fine_at-3.ensures, not-false three.fine_at-3.result c.if-not-fine_at-3.false-raw, ← c.fine_at-4.ensures)

pub four_fine_spec : {M : Type 1} → statement M
four_fine_spec =
    tie.close
    (tie.spec fine-at-requires returns add-fine-at fine-at-requires-2 returns-2 add-fine-at-2 fine-at-requires-3 returns-3 add-fine-at-3 fine-at-requires-4 returns-4)
