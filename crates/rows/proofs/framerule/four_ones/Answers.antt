-- `framerule::four_ones` meets its contract. Assumes nothing.
use Rattle.std.proofs.Common.{sym, ◌∙◌, rules}
use borrow.Author.Tests.{not-false}
use Rattle.rows.proofs.framerule.PairLaws.{ones_four, not_asked}
use Rattle.rows.proofs.framerule.four_ones.Goals as goal

pub returns-then-not-one_at : goal.returns-then-not-one_at
returns-then-not-one_at c = λ t. not_asked t

pub returns-then-not-one_at-2 : goal.returns-then-not-one_at-2
returns-then-not-one_at-2 c = λ t. not_asked t

pub returns-then-not-one_at-3 : goal.returns-then-not-one_at-3
returns-then-not-one_at-3 c = λ t. not_asked t

pub returns : goal.returns
returns c =
    let one = c in
    let two = c in
    let three = c in
    let s = one in
    λ t vs.
    ones_four vs s.args.marks.now s.args.i s.requires
    (sym one.one_at.ensures ∙ not-false one.one_at.result two.if-not-one_at.false-raw)
    (sym two.one_at-2.ensures ∙ not-false two.one_at-2.result three.if-not-one_at-2.false-raw)
    (sym three.one_at-3.ensures ∙ not-false three.one_at-3.result c.if-not-one_at-3.false-raw)
    (sym c.one_at-4.ensures ∙ t)
