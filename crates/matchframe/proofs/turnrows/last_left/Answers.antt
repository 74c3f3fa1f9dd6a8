use mathlib.Core.Path.{sym, ◌∙◌}
use native.Mathlib.Omega.{arith}
use borrow.Author.Tests.{not-true, not-false}
use Rattle.order.specs.options.Options.{without_list}
use Rattle.frames.specs.Cells.{rows_of}
use Rattle.order.proofs.KeyedLaws.{last_loose}
use Rattle.matchframe.proofs.turnrows.LeftLaws.{last_none, last_some}
use Rattle.matchframe.proofs.turnrows.last_left.Goals as goal

pub returns-then-not-is_strict : goal.returns-then-not-is_strict
returns-then-not-is_strict c = λ vs h.
    let a = c.args in
    let e = sym c.is_strict.ensures ∙ not-true c.is_strict.result c.if-not-is_strict.true-raw in
    c.last_keyed.ensures vs h ∙ sym (last_loose (without_list a.o) (rows_of a.c a.n vs a.marks.now) e)

pub returns-then-n-eq0 : goal.returns-then-n-eq0
returns-then-n-eq0 c = λ vs h.
    let a = c.args in
    let e = sym c.is_strict.ensures ∙ not-false c.is_strict.result c.if-not-is_strict.false-raw in
    sym (last_none (without_list a.o) a.c vs a.marks.now e a.n c.if-n-eq0.true)

pub returns : goal.returns
returns c = λ vs h.
    let a = c.args in
    let e = sym c.is_strict.ensures ∙ not-false c.is_strict.result c.if-not-is_strict.false-raw in
    sym (last_some (without_list a.o) a.c vs a.marks.now e a.n (omega (arith, c.if-n-eq0.false)))
