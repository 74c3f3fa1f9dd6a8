use mathlib.Core.Path.{◌≡◌}
use mathlib.Core.Bool.{true, false}
use borrow.Author.Tests.{not-false}
use Rattle.frames.specs.Cells.{cell_of}
use Rattle.order.specs.Requires.{cell_at}
use mir.Facts.{to_z-of_z}
use Rattle.groups.proofs.stretch.StretchLaws.{four_places}
use Rattle.groups.proofs.stretch.four_have.Goals as goal

pub returns-then-not-has_words : goal.returns-then-not-has_words
returns-then-not-has_words c = λ (e : false ≡ true). λ j h. cc

pub returns-then-not-has_words-2 : goal.returns-then-not-has_words-2
returns-then-not-has_words-2 c = λ (e : false ≡ true). λ j h. cc

pub returns-then-not-has_words-3 : goal.returns-then-not-has_words-3
returns-then-not-has_words-3 c = λ (e : false ≡ true). λ j h. cc

pub returns : goal.returns
returns c = λ t.
    let s = c in
    let a = s.args in
    let one = c in
    let two = c in
    let three = c in
    let v = to_z-of_z s.ranges.v in
    let m = to_z-of_z s.ranges.m in
    four_places (λ k. cell_at k a.rows.values.now a.rows.marks.now ≡ cell_of a.v a.m) a.q a.rows.width
    (rw (v, m) at (one.has_words.ensures (not-false one.has_words.result c.if-not-has_words.false-raw)))
    (rw (v, m) at (two.has_words-2.ensures (not-false two.has_words-2.result c.if-not-has_words-2.false-raw)))
    (rw (v, m) at (three.has_words-3.ensures (not-false three.has_words-3.result c.if-not-has_words-3.false-raw)))
    (rw (v, m) at (c.has_words-4.ensures t))
