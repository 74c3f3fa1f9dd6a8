use mathlib.Core.Path.{◌≡◌}
use mathlib.Core.Bool.{true, false}
use Prim.Native.Nat.{◌+◌}
use borrow.Author.Tests.{not-false}
use Rattle.groups.proofs.stretch.StretchLaws.{four_places}
use Rattle.groups.specs.rising.Rising.{key_falls}
use Rattle.groups.proofs.rising.four_rise.Goals as goal

pub returns-then-not-key_rises : goal.returns-then-not-key_rises
returns-then-not-key_rises c = λ (e : false ≡ true). λ j h. cc

pub returns-then-not-key_rises-2 : goal.returns-then-not-key_rises-2
returns-then-not-key_rises-2 c = λ (e : false ≡ true). λ j h. cc

pub returns-then-not-key_rises-3 : goal.returns-then-not-key_rises-3
returns-then-not-key_rises-3 c = λ (e : false ≡ true). λ j h. cc

pub returns : goal.returns
returns c = λ t.
    let a = c.args in
    let one = c in
    let two = c in
    let three = c in
    four_places (λ k. key_falls k (k + a.rows.width) a.rows.values.now a.rows.marks.now ≡ false) a.p a.rows.width
    (one.key_rises.ensures (not-false one.key_rises.result c.if-not-key_rises.false-raw))
    (two.key_rises-2.ensures (not-false two.key_rises-2.result c.if-not-key_rises-2.false-raw))
    (three.key_rises-3.ensures (not-false three.key_rises-3.result c.if-not-key_rises-3.false-raw))
    (c.key_rises-4.ensures t)
