use mathlib.Core.Path.{refl}
use mathlib.Core.Bool.{false}
use borrow.Author.Tests.{not-false}
use mir.Facts.{to_z-of_z}
use Rattle.matching.proofs.MayLaws.{never}
use Rattle.groups.proofs.stretchkeys.row_follows.Goals as goal

pub returns-then-not-has_words : goal.returns-then-not-has_words
returns-then-not-has_words c = λ t. never false t refl

pub returns : goal.returns
returns c = λ t.
    let h = c in
    let s = h in
    let k = rw (to_z-of_z s.ranges.k) at (c.key_follows.ensures t) in
    (rw (to_z-of_z s.ranges.v, to_z-of_z s.ranges.m) at (h.has_words.ensures (not-false h.has_words.result c.if-not-has_words.false-raw)), k.0, k.1)
