use native.Mathlib.Omega.{arith}
use Rattle.buffer.proofs.area.AreaLaws.{append_moved, append_kept}
use Rattle.buffer.proofs.area.held.append.Goals as goal

pub returns-then-area-start : goal.returns-then-area-start
returns-then-area-start c =
    let a = c.args in
    append_moved a.start a.live a.words.now a.area.now _ _ (omega (arith, c.if-area-start.true)) c.move_front.ensures c.write_words.ensures

pub returns : goal.returns
returns c =
    let a = c.args in
    append_kept a.start a.live a.words.now a.area.now _ c.if-area-start.false c.write_words-2.ensures
