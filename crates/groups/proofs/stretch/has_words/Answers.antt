use mathlib.Core.Path.{◌≡◌, sym, ap, ◌∙◌}
use mathlib.Core.Bool.{true, false}
use lib.IntN.{pos}
use lib.ListN.{get_or}
use mir.Syntax.{w64}
use mir.Val.{to_z}
use mir.Facts.{to_z-of_z}
use Rattle.frames.proofs.Signed.{back}
use Rattle.groups.proofs.stretch.StretchLaws.{same_cell}
use Rattle.groups.proofs.stretch.has_words.Goals as goal

pub returns-then-rows-q : goal.returns-then-rows-q
returns-then-rows-q c = λ (e : false ≡ true). cc

pub returns-then-rows-q-2 : goal.returns-then-rows-q-2
returns-then-rows-q-2 c = λ (e : false ≡ true). cc

pub returns : goal.returns
returns c = λ e.
    let s = c in
    let a = s.args in
    same_cell
    (sym (back (get_or a.rows.values.now a.q (pos 0)) c.t7-1.given) ∙ ap (to_z w64) c.if-rows-q.false ∙ to_z-of_z s.ranges.v)
    (sym (back (get_or a.rows.marks.now a.q (pos 0)) c.t7-2-1.given) ∙ ap (to_z w64) c.if-rows-q-2.false ∙ to_z-of_z s.ranges.m)
