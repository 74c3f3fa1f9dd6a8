-- `stretch::same_value` meets its contract. Assumes nothing.
use mathlib.Core.Path.{◌≡◌, sym, ap, ◌∙◌}
use mathlib.Core.Bool.{true, false}
use lib.IntN.{pos}
use lib.ListN.{get_or}
use mir.Syntax.{w64}
use mir.Val.{to_z}
use Rattle.frames.proofs.Signed.{back}
use Rattle.groups.proofs.stretch.StretchLaws.{same_cell}
use Rattle.groups.proofs.stretch.same_value.Goals as goal

pub returns-then-rows-a : goal.returns-then-rows-a
returns-then-rows-a c = λ (e : false ≡ true). cc

pub returns-then-rows-a-2 : goal.returns-then-rows-a-2
returns-then-rows-a-2 c = λ (e : false ≡ true). cc

pub returns : goal.returns
returns c = λ e.
    let v = c in
    let s = v in
    let a = s.args in
    same_cell
    (sym (back (get_or a.rows.values.now a.a (pos 0)) v.t6-1.given) ∙ ap (to_z w64) v.if-rows-a.false ∙ back (get_or a.rows.values.now a.b (pos 0)) v.t9-1.given)
    (sym (back (get_or a.rows.marks.now a.a (pos 0)) c.t6-2-1.given) ∙ ap (to_z w64) c.if-rows-a-2.false ∙ back (get_or a.rows.marks.now a.b (pos 0)) c.t9-2-1.given)
