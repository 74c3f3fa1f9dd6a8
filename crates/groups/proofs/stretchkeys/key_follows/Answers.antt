use mathlib.Core.Path.{refl, sym, ap, ◌∙◌}
use mathlib.Core.Bool.{false}
use lib.IntN.{pos}
use lib.ListN.{get_or}
use mir.Syntax.{w64}
use mir.Val.{to_z}
use mir.Facts.{to_z-of_z}
use Rattle.frames.proofs.Signed.{back, lt_flag}
use Rattle.matching.proofs.MayLaws.{never}
use Rattle.groups.proofs.rising.RiseLaws.{key_follow}
use Rattle.groups.proofs.stretchkeys.key_follows.Goals as goal

pub returns-then-rows-next : goal.returns-then-rows-next
returns-then-rows-next c = λ t. never false t refl

pub returns-then-rows-next-2 : goal.returns-then-rows-next-2
returns-then-rows-next-2 c = λ t. never false t refl

pub returns : goal.returns
returns c = λ e.
    let s = c in
    let a = s.args in
    let vs = a.rows.values.now in
    let ms = a.rows.marks.now in
    let t = lt_flag {a = get_or vs a.next (pos 0)} {b = get_or vs a.at (pos 0)} (record { sfits = c.t7-2-1.given }) (record { sfits = c.t12-1.given }) c.if-rows-next-2.false in
    let m = sym (back (get_or ms a.next (pos 0)) c.t7-1.given) ∙ ap (to_z w64) c.if-rows-next.false ∙ to_z-of_z s.ranges.m in
    (key_follow (get_or vs a.at (pos 0)) (get_or vs a.next (pos 0)) (get_or ms a.at (pos 0)) (get_or ms a.next (pos 0)) (m ∙ sym s.requires.2) t, m)
