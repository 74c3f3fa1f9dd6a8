use mathlib.Core.Path.{◌≡◌, sym, ◌∙◌}
use mathlib.Core.Bool.{true, false}
use lib.IntN.{pos}
use lib.ListN.{get_or}
use Rattle.frames.proofs.Signed.{lt_flag}
use Rattle.groups.proofs.rising.RiseLaws.{key_rise}
use Rattle.groups.proofs.rising.key_rises.Goals as goal

pub returns-then-null_at : goal.returns-then-null_at
returns-then-null_at c = λ (e : false ≡ true). cc

pub returns-then-rows-next : goal.returns-then-rows-next
returns-then-rows-next c = λ (e : false ≡ true). cc

pub returns : goal.returns
returns c = λ e.
    let s = c in
    let a = s.args in
    let vs = a.rows.values.now in
    let ms = a.rows.marks.now in
    let t = lt_flag {a = get_or vs a.next (pos 0)} {b = get_or vs a.at (pos 0)} (record { sfits = c.t8-1.given }) (record { sfits = c.t11-1.given }) c.if-rows-next.false in
    key_rise (get_or vs a.at (pos 0)) (get_or ms a.at (pos 0)) (get_or vs a.next (pos 0)) (get_or ms a.next (pos 0)) (sym (c.null_at.ensures vs) ∙ c.if-null_at.false) t
