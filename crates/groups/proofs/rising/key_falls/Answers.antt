use mathlib.Core.Path.{sym, ◌∙◌}
use lib.IntN.{pos}
use lib.ListN.{get_or}
use Rattle.frames.proofs.Signed.{lt_flag}
use Rattle.matching.proofs.ScanLaws.{falls_end, falls_less, falls_not}
use Rattle.order.specs.Requires.{cell_at}
use Rattle.groups.proofs.rising.FallLaws.{null_first}
use Rattle.groups.proofs.rising.key_falls.Goals as goal

pub returns-then-null_at : goal.returns-then-null_at
returns-then-null_at c =
    let a = c.args in
    sym (null_first (cell_at a.p a.rows.values.now a.rows.marks.now) (cell_at a.q a.rows.values.now a.rows.marks.now) (sym (c.null_at.ensures a.rows.values.now) ∙ c.if-null_at.true))

pub returns-then-null_at-2 : goal.returns-then-null_at-2
returns-then-null_at-2 c =
    let a = c.args in
    let vs = a.rows.values.now in
    let ms = a.rows.marks.now in
    sym (falls_end (get_or vs a.p (pos 0)) (get_or ms a.p (pos 0)) (get_or vs a.q (pos 0)) (get_or ms a.q (pos 0)) (sym (c.null_at.ensures vs) ∙ c.if-null_at.false) (sym (c.null_at-2.ensures vs) ∙ c.if-null_at-2.true))

pub returns-then-rows-q : goal.returns-then-rows-q
returns-then-rows-q c =
    let s = c in
    let a = s.args in
    let vs = a.rows.values.now in
    let ms = a.rows.marks.now in
    let t = lt_flag {a = get_or vs a.q (pos 0)} {b = get_or vs a.p (pos 0)} (record { sfits = c.t10-1.given }) (record { sfits = c.t13-1.given }) c.if-rows-q.true in
    sym (falls_less (get_or vs a.p (pos 0)) (get_or ms a.p (pos 0)) (get_or vs a.q (pos 0)) (get_or ms a.q (pos 0)) (sym (c.null_at.ensures vs) ∙ c.if-null_at.false) (sym (c.null_at-2.ensures vs) ∙ c.if-null_at-2.false) t)

pub returns : goal.returns
returns c =
    let s = c in
    let a = s.args in
    let vs = a.rows.values.now in
    let ms = a.rows.marks.now in
    let t = lt_flag {a = get_or vs a.q (pos 0)} {b = get_or vs a.p (pos 0)} (record { sfits = c.t10-1.given }) (record { sfits = c.t13-1.given }) c.if-rows-q.false in
    sym (falls_not (get_or vs a.p (pos 0)) (get_or ms a.p (pos 0)) (get_or vs a.q (pos 0)) (get_or ms a.q (pos 0)) (sym (c.null_at.ensures vs) ∙ c.if-null_at.false) (sym (c.null_at-2.ensures vs) ∙ c.if-null_at-2.false) t)
