use mathlib.Core.Path.{sym, ◌∙◌}
use lib.IntN.{pos}
use lib.ListN.{get_or}
use Rattle.frames.proofs.Signed.{lt_flag}
use Rattle.matching.proofs.ScanLaws.{falls_end, falls_less, falls_not}
use Rattle.matchrun.proofs.cursor.rises.Goals as goal

pub returns-then-null_at : goal.returns-then-null_at
returns-then-null_at c =
    let s = c in
    let vs = s.args.rows.values.now in
    let ms = s.args.rows.marks.now in
    let p = s.args.p in
    let q = s.args.q in
    rw (falls_end (get_or vs p (pos 0)) (get_or ms p (pos 0)) (get_or vs q (pos 0)) (get_or ms q (pos 0)) s.requires.2 (sym (c.null_at.ensures vs) ∙ c.if-null_at.true))

pub returns-then-rows-q : goal.returns-then-rows-q
returns-then-rows-q c =
    let e = c in
    let s = e in
    let vs = s.args.rows.values.now in
    let ms = s.args.rows.marks.now in
    let p = s.args.p in
    let q = s.args.q in
    let t = lt_flag {a = get_or vs q (pos 0)} {b = get_or vs p (pos 0)} (record { sfits = c.t8-1.given }) (record { sfits = c.t11-1.given }) c.if-rows-q.true in
    rw (falls_less (get_or vs p (pos 0)) (get_or ms p (pos 0)) (get_or vs q (pos 0)) (get_or ms q (pos 0)) s.requires.2 (sym (e.null_at.ensures vs) ∙ e.if-null_at.false) t)

pub returns : goal.returns
returns c =
    let e = c in
    let s = e in
    let vs = s.args.rows.values.now in
    let ms = s.args.rows.marks.now in
    let p = s.args.p in
    let q = s.args.q in
    let t = lt_flag {a = get_or vs q (pos 0)} {b = get_or vs p (pos 0)} (record { sfits = c.t8-1.given }) (record { sfits = c.t11-1.given }) c.if-rows-q.false in
    rw (falls_not (get_or vs p (pos 0)) (get_or ms p (pos 0)) (get_or vs q (pos 0)) (get_or ms q (pos 0)) s.requires.2 (sym (e.null_at.ensures vs) ∙ e.if-null_at.false) t)
