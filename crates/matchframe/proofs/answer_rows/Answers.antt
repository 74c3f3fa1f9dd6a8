use mathlib.Core.Path.{sym, ◌∙◌}
use Rattle.frames.specs.Cells.{rows_of}
use Rattle.order.specs.options.Options.{with_list}
use Rattle.matchframe.proofs.carrying.TermLaws.{spread_in_terms, spread_terms}
use Rattle.matchframe.proofs.carrying.LaidLaws.{frame_room, spread_in, answer_spread, answer_plain}
use Rattle.matchframe.proofs.answer_rows.Goals as goal

pub match_rows-requires : goal.match_rows-requires
match_rows-requires c =
    let s = c in
    let a = s.args in
    frame_room (with_list a.rules.terms a.rules.codes.now a.rules.rising.now) a.left.width a.left.count a.left.values.now a.left.marks.now a.right.width a.right.count a.right.values.now a.right.marks.now a.number a.m a.out.now s.requires

pub returns-then-answer_columns-eq1 : goal.returns-then-answer_columns-eq1
returns-then-answer_columns-eq1 c =
    let s = c in
    let a = s.args in
    answer_plain (with_list a.rules.terms a.rules.codes.now a.rules.rising.now) a.left.width a.left.count a.left.values.now a.left.marks.now a.right.width a.right.count a.right.values.now a.right.marks.now a.number a.m a.out.now s.requires _ (sym c.answer_columns.ensures ∙ c.if-answer_columns-eq1.true) c.match_rows.ensures

pub spread_rows-requires : goal.spread_rows-requires
spread_rows-requires c =
    let f = c in
    let s = f in
    let a = s.args in
    spread_in_terms a.rules.terms a.rules.codes.now a.rules.rising.now a.left.count a.left.width a.left.values.now a.left.marks.now a.right.width a.right.count a.right.values.now a.right.marks.now a.number a.m _
    (spread_in (with_list a.rules.terms a.rules.codes.now a.rules.rising.now) a.left.width a.left.count a.left.values.now a.left.marks.now a.right.width a.right.count a.right.values.now a.right.marks.now a.number a.m a.out.now s.requires _ f.match_rows.auto.out f.match_rows.ensures)

pub returns : goal.returns
returns c =
    let f = c in
    let s = f in
    let a = s.args in
    answer_spread (with_list a.rules.terms a.rules.codes.now a.rules.rising.now) a.left.width a.left.count a.left.values.now a.left.marks.now a.right.width a.right.count a.right.values.now a.right.marks.now a.number a.m a.out.now s.requires _ _ f.match_rows.ensures (c.spread_rows.ensures ∙ spread_terms a.rules.terms a.rules.codes.now a.rules.rising.now a.number (rows_of a.right.width a.right.count a.right.values.now a.right.marks.now) (rows_of a.left.width a.left.count a.left.values.now a.left.marks.now) a.m _)
