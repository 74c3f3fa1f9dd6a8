use mathlib.Core.Path.{◌∙◌}
use Rattle.frames.specs.Cells.{rows_of}
use Rattle.order.proofs.TermLaws.{rows_terms}
use Rattle.matchframe.proofs.turnrows.TermLaws.{remembered_terms, remembered_left_terms}
use Rattle.node.proofs.turnparts.PartLaws.{kept_last, answer_in, left_as}
use Rattle.node.proofs.turnparts.write_turn.Goals as goal

pub answer_turn-requires : goal.answer_turn-requires
answer_turn-requires c = let s = c in (answer_in s.requires, s.requires.in_order)

pub remembered_left-l-requires : goal.remembered_left-l-requires
remembered_left-l-requires c =
    let s = c in
    let a = s.args in
    rows_terms a.rules.terms a.rules.codes.now a.rules.rising.now a.left.width a.left.count a.left.values.now a.left.marks.now s.requires.left

pub remembered-r-requires : goal.remembered-r-requires
remembered-r-requires c =
    let s = c in
    let a = s.args in
    rows_terms a.rules.terms a.rules.codes.now a.rules.rising.now a.kept.width a.last a.kept.values.now a.kept.marks.now (kept_last s.requires)

pub returns : goal.returns
returns c =
    let s = c in
    let a = s.args in
    let l = c.remembered_left-l.ensures ∙ remembered_left_terms a.rules.terms a.rules.codes.now a.rules.rising.now a.j.last_left (rows_of a.left.width a.left.count a.left.values.now a.left.marks.now) in
    let r = c.remembered-r.ensures ∙ remembered_terms a.rules.terms a.rules.codes.now a.rules.rising.now a.j.last_right (rows_of a.kept.width a.last a.kept.values.now a.kept.marks.now) in
    record { part = left_as s.requires _ _ _ l r c.leave.ensures; words = c.answer_turn.ensures }
