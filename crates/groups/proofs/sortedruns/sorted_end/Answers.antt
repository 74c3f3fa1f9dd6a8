use mathlib.Core.Path.{◌∙◌}
use Rattle.order.specs.options.Options.{with_list}
use Rattle.order.proofs.TermLaws.{rows_terms}
use Rattle.groups.proofs.sortedruns.RunsLaws.{end_later}
use Rattle.groups.proofs.sortedruns.sorted_end.Goals as goal

pub skip_alike-last-requires : goal.skip_alike-last-requires
skip_alike-last-requires c =
    let s = c in
    let a = s.args in
    (rows_terms a.rules.terms a.rules.codes.now a.rules.rising.now a.rows.width a.rows.count a.rows.values.now a.rows.marks.now s.requires.0.rows, s.requires.1)

pub run_end-requires : goal.run_end-requires
run_end-requires c = record { rows = c.requires.0.rows; within = c.skip_alike-last.ensures.1 }

pub returns : goal.returns
returns c =
    let s = c in
    let a = s.args in
    let k = c.skip_alike-last in
    c.run_end.ensures ∙ end_later (with_list a.rules.terms a.rules.codes.now a.rules.rising.now) a.rows.width a.rows.count a.rows.values.now a.rows.marks.now s.requires.0.in_order a.i k.result k.ensures.0 (λ l. ((k.ensures.2 l).0, (k.ensures.2 l).1 a.rules.codes.now a.rules.rising.now))
