-- `split::above_first` meets its contract. Assumes nothing.
use mathlib.Core.Path.{◌≡◌, ◌∙◌}
use Rattle.order.specs.options.Options.{options_of}
use Rattle.frames.specs.Cells.{rows_in}
use Rattle.order.specs.Keyed.{first_keyed}
use Rattle.order.proofs.TermLaws.{keys_terms, first_terms}
use Rattle.buffer.proofs.splitcheck.BeforeLaws.{found_in_lem, first_among}
use Rattle.buffer.proofs.splitcheck.split.above_first.Goals as goal

pub first_keyed-first-requires : goal.first_keyed-first-requires
first_keyed-first-requires c =
    let a = c.args in
    let p = c.requires.1 in
    keys_terms a.rules.terms a.rules.codes.now a.rules.rising.now a.rows.width a.rows.count a.rows.marks.now (record { few = p.few; wide = p.wide; marks = p.marks })

pub above_found-requires : goal.above_found-requires
above_found-requires c =
    let a = c.args in
    let r = a.rows in
    let o = options_of a.rules in
    let f : c.first_keyed-first.result ≡ first_keyed o (rows_in r) = c.first_keyed-first.ensures r.values.now c.requires.1.values ∙ first_terms a.rules.terms a.rules.codes.now a.rules.rising.now 0 (rows_in r) in
    (c.requires.0, found_in_lem o r.width r.count c.first_keyed-first.result r.values.now r.marks.now c.requires.1 (first_among o r.width r.count c.first_keyed-first.result r.values.now r.marks.now f))

pub returns : goal.returns
returns c = λ wp h.
    let a = c.args in
    let r = a.rows in
    let o = options_of a.rules in
    let f : c.first_keyed-first.result ≡ first_keyed o (rows_in r) = c.first_keyed-first.ensures r.values.now c.requires.1.values ∙ first_terms a.rules.terms a.rules.codes.now a.rules.rising.now 0 (rows_in r) in
    rw (← f) (c.above_found.ensures wp r.count h (first_among o r.width r.count c.first_keyed-first.result r.values.now r.marks.now f))
