use Rattle.order.specs.options.Options.{with_list}
use Rattle.groups.proofs.stretch.StretchLaws.{same_group_lem}
use Rattle.groups.proofs.neighbours.same_values.Goals as goal

pub returns : goal.returns
returns c = λ e codes rising w h.
    let s = c in
    let a = s.args in
    same_group_lem (with_list a.o codes rising) w a.p a.q a.rows.values.now a.rows.marks.now h s.requires.0.values s.requires.1.values (c.same_words.ensures e)
