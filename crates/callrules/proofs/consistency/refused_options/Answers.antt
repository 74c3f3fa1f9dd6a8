-- `consistency::refused_options` meets its contract. Assumes nothing.
use Rattle.order.specs.options.Options.{refused_options}
use Rattle.order.proofs.options.TermLaws.{bad_terms}
use Rattle.callrules.proofs.consistency.refused_options.Goals as goal

pub returns-then-bad_options : goal.returns-then-bad_options
unfolding refused_options
returns-then-bad_options c = let a = c.args in simp (← bad_terms a.rules.terms a.rules.codes.now a.rules.rising.now, ← c.bad_options.ensures, c.if-bad_options.true)

pub returns-then-many_carried : goal.returns-then-many_carried
unfolding refused_options
returns-then-many_carried c =
    let b = c in
    let a = b.args in
    simp (← bad_terms a.rules.terms a.rules.codes.now a.rules.rising.now, ← b.bad_options.ensures, c.if-bad_options.false, ← c.many_carried.ensures, c.if-many_carried.true)

pub returns : goal.returns
unfolding refused_options
returns c =
    let m = c in
    let a = m.args in
    simp (← bad_terms a.rules.terms a.rules.codes.now a.rules.rising.now, ← m.bad_options.ensures, m.if-bad_options.false, ← m.many_carried.ensures, c.if-many_carried.false) c.bad_ranks.ensures
