-- `judges::judge_open` meets its contract. Assumes nothing.
use Rattle.order.proofs.options.TermLaws.{bad_terms}
use Rattle.callrules.specs.Judged.{open_answer}
use Rattle.callrules.proofs.judges.judge_open.Goals as goal

pub returns-then-bad_options : goal.returns-then-bad_options
unfolding open_answer
returns-then-bad_options c = let a = c.args in simp (← bad_terms a.rules.terms a.rules.codes.now a.rules.rising.now, ← c.bad_options.ensures, c.if-bad_options.true)

pub returns-then-many_carried : goal.returns-then-many_carried
unfolding open_answer
returns-then-many_carried c =
    let a = c.args in
    simp (← bad_terms a.rules.terms a.rules.codes.now a.rules.rising.now, ← c.bad_options.ensures, c.if-bad_options.false, ← c.many_carried.ensures, c.if-many_carried.true)

pub returns-then-bad_ranks : goal.returns-then-bad_ranks
unfolding open_answer
returns-then-bad_ranks c =
    let m = c in
    let a = m.args in
    simp (
      ← bad_terms a.rules.terms a.rules.codes.now a.rules.rising.now,
      ← m.bad_options.ensures,
      m.if-bad_options.false,
      ← m.many_carried.ensures,
      c.if-many_carried.false,
      ← c.bad_ranks.ensures,
      c.if-bad_ranks.true,
    )

pub returns : goal.returns
unfolding open_answer
returns c =
    let m = c in
    let a = m.args in
    simp (
      ← bad_terms a.rules.terms a.rules.codes.now a.rules.rising.now,
      ← m.bad_options.ensures,
      m.if-bad_options.false,
      ← m.many_carried.ensures,
      c.if-many_carried.false,
      ← c.bad_ranks.ensures,
      c.if-bad_ranks.false,
    )
