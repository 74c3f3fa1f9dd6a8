use Rattle.callrules.specs.Judged.{end_judged}
use Rattle.callrules.proofs.judges.judge_end.Goals as goal

pub returns-then-bad : goal.returns-then-bad
unfolding end_judged
returns-then-bad c = simp c.if-bad.true

pub returns-then-failed : goal.returns-then-failed
unfolding end_judged
returns-then-failed c = simp (c.if-bad.false, c.if-failed.true)

pub returns-then-ended : goal.returns-then-ended
unfolding end_judged
returns-then-ended c = simp (c.if-bad.false, c.if-failed.false, c.if-ended.true)

pub returns-then-is_done : goal.returns-then-is_done
unfolding end_judged
returns-then-is_done c =
    let e = c in
    simp (e.if-bad.false, e.if-failed.false, e.if-ended.false, ← c.is_done.ensures, c.if-is_done.true)

pub returns : goal.returns
unfolding end_judged
returns c =
    let e = c in
    simp (e.if-bad.false, e.if-failed.false, e.if-ended.false, ← c.is_done.ensures, c.if-is_done.false)
