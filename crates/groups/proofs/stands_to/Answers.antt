use mathlib.Core.Path.{sym, ◌∙◌}
use native.Mathlib.Omega.{arith}
use Rattle.matching.specs.Stretches.{standing}
use Rattle.groups.proofs.stands_to.Goals as goal

pub returns-then-null_group : goal.returns-then-null_group
unfolding standing
returns-then-null_group c = λ wl wr h k.
    let a = c.args in
    let n = c.null_group.ensures wr a.right.values.now (omega arith) (omega arith) in
    rw (sym n ∙ c.if-null_group.true)

pub returns : goal.returns
unfolding standing
returns c = λ wl wr h k.
    let a = c.args in
    let n = c.null_group.ensures wr a.right.values.now (omega arith) (omega arith) in
    rw (sym n ∙ c.if-null_group.false) (c.cmp_group.ensures wr wl k h)
