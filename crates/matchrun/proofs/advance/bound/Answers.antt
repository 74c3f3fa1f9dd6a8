use mir.Facts.{to_z-of_z}
use Rattle.frames.proofs.Signed.{back}
use Rattle.matchrun.proofs.advance.BelowLaws.{next_fits, below_strict, below_next}
use Rattle.matchrun.proofs.advance.bound.Goals as goal

pub overflow_add-result : goal.overflow_add-result
overflow_add-result c = let s = c in rw (to_z-of_z s.ranges.v) (record { sfits = next_fits s.args.v s.ranges.v.sfits s.requires })

pub returns-then-inclusive : goal.returns-then-inclusive
returns-then-inclusive c = λ a.
    let s = c in
    rw (to_z-of_z s.ranges.v, back _ (next_fits s.args.v s.ranges.v.sfits s.requires), c.if-inclusive.true) (below_next s.args.v a)

pub returns : goal.returns
returns c = λ a. let s = c in rw (to_z-of_z s.ranges.v, c.if-inclusive.false) (below_strict s.args.v a)
