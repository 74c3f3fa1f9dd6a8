use mathlib.Core.Path.{sym}
use mir.Facts.{to_z-of_z}
use Rattle.matchrun.proofs.advance.BelowLaws.{below_strict, below_at}
use Rattle.matchrun.proofs.advance.is_below.Goals as goal

pub returns-then-inclusive : goal.returns-then-inclusive
returns-then-inclusive c = let s = c in rw (to_z-of_z s.ranges.a, to_z-of_z s.ranges.v, c.if-inclusive.true) (sym (below_at s.args.v s.args.a))

pub returns : goal.returns
returns c = let s = c in rw (to_z-of_z s.ranges.a, to_z-of_z s.ranges.v, c.if-inclusive.false) (sym (below_strict s.args.v s.args.a))
