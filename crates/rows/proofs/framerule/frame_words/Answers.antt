-- `framerule::frame_words` meets its contract. Assumes nothing.
use Rattle.std.proofs.Common.{◌≤◌, sym, arith, rules}
use Rattle.frames.specs.Frame.{frame_words}
use Rattle.frames.proofs.FrontLaws.{fit_short, fit_none, fit_over, fit_bound, fit_within}
use Rattle.rows.proofs.framerule.frame_words.Goals as goal

pub returns-then-room-lt2 : goal.returns-then-room-lt2
returns-then-room-lt2 c = sym (fit_short _ _ _ c.if-room-lt2.true)

pub returns-then-n-eq0 : goal.returns-then-n-eq0
returns-then-n-eq0 c = sym (fit_none _ _ _ c.if-room-lt2.false c.if-n-eq0.true)

pub returns-then-room-n : goal.returns-then-room-n
returns-then-room-n c = sym (fit_over _ _ _ c.if-n-eq0.false (omega (arith, c.if-room-n.true)))

bound : (c : goal.Else-room-n) → let a = c.args in frame_words a.n a.c ≤ a.room
bound c = fit_bound _ _ _ c.if-room-lt2.false c.if-n-eq0.false c.if-room-n.false

pub overflow_mul-result : goal.overflow_mul-result
overflow_mul-result c = omega (arith, bound c, c.ranges.room)

pub overflow_mul-result-2 : goal.overflow_mul-result-2
overflow_mul-result-2 c = omega (arith, bound c, c.ranges.room)

pub overflow_add-result : goal.overflow_add-result
overflow_add-result c = omega (arith, bound c, c.ranges.room)

pub returns : goal.returns
returns c = sym (fit_within _ _ _ (bound c))
