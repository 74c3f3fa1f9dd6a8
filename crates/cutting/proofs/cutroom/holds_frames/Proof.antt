-- `cutroom::holds_frames` meets its contract. Assumes nothing.
use native.Mathlib.Omega.{arith}
use borrow.Author.Rules.{rules}
use Rattle.cutting.proofs.cutroom.FrameLaws.{frames_short, frames_hold}
use Rattle.cutting.proofs.cutroom.holds_frames.Statement.{statement}
use Rattle.cutting.proofs.cutroom.holds_frames.Tie as tie

head-words-requires : tie.Need-head_words-heads-requires
head-words-requires c κs = search rules

returns : tie.Need-returns-then-l-heads
returns c = frames_short _ _ _ (rw c.head_words-heads.ensures at c.if-l-heads.true)

mul-result : tie.Need-overflow_mul-result
mul-result c = omega (arith, c.requires)

mul-result-2 : tie.Need-overflow_mul-result-2
mul-result-2 c = omega (arith, c.requires)

returns-2 : tie.Need-returns
returns-2 c = rw c.head_words-heads.ensures (frames_hold _ _ _ (rw c.head_words-heads.ensures at c.if-l-heads.false))

pub holds_frames_spec : {M : Type 1} → statement M
holds_frames_spec = tie.close (tie.spec head-words-requires returns mul-result mul-result-2 returns-2)
