-- `cutroom::head_words` meets its contract. Assumes nothing.
use native.Mathlib.Omega.{arith}
use Rattle.cutting.proofs.cutroom.FrameLaws.{heads_more, heads_none}
use Rattle.cutting.proofs.cutroom.head_words.Statement.{statement}
use Rattle.cutting.proofs.cutroom.head_words.Tie as tie

mul-if1 : tie.Need-overflow_mul-full
mul-if1 c = omega (arith, c.ranges.n)

mul-result : tie.Need-overflow_mul-result
mul-result c = omega (arith, c.ranges.n)

add-result : tie.Need-overflow_add-result
add-result c = omega (arith, c.ranges.n)

returns : tie.Need-returns-then-full-n
returns c = heads_more _ c.if-full-n.true

mul-result-2 : tie.Need-overflow_mul-result-2
mul-result-2 c = omega (arith, c.ranges.n)

returns-2 : tie.Need-returns
returns-2 c = heads_none _ c.if-full-n.false

pub head_words_spec : {M : Type 1} → statement M
head_words_spec = tie.close (tie.spec mul-if1 mul-result add-result returns mul-result-2 returns-2)
