-- The loop of `salewrite::copy_words`: the first i words are written. Assumes nothing.
use mathlib.Core.Path.{◌≡◌}
use lib.Seq.{paste}
use Rattle.sales.proofs.salewrite.copy_words.Given as goal

abbrev pub invariant-loop-i : goal.invariant-loop-i
invariant-loop-i l = l.body ≡ paste l.initial.body l.at l.words l.i
