-- The loop of `heights::fit_heights`: the words from index on are bad for what is left if all are for n. Assumes nothing.
use mathlib.Core.Path.{◌≡◌}
use lib.ListN.{drop}
use Rattle.planning.specs.Heights.{bad_heights}
use Rattle.planning.proofs.heights.fit_heights.Given as goal

abbrev pub invariant-loop-word : goal.invariant-loop-word
invariant-loop-word l = bad_heights l.n l.heights ≡ bad_heights l.left (drop l.word-index l.heights)
