use mathlib.Core.Path.{◌∙◌}
use Rattle.buffer.proofs.pruning.step_back.Goals as goal

pub returns-in-Backward : goal.returns-in-Backward
returns-in-Backward c = c.one_back.ensures ∙ rw c.in-Backward.is

pub returns-in-Nearest : goal.returns-in-Nearest
returns-in-Nearest c = c.one_back-in-Nearest.ensures ∙ rw c.in-Nearest.is
