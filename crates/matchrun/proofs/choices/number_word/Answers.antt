use mathlib.Core.Path.{subst}
use mir.Syntax.{w64}
use mir.ValLaws.{to_z_pos}
use Rattle.matching.specs.Loops.{Small}
use Rattle.matchrun.proofs.choices.number_word.Goals as goal

pub overflow_cast-result : goal.overflow_cast-result
overflow_cast-result c = record { sfits = subst Small c.in-Some.is c.requires }

pub returns-in-Some : goal.returns-in-Some
returns-in-Some c = rw c.in-Some.is (to_z_pos w64 _ (subst Small c.in-Some.is c.requires))

pub returns-in-None : goal.returns-in-None
returns-in-None c = rw c.in-None.is
