use native.Mathlib.Omega.{arith}
use lib.ListN.{length-set}
use Rattle.frames.proofs.Signed.{back}
use Rattle.matchrun.proofs.choices.put.Goals as goal

pub bounds-out-m : goal.bounds-out-m
bounds-out-m c = simp length-set (omega arith)

pub returns : goal.returns
returns c = rw (back c.number_word.result c.number_word.type_inv, back c.choice_mark.result c.choice_mark.type_inv, c.number_word.ensures, c.choice_mark.ensures)
