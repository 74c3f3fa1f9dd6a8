-- Lists of tests in parts. Assumes nothing.
use mathlib.Core.Path.{◌≡◌, refl, ap}
use mathlib.Core.Bool.{cond}
use mathlib.Core.List.{List, [], ◌∷◌, ◌++◌}
use Rattle.frames.specs.refusals.Tests.{Test, first_of}

-- Tests that stand in two lists, one after the other: the first list answers, or else the second.
pub first_append : {A : Type 0} (ts us : List (Test A)) (a : A) → first_of (ts ++ us) a ≡ first_of ts (first_of us a)
first_append [] us a = refl
first_append (t ∷ ts) us a = ap (cond t.says t.answer) (first_append ts us a)
