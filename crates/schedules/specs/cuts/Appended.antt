-- The answers of pairs appended as one table. Assumes nothing.
use Rattle.std.specs.Prelude.{List, [], ◌∷◌, ◌++◌, map, ℕ, ◌+◌, length, Option, Some, None}
use Rattle.order.specs.declared.options.Options.{Options}
use Rattle.cutting.specs.cutpairs.Cut.{Pair, joined}

-- A right number of a later pair: the count of right rows before that pair is added.
abbrev pub later : ℕ → Option ℕ → Option ℕ
later n (Some i) = Some (n + i)
later n None = None

-- The answers of pairs appended as one table, where n right rows stand before the first.
unfoldable pub appended : Options → ℕ → List Pair → List (Option ℕ)
appended o n [] = []
appended o n (p ∷ ps) = map (later n) (joined o p) ++ appended o (n + length p.right) ps
