-- Which points an interval covers, and all pairs of interval row and point row. Assumes nothing.
use Rattle.std.specs.Prelude.{Bool, true, false, cond, not, ◌&&◌, List, [], ◌∷◌, ◌++◌, map, ℕ, suc, ℤ, pos}
use Rattle.std.specs.Int.Signed.{le_z, lt_z}
use Rattle.frames.specs.Cells.{Cell, null, value, cell, is_null, Rows}
use Rattle.order.specs.options.Options.{key_rule}
use Rattle.order.specs.Order.{cmp_cell, is_greater}
use Rattle.spans.specs.declared.Bounds.{Bounds}

-- The point v lies between the bounds l and u; a bound itself counts where it is inclusive.
abbrev pub within : Bounds → ℤ → ℤ → ℤ → Bool
within b l u v = cond b.lower_in (le_z l v) (lt_z l v) && cond b.upper_in (le_z v u) (lt_z v u)

-- An interval with a null bound covers nothing, and a null is no point.
abbrev pub covers : Bounds → Cell → Cell → Cell → Bool
covers b null u v = false
covers b (value l) null v = false
covers b (value l) (value u) null = false
covers b (value l) (value u) (value v) = within b l u v

-- An interval row is its lower bound and its upper bound; a point row is the point.
abbrev pub covers_row : Bounds → List Cell → List Cell → Bool
covers_row b r p = covers b (cell 0 r) (cell 1 r) (cell 0 p)

-- The numbers of the points that an interval row covers; the first point is numbered j.
unfoldable pub covered : Bounds → List Cell → ℕ → Rows → List ℕ
covered b r j [] = []
covered b r j (p ∷ ps) = cond (covers_row b r p) (j ∷ covered b r (suc j) ps) (covered b r (suc j) ps)

-- A pair, as a row of the output: the number of the interval row and that of the point row.
abbrev pub pair_row : ℕ → ℕ → List Cell
pair_row i j = value (pos i) ∷ value (pos j) ∷ []

-- The pairs of all intervals: those of the first with every point that it covers, in the points' order, then those of the next. An interval's number is its place
-- among all that were handed in, those with a null bound too; the first one here is numbered i.
unfoldable pub pairs_from : Bounds → Rows → ℕ → Rows → Rows
pairs_from b points i [] = []
pairs_from b points i (r ∷ rs) = map (pair_row i) (covered b r 0 points) ++ pairs_from b points (suc i) rs

-- All pairs, both sides numbered from 0.
abbrev pub pairs : Bounds → Rows → Rows → Rows
pairs b points intervals = pairs_from b points 0 intervals

-- Points may be searched: none is null, and none is greater than the next. Equal points are fine.
unfoldable pub ascending_points : Rows → Bool
ascending_points [] = true
ascending_points (p ∷ []) = not (is_null (cell 0 p))
ascending_points (p ∷ q ∷ ps) = not (is_null (cell 0 p)) && not (is_greater (cmp_cell key_rule (cell 0 p) (cell 0 q))) && ascending_points (q ∷ ps)
