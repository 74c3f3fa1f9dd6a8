-- The matching as `compute_and_emit_task` of range_join.rs does it, ascending: two searches for each interval row, and the points between them. Assumes nothing.
use Rattle.std.specs.Prelude.{◌≡◌, true, cond, List, [], ◌∷◌, ◌++◌, map, ℕ, zero, suc, ◌-◌, ℤ, length}
use Rattle.frames.specs.Cells.{Cell, null, value, cell, Rows}
use Rattle.order.specs.options.Options.{key_rule}
use Rattle.searching.specs.Search.{find}
use Rattle.searching.specs.declared.Seek.{Seek}
use Rattle.searching.specs.declared.Seek.TheVariants.{AtLeast, Above}
use Rattle.spans.specs.Span.{pair_row, pairs, ascending_points}
use Rattle.spans.specs.declared.Bounds.{Bounds}

-- `op_to_sss`: the points of an interval start at the first that is at least an inclusive lower bound, or above an exclusive one; they end before the first that
-- is above an inclusive upper bound, or at least an exclusive one.
abbrev pub seek_lower : Bounds → Seek
seek_lower b = cond b.lower_in AtLeast Above

abbrev pub seek_upper : Bounds → Seek
seek_upper b = cond b.upper_in Above AtLeast

-- `search_sorted` over all points.
abbrev pub search_sorted : Seek → ℤ → Rows → ℕ
search_sorted k v points = find k key_rule 0 (value v) points 0 (length points)

-- n numbers from `start` on.
unfoldable pub up_from : ℕ → ℕ → List ℕ
up_from start zero = []
up_from start (suc n) = start ∷ up_from (suc start) n

-- The points from start on, below end; none where end is not above start.
abbrev pub stretch : ℕ → ℕ → List ℕ
stretch start end = up_from start (end - start)

-- A row with a null bound has none.
abbrev pub matches_of : Bounds → Rows → Cell → Cell → List ℕ
matches_of b points null u = []
matches_of b points (value l) null = []
matches_of b points (value l) (value u) = stretch (search_sorted (seek_lower b) l points) (search_sorted (seek_upper b) u points)

unfoldable pub ported_from : Bounds → Rows → ℕ → Rows → Rows
ported_from b points i [] = []
ported_from b points i (r ∷ rs) = map (pair_row i) (matches_of b points (cell 0 r) (cell 1 r)) ++ ported_from b points (suc i) rs

-- What is proved: over points in order the pairs so found are exactly the pairs of the definition.
abbrev pub PortedIsAll : Type 0
PortedIsAll = (b : Bounds) (points intervals : Rows) → ascending_points points ≡ true → ported_from b points 0 intervals ≡ pairs b points intervals
