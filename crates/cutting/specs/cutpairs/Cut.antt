-- Two tables cut by boundary groups, and the join of a pair. Assumes nothing.
use Rattle.std.specs.Prelude.{List, [], ◌∷◌, map, take, drop, Option, ℕ}
use Rattle.frames.specs.Cells.{Cell, Rows}
use Rattle.order.specs.declared.options.Options.{Options}
use Rattle.cutting.specs.boundaries.Boundaries.{cut_at}
use Rattle.matching.specs.Match.{whole_table}

-- A left table and a right table.
pub record Pair : Type 0 where
  pub left : Rows
  pub right : Rows

-- The pair before the cut by g, and the pair behind it.
abbrev pub before : Options → List Cell → Pair → Pair
before o g p = record { left = take (cut_at o g p.left) p.left; right = take (cut_at o g p.right) p.right }

abbrev pub behind : Options → List Cell → Pair → Pair
behind o g p = record { left = drop (cut_at o g p.left) p.left; right = drop (cut_at o g p.right) p.right }

-- By a list of boundaries, in order: each cuts what is behind the one before it. n boundaries give n + 1 pairs, of which any may be empty on either side.
unfoldable pub cut_by : Options → Rows → Pair → List Pair
cut_by o [] p = p ∷ []
cut_by o (g ∷ gs) p = before o g p ∷ cut_by o gs (behind o g p)

-- The join of a pair: the whole-table rule for each left row.
unfoldable pub joined : Options → Pair → List (Option ℕ)
joined o p = map (whole_table o p.right) p.left
