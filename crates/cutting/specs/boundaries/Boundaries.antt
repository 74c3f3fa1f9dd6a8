-- Boundaries: groups at which tables are cut, and the places of the cuts. Assumes nothing.
use Rattle.std.specs.Prelude.{Bool, true, false, not, ◌&&◌, ◌||◌, List, [], ◌∷◌, ℕ, suc, ltb, eqb, pos, length}
use Rattle.frames.specs.Cells.{Cell, value, Rows}
use Rattle.order.specs.declared.options.Options.{Options}
use Rattle.order.specs.Order.{cmp_group, is_less}
use Rattle.rows.specs.nulls.Nulls.{any_null}

-- SCOPE 19.27: where a table is cut for the boundary g: the number of rows up to the first whose group is g's or comes after it; all rows if there is none.
unfoldable pub cut_at : Options → List Cell → Rows → ℕ
cut_at o g [] = 0
cut_at o g (r ∷ rs) = elim (is_less (cmp_group o r g)) [ true ↦ suc (cut_at o g rs) | false ↦ 0 ]

-- The places for a list of boundaries, as rows of one cell.
unfoldable pub places : Options → Rows → Rows → Rows
places o rows [] = []
places o rows (g ∷ gs) = (value (pos (cut_at o g rows)) ∷ []) ∷ places o rows gs

-- Boundaries strictly ascending in the declared order.
unfoldable pub ascending : Options → Rows → Bool
ascending o [] = true
ascending o (g ∷ []) = true
ascending o (g ∷ h ∷ gs) = is_less (cmp_group o g h) && ascending o (h ∷ gs)

-- SCOPE 19.28, refusal 18: the list has 17 boundaries or more; or any at all without by-columns; or a null in it; or a boundary that does not come after the one before.
unfoldable pub bad_boundaries : Options → Rows → Bool
bad_boundaries o gs = ltb 16 (length gs) || (eqb o.by 0 && ltb 0 (length gs)) || any_null o.by gs || not (ascending o gs)
