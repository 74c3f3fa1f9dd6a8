-- A stretch narrowed by one column, by the column's rule. Assumes nothing.
use Rattle.std.specs.Prelude.{ℕ}
use Rattle.frames.specs.Cells.{Cell, Rows}
use Rattle.order.specs.options.Options.{Rule}
use Rattle.searching.specs.Search.{find}
use Rattle.searching.specs.Reach.{Range}
use Rattle.searching.specs.declared.Seek.TheVariants.{AtLeast, Above}

-- SCOPE 7.3: from the first row whose cell in column j is at least x to the first whose cell is above it.
unfoldable pub narrow_to : Rule → ℕ → Cell → Rows → Range → Range
narrow_to k j x held r = let s = find AtLeast k j x held r.start r.end in record { start = s; end = find Above k j x held s r.end }
