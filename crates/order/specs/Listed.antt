-- Values that the list of ranks lacks. Assumes nothing.
use Rattle.std.specs.Prelude.{Bool, false, not, ◌&&◌, ◌||◌, [], ◌∷◌, ℕ}
use Rattle.frames.specs.Cells.{Cell, null, value, cell, Rows, Words}
use Rattle.order.specs.ranks.Ranks.{codes_of, listed}
use Rattle.order.specs.declared.options.Options.{Options}

-- The list lacks the value of a cell; a null is no value.
abbrev pub lacks : Words → Cell → Bool
lacks cs null = false
lacks cs (value v) = not (listed cs v)

-- A row has a value in column j that the list lacks.
unfoldable pub unlisted_in : Words → ℕ → Rows → Bool
unlisted_in cs j [] = false
unlisted_in cs j (r ∷ rs) = lacks cs (cell j r) || unlisted_in cs j rs

-- SCOPE 16, number 12: there is a list, and a row has a value in its column that it lacks.
abbrev pub lacks_code : Options → Rows → Bool
lacks_code o rs = o.ranks.given && unlisted_in (codes_of o.ranks) o.ranks.column rs
