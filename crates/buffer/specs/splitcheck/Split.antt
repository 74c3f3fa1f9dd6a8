-- The row before the split, in words; the check at the split for a split that is known. Assumes nothing.
use Rattle.std.specs.Prelude.{Bool, true, ℕ, ◌*◌, take, drop, Option, Some, None}
use Rattle.frames.specs.Cells.{Rows, Words}
use Rattle.order.specs.Keyed.{first_keyed, row_at, out_of_order}
use Rattle.order.specs.declared.options.Options.{Options}
use Rattle.order.specs.declared.Row.{Row}
use Rattle.searching.specs.Reach.{row_before}

-- SCOPE 11.4: the words of the row that is compared at the split, w of a held row or the c that are remembered; for values and again for marks.
abbrev pub words_before : ℕ → ℕ → Words → Words → Option ℕ → Words
words_before c w held remembered (Some i) = take w (drop (i * w) held)
words_before c w held remembered None = take c remembered

-- There is a row before the split: one with a key was found, or one is remembered.
abbrev pub has_before : Option ℕ → Bool → Bool
has_before (Some i) some = true
has_before None some = some

-- SCOPE 11.4: out of order at the split s.
unfoldable pub out_of_order_at : Options → Row → ℕ → Rows → Bool
out_of_order_at o m s held = out_of_order o (row_before o m (take s held)) (row_at (drop s held) (first_keyed o (drop s held)))
