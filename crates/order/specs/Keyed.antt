-- Rows with a key, and the row that a side remembers. Assumes nothing.
use Rattle.std.specs.Prelude.{Bool, true, false, cond, List, [], ◌∷◌, ◌++◌, map, ℕ, zero, suc, ◌-◌, pos, length, take, get_or, replicate, Some, None, Option}
use Rattle.frames.specs.Cells.{Cell, cells_of, value_word, mark_word, Rows, Words}
use Rattle.order.specs.options.Options.{columns, is_strict}
use Rattle.order.specs.Order.{null_key, cmp_row, is_greater}
use Rattle.order.specs.declared.options.Options.{Options}
use Rattle.order.specs.declared.Row.{Row}

-- The first row with a key: its place, where the list's first row stands at place i.
unfoldable pub first_from : Options → ℕ → Rows → Option ℕ
first_from o i [] = None
first_from o i (r ∷ rs) = elim (null_key o r) [ true ↦ first_from o (suc i) rs | false ↦ Some i ]

-- The first of all rows that has a key (SCOPE 8.1).
abbrev pub first_keyed : Options → Rows → Option ℕ
first_keyed o rs = first_from o 0 rs

-- The last row with a key, of those below place n: looked for from the end.
unfoldable pub last_below : Options → Rows → ℕ → Option ℕ
last_below o rs zero = None
last_below o rs (suc n) = elim (null_key o (get_or rs n [])) [ true ↦ last_below o rs n | false ↦ Some n ]

-- The last of all rows that has a key.
abbrev pub last_keyed : Options → Rows → Option ℕ
last_keyed o rs = last_below o rs (length rs)

-- The first of all rows, key or not.
abbrev pub first_row : Rows → Option ℕ
first_row [] = None
first_row (r ∷ rs) = Some 0

-- The last of all rows, key or not.
abbrev pub last_row : Rows → Option ℕ
last_row [] = None
last_row (r ∷ rs) = Some (length rs)

-- SCOPE 8.2, 8.9: the row of a left frame that is compared with the remembered one.
abbrev pub first_left : Options → Rows → Option ℕ
first_left o rs = cond (is_strict o.check) (first_row rs) (first_keyed o rs)

-- SCOPE 8.6, 8.9: the row of a left frame that is remembered.
abbrev pub last_left_at : Options → Rows → Option ℕ
last_left_at o rs = cond (is_strict o.check) (last_row rs) (last_keyed o rs)

-- The row at such a place, or none.
abbrev pub row_at : Rows → Option ℕ → Option (List Cell)
row_at rs (Some i) = Some (get_or rs i [])
row_at rs None = None

-- The row that is remembered, w cells wide, or none.
unfoldable pub recall : ℕ → Row → Option (List Cell)
recall w m = cond m.some (Some (cells_of (take w m.values) (take w m.marks))) None

-- Five words: those given, and zeros behind them.
abbrev pub five : Words → Words
five ws = ws ++ replicate (5 - length ws) (pos 0)

-- No row is remembered.
abbrev pub no_row : Row
no_row = record { some = false; values = five []; marks = five [] }

-- A row, as it is remembered: a small row with a flag.
unfoldable pub remember : List Cell → Row
remember r = record { some = true; values = five (map value_word r); marks = five (map mark_word r) }

-- SCOPE 4.4: what is compared of a row, its by-values and its key: the first b + 1 cells.
abbrev pub compared : Options → List Cell → List Cell
compared o r = take (columns o) r

-- SCOPE 8.6: remember what is compared of the row at this place, or keep m if there is none.
abbrev pub remember_at : Options → Row → Rows → Option ℕ → Row
remember_at o m rs (Some i) = remember (compared o (get_or rs i []))
remember_at o m rs None = m

-- Of the rows of a stretch, the last with a key.
unfoldable pub remember_last : Options → Row → Rows → Row
remember_last o m rs = remember_at o m rs (last_keyed o rs)

-- A fault: the first row is greater than the second. If either is missing there is none (SCOPE 8.2, 11.4).
abbrev pub out_of_order : Options → Option (List Cell) → Option (List Cell) → Bool
out_of_order o None b = false
out_of_order o (Some a) None = false
out_of_order o (Some a) (Some b) = is_greater (cmp_row o a b)
