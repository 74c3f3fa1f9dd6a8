-- What the places of a list in rising order say of the list. Assumes nothing.
use Rattle.std.specs.Prelude.{◌≡◌, Bool, not, ◌&&◌, ◌||◌, ℕ, ltb, eqb, length, take}
use Rattle.frames.specs.Cells.{Words}
use Rattle.order.specs.ranks.Ranks.{twice, bad_ranks, ranks_for}

-- SCOPE 16, number 11: a list that is handed in is refused if it is empty, too long, for a column that is no by-column, or has a code twice.
unfoldable pub bad_list : ℕ → Bool → ℕ → ℕ → Words → Bool
bad_list by given column count codes = given && (eqb count 0 || ltb 64 count || not (ltb column by) || twice (take count codes))

-- Of a list that is handed in, kept with its places: it is refused exactly for that.
abbrev pub Listing : Type 0
Listing = (by : ℕ) (given : Bool) (column count : ℕ) (codes : Words) → length codes ≡ 64 → bad_ranks by (ranks_for given column count codes) ≡ bad_list by given column count codes
