-- The heights that cut a table into frames. Assumes nothing.
use Rattle.std.specs.Prelude.{◌≡◌, Bool, true, false, cond, not, ◌&&◌, ◌||◌, List, [], ◌∷◌, ◌++◌, ℕ, ◌+◌, ◌/◌, ◌%◌, ◌<◌, leb, eqb, ℤ, pos, nat_abs, length, take, drop, get_or, replicate}
use Rattle.frames.specs.Cells.{Rows, Words}
use Rattle.frames.specs.Front.{few_rows}

-- How many rows heights make.
unfoldable pub total : List ℕ → ℕ
total [] = 0
total (h ∷ hs) = h + total hs

-- A height below 0 or above 4,096.
unfoldable pub any_bad : Words → Bool
any_bad [] = false
any_bad (z ∷ zs) = not (few_rows z) || any_bad zs

-- Heights as numbers.
unfoldable pub heights_of : Words → List ℕ
heights_of [] = []
heights_of (z ∷ zs) = nat_abs z ∷ heights_of zs

-- SCOPE 19.23, 16 number 17: a height that no frame can have, or heights whose sum is not the table's row count.
unfoldable pub bad_heights : ℕ → Words → Bool
bad_heights n zs = any_bad zs || not (eqb (total (heights_of zs)) n)

-- A word that is the height of a frame of at most n rows.
abbrev pub height_within : ℕ → ℤ → Bool
height_within n z = few_rows z && leb (nat_abs z) n

-- Height i is there, and is that of a frame.
pub record HeightIn (i : ℕ) (zs : Words) : Type 0 where
  pub there : i < length zs
  pub few : few_rows (get_or zs i (pos 0)) ≡ true

-- SCOPE 19.23: the rows of each frame, of frames of these heights one behind the other.
unfoldable pub in_frames : List ℕ → Rows → List Rows
in_frames [] rs = []
in_frames (h ∷ hs) rs = take h rs ∷ in_frames hs (drop h rs)

-- Heights of 4,096, and at last what is left over.
unfoldable pub full_heights : ℕ → List ℕ
full_heights n = replicate (n / 4096) 4096 ++ cond (eqb (n % 4096) 0) [] (n % 4096 ∷ [])

-- SCOPE 19.35: a table in full frames: as many of 4,096 rows as there are, then one with what is left over.
abbrev pub full_frames : Rows → List Rows
full_frames rs = in_frames (full_heights (length rs)) rs
