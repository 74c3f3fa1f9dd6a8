-- What the functions of area require of their arguments, and what an append and a push leave: small records; and a stretch as a range. Assumes nothing.
use Rattle.std.specs.Prelude.{◌≡◌, true, ℕ, ◌+◌, ◌≤◌, length}
use Rattle.frames.specs.Cells.{Words}
use Rattle.frames.specs.Frame.{row_count, is_frame}
use Rattle.buffer.specs.area.Area.{capacity, moved, written, new_base, pushed}

-- b by-columns, 0 to 4, the key, and p carried columns, 0 to 8.
pub record Columns (c : ℕ) : Type 0 where
  pub some : 1 ≤ c
  pub few : c ≤ 13

-- The held rows start within the capacity.
pub record BaseIn (c base : ℕ) (area : Words) : Type 0 where
  pub columns : Columns c
  pub within : base ≤ capacity c area

-- n words are there from `start` on.
pub record WordsIn (start n : ℕ) (area : Words) : Type 0 where
  pub within : start + n ≤ length area

-- The live words are there, and n more have room beside them.
pub record AppendIn (start live n : ℕ) (area : Words) : Type 0 where
  pub within : start + live ≤ length area
  pub room : live + n ≤ length area

-- Where the live words start after an append, and the area's words.
pub record Appended (start live : ℕ) (ws area : Words) (base : ℕ) (after : Words) : Type 0 where
  pub base_is : base ≡ new_base start live (length ws) (length area)
  pub area_is : after ≡ written ws (base + live) (moved start base live area)

-- The same of the values and the marks of an area, which stand alike in its two halves.
pub record BothIn (half start live : ℕ) (vs ms area : Words) : Type 0 where
  pub halves : half + half ≤ length area
  pub paired : length ms ≡ length vs
  pub within : start + live ≤ half
  pub room : live + length vs ≤ half

-- Where the live words start in both halves after such an append, and the area's words.
pub record AppendedBoth (half start live : ℕ) (vs ms area : Words) (base : ℕ) (after : Words) : Type 0 where
  pub base_is : base ≡ new_base start live (length vs) half
  pub area_is : after ≡ written ms (half + (base + live)) (written vs (base + live) (moved (half + start) (half + base) live (moved start base live area)))

-- The held rows are there, and the frame's rows have room beside them.
pub record PushIn (c base held : ℕ) (f area : Words) : Type 0 where
  pub columns : Columns c
  pub frame : is_frame c f ≡ true
  pub within : base + held ≤ capacity c area
  pub room : held + row_count f ≤ capacity c area

-- Where the held rows start after a push, and the area's words.
pub record Pushed (c base held : ℕ) (f area : Words) (to : ℕ) (after : Words) : Type 0 where
  pub base_is : to ≡ new_base base held (row_count f) (capacity c area)
  pub area_is : after ≡ pushed c base held f area
