-- The frames that heights cut from a table's words. Assumes nothing.
use Rattle.std.specs.Prelude.{List, [], ◌∷◌, ◌++◌, ℕ, ◌*◌, pos, take, drop}
use Rattle.frames.specs.Cells.{Words}

-- The frame of n rows and c columns that these values and marks tell.
abbrev pub frame_from : ℕ → ℕ → Words → Words → Words
frame_from c n vs ms = pos n ∷ pos c ∷ vs ++ ms

-- The frames of these heights, one behind the other, of a table's values and marks.
unfoldable pub frames_by : ℕ → List ℕ → Words → Words → List Words
frames_by c [] vs ms = []
frames_by c (h ∷ hs) vs ms = frame_from c h (take (h * c) vs) (take (h * c) ms) ∷ frames_by c hs (drop (h * c) vs) (drop (h * c) ms)
