-- The front of words that wait, as an answer: its length, or nothing. Assumes nothing.
use Rattle.std.specs.Prelude.{◌≡◌, Bool, true, cond, ◌&&◌, ℕ, ◌≤◌, leb, ℤ, pos, length, get_or, Option, Some, None}
use Rattle.std.specs.Int.Signed.{le_z}
use Rattle.frames.specs.Cells.{Words}
use Rattle.frames.specs.Frame.{row_count, frame_words, frame_limit, is_frame, front}

-- SCOPE 16, number 5: the length of the first waiting frame, or nothing if the waiting words do not begin with a frame of c columns.
unfoldable pub front_of : ℕ → Words → Option ℕ
front_of c ws = cond (is_frame c (front c ws)) (Some (length (front c ws))) None

-- A word is a number of rows.
abbrev pub few_rows : ℤ → Bool
few_rows z = le_z (pos 0) z && le_z z (pos frame_limit)

-- The length that n and c give, where there is room for so many words.
unfoldable pub fitting : ℕ → ℕ → ℕ → Option ℕ
fitting n c room = cond (leb (frame_words n c) room) (Some (frame_words n c)) None

-- The length of the frame with which waiting words begin, by its n and c alone: whether its marks fit is not looked at.
unfoldable pub front_length : ℕ → Words → Option ℕ
front_length c ws = cond (leb 2 (length ws) && few_rows (get_or ws 0 (pos 0))) (fitting (row_count ws) c (length ws)) None

-- The first word is there and is not below 0: so it is for a table, for a frame, and for words with a frame at their front.
pub record HasCount (ws : Words) : Type 0 where
  pub long : 1 ≤ length ws
  pub counted : le_z (pos 0) (get_or ws 0 (pos 0)) ≡ true
