-- Scan and walk of two frames of one key column: when a call is refused, what it answers, what it leaves in the output. Assumes nothing.
use Rattle.std.specs.Prelude.{◌≡◌, Bool, true, false, cond, not, ◌&&◌, ◌||◌, ◌∷◌, [], map, ℕ, ◌+◌, ◌*◌, ◌≤◌, ltb, eqb, pos, negsuc, length, replicate}
use Rattle.frames.specs.Cells.{Rows, Words}
use Rattle.frames.specs.Frame.{is_frame, row_count, frame_rows}
use Rattle.order.specs.ranks.Ranks.{ranks_for}
use Rattle.order.specs.declared.options.Check.TheVariants.{Off}
use Rattle.frames.specs.refusals.Refusals.{number}
use Rattle.frames.specs.declared.refusals.Refusal.TheVariants.{BadOptions, BadFrame, NoRoom, Unsorted}
use Rattle.order.specs.declared.options.Options.{Options}
use Rattle.matching.specs.Match.{match_in}
use Rattle.matching.specs.Stretches.{lay}
use Rattle.matching.specs.Moves.{keys_sorted, walk_moves}
use Rattle.scanwalk.specs.declared.Driven.{Driven}

-- No by-columns and no list of ranks, equal keys match, any distance will do.
abbrev pub key_options : ℕ → Options
key_options s = record {
  by = 0;
  strategy = s;
  allow_eq = true;
  tolerance = negsuc 0;
  check = Off;
  descending = false ∷ false ∷ false ∷ false ∷ [];
  nulls_last = false ∷ false ∷ false ∷ false ∷ [];
  carried = 0;
  ranks = ranks_for false 0 0 (replicate 64 (pos 0));
  with_distance = false;
}

-- The refusals of what is handed in: 1 for a strategy that there is not, 5 where the words are no frames of one column, 6 for too short an output; 0 for none.
abbrev pub judged : ℕ → Words → Words → ℕ → ℕ
judged s left right room =
    cond (ltb 2 s) (number BadOptions)
    (cond (not (is_frame 1 left)) (number BadFrame)
    (cond (not (is_frame 1 right)) (number BadFrame)
    (cond (ltb room (2 + 2 * row_count left)) (number NoRoom) 0)))

-- The refusal of a walk over runs of which one is not sorted: 14. A scan takes any runs.
abbrev pub unsorted : Bool → ℕ → Rows → Rows → ℕ
unsorted walked s ls rs = cond (not walked || (keys_sorted (key_options s) ls && keys_sorted (key_options s) rs)) 0 (number Unsorted)

-- The first refusal of a call, 0 for none.
abbrev pub refusal_of : Bool → ℕ → Words → Words → ℕ → ℕ
refusal_of walked s left right room = cond (eqb (judged s left right room) 0) (unsorted walked s (frame_rows 1 left) (frame_rows 1 right)) (judged s left right room)

-- How many moves the cursors of a call make: those of the walk. A scan has no cursors, and a refused call moves none.
abbrev pub moves_of : Bool → ℕ → Rows → Rows → ℕ
moves_of true s ls rs = walk_moves (key_options s) ls rs
moves_of false s ls rs = 0

-- What is answered and left, where the refusal is the one given: the choices of all left rows are laid into the output behind its first two words, which stay; where it is refused all words stay.
pub record Drives (walked : Bool) (s : ℕ) (ls rs : Rows) (refusal : ℕ) (out : Words) (r : Driven) (out' : Words) : Type 0 where
  pub answer : r.refusal ≡ refusal
  pub words : out' ≡ cond (eqb refusal 0) (lay (length ls) 0 (map (match_in (key_options s) 0 rs) ls) out) out
  pub moves : r.moves ≡ moves_of (walked && eqb refusal 0) s ls rs

-- The parts of two frames of n and m rows, and room for n choices.
pub record PartsIn (n : ℕ) (lv lm : Words) (m : ℕ) (rv rm out : Words) : Type 0 where
  pub left_values : n ≤ length lv
  pub left_marks : n ≤ length lm
  pub few : m ≤ 4096
  pub right_values : m ≤ length rv
  pub right_marks : m ≤ length rm
  pub room : 2 + 2 * n ≤ length out
