-- The walk of a sorted left run over a sorted right run: when the right cursor moves on, what lies behind it and ahead of it. Assumes nothing.
use Rattle.std.specs.Prelude.{◌≡◌, Bool, true, false, not, ◌&&◌, ◌||◌, List, [], ◌∷◌, ℕ, suc, ◌+◌, ◌*◌, ◌≤◌, ◌<◌, ℤ, length}
use Rattle.frames.specs.Cells.{Cell, value, is_null, Rows, Words}
use Rattle.order.specs.options.Options.{strategy_of, key_rule}
use Rattle.order.specs.Order.{cmp_cell, is_greater, key_of, null_key}
use Rattle.order.specs.Requires.{cell_at, RowsIn}
use Rattle.order.specs.declared.options.Options.{Options}
use Rattle.std.specs.declared.cmp.Ordering.TheVariants.{Greater}
use Rattle.order.specs.declared.options.Strategy.{Strategy}
use Rattle.order.specs.declared.options.Strategy.TheVariants.{Backward, Forward, Nearest}
use Rattle.matching.specs.Match.{on_side, nearer}
use Rattle.matching.specs.Stretches.{between}
use Rattle.matching.specs.Loops.{RunRoom}

-- A run is sorted: no key is greater than the next.
unfoldable pub keys_sorted : Options → Rows → Bool
keys_sorted o [] = true
keys_sorted o (r ∷ []) = true
keys_sorted o (r ∷ s ∷ rs) = not (is_greater (cmp_cell key_rule (key_of o r) (key_of o s))) && keys_sorted o (s ∷ rs)

-- Row r is the first of from..to that has a key, or none has one and r is `to`.
pub record FirstKey (o : Options) (w from to : ℕ) (ms : Words) (r : ℕ) : Type 0 where
  pub start : from ≤ r
  pub within : r ≤ to
  pub before : (vs : Words) (k : ℕ) → from ≤ k → k < r → is_null (cell_at (k * w + o.by) vs ms) ≡ true
  pub keyed : (vs : Words) → r < to → is_null (cell_at (r * w + o.by) vs ms) ≡ false

-- Whether the right cursor moves on from a row with the key a to the next one, with the key b, for the left key v. Backward: b is null or on v's side. Forward: a does not fit v. Nearest: a is null, or b takes its place.
abbrev pub moves_on : Strategy → Bool → Cell → Cell → Cell → Bool
moves_on Backward eq v a b = is_null b || on_side Backward eq (cmp_cell key_rule b v)
moves_on Forward eq v a b = not (not (is_null a) && on_side Forward eq (cmp_cell key_rule a v))
moves_on Nearest eq v a b = is_null a || (not (is_null b) && nearer v b a)

-- The key of row i, of rows that are each w wide.
abbrev pub key_at : Options → ℕ → Words → Words → ℕ → Cell
key_at o w vs ms i = cell_at (i * w + o.by) vs ms

-- One key is not greater than another.
abbrev pub NotAbove : Cell → Cell → Type 0
NotAbove a b = cmp_cell key_rule a b ≡ Greater → ⊥

-- The keys of rows at..end do not fall.
abbrev pub Rising : (ℕ → Cell) → ℕ → ℕ → Type 0
Rising key at end = (i k : ℕ) → at ≤ i → i ≤ k → k < end → NotAbove (key i) (key k)

-- The key a fits the left key v.
abbrev pub fits_key : Strategy → Bool → Cell → Cell → Bool
fits_key s eq v a = not (is_null a) && on_side s eq (cmp_cell key_rule a v)

-- What is so of a row with the key a that the cursor has passed, and of the row with the key b that it stands at. Backward: b is null or on v's side. Forward: a does not fit v. Nearest: a is null, or b takes its place.
abbrev pub passed : Strategy → Bool → Cell → Cell → Cell → Bool
passed Backward eq v a b = is_null b || on_side Backward eq (cmp_cell key_rule b v)
passed Forward eq v a b = not (fits_key Forward eq v a)
passed Nearest eq v a b = is_null a || nearer v b a

-- So it is with every row that the cursor, at row c, has passed.
abbrev pub Behind : Strategy → Bool → (ℕ → Cell) → ℕ → Cell → ℕ → Type 0
Behind s eq key at v c = (k : ℕ) → at ≤ k → k < c → passed s eq v (key k) (key c) ≡ true

-- The cursor at row c does not move on for v.
abbrev pub Stopped : Strategy → Bool → (ℕ → Cell) → ℕ → Cell → ℕ → Type 0
Stopped s eq key end v c = c + 1 < end → moves_on s eq v (key c) (key (c + 1)) ≡ false

-- The right cursor stands at row c of rows at..end, of which there is one, for the left key v.
pub record CursorAt (o : Options) (s : Strategy) (w at end : ℕ) (vs ms : Words) (v : ℤ) (c : ℕ) : Type 0 where
  pub rows : RowsIn o w end vs ms
  pub rising : Rising (key_at o w vs ms) at end
  pub told : s ≡ strategy_of o
  pub upward : at ≤ c
  pub there : c < end
  pub behind : Behind s o.allow_eq (key_at o w vs ms) at (value v) c

-- Both runs are sorted.
pub record WalkRoom (o : Options) (wl m : ℕ) (lv lm : Words) (from to : ℕ) (wr : ℕ) (rv rm : Words) (at end number : ℕ) (out : Words) : Type 0 where
  pub room : RunRoom o wl m lv lm from to wr rv rm at end number out
  pub left : keys_sorted o (between wl from to lv lm) ≡ true
  pub right : keys_sorted o (between wr at end rv rm) ≡ true

-- A move takes one of the two cursors one row forward.
pub data Move : Type 0 where
  left_on : Move
  right_on : Move

-- Whether the right cursor passes a row with the key a for the left key v; `next` are the rows after it. Backward passes a row
-- that fits, so that it rests one row after its match: at the first row that is not on v's side, or at the end. Forward passes
-- a row that does not fit and rests at its match, or at the end. Nearest passes a row for the next one where that takes its
-- place, and rests at its match.
abbrev pub passes_row : Options → Strategy → Cell → Cell → Rows → Bool
passes_row o Backward v a next = fits_key Backward o.allow_eq v a
passes_row o Forward v a next = not (fits_key Forward o.allow_eq v a)
passes_row o Nearest v a [] = false
passes_row o Nearest v a (b ∷ next) = nearer v (key_of o b) a

-- Whether the right cursor, before the rows rs, moves on for the left row x. A row without a key does not move it.
abbrev pub goes_on : Options → List Cell → Rows → Bool
goes_on o x [] = false
goes_on o x (r ∷ rs) = not (null_key o x) && passes_row o (strategy_of o) (key_of o x) (key_of o r) rs

-- The moves over left rows ls and right rows rs, one after the other, from where the cursors are: the right cursor as long as it
-- moves on for the left row, then the left cursor to its next row, for which the right one goes on from where it rests.
unfoldable pub walk_on : Options → Rows → Rows → List Move
walk_on o [] rs = []
walk_on o (x ∷ ls) [] = left_on ∷ walk_on o ls []
walk_on o (x ∷ ls) (r ∷ rs) = elim (goes_on o x (r ∷ rs)) [ true ↦ right_on ∷ walk_on o (x ∷ ls) rs | false ↦ left_on ∷ walk_on o ls (r ∷ rs) ]

-- The moves of a whole walk: the right cursor first passes the rows at the front that have no key.
unfoldable pub walk : Options → Rows → Rows → List Move
walk o ls [] = walk_on o ls []
walk o ls (r ∷ rs) = elim (null_key o r) [ true ↦ right_on ∷ walk o ls rs | false ↦ walk_on o ls (r ∷ rs) ]

-- How many moves a walk makes.
abbrev pub walk_moves : Options → Rows → Rows → ℕ
walk_moves o ls rs = length (walk o ls rs)

-- How many of these moves are the right cursor's.
unfoldable pub right_moves : List Move → ℕ
right_moves [] = 0
right_moves (left_on ∷ ms) = right_moves ms
right_moves (right_on ∷ ms) = suc (right_moves ms)

-- The row at which the right cursor rests after the last left row.
abbrev pub rests_at : Options → Rows → Rows → ℕ
rests_at o ls rs = right_moves (walk o ls rs)

-- SCOPE 10.6: the left cursor passes each of its rows once, the right cursor never leaves its rows, and so a walk makes at most as
-- many moves as both runs have rows, whatever the rows are.
pub record WalkCounts (o : Options) (ls rs : Rows) : Type 0 where
  pub moves : walk_moves o ls rs ≡ length ls + rests_at o ls rs
  pub within : rests_at o ls rs ≤ length rs
  pub most : walk_moves o ls rs ≤ length ls + length rs
