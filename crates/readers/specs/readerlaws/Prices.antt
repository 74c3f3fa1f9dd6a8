-- What the readers show of the frames that a join writes, read with the join's p: neither shows a distance as a price. The statement; its proof is in proofs/. Assumes nothing.
use Rattle.std.specs.Prelude.{◌≡◌, true, false, List, [], ◌∷◌, map, ℕ, ◌-◌, ◌≤◌, ◌<◌, pos, length, get_or, replicate, Option, Some, None, Err}
use Rattle.frames.specs.Cells.{Cell, null, value, Rows, Words}
use Rattle.frames.specs.Frame.{frame_limit}
use Rattle.order.specs.options.Options.{shared_columns, answer_columns}
use Rattle.order.specs.declared.options.Options.{Options}
use Rattle.order.specs.Order.{key_of, distance}
use Rattle.tables.specs.Table.{table_of}
use Rattle.matching.specs.Answer.{carried_of, distance_cell, answer_rows}
use Rattle.matching.specs.Groups.{match_frame}
use Rattle.frames.specs.declared.refusals.Refusal.TheVariants.{BadColumns}
use Rattle.readers.specs.Reader.{shown, cell_in, read_plain, read_distance}

-- ---- the parts of an answer's row, over right rows numbered from i
module _ (o : Options) (i : ℕ) (rights : Rows) where
  -- The right number and what that row carries; nulls for none.
  abbrev pub shared_row : Option ℕ → List Cell
  shared_row (Some k) = value (pos k) ∷ carried_of o (get_or rights (k - i) [])
  shared_row None = replicate (shared_columns o) null

  -- The distance of the left row x from its match, as it is written; null for none.
  abbrev pub distance_of : List Cell → Option ℕ → Cell
  distance_of x (Some k) = distance_cell (distance (key_of o (get_or rights (k - i) [])) (key_of o x))
  distance_of x None = null

-- ---- a frame that a join with options o writes for left rows xs by their choices ms
module _ (o : Options) (i : ℕ) (rights xs : Rows) (ms : List (Option ℕ)) where
  -- Its words.
  abbrev pub answer_frame : Words
  answer_frame = table_of (answer_columns o) (answer_rows o i rights xs ms)

  -- The right numbers and the carried cells in it.
  abbrev pub shared_rows : Rows
  shared_rows = map (shared_row o i rights) ms

  -- The plain reader shows numbers and carried cells alone, or refuses by 13 where a distance stands behind them; the distance reader shows them in the same columns, the distance in the column behind them, and null there where the join added none.
  pub record NoDistanceAsPrice (row column : ℕ) : Type 0 where
    pub plain_shows : o.with_distance ≡ false → read_plain o.carried answer_frame row column ≡ shown (cell_in shared_rows row column)
    pub plain_refuses : o.with_distance ≡ true → read_plain o.carried answer_frame row column ≡ Err BadColumns
    pub shared_shown : column < shared_columns o → read_distance o.carried answer_frame row column ≡ shown (cell_in shared_rows row column)
    pub distance_shown : o.with_distance ≡ true → row < length ms
        → read_distance o.carried answer_frame row (shared_columns o) ≡ shown (distance_of o i rights (get_or xs row []) (get_or ms row None))
    pub none_shown : o.with_distance ≡ false → read_distance o.carried answer_frame row (shared_columns o) ≡ shown null

-- SCOPE 19.22: for all options that carry at most 8 columns, as those of every open join do, and frames of at most 4,096 rows, whatever the choices are.
abbrev pub NeverAsPrice : Type 0
NeverAsPrice =
    (o : Options) (i : ℕ) (rights xs : Rows) (ms : List (Option ℕ)) → o.carried ≤ 8 → length xs ≡ length ms → length ms ≤ frame_limit
    → (row column : ℕ) → NoDistanceAsPrice o i rights xs ms row column

-- So for what a turn writes: the answer to a frame's left rows, over held rows of which the first has the number i.
abbrev pub TurnsShown : Type 0
TurnsShown =
    (o : Options) (i : ℕ) (held left : Rows) → o.carried ≤ 8 → length left ≤ frame_limit → (row column : ℕ) → NoDistanceAsPrice o i held left (match_frame o i held left) row column
