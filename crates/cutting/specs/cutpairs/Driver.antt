-- Two sorted tables joined pair by pair, for any words: what is refused, in checking order, and what is written. Assumes nothing.
use Rattle.frames.specs.declared.refusals.Refusal.{Refusal}
use Rattle.std.specs.Prelude.{◌≡◌, Bool, false, cond, not, ◌&&◌, ◌||◌, List, [], ◌∷◌, ℕ, ◌+◌, ◌*◌, ◌/◌, ltb, length, Result, Ok, Err}
use Rattle.frames.specs.Cells.{Rows, Words}
use Rattle.frames.specs.Frame.{frame_words, is_frame, is_table}
use Rattle.order.specs.options.Options.{columns, right_columns, answer_columns}
use Rattle.order.specs.declared.options.Options.{Options}
use Rattle.order.specs.Order.{sorted}
use Rattle.order.specs.Listed.{lacks_code}
use Rattle.tables.specs.Options.{unless}
use Rattle.tables.specs.Table.{table_rows, After, leave}
use Rattle.matching.specs.Answer.{answer_rows}
use Rattle.frames.specs.declared.refusals.Refusal.TheVariants.{BadFrame, UnknownCode, NoRoom, Unsorted, BadBoundaries}
use Rattle.planning.specs.Plan.{plan}
use Rattle.planning.specs.Heights.{full_heights, full_frames}
use Rattle.cutting.specs.boundaries.Boundaries.{bad_boundaries}
use Rattle.cutting.specs.cutcall.Calls.{groups_in, then_judged}
use Rattle.cutting.specs.cutpairs.Cut.{Pair, cut_by, joined}

-- SCOPE 19.35: the words of left frames of these heights, which all wait at once.
unfoldable pub words_for : ℕ → List ℕ → ℕ
words_for c [] = 0
words_for c (h ∷ hs) = frame_words h c + words_for c hs

-- SCOPE 19.35: areas of l and r words are too short for a pair: the left one for its frames, the right one for the first figure of its plan.
unfoldable pub too_short : Options → ℕ → ℕ → Pair → Bool
too_short o l r p =
    ltb l (words_for (columns o) (full_heights (length p.left))) || ltb (r / (2 * right_columns o)) (plan o (full_frames p.left) (full_frames p.right)).rows

-- For any of these pairs.
unfoldable pub any_short : Options → ℕ → ℕ → List Pair → Bool
any_short o l r [] = false
any_short o l r (p ∷ ps) = too_short o l r p || any_short o l r ps

-- SCOPE 19.34: the two tables.
abbrev pub tables_in : Options → Words → Words → Pair
tables_in o left right = record { left = table_rows (columns o) left; right = table_rows (right_columns o) right }

-- SCOPE 19.36: the refusals in their order. Before rows are compared: 1, 10, 11 by the options; 5 where one of the two is no table of its columns, or the boundaries no frame; 12 where one of the
-- three has a value that the list of ranks lacks.
unfoldable pub input_judged : Options → Words → Words → Words → Result Unit Refusal
input_judged o left right boundaries =
    unless Err o
    (cond (not (is_table (columns o) left && is_table (right_columns o) right && is_frame o.by boundaries)) (Err BadFrame)
    (cond (lacks_code o (table_rows (columns o) left) || lacks_code o (table_rows (right_columns o) right) || lacks_code o (groups_in o boundaries)) (Err UnknownCode)
    (Ok tt)))

-- Then 14 where one of the tables is not sorted; 18 by the boundaries; 6 where an area, of l or r words, is too short for any of the pairs, or an output of n words for the answer. Else the number
-- of left rows.
unfoldable pub pairs_judged : Options → Pair → Rows → ℕ → ℕ → ℕ → Result ℕ Refusal
pairs_judged o p gs l r n =
    cond (not (sorted o p.left && sorted o p.right)) (Err Unsorted)
    (cond (bad_boundaries o gs) (Err BadBoundaries)
    (cond (any_short o l r (cut_by o gs p) || ltb n (frame_words (length p.left) (answer_columns o))) (Err NoRoom)
    (Ok (length p.left))))

-- Of both.
unfoldable pub join_answer : Options → Words → Words → Words → ℕ → ℕ → ℕ → Result ℕ Refusal
join_answer o left right boundaries l r n = then_judged (input_judged o left right boundaries) (pairs_judged o (tables_in o left right) (groups_in o boundaries) l r n)

-- SCOPE 19.34: the rows that are written: those of the uncut tables. That the pairs, each by its schedule, write these is `DriverWrites` in schedules::cuts.
abbrev pub joined_rows : Options → Pair → Rows
joined_rows o p = answer_rows o 0 p.right p.left (joined o p)

-- With the words of the output: the answer as one table at its front; or every word as it was.
unfoldable pub join_call : Options → Words → Words → Words → ℕ → ℕ → Words → After
join_call o left right boundaries l r out = leave (answer_columns o) (joined_rows o (tables_in o left right)) (join_answer o left right boundaries l r (length out)) out

-- The contract of the call: its answer, and the words of the output afterwards. Of the areas only the lengths count, l and r words.
pub record JoinContract (o : Options) (left right boundaries : Words) (l r : ℕ) (out : Words) (z : Result ℕ Refusal) (out' : Words) : Type 0 where
  pub answer : z ≡ join_answer o left right boundaries l r (length out)
  pub words : out' ≡ (join_call o left right boundaries l r out).out

-- The same behind the first part, by rows.
pub record PairsContract (o : Options) (p : Pair) (groups : Rows) (l r : ℕ) (out : Words) (z : Result ℕ Refusal) (out' : Words) : Type 0 where
  pub answer : z ≡ pairs_judged o p groups l r (length out)
  pub words : out' ≡ (leave (answer_columns o) (joined_rows o p) (pairs_judged o p groups l r (length out)) out).out
