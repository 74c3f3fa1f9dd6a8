-- The frames in which a driver hands each pair over: parts of the tables' values and marks. The statement; its proof stands in proofs/. Assumes nothing.
use Rattle.std.specs.Prelude.{◌≡◌, List, [], ◌∷◌, map, ℕ, ◌-◌, ◌*◌, ◌^◌, ◌≤◌, ◌<◌, length, drop, Ok}
use Rattle.frames.specs.Cells.{Rows, Words, rows_of}
use Rattle.frames.specs.Frame.{row_count, frame_words, values_in, marks_in}
use Rattle.order.specs.options.Options.{columns, right_columns, answer_columns}
use Rattle.order.specs.declared.options.Options.{Options}
use Rattle.frames.specs.outcomes.Answers.{most_rows}
use Rattle.lists.specs.WholeTables.{due_over, Each}
use Rattle.planning.specs.Heights.{full_heights}
use Rattle.schedules.specs.plan.Table.{frames_by}
use Rattle.cutting.specs.boundaries.Boundaries.{cut_at}
use Rattle.cutting.specs.cutpairs.Cut.{cut_by}
use Rattle.schedules.specs.cuts.Scheduled.{Load, Fits, all_scheduled}
use Rattle.cutting.specs.cutcall.Calls.{groups_in}
use Rattle.cutting.specs.cutpairs.Driver.{tables_in, join_answer}

-- A stretch of a table: n rows, from the front of these values and marks.
pub record Stretch : Type 0 where
  pub rows : ℕ
  pub values : Words
  pub marks : Words

-- The rows of a stretch; a whole table; its first a rows, and the others.
abbrev pub rows_within : ℕ → Stretch → Rows
rows_within c s = rows_of c s.rows s.values s.marks

abbrev pub whole_of : ℕ → Words → Stretch
whole_of c f = record { rows = row_count f; values = values_in c f; marks = marks_in c f }

abbrev pub first_of : ℕ → Stretch → Stretch
first_of a s = record { rows = a; values = s.values; marks = s.marks }

abbrev pub others_of : ℕ → ℕ → Stretch → Stretch
others_of c a s = record { rows = s.rows - a; values = drop (a * c) s.values; marks = drop (a * c) s.marks }

-- Its frames: 4,096 rows each, but for the last.
abbrev pub frames_of : ℕ → Stretch → List Words
frames_of c s = frames_by c (full_heights s.rows) s.values s.marks

-- What a pair is lent when its turn comes: the two areas, and an output for each of its left frames.
pub record Lent : Type 0 where
  pub left : Words
  pub right : Words
  pub outs : List Words

-- A pair's load.
abbrev pub load_of : Options → Stretch → Stretch → Lent → Load
load_of o x y e = record { left = e.left; right = e.right; lefts = frames_of (columns o) x; rights = frames_of (right_columns o) y; outs = e.outs }

-- The loads of all pairs, cut by the boundaries in order.
unfoldable pub loads : Options → Rows → Stretch → Stretch → List Lent → List Load
loads o gs x y [] = []
loads o [] x y (e ∷ es) = load_of o x y e ∷ []
loads o (g ∷ gs) x y (e ∷ es) =
    let a = cut_at o g (rows_within (columns o) x) in
    let b = cut_at o g (rows_within (right_columns o) y) in
    load_of o (first_of a x) (first_of b y) e ∷ loads o gs (others_of (columns o) a x) (others_of (right_columns o) b y) es

-- The areas keep their lengths, whatever words the pair before left in them, and each output is enough: 2 + 2n(1 + p) words, with the distance 2 + 2n(2 + p).
unfoldable pub LentWell : Options → ℕ → ℕ → Rows → Stretch → List Lent → Type 0
LentWell o l r gs x [] = ⊥
LentWell o l r [] x (e ∷ es) = (length e.left ≡ l) × (length e.right ≡ r) × Each (λ f out. frame_words (row_count f) (answer_columns o) ≤ length out) (frames_of (columns o) x) e.outs
LentWell o l r (g ∷ gs) x (e ∷ es) =
    let a = cut_at o g (rows_within (columns o) x) in
    (length e.left ≡ l) × (length e.right ≡ r) × Each (λ f out. frame_words (row_count f) (answer_columns o) ≤ length out) (frames_of (columns o) (first_of a x)) e.outs
    × LentWell o l r gs (others_of (columns o) a x) es

-- Where the call is not refused, every pair's frames fit: so `UncutScheduled` tells what is written.
abbrev pub DriverFits : Type 0
DriverFits =
    (o : Options) (left right boundaries : Words) (l r n rows : ℕ) → join_answer o left right boundaries l r n ≡ Ok rows → row_count left < 2 ^ 63 → row_count right ≤ most_rows → (es : List Lent)
    → LentWell o l r (groups_in o boundaries) (whole_of (columns o) left) es
    → Each (Fits o) (cut_by o (groups_in o boundaries) (tables_in o left right)) (loads o (groups_in o boundaries) (whole_of (columns o) left) (whole_of (right_columns o) right) es)

-- SCOPE 19.34: so the pairs, each by its schedule in these frames over these areas, write the answer of the uncut tables.
abbrev pub DriverWrites : Type 0
DriverWrites =
    (o : Options) (left right boundaries : Words) (l r n rows : ℕ) → join_answer o left right boundaries l r n ≡ Ok rows → row_count left < 2 ^ 63 → row_count right ≤ most_rows → (es : List Lent)
    → LentWell o l r (groups_in o boundaries) (whole_of (columns o) left) es
    → all_scheduled o 0 (cut_by o (groups_in o boundaries) (tables_in o left right)) (loads o (groups_in o boundaries) (whole_of (columns o) left) (whole_of (right_columns o) right) es)
    ≡ map (due_over o (tables_in o left right).right) (tables_in o left right).left
