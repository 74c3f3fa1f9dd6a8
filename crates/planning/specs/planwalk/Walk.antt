-- Where a walk over the frames of two tables stands, and what is left of the plan from there. Assumes nothing.
use Rattle.std.specs.Prelude.{◌≡◌, Bool, true, false, cond, ◌&&◌, List, ℕ, ◌+◌, ◌-◌, ◌*◌, ◌^◌, ◌≤◌, ◌<◌, max, length, take, drop}
use Rattle.frames.specs.Cells.{Rows, Words, rows_of}
use Rattle.order.specs.declared.options.Options.{Options}
use Rattle.order.specs.Order.{sorted}
use Rattle.order.specs.Requires.{RowsIn}
use Rattle.searching.specs.Reach.{need_more, prune_by}
use Rattle.planning.specs.Heights.{total, any_bad, heights_of, in_frames}
use Rattle.planning.specs.Plan.{plan_from, plan}
use Rattle.planning.specs.declared.Figures.{Figures}
use Rattle.planning.specs.declared.planwalk.Walk.{Walk}

-- The rows that heights cut, of a table's values and marks.
abbrev pub left_rows : ℕ → Words → Words → Words → Rows
left_rows c hl lv lm = rows_of c (total (heights_of hl)) lv lm

abbrev pub right_rows : ℕ → Words → Words → Words → Rows
right_rows w hr rv rm = rows_of w (total (heights_of hr)) rv rm

-- Two sorted tables, and heights of frames.
pub record WalkIn (o : Options) (c : ℕ) (hl lv lm : Words) (w : ℕ) (hr rv rm : Words) : Type 0 where
  pub left : RowsIn o c (total (heights_of hl)) lv lm
  pub right : RowsIn o w (total (heights_of hr)) rv rm
  pub left_sorted : sorted o (left_rows c hl lv lm) ≡ true
  pub right_sorted : sorted o (right_rows w hr rv rm) ≡ true
  pub left_heights : any_bad hl ≡ false
  pub right_heights : any_bad hr ≡ false

-- A turn wants right rows, and gets the next frame, of h rows; a turn writes its frame, of n rows, and drops d held rows.
abbrev pub taken_by : Walk → ℕ → Walk
taken_by s h = record { lefts = s.lefts; passed = s.passed; rights = s.rights + 1; from = s.from; to = s.to + h; most = max s.most (s.to + h - s.from) }

abbrev pub written_by : Walk → ℕ → ℕ → Walk
written_by s n d = record { lefts = s.lefts + 1; passed = s.passed + n; rights = s.rights; from = s.from + d; to = s.to; most = s.most }

-- What is counted so far, with the figures of what is left.
abbrev pub joined : Walk → Figures → Figures
joined s p = record { rows = max s.most p.rows; turns = s.lefts + s.rights + p.turns; rights = s.rights + p.rights }

-- What is counted once nothing is left.
abbrev pub figures_at : Walk → Figures
figures_at s = record { rows = s.most; turns = s.lefts + s.rights; rights = s.rights }

-- The plan of the whole, where the heights come as words.
abbrev pub walked : Options → Words → Words → Rows → Rows → Figures
walked o hl hr L R = plan o (in_frames (heights_of hl) L) (in_frames (heights_of hr) R)

-- One turn over the left frame x, of n rows, and the held rows: it takes a right frame, of h rows, where some is left and wanted, else it writes.
unfoldable pub turned_by : Options → Walk → ℕ → Bool → ℕ → Rows → Rows → Walk
turned_by o s n some h x held = cond (some && need_more o x held) (taken_by s h) (written_by s n (prune_by o (n - 1) x held))

-- What a turn reads of the words of two tables: its left frame, and the rows that are held.
abbrev pub frame_from : ℕ → Words → Words → Walk → ℕ → Rows
frame_from c lv lm s n = rows_of c n (drop (s.passed * c) lv) (drop (s.passed * c) lm)

abbrev pub held_from : ℕ → Words → Words → Walk → Rows
held_from w rv rm s = rows_of w (s.to - s.from) (drop (s.from * w) rv) (drop (s.from * w) rm)

-- What a turn asks: its left frame and the held rows are there, and no count wraps.
pub record TurnIn (o : Options) (c : ℕ) (lv lm : Words) (w : ℕ) (rv rm : Words) (s : Walk) (n : ℕ) (some : Bool) (h : ℕ) : Type 0 where
  pub left : RowsIn o c (s.passed + n) lv lm
  pub right : RowsIn o w s.to rv rm
  pub held : s.from ≤ s.to
  pub lefts : s.lefts + 1 < 2 ^ 64
  pub rights : s.rights + 1 < 2 ^ 64
  pub fits : some ≡ true → s.to + h < 2 ^ 64

-- Two sorted tables, of m and k rows.
pub record TablesIn (o : Options) (c m : ℕ) (lv lm : Words) (w k : ℕ) (rv rm : Words) : Type 0 where
  pub left : RowsIn o c m lv lm
  pub right : RowsIn o w k rv rm
  pub left_sorted : sorted o (rows_of c m lv lm) ≡ true
  pub right_sorted : sorted o (rows_of w k rv rm) ≡ true

-- Where the heights of the frames are these numbers, and the rows those of the two tables.
module _ (o : Options) (hl hr : List ℕ) (L R : Rows) (s : Walk) where
  -- The rows that are held, and the frames that are left.
  abbrev pub held_at : Rows
  held_at = take (s.to - s.from) (drop s.from R)

  abbrev pub left_at : List Rows
  left_at = in_frames (drop s.lefts hl) (drop s.passed L)

  abbrev pub right_at : List Rows
  right_at = in_frames (drop s.rights hr) (drop s.to R)

  abbrev pub turns_at : ℕ
  turns_at = (length hl - s.lefts) + (length hr - s.rights)

  -- The figures of what is left.
  abbrev pub ahead : Figures
  ahead = plan_from turns_at o held_at right_at left_at

  -- The cursors stand between frames, and what is counted, joined with the figures of what is left, is the plan of the whole.
  pub record Stands : Type 0 where
    pub lefts : s.lefts ≤ length hl
    pub rights : s.rights ≤ length hr
    pub left_rows : s.passed + total (drop s.lefts hl) ≡ length L
    pub right_rows : s.to + total (drop s.rights hr) ≡ length R
    pub held : s.from ≤ s.to
    pub most : s.to - s.from ≤ s.most
    pub whole : joined s ahead ≡ plan o (in_frames hl L) (in_frames hr R)
