-- What is claimed of tables cut by boundary groups: of the tables, and of lists of calls that join each pair apart. The statements; their proofs stand in proofs/.
-- Assumes nothing.
use Rattle.std.specs.Prelude.{◌≡◌, true, false, cond, List, [], ◌∷◌, ◌++◌, map, ℕ, ◌+◌, pos, ◌+ℤ◌, length, drop, get_or}
use Rattle.frames.specs.Cells.{Rows, Words, is_zero}
use Rattle.order.specs.options.Options.{refused_options}
use Rattle.order.specs.Order.{sorted}
use Rattle.order.specs.declared.options.Options.{Options}
use Rattle.lists.specs.Lists.{Call, Entry}
use Rattle.lists.specs.WholeTables.{lefts, rights, matches, Each}
use Rattle.lists.specs.isolation.Isolation.{Finished}
use Rattle.cutting.specs.cutpairs.Cut.{Pair, cut_by, joined}
use Rattle.schedules.specs.cuts.Appended.{appended}

-- Both tables are sorted as declared.
abbrev pub BothSorted : Options → Pair → Type 0
BothSorted o p = (sorted o p.left ≡ true) × (sorted o p.right ≡ true)

-- Joined pair by pair, the tables give what they give uncut. This holds for all boundaries: empty halves, absent groups, groups with nulls, any order.
abbrev pub UncutTables : Type 0
UncutTables = (o : Options) (gs : Rows) (p : Pair) → BothSorted o p → appended o 0 (cut_by o gs p) ≡ joined o p

-- A pair's own join: areas of any length and any words, and a list of calls from a fresh join over them.
pub record Job : Type 0 where
  pub left : Words
  pub right : Words
  pub calls : List Call

-- It joins a pair: right ended, all frames turned, and the rows that it accepts, in whatever frames, are those of the pair.
pub record Joins (o : Options) (p : Pair) (j : Job) : Type 0 where
  pub finished : Finished o j.left j.right j.calls
  pub left : lefts o j.left j.right j.calls ≡ p.left
  pub right : rights o j.left j.right j.calls ≡ p.right

-- What it writes.
abbrev pub written : Options → Job → List Entry
written o j = matches o j.left j.right j.calls

-- A match of a later pair as it is written: the count of right rows before that pair is added to its number; a row of none stays as it is.
abbrev pub later_entry : ℕ → Entry → Entry
later_entry n e = cond (is_zero (get_or e.marks 0 (pos 0))) e (record { values = (pos n +ℤ get_or e.values 0 (pos 0)) ∷ drop 1 e.values; marks = e.marks })

-- The answers of jobs appended as one table, where n right rows stand before the first.
unfoldable pub all_written : Options → ℕ → List Pair → List Job → List Entry
all_written o n [] js = []
all_written o n (p ∷ ps) [] = []
all_written o n (p ∷ ps) (j ∷ js) = map (later_entry n) (written o j) ++ all_written o (n + length p.right) ps js

-- Each pair joined apart, the answers appended: what any list of calls writes that joins the uncut tables.
abbrev pub UncutCalls : Type 0
UncutCalls =
    (o : Options) → refused_options o ≡ false → (gs : Rows) (p : Pair) (whole : Job) → Joins o p whole → (js : List Job) → Each (Joins o) (cut_by o gs p) js
    → all_written o 0 (cut_by o gs p) js ≡ written o whole
