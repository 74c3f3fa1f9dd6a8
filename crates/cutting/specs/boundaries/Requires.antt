-- What the functions of boundaries require of their arguments. Assumes nothing.
use Rattle.std.specs.Prelude.{◌≡◌, ℕ, ◌+◌, ◌*◌, ◌≤◌, length}
use Rattle.frames.specs.Cells.{Words}
use Rattle.order.specs.options.Options.{Few}
use Rattle.order.specs.declared.options.Options.{Options}
use Rattle.order.specs.Requires.{TableIn}
use Rattle.rows.specs.compare.Requires.{GroupAt}

-- n boundaries, of as many cells as there are by-columns, are all of these words.
pub record GroupsIn (o : Options) (n : ℕ) (gv gm : Words) : Type 0 where
  pub few : Few o
  pub values : length gv ≡ n * o.by
  pub marks : length gm ≡ n * o.by

-- n sorted rows, each w wide, and a boundary's cells at place p.
pub record CutIn (o : Options) (w n : ℕ) (vs ms : Words) (p : ℕ) (gv gm : Words) : Type 0 where
  pub table : TableIn o w n vs ms
  pub boundary : GroupAt o p gv gm

-- n sorted rows, k boundaries, and room for a table of k cells.
pub record PlacesIn (o : Options) (w n : ℕ) (vs ms : Words) (k : ℕ) (gv gm out : Words) : Type 0 where
  pub table : TableIn o w n vs ms
  pub boundaries : GroupsIn o k gv gm
  pub room : 2 + 2 * k ≤ length out
