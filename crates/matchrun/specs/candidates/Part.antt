-- A part of a right run outside of which no row of a sorted left run finds its match. Assumes nothing.
use Rattle.std.specs.Prelude.{◌≡◌, true, List, map, ℕ, ◌+◌, ◌≤◌, ℤ}
use Rattle.frames.specs.Cells.{Cell, value, Words}
use Rattle.order.specs.Order.{key_of}
use Rattle.order.specs.Requires.{RowsIn}
use Rattle.order.specs.declared.options.Options.{Options}
use Rattle.matching.specs.Match.{match_in}
use Rattle.matching.specs.Stretches.{between}
use Rattle.matching.specs.Moves.{keys_sorted, NotAbove}
use Rattle.matchrun.specs.declared.candidates.Part.{Part}

-- Outside of the part r of rows at..end no left row with a key from f to l finds its match.
pub record Cut (o : Options) (w at end : ℕ) (vs ms : Words) (f l : ℤ) (r : Part) : Type 0 where
  pub start : at ≤ r.from
  pub upward : r.from ≤ r.to
  pub within : r.to ≤ end
  pub same : (first : ℕ) (x : List Cell) (u : ℤ) → key_of o x ≡ value u → NotAbove (value f) (value u) → NotAbove (value u) (value l)
      → match_in o (first + at) (between w at end vs ms) x ≡ match_in o (first + r.from) (between w r.from r.to vs ms) x

-- Left rows from..to are there and are sorted by key.
pub record LeftRun (o : Options) (w from to : ℕ) (vs ms : Words) : Type 0 where
  pub rows : RowsIn o w to vs ms
  pub upward : from ≤ to
  pub sorted : keys_sorted o (between w from to vs ms) ≡ true

-- The matches of left rows from..to over right rows at..end are those over the part r of them.
pub record Candidates (o : Options) (wl from to : ℕ) (lv lm : Words) (wr at end : ℕ) (rv rm : Words) (r : Part) : Type 0 where
  pub start : at ≤ r.from
  pub upward : r.from ≤ r.to
  pub within : r.to ≤ end
  pub same : (first : ℕ) → map (match_in o (first + at) (between wr at end rv rm)) (between wl from to lv lm)
      ≡ map (match_in o (first + r.from) (between wr r.from r.to rv rm)) (between wl from to lv lm)
