-- What the functions over points and pairs ask of what they are handed, and what they answer: small records. Assumes nothing.
use Rattle.std.specs.Prelude.{◌≡◌, ℕ, ◌+◌, ◌-◌, ◌*◌, ◌^◌, ◌≤◌, ◌<◌, length}
use Rattle.frames.specs.Cells.{Cell, Rows, Words, rows_of}
use Rattle.searching.specs.declared.Stretch.{Stretch}
use Rattle.spans.specs.Port.{up_from, matches_of, ported_from}
use Rattle.spans.specs.declared.Bounds.{Bounds}

-- n points are there, at most 4,096.
pub record PointsIn (n : ℕ) (vs ms : Words) : Type 0 where
  pub few : n ≤ 4096
  pub values : n ≤ length vs
  pub marks : n ≤ length ms

-- The two bounds at place p are there.
pub record BoundsIn (p : ℕ) (vs ms : Words) : Type 0 where
  pub values : p + 1 < length vs
  pub marks : p + 1 < length ms

-- n intervals are there, at most 4,096.
pub record IntervalsIn (n : ℕ) (vs ms : Words) : Type 0 where
  pub few : n ≤ 4096
  pub values : n * 2 ≤ length vs
  pub marks : n * 2 ≤ length ms

-- The points of an interval: those from start on, below end.
pub record Matched (b : Bounds) (n : ℕ) (pv pm : Words) (x y : Cell) (r : Stretch) : Type 0 where
  pub upward : r.start ≤ r.end
  pub within : r.end ≤ n
  pub points : up_from r.start (r.end - r.start) ≡ matches_of b (rows_of 1 n pv pm) x y

-- The pairs of the intervals.
abbrev pub ported : Bounds → ℕ → Words → Words → ℕ → Words → Words → Rows
ported b n pv pm m iv im = ported_from b (rows_of 1 n pv pm) 0 (rows_of 2 m iv im)

-- Pairs of interval i and the points start..end go to the cells from k on, of `cells`.
pub record StretchRoom (cells k i start end : ℕ) (out : Words) : Type 0 where
  pub upward : start ≤ end
  pub number : i < 2 ^ 63
  pub numbers : end < 2 ^ 63
  pub there : k + 2 * (end - start) ≤ cells
  pub room : 2 + 2 * cells ≤ length out

-- All pairs have room, and `cells` is the number of their cells.
pub record PairsRoom (b : Bounds) (n : ℕ) (pv pm : Words) (m : ℕ) (iv im : Words) (cells : ℕ) (out : Words) : Type 0 where
  pub points : PointsIn n pv pm
  pub intervals : IntervalsIn m iv im
  pub counted : cells ≡ 2 * length (ported b n pv pm m iv im)
  pub room : 2 + 2 * cells ≤ length out
