-- With one by-column: a walk over rows that have the by-cell c, the key mark k and keys that do not fall, and one row more. Assumes nothing.
use mathlib.Core.Path.{◌≡◌, sym, ◌∙◌}
use mathlib.Core.Bool.{false}
use Prim.Native.Nat.{ℕ, ◌+◌, ◌-◌, ◌*◌, ◌≤◌, ◌<◌}
use native.Mathlib.Omega.{arith}
use lib.IntN.{ℤ, pos}
use lib.ListN.{get_or}
use Rattle.frames.specs.Cells.{Cell, Words}
use Rattle.order.specs.Requires.{cell_at}
use Rattle.order.proofs.RowLaws.{row_room}
use Rattle.groups.specs.stretch.Stretch.{SameTo}
use Rattle.groups.proofs.stretch.StretchLaws.{same_first, same_more, first_same}
use Rattle.groups.specs.rising.Rising.{key_falls, Rises}
use Rattle.groups.proofs.rising.RiseLaws.{rises_first, rises_more}

module _ (w n : ℕ) (vs ms : Words) (i : ℕ) (c : Cell) (k : ℤ) where
  -- The walk stands at place p, with `left` rows left behind the row there.
  abbrev pub Goes : ℕ → ℕ → Type 0
  Goes left p =
      (i + left < n) × (p + w ≡ (n - left) * w) × SameTo 1 w n vs ms i (n - left) × Rises 1 w vs ms i (n - left)
      × (cell_at p vs ms ≡ c) × (get_or ms (p + 1) (pos 0) ≡ k)

  pub goes_first : i < n → cell_at (i * w) vs ms ≡ c → get_or ms (i * w + 1) (pos 0) ≡ k → Goes (n - i - 1) (i * w)
  goes_first h e f =
      let z : n - (n - i - 1) ≡ i + 1 = omega arith in
      (omega arith, rw z (omega arith), rw z (same_first 1 w n vs ms i h), rw z (rises_first 1 w vs ms i), e, f)

  pub goes_on_lem : (left p : ℕ) → Goes left p → 0 < left → cell_at (p + w) vs ms ≡ c → (key_falls (p + 1) (p + w + 1) vs ms ≡ false) × (get_or ms (p + w + 1) (pos 0) ≡ k) → Goes (left - 1) (p + w)
  goes_on_lem left p g h e f =
      let l = g.0 in
      let r = g.1 in
      let z : n - (left - 1) ≡ n - left + 1 = omega arith in (
        omega arith,
        rw z (omega arith),
        rw z (same_more 1 w n vs ms i (n - left) p g.2 (omega arith) r (first_same p (p + w) vs ms (g.4 ∙ sym e))),
        rw z (rises_more 1 w vs ms i (n - left) p g.3 r f.0),
        e,
        f.1,
      )

  -- The next row, and the one behind it, end within the rows.
  pub goes_room : (left p : ℕ) → Goes left p → 1 < left → p + w + w + w ≤ n * w
  goes_room left p g h =
      let l = g.0 in
      let r = g.1 in
      let m = row_room (n - left + 1) n w (omega arith) in
      omega arith
