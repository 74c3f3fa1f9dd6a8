-- Marks that are passed over some at a time. Assumes nothing.
use Rattle.std.specs.Prelude.{◌≡◌, ℕ, ◌≤◌, length, drop}
use Rattle.frames.specs.Cells.{Words}
use Rattle.frames.specs.Frame.{pairs_fine}

-- Between two places each mark fits its value: all from the first place on fit if and only if all from the second place on do.
abbrev pub FineBetween : ℕ → ℕ → Words → Words → Type 0
FineBetween i k vs ms = k ≤ length vs → pairs_fine (drop i vs) (drop i ms) ≡ pairs_fine (drop k vs) (drop k ms)
